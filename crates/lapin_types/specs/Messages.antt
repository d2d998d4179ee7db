-- What messages say of themselves.
use Rattle.std.specs.Prelude.{ℕ, List, Bool, false, Option, None, option_map}
use Rattle.lapin_values.specs.Properties.{Properties}
use Rattle.lapin_types.specs.declared.acker.Acker.{Acker}
use Rattle.lapin_types.specs.declared.message.Delivery.{Delivery}
use Rattle.lapin_types.specs.declared.message.BasicReturnMessage.{BasicReturnMessage}
use Rattle.lapin_types.specs.declared.reply_code.AMQPError.{AMQPError}
use Rattle.lapin_types.specs.ReplyCodes.{error_kind}

-- no property is set
abbrev pub no_properties : Properties
no_properties = record { content_type = None; content_encoding = None; headers = None; delivery_mode = None; priority = None; correlation_id = None; reply_to = None; expiration = None; message_id = None; timestamp = None; kind = None; user_id = None; app_id = None; cluster_id = None }

-- an acker that no session gave
abbrev pub mock_acker : ℕ → Acker
mock_acker tag = record { channel_id = 0; delivery_tag = tag; number = 0; used = false }

-- a delivery for tests: no properties, and an acker of channel 0 with that tag, number 0 and unused
abbrev pub mocked : ℕ → List ℕ → List ℕ → Bool → List ℕ → Delivery
mocked tag exchange routing_key redelivered payload =
    record { delivery_tag = tag; exchange = exchange; routing_key = routing_key; redelivered = redelivered; properties = no_properties; payload = payload; acker = mock_acker tag }

-- why a message was returned: the kind of its reply code with its text, None for any other code
abbrev pub error_of : BasicReturnMessage → Option AMQPError
error_of message = option_map (λ kind. record { kind = kind; message = message.reply_text }) (error_kind message.reply_code)
