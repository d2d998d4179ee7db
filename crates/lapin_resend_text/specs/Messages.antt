-- The text of a message, and how it is read.
use Rattle.std.specs.Prelude.{ℕ, List, [], ◌∷◌, Option, ◌==◌}
use Rattle.std.specs.List.{join_with_byte, slice_split}
use Rattle.lapin_tokens.specs.Fields.{Field, Values, tokens, AllFit}
use Rattle.lapin_tokens.specs.Fields.Field.{text, bytes}
use Rattle.lapin_tokens.specs.Reading.{fields_at}
use Rattle.lapin_text.specs.LineReading.{whole}
use Rattle.lapin_resend.specs.declared.message.Message.{Message}

-- the kinds of its fields: exchange, routing key, payload
abbrev pub message_fields : List Field
message_fields = text ∷ text ∷ bytes ∷ []

-- the values of its fields
abbrev pub message_values : Message → Values message_fields
message_values m = (m.exchange, (m.routing_key, (m.payload, tt)))

-- its tokens with one space between them
abbrev pub message_text : Message → List ℕ
message_text m = join_with_byte 32 (tokens message_fields (message_values m))

-- the messages that have a text: exchange and routing key are short
abbrev pub MessageFits : Message → Type 0
MessageFits m = AllFit message_fields (message_values m)

-- the message of these values
abbrev pub message_made : Values message_fields → Message
message_made v = record { exchange = v.0; routing_key = v.1.0; payload = v.1.1.0 }

-- the message whose text the bytes are
unfoldable pub message_at : List ℕ → Option Message
message_at piece = whole (fields_at message_fields message_made (slice_split (λ b. b == 32) piece))
