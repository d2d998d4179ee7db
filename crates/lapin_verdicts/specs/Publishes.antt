-- The whole publishes among the frames that a client sends on one channel since its opening, and their numbers (AMQP 0-9-1, section
-- 4.2.6, content framing; RabbitMQ publisher confirms).
use Rattle.std.specs.Prelude.{ℕ, ◌==◌, Bool, true, false, if◌then◌else◌, List, [], ◌∷◌, ◌++◌, length}
use Rattle.std.specs.List.{fold}
use Rattle.lapin_values.specs.Properties.{Properties, no_properties}
use Rattle.lapin_methods.specs.declared.frame.ContentHeader.{ContentHeader}
use Rattle.lapin_types.specs.Types.{Frame, Method}
use Rattle.lapin_types.specs.Types.frame
use Rattle.lapin_types.specs.Types.method
use Rattle.lapin_types.specs.Types.basic
use Rattle.lapin_rules.specs.Select.{is_select}

-- a message as a client publishes it: where to, with which options, and what
pub record Message : Type 0 where
  pub exchange : List ℕ
  pub routing_key : List ℕ
  pub mandatory : Bool
  pub immediate : Bool
  pub properties : Properties
  pub payload : List ℕ

-- how far the publish is whose frames come now
pub data Coming : Type 0 where
  -- none has begun, or the last one is whole
  Idle : Coming
  -- its method came: its properties and its bytes are still to come
  Begun : (message : Message) → Coming
  -- its header came too, with so many bytes announced: the message has those that came
  Headed : (size : ℕ) (message : Message) → Coming

-- what the frames so far come to: whether a `confirm.select` came, the publishes that came whole since then, in the order of their
-- numbers, which are 1, 2, .., and how far the next one is
pub record Tally : Type 0 where
  pub selected : Bool
  pub numbered : List Message
  pub coming : Coming

-- as an opening begins
abbrev pub no_tally : Tally
no_tally = record { selected = false; numbered = []; coming = Idle }

-- a publish is whole: it takes the next number, where a `confirm.select` came before
abbrev pub with_whole : Message → Tally → Tally
with_whole m y = record { selected = y.selected; numbered = if y.selected then y.numbered ++ m ∷ [] else y.numbered; coming = Idle }

-- a publish has these bytes of so many: it is whole with the last of them, so at its header where it has none
abbrev pub with_bytes : ℕ → Message → Tally → Tally
with_bytes size m y = if length m.payload == size then with_whole m y else record y { coming = Headed size m }

-- its header comes
abbrev pub with_header : ContentHeader → Coming → Tally → Tally
with_header h (Begun m) y = with_bytes h.body_size (record m { properties = h.properties }) y
with_header h _ y = y

-- one of its bodies comes
abbrev pub with_body : List ℕ → Coming → Tally → Tally
with_body bytes (Headed size m) y = with_bytes size (record m { payload = m.payload ++ bytes }) y
with_body bytes _ y = y

-- a method comes: `basic.publish` begins a publish, and `confirm.select` has the publishes numbered from here on
abbrev pub with_method : Method → Tally → Tally
with_method (method.Basic (basic.Publish exchange key mandatory immediate)) y =
    record y { coming = Begun (record { exchange = exchange; routing_key = key; mandatory = mandatory; immediate = immediate; properties = no_properties; payload = [] }) }
with_method m y = if is_select m then record y { selected = true } else y

-- one more frame of the client
abbrev pub tally_after : Tally → Frame → Tally
tally_after y (frame.Method c m) = with_method m y
tally_after y (frame.Header c h) = with_header h y.coming y
tally_after y (frame.Body c bytes) = with_body bytes y.coming y

-- what the frames of an opening come to
abbrev pub tally : List Frame → Tally
tally fs = fold tally_after no_tally fs
