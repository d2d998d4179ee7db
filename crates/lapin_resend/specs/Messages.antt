-- A message that was submitted, how far it came, and the call that publishes it.
use Rattle.std.specs.Prelude.{ℕ, Bool, true, false, ◌&&◌, not, Option, Some, None, Ok}
use Rattle.std.specs.Option.{is_some}
use Rattle.lapin_values.specs.Properties.{no_properties}
use Rattle.lapin_types.specs.declared.call.Call.{Call}
use Rattle.lapin_types.specs.declared.call.Call.TheVariants as call
use Rattle.lapin_types.specs.declared.record.Record.{Record}
use Rattle.lapin_types.specs.declared.record.Record.TheVariants as record_
use Rattle.lapin_types.specs.declared.confirmation.Confirmation.TheVariants as confirmation
use Rattle.lapin_resend.specs.declared.message.Message.{Message}

-- A message, whether it is stored, and the number of its outstanding publish, if it has one. One that isn't stored is waiting.
pub record Standing : Type 0 where
  pub message : Message
  pub stored : Bool
  pub outstanding : Option ℕ

-- a message as it is submitted
abbrev pub submitted : Message → Standing
submitted m = record { message = m; stored = false; outstanding = None }

-- the call that publishes a message: with default options and no properties
abbrev pub publish_of : Message → Call
publish_of m = call.BasicPublish m.exchange m.routing_key (record { mandatory = false; immediate = false }) m.payload no_properties

-- What the poll of its publish tells makes of a message: Ack makes it stored; Nack or an error leaves it waiting without an
-- outstanding publish; while the publish is pending it stays.
abbrev pub polled : Record → Standing → Standing
polled (record_.Confirmed (Ok (confirmation.Ack m))) s = record s { stored = true; outstanding = None }
polled (record_.Confirmed o) s = record s { outstanding = None }
polled _ s = s

-- it is to be published: it is waiting without an outstanding publish
abbrev pub waits : Standing → Bool
waits s = not s.stored && not (is_some s.outstanding)

-- the number of a publish that was accepted
abbrev pub confirm_of : Record → Option ℕ
confirm_of (record_.Publish ticket confirm) = Some confirm
confirm_of _ = None

-- at a loss every outstanding publish is forgotten
abbrev pub forgotten : Standing → Standing
forgotten s = record s { outstanding = None }
