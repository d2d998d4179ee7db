-- What a step of the publisher leaves, and which step a publish is.
use Rattle.std.specs.Prelude.{◌≡◌, ℕ, false, List, Result, Ok, Err}
use Rattle.lapin_types.specs.declared.call.Call.TheVariants as call
use Rattle.lapin_types.specs.declared.event.Event.{Event}
use Rattle.lapin_types.specs.declared.event.Event.TheVariants as event
use Rattle.lapin_types.specs.declared.record.Record.{Record}
use Rattle.lapin_types.specs.Types.{Error}
use Rattle.lapin_values.specs.Properties.{Properties}
use Rattle.lapin_machine.specs.Numbers.{HasCause}
use Rattle.lapin_machine.specs.World.{World, told_by, next}

-- the event was made, and its record is the answer; or there was no memory, or no number exactly where the event lacks one, and nothing changed
abbrev pub IsMade : Result Record Error → World → Event → World → Type 0
IsMade (Ok r) before e after = (r ≡ told_by before e) × (after ≡ next before e)
IsMade (Err x) before e after = (after ≡ before) × HasCause {T = Record} (Err x) e before.wire

-- the limit of channel 1 is set to a hundred
abbrev pub limiting : Event
limiting = event.Call 1 (call.ConfirmLimit 100)

-- confirms are asked for on channel 1, and select-ok is awaited
abbrev pub selecting : Event
selecting = event.Call 1 (call.ConfirmSelect (record { nowait = false }))

-- a publish on channel 1, without marks
abbrev pub publishing : List ℕ → List ℕ → List ℕ → Properties → Event
publishing exchange routing_key payload properties = event.Call 1 (call.BasicPublish exchange routing_key (record { mandatory = false; immediate = false }) payload properties)
