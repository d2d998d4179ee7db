-- What a caller knows of a step.
use Rattle.std.specs.Prelude.{ℕ, Bool, true, false, Option, Some, None}
use Rattle.lapin_types.specs.declared.event.Event.{Event}
use Rattle.lapin_types.specs.declared.record.Record.{Record}
use Rattle.lapin_locked.specs.declared.entry.Entry.{Entry}
use Rattle.lapin_locked.specs.declared.entry.Told.{Told}

-- an entry of a log, with an answer or without
abbrev pub told : ℕ → Event → Option Record → Told
told p e r = record { place = p; event = e; answer = r }

-- the record, where it was read
abbrev pub read_of : Bool → Record → Option Record
read_of true r = Some r
read_of false r = None

-- an entry of the history at that place, as its caller knows it
abbrev pub known : ℕ → Bool → Entry → Told
known p read x = told p x.event (read_of read x.answer)
