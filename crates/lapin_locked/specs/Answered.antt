-- What a step answers, and what it leaves of the session.
use Rattle.std.specs.Prelude.{◌≡◌}
use Rattle.lapin_types.specs.declared.event.Event.{Event}
use Rattle.lapin_types.specs.declared.record.Record.{Record}
use Rattle.lapin_machine.specs.World.{World, next, told_by}

-- the session is what the event leaves, and the record is what it tells
abbrev pub IsAnswered : Event → World → World → Record → Type 0
IsAnswered e w v r = (v ≡ next w e) × (r ≡ told_by w e)
