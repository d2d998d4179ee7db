-- When a stored history is one that a session could have told.
use Rattle.std.specs.Prelude.{◌≡◌, ℕ, List, map}
use Rattle.lapin_types.specs.declared.event.Event.{Event}
use Rattle.lapin_types.specs.declared.record.Record.{Record}
use Rattle.lapin_rules.specs.History.{History, run}
use Rattle.lapin_locked.specs.declared.entry.Entry.{Entry}

-- the event of an entry with its record
abbrev pub told_in : Entry → Event × Record
told_in x = (x.event, x.answer)

-- the events with their records
abbrev pub history_of : List Entry → History
history_of es = map told_in es

-- what the step of an entry asked of the session
abbrev pub event_of : Entry → Event
event_of x = x.event

-- the session's record of the step of an entry
abbrev pub answer_of : Entry → Record
answer_of x = x.answer

-- Its answers, in order, are those of a session that begins new and meets its events.
abbrev pub IsLawful : ℕ → List Entry → Type 0
IsLawful frame_max es = map answer_of es ≡ run frame_max (map event_of es)
