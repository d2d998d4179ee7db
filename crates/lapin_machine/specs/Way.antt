-- How a session goes on: the record of an event, what the event leaves, and the session's states, lists and full channels. What is
-- built on a session is said once over any way: by its history it is what the rules say, and by the machine what the code does.
use Rattle.std.specs.Prelude.{ℕ, Bool, [], ◌∷◌, ◌++◌}
use Rattle.lapin_types.specs.declared.event.Event.{Event}
use Rattle.lapin_types.specs.declared.record.Record.{Record}
use Rattle.lapin_rules.specs.Wire.{Wire}
use Rattle.lapin_rules.specs.ConfirmReadings.{is_full}
use Rattle.lapin_rules.specs.History.{History, past, rec}
use Rattle.lapin_machine.specs.World.{World, told_by, full_in}
use Rattle.lapin_machine.specs.World as world

-- the way of a session in S: what it tells of an event, what the event leaves, its states and lists, and which channels are full
pub record Way (S : Type 0) : Type 0 where
  pub told : S → Event → Record
  pub next : S → Event → S
  pub wire : S → Wire
  pub full : S → ℕ → Bool

-- as its history determines it: the record is the history's, and the history grows by the event with its record
abbrev pub by_history : ℕ → Way History
by_history frame_max = record { told = λ h e. rec frame_max h e; next = λ h e. h ++ (e, rec frame_max h e) ∷ []; wire = λ h. (past frame_max h).wire; full = λ h c. is_full c (past frame_max h).confirms }

-- as the machine does it
abbrev pub by_machine : Way World
by_machine = record { told = λ w e. told_by w e; next = λ w e. world.next w e; wire = λ w. w.wire; full = λ w. full_in w.confirm_state }
