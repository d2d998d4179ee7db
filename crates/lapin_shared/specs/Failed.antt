-- What a call of a caller leaves: where its step was made, and where memory ran out.
use Rattle.std.specs.Prelude.{◌≡◌, ℕ, [], ◌∷◌, ◌++◌, Some, None, Result, Ok, Err}
use Rattle.lapin_types.specs.declared.event.Event.{Event}
use Rattle.lapin_locked.specs.declared.entry.Entry.{Entry}
use Rattle.lapin_shared.specs.declared.caller.StepError.{StepError}
use Rattle.lapin_shared.specs.declared.caller.StepError.TheVariants as failed
use Rattle.lapin_types.specs.declared.event.Event.TheVariants as event
use Rattle.lapin_types.specs.declared.record.Record.{Record}
use Rattle.lapin_locked.specs.declared.entry.Told.{Told}
use Rattle.lapin_locked.specs.Known.{told}
use Rattle.lapin_shared.specs.Grown.{Seen, Grew, Stepped, IsOver}
use Rattle.lapin_locked.specs.UnderLock.{UnderLock}

-- before the step nothing changed; behind it the log got its entry, without an answer; no step is left unsent
abbrev pub IfFailed : Seen → Event → StepError → Seen → Type 0
IfFailed old e failed.NoMemory new = new ≡ old
IfFailed old e (failed.Unread p) new = Grew old new (told p e None)
IfFailed old e (failed.Unsent a v) new = ⊥

-- the history got the entry where the step was made
abbrev pub IsStored : Result ℕ StepError → UnderLock → Entry → UnderLock → Type 0
IsStored (Ok p) old x new = new.entries ≡ old.entries ++ x ∷ []
IsStored (Err failed.NoMemory) old x new = new.entries ≡ old.entries
IsStored (Err (failed.Unread p)) old x new = new.entries ≡ old.entries ++ x ∷ []
IsStored (Err (failed.Unsent a v)) old x new = ⊥

-- A call that makes one step. It answers the log's new entry, which has this event and holds an answer; or memory ran out. The entry
-- is told through a reference, which `now` reads.
abbrev pub IsStep : {T : Type 0} → Result T StepError → (T → Told) → Seen → Event → Seen → Type 0
IsStep (Ok t) now old e new = Stepped now old e new t
IsStep (Err x) now old e new = IfFailed old e x new

-- A call that waits for a ticket: its step is a poll of that ticket, and on Ok the answer is not Pending.
abbrev pub IsWait : {T : Type 0} → Result T StepError → (T → Told) → Seen → ℕ → Seen → Type 0
IsWait (Ok t) now old n new =
    (r : Record) × Grew old new (now t) × ((now t).event ≡ event.PollTicket n) × ((now t).answer ≡ Some r) × IsOver r
IsWait (Err x) now old n new = IfFailed old (event.PollTicket n) x new
