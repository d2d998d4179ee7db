-- How the events of an input fall to callers, and what a history of them says.
use Rattle.std.specs.Prelude.{◌≡◌, ℕ, ◌+◌, ◌%◌, ◌==◌, ◌≤◌, Bool, true, List, [], ◌∷◌, ◌++◌, map, length, reverse, if◌then◌else◌}
use Rattle.lapin_types.specs.declared.event.Event.{Event}
use Rattle.lapin_locked.specs.declared.entry.Entry.{Entry}
use Rattle.lapin_shared.specs.Grown.{Seen}
use Rattle.lapin_locked.specs.Lawful.{IsLawful}
use Rattle.lapin_shared.specs.Own.{own, event_of}
use Rattle.lapin_shared_commands.specs.declared.shifts.Shift.{Shift}

-- event number k + 1, where it falls to caller i of n callers: event number p falls to caller ((p - 1) mod n) + 1
abbrev pub falls : ℕ → ℕ → ℕ → Event → List Event
falls n i k e = if k % n + 1 == i then e ∷ [] else []

-- the events that fall to caller i of n callers, in order, where k events came before the first of this list
abbrev pub dealt : ℕ → ℕ → ℕ → List Event → List Event
dealt n i k [] = []
dealt n i k (e ∷ es) = falls n i k e ++ dealt n i (k + 1) es

-- the caller that has these events left to it
abbrev pub caller_of : {L : Type 0} → Shift L → Seen
caller_of s = s.caller

-- no events
abbrev pub AreIdle : {L : Type 0} → List (Shift L) → Type 0
AreIdle [] = Unit {0}
AreIdle (s ∷ ss) = (s.events.items ≡ []) × AreIdle ss

-- callers numbered from i that made no step, each with the events that fall to it, the last one first
abbrev pub AreDealt : {L : Type 0} → ℕ → ℕ → List Event → ℕ → List (Shift L) → Type 0
AreDealt n k es i [] = Unit {0}
AreDealt n k es i (s ∷ ss) =
    (s.caller.number ≡ i) × (s.caller.log ≡ []) × (reverse s.events.items ≡ dealt n i k es) × AreDealt n k es (i + 1) ss

-- where all were made, a caller's log grew by the events that were left to it
abbrev pub MadeOwn : {L : Type 0} → Shift L → Bool → Shift L → Type 0
MadeOwn old made new =
    (new.caller.number ≡ old.caller.number)
    × (made ≡ true → map event_of new.caller.log ≡ map event_of old.caller.log ++ reverse old.events.items)

-- callers numbered from i, each of which made just the events that fall to it
abbrev pub AreDone : ℕ → List Event → ℕ → List Seen → Type 0
AreDone n es i [] = Unit {0}
AreDone n es i (c ∷ cs) = (c.number ≡ i) × (map event_of c.log ≡ dealt n i 0 es) × AreDone n es (i + 1) cs

-- The history is one that a session could have told, it has an entry an event, and the entries of each caller are the events that fall to
-- it, in order. So it is an interleaving of the callers' lists.
pub record IsDealt (frame_max n : ℕ) (es : List Event) (h : List Entry) : Type 0 where
  pub lawful : IsLawful frame_max h
  pub one_each : length h ≡ length es
  pub each : (i : ℕ) → 1 ≤ i → i ≤ n → own i h ≡ dealt n i 0 es
