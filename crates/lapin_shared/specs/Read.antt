-- How an unread record is read later.
use Rattle.std.specs.Prelude.{◌≡◌, ℕ, ◌<◌, List, Some, None, slice_get, length, [], ◌∷◌, ◌++◌, zero, suc, Result, Ok, Err}
use Rattle.lapin_types.specs.declared.record.Record.{Record}
use Rattle.lapin_types.specs.declared.event.Event.{Event}
use Rattle.lapin_shared.specs.declared.caller.StepError.{StepError}
use Rattle.lapin_shared.specs.declared.caller.StepError.TheVariants as failed
use Rattle.lapin_locked.specs.declared.entry.Told.{Told}
use Rattle.lapin_locked.specs.Known.{told}
use Rattle.lapin_shared.specs.Grown.{Seen}

-- entry k of the log has that place
pub record IsPlaceAt (log : List Told) (k place : ℕ) : Type 0 where
  pub entry : Told
  pub inside : k < length log
  pub stands : slice_get log k ≡ Some entry
  pub is : entry.place ≡ place

-- some entry of the log has that place
abbrev pub HasPlace : ℕ → List Told → Type 0
HasPlace place log = (k : ℕ) × IsPlaceAt log k place

-- the log with that record at entry k
abbrev pub answered : List Told → ℕ → Record → List Told
answered [] k r = []
answered (t ∷ ts) zero r = record t { answer = Some r } ∷ ts
answered (t ∷ ts) (suc k) r = t ∷ answered ts k r

-- the log without the record of entry k
abbrev pub unread : List Told → ℕ → List Told
unread [] k = []
unread (t ∷ ts) zero = record t { answer = None } ∷ ts
unread (t ∷ ts) (suc k) = t ∷ unread ts k

-- entry k, which has that place, holds some record, and all else stays
pub record IsReadAt (old : Seen) (k place : ℕ) (new : Seen) : Type 0 where
  pub number : new.number ≡ old.number
  pub at : IsPlaceAt old.log k place
  pub answer : Record
  pub log : new.log ≡ answered old.log k answer
  pub inside : k < length new.log

-- A copy of the newest entry of a log, which has this record at this place behind those others: the copy is the entry. Or there was no
-- memory for it, and the log has the entry without its record. The copy is told through a reference, which `now` reads.
abbrev pub IsShown : {T : Type 0} → Result T StepError → (T → Told) → ℕ → List Told → ℕ → Event → Record → Seen → Type 0
IsShown (Ok t) now number front p e r new = (now t ≡ told p e (Some r)) × (new ≡ record { number = number; log = front ++ told p e (Some r) ∷ [] })
IsShown (Err (failed.Unread q)) now number front p e r new = (q ≡ p) × (new ≡ record { number = number; log = front ++ told p e None ∷ [] })
IsShown (Err _) now number front p e r new = ⊥
