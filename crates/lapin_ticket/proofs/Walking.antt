-- A walk over the tickets, from the last to the first that is kept.
use Rattle.std.proofs.Common.{◌≡◌, ◌≢◌, ℕ, zero, suc, Bool, true, false, List, [], ◌∷◌, Option, Some, None, Result, Err, refl, sym, ◌∙◌, ap, subst, inl, inr}
use Rattle.std.proofs.lemmas.Bool.Decides.{eqb_tells}
use Rattle.lapin_types.specs.declared.answer.Answer.{Answer}
use Rattle.lapin_types.specs.Types.{Error}
use Rattle.lapin_tables.specs.Numbered.{under, with_under}
use Rattle.lapin_tables.proofs.SlotLaws.{under-other}
use Rattle.lapin_ticket.specs.declared.Slot.{Slot}
use Rattle.lapin_ticket.specs.declared.Slot.TheVariants as slot
use Rattle.lapin_ticket.specs.Slots.{answered_slot, rejects, is_open_on}
use Rattle.std.proofs.lemmas.Bool.{false_from_ne_true, true_from_ne_false}

pub rejected_some : (c : ℕ) (o : Option Slot) → rejects c o ≡ true → (s : Slot) × (o ≡ Some s)
rejected_some c None h = cc
rejected_some c (Some s) h = (s, refl)

pub open_some : (c : ℕ) (o : Option Slot) → is_open_on c o ≡ true → (s : Slot) × (o ≡ Some s)
open_some c None h = cc
open_some c (Some s) h = (s, refl)

-- what stands under the number of an answered ticket
answered-there : (n : ℕ) (a : Result Answer Error) (xs : List (Option Slot)) → under n (with_under n (answered_slot a (under n xs)) xs) ≡ answered_slot a (under n xs)
answered-there zero a xs = refl
answered-there (suc k) a [] = refl
answered-there (suc zero) a (o ∷ xs) = refl
answered-there (suc (suc k)) a (o ∷ xs) = answered-there (suc k) a xs

-- where no answered ticket passes a test, what passes it after one was answered is another that passed before
module _ (P : Option Slot → Bool) (a : Result Answer Error) (gone : (o : Option Slot) → P (answered_slot a o) ≡ false) where
  still-passes : (n m : ℕ) (xs : List (Option Slot)) → P (under m (with_under n (answered_slot a (under n xs)) xs)) ≡ true → (m ≢ n) × (P (under m xs) ≡ true)
  still-passes n m xs h =
      elim (eqb_tells m n) [
        | inl here ↦
            let Q : ℕ → Type 0 = λ i. P (under i (with_under n (answered_slot a (under n xs)) xs)) ≡ true in
            let not_ : P (under n (with_under n (answered_slot a (under n xs)) xs)) ≡ false = ap P (answered-there n a xs) ∙ gone (under n xs) in
            let yes : P (under n (with_under n (answered_slot a (under n xs)) xs)) ≡ true = subst Q here.1 h in
            cc
        | inr other ↦ (other.1, ap P (sym (under-other m n (answered_slot a (under n xs)) xs other.1)) ∙ h)
      ]

pub still-rejects : (c n m : ℕ) (e : Error) (xs : List (Option Slot)) → rejects c (under m (with_under n (answered_slot (Err e) (under n xs)) xs)) ≡ true → (m ≢ n) × (rejects c (under m xs) ≡ true)
still-rejects c n m e xs h = still-passes (rejects c) (Err e) gone n m xs h
  where
    gone : (o : Option Slot) → rejects c (answered_slot (Err e) o) ≡ false
    gone None = refl
    gone (Some (slot.Open d l b)) = refl
    gone (Some (slot.Held a)) = refl

pub still-on : (c n m : ℕ) (e : Error) (xs : List (Option Slot)) → is_open_on c (under m (with_under n (answered_slot (Err e) (under n xs)) xs)) ≡ true → (m ≢ n) × (is_open_on c (under m xs) ≡ true)
still-on c n m e xs h = still-passes (is_open_on c) (Err e) gone n m xs h
  where
    gone : (o : Option Slot) → is_open_on c (answered_slot (Err e) o) ≡ false
    gone None = refl
    gone (Some (slot.Open d l b)) = refl
    gone (Some (slot.Held a)) = refl
