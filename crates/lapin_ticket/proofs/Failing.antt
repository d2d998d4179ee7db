-- Every open ticket is answered: one at a time comes to the same, and nothing changes once none is open.
use Rattle.std.proofs.Common.{◌≡◌, ◌≢◌, ℕ, zero, suc, ◌≤◌, true, false, List, [], ◌∷◌, map, Option, Some, None, Result, refl, sym, ◌∙◌, ap, subst, arith, inl, inr}
use Rattle.std.specs.Prelude.{is_some}
use Rattle.std.proofs.lemmas.Bool.Decides.{eqb_tells}
use Rattle.lapin_types.specs.declared.answer.Answer.{Answer}
use Rattle.lapin_types.specs.Types.{Error}
use Rattle.lapin_tables.specs.Numbered.{under, with_under, first_kept}
use Rattle.lapin_tables.proofs.SlotLaws.{first-there, under-other}
use Rattle.lapin_ticket.specs.declared.Slot.{Slot}
use Rattle.lapin_ticket.specs.declared.Slot.TheVariants as slot
use Rattle.lapin_ticket.specs.Slots.{answered_slot, is_awaited}

answered-twice : (a : Result Answer Error) (o : Option Slot) → answered_slot a (answered_slot a o) ≡ answered_slot a o
answered-twice a None = refl
answered-twice a (Some (slot.Open c l b)) = refl
answered-twice a (Some (slot.Held h)) = refl

-- one ticket may be answered before all of them are
pub answered-before : (n : ℕ) (a : Result Answer Error) (xs : List (Option Slot)) → map (answered_slot a) (with_under n (answered_slot a (under n xs)) xs) ≡ map (answered_slot a) xs
answered-before zero a xs = refl
answered-before (suc k) a [] = refl
answered-before (suc zero) a (o ∷ xs) = ap (λ p. p ∷ map (answered_slot a) xs) (answered-twice a o)
answered-before (suc (suc k)) a (o ∷ xs) = ap (λ ys. answered_slot a o ∷ ys) (answered-before (suc k) a xs)

-- no slot is open
pub answered-none : (a : Result Answer Error) (xs : List (Option Slot)) → ((k : ℕ) (s : Slot) → under (suc k) xs ≡ Some s → is_awaited (Some s) ≡ true → ⊥) → map (answered_slot a) xs ≡ xs
answered-none a [] none = refl
answered-none a (None ∷ xs) none = ap (λ ys. None ∷ ys) (answered-none a xs (λ k. none (suc k)))
answered-none a (Some (slot.Open c l b) ∷ xs) none = absurd (none 0 (slot.Open c l b) refl refl)
answered-none a (Some (slot.Held h) ∷ xs) none = ap (λ ys. Some (slot.Held h) ∷ ys) (answered-none a xs (λ k. none (suc k)))

not_open : (a : Result Answer Error) (o : Option Slot) (s : Slot) → answered_slot a o ≡ Some s → is_awaited (Some s) ≡ true → ⊥
not_open a None s h w = cc
not_open a (Some (slot.Open c l b)) s h w = let no : is_awaited (Some s) ≡ false = ap is_awaited (sym h) in cc
not_open a (Some (slot.Held b)) s h w = let no : is_awaited (Some s) ≡ false = ap is_awaited (sym h) in cc

-- what stands under the number of an answered ticket
answered-there : (n : ℕ) (a : Result Answer Error) (xs : List (Option Slot)) (s : Slot) → under n (with_under n (answered_slot a (under n xs)) xs) ≡ Some s → answered_slot a (under n xs) ≡ Some s
answered-there zero a xs s h = cc
answered-there (suc k) a [] s h = cc
answered-there (suc zero) a (o ∷ xs) s h = h
answered-there (suc (suc k)) a (o ∷ xs) s h = answered-there (suc k) a xs s h

-- what is still open after one ticket was answered is another, and was open before
pub still_open : (n m : ℕ) (a : Result Answer Error) (xs : List (Option Slot)) (s : Slot) → under m (with_under n (answered_slot a (under n xs)) xs) ≡ Some s → is_awaited (Some s) ≡ true → (m ≢ n) × (under m xs ≡ Some s)
still_open n m a xs s h w =
    elim (eqb_tells m n) [
      | inl here ↦ absurd (not_open a (under n xs) s (answered-there n a xs s (subst (λ (i : ℕ). under i (with_under n (answered_slot a (under n xs)) xs) ≡ Some s) here.1 h)) w)
      | inr other ↦ (other.1, sym (under-other m n (answered_slot a (under n xs)) xs other.1) ∙ h)
    ]

-- the least number that is kept is 1 or more
pub first-positive : (n : ℕ) (xs : List (Option Slot)) → first_kept xs ≡ Some n → 1 ≤ n
first-positive zero xs h = let there : is_some {T = Slot} None ≡ true = first-there 0 xs h in cc
first-positive (suc n) xs h = omega arith
