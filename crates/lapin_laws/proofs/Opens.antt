-- What each mark does to the tickets that are open.
use Rattle.std.proofs.Common.{◌≡◌, ◌≢◌, ℕ, zero, suc, ◌==◌, ◌&&◌, Bool, true, false, cond, not, List, [], ◌∷◌, map, Option, Some, None, Result, Err, refl, sym, ◌∙◌, ap, subst, ◌⊎◌, inl, inr}
use Rattle.std.specs.List.{fold}
use Rattle.std.proofs.lemmas.Bool.Decides.{eqb_tells}
use Rattle.lapin_tables.specs.Numbered.{under, with_under}
use Rattle.lapin_tables.proofs.SlotLaws.{under-other}
use Rattle.lapin_types.specs.Types.{Error}
use Rattle.lapin_types.specs.declared.answer.Answer.{Answer}
use Rattle.lapin_rules.specs.declared.marks.AtLeaving.{AtLeaving}
use Rattle.lapin_rules.specs.declared.marks.AtLeaving.TheVariants as leaving
use Rattle.lapin_rules.specs.TicketReadings.{is_publish}
use Rattle.lapin_rules.specs.TicketReadings as ticket
use Rattle.lapin_rules.specs.Requests.{resolved_with}
use Rattle.lapin_ticket.specs.declared.Slot.{Slot}
use Rattle.lapin_ticket.specs.declared.Slot.TheVariants as slot
use Rattle.lapin_ticket.specs.Slots.{answered_slot, begun_slot, left_slot, closed_slot, failed_slot, failed, rejects, is_open_on, after_mark}

-- the ticket is open, as one of this channel, with this answer at its leaving, and begun or not
abbrev pub IsOpen : ℕ → List (Option Slot) → ℕ → AtLeaving → Bool → Type 0
IsOpen n slots c a g = under n slots ≡ Some (slot.Open c a g)

put-there : (n : ℕ) (o : Option Slot) (xs : List (Option Slot)) (s : Slot) → under n (with_under n o xs) ≡ Some s → o ≡ Some s
put-there zero o xs s h = cc
put-there (suc k) o [] s h = cc
put-there (suc zero) o (p ∷ xs) s h = h
put-there (suc (suc k)) o (p ∷ xs) s h = put-there (suc k) o xs s h

-- what is found after one slot was written
put : (m n : ℕ) (o : Option Slot) (xs : List (Option Slot)) (s : Slot) → under n (with_under m o xs) ≡ Some s → ((m ≢ n) × (under n xs ≡ Some s)) ⊎ ((m ≡ n) × (o ≡ Some s))
put m n o xs s h = elim (eqb_tells m n) [
  | inl y ↦ let P : ℕ → Type 0 = λ i. under i (with_under m o xs) ≡ Some s in inr (y.1, put-there m o xs s (subst P (sym y.1) h))
  | inr x ↦ inl (x.1, sym (under-other n m o xs (λ e. x.1 (sym e))) ∙ h)
]

mapped : (f : Option Slot → Option Slot) (n : ℕ) (xs : List (Option Slot)) → f None ≡ None → under n (map f xs) ≡ f (under n xs)
mapped f zero xs e = sym e
mapped f (suc k) [] e = sym e
mapped f (suc zero) (o ∷ xs) e = refl
mapped f (suc (suc k)) (o ∷ xs) e = mapped f (suc k) xs e

module _ (c : ℕ) (a : AtLeaving) (g : Bool) where
  abbrev Opened : Option Slot → Type 0
  Opened o = o ≡ Some (slot.Open c a g)

  not_open : (x : Result Answer Error) (o : Option Slot) → Opened (answered_slot x o) → ⊥
  not_open x None h = cc
  not_open x (Some (slot.Open d l b)) h = cc
  not_open x (Some (slot.Held y)) h = cc

  begun_was : (o : Option Slot) → Opened (begun_slot o) → (g ≡ true) × ((h : Bool) × (o ≡ Some (slot.Open c a h)))
  begun_was None h = cc
  begun_was (Some (slot.Open d l b)) h = (cc, (b, cc))
  begun_was (Some (slot.Held y)) h = cc

  left_was : (o : Option Slot) → Opened (left_slot o) → Opened o × (a ≡ leaving.Nothing)
  left_was None h = cc
  left_was (Some (slot.Open d leaving.Nothing b)) h = (h, cc)
  left_was (Some (slot.Open d leaving.Done b)) h = cc
  left_was (Some (slot.Open d (leaving.Confirm k) b)) h = cc
  left_was (Some (slot.Open d leaving.Yes b)) h = cc
  left_was (Some (slot.Held y)) h = cc

  closed_was : (d : ℕ) (e : Error) (o : Option Slot) → Opened (closed_slot d e o) → Opened o × ((d == c && (is_publish a && not g)) ≡ false)
  closed_was d e None h = cc
  closed_was d e (Some (slot.Open k l b)) h = elim (rejects d (Some (slot.Open k l b))) as (λ t. rejects d (Some (slot.Open k l b)) ≡ t → Opened (cond t (Some (slot.Held (Err e))) (Some (slot.Open k l b))) → Opened (Some (slot.Open k l b)) × (rejects d (Some (slot.Open c a g)) ≡ false)) [
    | true ↦ λ q x. absurd cc
    | false ↦ λ q x. (x, ap (rejects d) (sym x) ∙ q)
  ] refl h
  closed_was d e (Some (slot.Held y)) h = cc

  failed_was : (d : ℕ) (e : Error) (o : Option Slot) → Opened (failed_slot d e o) → Opened o × ((d == c) ≡ false)
  failed_was d e None h = cc
  failed_was d e (Some (slot.Open k l b)) h = elim (d == k) as (λ t. (d == k) ≡ t → Opened (cond t (Some (slot.Held (Err e))) (Some (slot.Open k l b))) → Opened (Some (slot.Open k l b)) × ((d == c) ≡ false)) [
    | true ↦ λ q x. absurd cc
    | false ↦ λ q x. (x, ap (is_open_on d) (sym x) ∙ q)
  ] refl h
  failed_was d e (Some (slot.Held y)) h = cc

  module _ (n : ℕ) (xs : List (Option Slot)) where
    pub open_answered : (m : ℕ) (x : Result Answer Error) → IsOpen n (after_mark xs (ticket.Answered m x)) c a g → (m ≢ n) × IsOpen n xs c a g
    open_answered m x h = elim (put m n _ xs _ h) [ inl y ↦ y | inr y ↦ absurd (not_open x (under m xs) y.1) ]

    pub open_resolved : (x : Result Answer Error) (o : Option ℕ) → IsOpen n (fold after_mark xs (resolved_with x o)) c a g → (Some n ≢ o) × IsOpen n xs c a g
    open_resolved x None h = (λ e. cc, h)
    open_resolved x (Some m) h = let r = open_answered m x h in (λ e. r.0 cc, r.1)

    pub open_begun : (m : ℕ) → IsOpen n (after_mark xs (ticket.Begun m)) c a g → ((m ≢ n) × IsOpen n xs c a g) ⊎ ((m ≡ n) × (g ≡ true) × ((h : Bool) × IsOpen n xs c a h))
    open_begun m h = elim (put m n _ xs _ h) [
      | inl y ↦ inl y
      | inr y ↦ let was = begun_was (under m xs) y.1 in inr (y.0, was.0, (was.1.0, subst (λ i. IsOpen i xs c a was.1.0) y.0 was.1.1))
    ]

    pub open_left : (m : ℕ) → IsOpen n (after_mark xs (ticket.LastLeft m)) c a g → IsOpen n xs c a g × ((m ≢ n) ⊎ (a ≡ leaving.Nothing))
    open_left m h = elim (put m n _ xs _ h) [
      | inl y ↦ (y.1, inl y.0)
      | inr y ↦ let was = left_was (under m xs) y.1 in (subst (λ i. IsOpen i xs c a g) y.0 was.0, inr was.1)
    ]

    pub open_closed : (d : ℕ) (e : Error) → IsOpen n (after_mark xs (ticket.ClosedHere d e)) c a g → IsOpen n xs c a g × ((d == c && (is_publish a && not g)) ≡ false)
    open_closed d e h = closed_was d e (under n xs) (sym (mapped (closed_slot d e) n xs refl) ∙ h)

    failed_map : (d : ℕ) (e : Error) → IsOpen n (map (failed_slot d e) xs) c a g → IsOpen n xs c a g × ((d == c) ≡ false)
    failed_map d e h = failed_was d e (under n xs) (sym (mapped (failed_slot d e) n xs refl) ∙ h)

    pub open_failed : (d : ℕ) (kept : Option ℕ) (e : Error) → IsOpen n (failed d kept e xs) c a g → IsOpen n xs c a g × (((d == c) ≡ false) ⊎ (kept ≡ Some n))
    open_failed d None e h = let was = failed_map d e h in (was.0, inl was.1)
    open_failed d (Some k) e h = elim (put k n _ (map (failed_slot d e) xs) _ h) [
      | inl y ↦ let was = failed_map d e y.1 in (was.0, inl was.1)
      | inr y ↦ (subst (λ i. IsOpen i xs c a g) y.0 y.1, inr (ap (λ i. Some i) y.0))
    ]

    pub open_none : (e : Error) → IsOpen n (after_mark xs (ticket.AllFailed e)) c a g → ⊥
    open_none e h = not_open (Err e) (under n xs) (sym (mapped (answered_slot (Err e)) n xs refl) ∙ h)

    pub open_gone : (m : ℕ) → IsOpen n (with_under m None xs) c a g → IsOpen n xs c a g
    open_gone m h = elim (put m n None xs _ h) [ inl y ↦ y.1 | inr y ↦ absurd cc ]
