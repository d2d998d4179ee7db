-- What stands under a number, as a value is written, joins, or is let go with those that stand aside.
use Rattle.std.proofs.Common.{◌≡◌, ℕ, zero, suc, ◌<◌, ◌≤◌, ◌==◌, Bool, true, false, cond, ◌&&◌, ◌||◌, List, [], ◌∷◌, ◌++◌, length, Option, None, refl, sym, ◌∙◌, ap, subst, arith, slice_set, inl, inr, eqb-true}
use Rattle.std.proofs.lemmas.Bool.Decides.{eqb_tells}
use Rattle.lapin_tables.specs.Numbered.{under, with_under}
use Rattle.lapin_tables.proofs.SlotLaws.{length-with, under-other}
use Rattle.lapin_confirm.specs.declared.cell.Cell.{Cell}
use Rattle.lapin_confirm.specs.PublishStates.{is_resolved}
use Rattle.lapin_confirm.specs.Drain.{Remains, remaining, is_over, less_one, less_all}
use Rattle.lapin_confirm.proofs.AsideFollowing.{stands}

module _ {T : Type 0} where
  under-same : (k : ℕ) (o : Option T) (xs : List (Option T)) → k < length xs → under (suc k) (slice_set xs k o) ≡ o
  under-same k o [] lt = absurd (omega arith)
  under-same zero o (x ∷ xs) lt = refl
  under-same (suc k) o (x ∷ xs) lt = under-same k o xs (omega arith)

  -- a write under one number, as another sees it
  pub under-written : (n k : ℕ) (o : Option T) (xs : List (Option T)) → k < length xs → under (suc k) (with_under n o xs) ≡ cond (n == suc k) o (under (suc k) xs)
  under-written n k o xs lt =
      elim (eqb_tells n (suc k)) [
        | inl same ↦ let P : ℕ → Type 0 = λ i. under (suc k) (with_under i o xs) ≡ o in rw same.0 (subst P (sym same.1) (under-same k o xs lt))
        | inr other ↦ rw other.0 (under-other (suc k) n o xs (λ e. other.1 (sym e)))
      ]

  -- nothing stands where nothing was kept
  pub under-cleared : (n : ℕ) (xs : List (Option T)) → under n (with_under n None xs) ≡ None
  under-cleared zero xs = refl
  under-cleared (suc k) [] = refl
  under-cleared (suc zero) (x ∷ xs) = refl
  under-cleared (suc (suc k)) (x ∷ xs) = under-cleared (suc k) xs

  pub under-old : (k : ℕ) (o : Option T) (xs : List (Option T)) → k < length xs → under (suc k) (xs ++ o ∷ []) ≡ under (suc k) xs
  under-old k o [] lt = absurd (omega arith)
  under-old zero o (x ∷ xs) lt = refl
  under-old (suc k) o (x ∷ xs) lt = under-old k o xs (omega arith)

  pub under-beyond : (k : ℕ) (xs : List (Option T)) → length xs ≤ k → under (suc k) xs ≡ None
  under-beyond k [] le = refl
  under-beyond zero (x ∷ xs) le = absurd (omega arith)
  under-beyond (suc k) (x ∷ xs) le = under-beyond k xs (omega arith)

-- ---- those that stand aside are let go, if they are resolved

-- which of them
abbrev pub leaves_off : ℕ → List ℕ → Remains → Bool
leaves_off n ns r = stands n ns && is_over r.cells n

module _ {T : Type 0} where
  -- one that is resolved is let go before the rest
  swept : (n m : ℕ) (rest over : Bool) (xs : List (Option T)) → ((m == n) ≡ true → over ≡ true) → cond (rest && cond (m == n) false over) None (under n (with_under m None xs)) ≡ cond ((m == n || rest) && over) None (under n xs)
  swept n m rest over xs done =
      elim (eqb_tells m n) [
        | inl same ↦
            let P : ℕ → Type 0 = λ i. under n (with_under i None xs) ≡ None in
            let gone : under n (with_under m None xs) ≡ None = subst P (sym same.1) (under-cleared n xs) in
            rw (same.0, done same.0, gone) (elim rest as (λ b. cond {A = Option T} (b && false) None None ≡ None) [ true ↦ refl | false ↦ refl ])
        | inr other ↦ rw (other.0, under-other n m None xs (λ e. other.1 (sym e))) refl
      ]

  -- and one that is not stays
  unswept : (n m : ℕ) (rest over : Bool) (x : Option T) → ((m == n) ≡ true → over ≡ false) → cond (rest && over) None x ≡ cond ((m == n || rest) && over) None x
  unswept n m rest over x same =
      elim (m == n) as (λ b. (b ≡ true → over ≡ false) → cond (rest && over) None x ≡ cond ((b || rest) && over) None x) [
        | true ↦ λ h. let no : over ≡ false = h refl in rw no (elim rest as (λ b. cond (b && false) None x ≡ x) [ true ↦ refl | false ↦ refl ])
        | false ↦ λ h. refl
      ] same

over-swept : (n m : ℕ) (cells : List (Option Cell)) → is_over (with_under m None cells) n ≡ cond (m == n) false (is_over cells n)
over-swept n m cells =
    elim (eqb_tells m n) [
      | inl same ↦ let P : ℕ → Type 0 = λ i. is_over (with_under i None cells) n ≡ false in rw same.0 (subst P (sym same.1) (ap is_resolved (under-cleared n cells)))
      | inr other ↦ rw other.0 (ap is_resolved (under-other n m None cells (λ e. other.1 (sym e))))
    ]

over_same : (b : Bool) (n m : ℕ) (cells : List (Option Cell)) → is_over cells m ≡ b → (m == n) ≡ true → is_over cells n ≡ b
over_same b n m cells h same = let P : ℕ → Type 0 = λ i. is_over cells i ≡ b in subst P (eqb-true m n same) h

pub cells-less : (n : ℕ) (ns : List ℕ) (r : Remains) → under n (less_all ns r).cells ≡ cond (leaves_off n ns r) None (under n r.cells)
cells-less n [] r = refl
cells-less n (m ∷ ns) r =
    elim (is_over r.cells m) as (λ b. is_over r.cells m ≡ b → under n (less_all ns (cond b (remaining (with_under m None r.cells) (with_under m None r.origins)) r)).cells ≡ cond ((m == n || stands n ns) && is_over r.cells n) None (under n r.cells)) [
      | true ↦ λ h. cells-less n ns (remaining (with_under m None r.cells) (with_under m None r.origins)) ∙ rw (over-swept n m r.cells) (swept n m (stands n ns) (is_over r.cells n) r.cells (over_same true n m r.cells h))
      | false ↦ λ h. cells-less n ns r ∙ unswept n m (stands n ns) (is_over r.cells n) (under n r.cells) (over_same false n m r.cells h)
    ] refl

pub origins-less : (n : ℕ) (ns : List ℕ) (r : Remains) → under n (less_all ns r).origins ≡ cond (leaves_off n ns r) None (under n r.origins)
origins-less n [] r = refl
origins-less n (m ∷ ns) r =
    elim (is_over r.cells m) as (λ b. is_over r.cells m ≡ b → under n (less_all ns (cond b (remaining (with_under m None r.cells) (with_under m None r.origins)) r)).origins ≡ cond ((m == n || stands n ns) && is_over r.cells n) None (under n r.origins)) [
      | true ↦ λ h. origins-less n ns (remaining (with_under m None r.cells) (with_under m None r.origins)) ∙ rw (over-swept n m r.cells) (swept n m (stands n ns) (is_over r.cells n) r.origins (over_same true n m r.cells h))
      | false ↦ λ h. origins-less n ns r ∙ unswept n m (stands n ns) (is_over r.cells n) (under n r.origins) (over_same false n m r.cells h)
    ] refl

less_one-cells : (n : ℕ) (r : Remains) → length (less_one n r).cells ≡ length r.cells
less_one-cells n r = elim (is_over r.cells n) as (λ (b : Bool). length (cond b (remaining (with_under n None r.cells) (with_under n None r.origins)) r).cells ≡ length r.cells) [ true ↦ length-with n None r.cells | false ↦ refl ]

less_one-origins : (n : ℕ) (r : Remains) → length (less_one n r).origins ≡ length r.origins
less_one-origins n r = elim (is_over r.cells n) as (λ (b : Bool). length (cond b (remaining (with_under n None r.cells) (with_under n None r.origins)) r).origins ≡ length r.origins) [ true ↦ length-with n None r.origins | false ↦ refl ]

pub count-less : (ns : List ℕ) (r : Remains) → length (less_all ns r).cells ≡ length r.cells
count-less [] r = refl
count-less (n ∷ ns) r = count-less ns (less_one n r) ∙ less_one-cells n r

pub places-less : (ns : List ℕ) (r : Remains) → length (less_all ns r).origins ≡ length r.origins
places-less [] r = refl
places-less (n ∷ ns) r = places-less ns (less_one n r) ∙ less_one-origins n r
