-- What the tests know of confirms: that nothing of a channel is open, and that the first of two publishes waits while the second leaves.
use Rattle.std.proofs.Common.{◌≡◌, ◌≢◌, ℕ, ◌+◌, ◌==◌, Bool, true, false, cond, List, [], ◌∷◌, ◌++◌, length, Option, Some, None, refl, sym, ◌∙◌, ap, arith}
use Rattle.std.specs.List.{list_any, count_by}
use Rattle.std.proofs.lemmas.List.{length_push}
use Rattle.lapin_tables.specs.Numbered.{under, with_under}
use Rattle.lapin_tables.proofs.Counts.{count-cons}
use Rattle.lapin_tables.proofs.SlotLaws.{under-last, under-push, under-other}
use Rattle.lapin_confirm.specs.declared.cell.Cell.{Cell}
use Rattle.lapin_confirm.specs.declared.cell.Cell.TheVariants as cell
use Rattle.lapin_confirm.specs.PublishStates.{is_queued, is_queued_on, is_pending_on, is_open_on}

module _ {X : Type 0} (p : X → Bool) where
  none_behind : (x : X) (xs : List X) → count_by p (x ∷ xs) ≡ 0 → count_by p xs ≡ 0
  none_behind x xs none = omega (arith, count-cons p x xs)

  not-here : (x : X) (xs : List X) → count_by p (x ∷ xs) ≡ 0 → p x ≡ false
  not-here x xs none =
      elim (p x) as (λ b. cond b 1 0 + count_by p xs ≡ 0 → b ≡ false) [
        | true ↦ λ h. absurd (omega arith)
        | false ↦ λ h. refl
      ] (sym (count-cons p x xs) ∙ none)

-- Nothing of a channel is open where none is pending and none is queued.
pub none_open : (c : ℕ) (cells : List (Option Cell)) → count_by (is_pending_on c) cells ≡ 0 → count_by (is_queued_on c) cells ≡ 0 → list_any (is_open_on c) cells ≡ false
none_open c [] pending queued = refl
none_open c (None ∷ cells) pending queued = none_open c cells (none_behind (is_pending_on c) None cells pending) (none_behind (is_queued_on c) None cells queued)
none_open c (Some (cell.Queued d) ∷ cells) pending queued =
    let apart : (d == c) ≡ false = not-here (is_queued_on c) (Some (cell.Queued d)) cells queued in
    rw apart (none_open c cells (none_behind (is_pending_on c) (Some (cell.Queued d)) cells pending) (none_behind (is_queued_on c) (Some (cell.Queued d)) cells queued))
none_open c (Some (cell.Pending d t) ∷ cells) pending queued =
    let apart : (d == c) ≡ false = not-here (is_pending_on c) (Some (cell.Pending d t)) cells pending in
    rw apart (none_open c cells (none_behind (is_pending_on c) (Some (cell.Pending d t)) cells pending) (none_behind (is_queued_on c) (Some (cell.Pending d t)) cells queued))
none_open c (Some (cell.Resolved o) ∷ cells) pending queued = none_open c cells (none_behind (is_pending_on c) (Some (cell.Resolved o)) cells pending) (none_behind (is_queued_on c) (Some (cell.Resolved o)) cells queued)

-- The first of two publishes that were added still waits when the second has left.
pub first_waits : (n m c : ℕ) (o : Option Cell) (cells : List (Option Cell)) → n ≡ length cells + 1 → m ≡ length (cells ++ Some (cell.Queued c) ∷ []) + 1 → is_queued (under n (with_under m o ((cells ++ Some (cell.Queued c) ∷ []) ++ Some (cell.Queued c) ∷ []))) ≡ true
first_waits n m c o cells first second =
    let added : Option Cell = Some (cell.Queued c) in
    let longer : length (cells ++ added ∷ []) ≡ length cells + 1 = length_push cells added in
    let here : under n (cells ++ added ∷ []) ≡ added = under-last n added cells first in
    let still : under n ((cells ++ added ∷ []) ++ added ∷ []) ≡ added = under-push n added (cell.Queued c) (cells ++ added ∷ []) here in
    let apart : n ≢ m = λ same. absurd (omega (arith, first, second, longer, same)) in
    ap is_queued (under-other n m o ((cells ++ added ∷ []) ++ added ∷ []) apart ∙ still)
