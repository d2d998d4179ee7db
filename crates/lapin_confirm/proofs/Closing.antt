-- A close of this side, as its publishes are rejected one after another.
use Rattle.std.proofs.Common.{◌≡◌, ◌≢◌, ℕ, suc, ◌+◌, ◌≤◌, ◌==◌, true, false, cond, List, [], ◌∷◌, map, Option, Some, None, refl, ◌∙◌, ap, arith, inl, inr, eq-eqb, ne_eqb}
use Rattle.std.specs.List.{count_by}
use Rattle.std.specs.Option.{option_map}
use Rattle.std.proofs.lemmas.Bool.Decides.{eqb_tells}
use Rattle.lapin_types.specs.declared.Error.{Error}
use Rattle.lapin_types.specs.declared.outcome.Outcome.TheVariants as outcome
use Rattle.lapin_tables.specs.Numbered.{under}
use Rattle.lapin_tables.proofs.SlotLaws.{count-with, counted, map-kept}
use Rattle.lapin_confirm.specs.declared.cell.Cell.{Cell}
use Rattle.lapin_confirm.specs.declared.cell.Cell.TheVariants as cell
use Rattle.lapin_confirm.specs.PublishStates.{PublishStates, is_queued_on, queued_count, closed_cell, closed_here, rejected, ended_cell, ended}
use Rattle.lapin_rules.specs.ConfirmMarks as mark
use Rattle.lapin_confirm.specs.ConfirmState.{ConfirmState}
use Rattle.lapin_confirm.specs.Machine.{after_mark, rejected as rejected_on}
use Rattle.lapin_confirm.proofs.ConfirmModes.{same-publish_states, same-confirm_state}
use Rattle.lapin_confirm.proofs.Ended.{map-with, ended-rejected}

pub close-next : (c n : ℕ) (e : Error) (b : PublishStates) → under n b.cells ≡ Some (cell.Queued c) → closed_here c e (rejected n e b) ≡ closed_here c e b
close-next c n e b was = same-publish_states _ _ _ _ refl (map-with (option_map (closed_cell c e)) n (Some (cell.Resolved (outcome.Failed e))) (cell.Queued c) b.cells was (rw (eq-eqb c c refl) refl))

pub close-done : (c : ℕ) (e : Error) (b : PublishStates) → queued_count c b ≡ 0 → closed_here c e b ≡ b
close-done c e b none = same-publish_states _ _ _ _ refl (map-kept (closed_cell c e) b.cells stays)
  where
    stays : (k : ℕ) (x : Cell) → under (suc k) b.cells ≡ Some x → closed_cell c e x ≡ x
    stays k (cell.Queued d) there =
        elim (eqb_tells d c) [
          | inl here ↦ let one : 1 ≤ count_by (is_queued_on c) b.cells = counted (is_queued_on c) (suc k) (cell.Queued d) b.cells there here.0 in absurd (omega arith)
          | inr away ↦ rw away.0 refl
        ]
    stays k (cell.Pending d t) there = refl
    stays k (cell.Resolved o) there = refl

pub close-less : (c n : ℕ) (e : Error) (b : PublishStates) → under n b.cells ≡ Some (cell.Queued c) → queued_count c (rejected n e b) + 1 ≡ queued_count c b
close-less c n e b was =
    let step : queued_count c (rejected n e b) + 1 ≡ queued_count c b + 0 = rw (eq-eqb c c refl) at (count-with (is_queued_on c) n (Some (cell.Resolved (outcome.Failed e))) (cell.Queued c) b.cells was) in
    omega arith

pub close-other : (c d n : ℕ) (e : Error) (b : PublishStates) → under n b.cells ≡ Some (cell.Queued c) → c ≢ d → queued_count d (rejected n e b) ≡ queued_count d b
close-other c d n e b was apart =
    let step : queued_count d (rejected n e b) + 0 ≡ queued_count d b + 0 = rw (ne_eqb c d apart) at (count-with (is_queued_on d) n (Some (cell.Resolved (outcome.Failed e))) (cell.Queued c) b.cells was) in
    omega arith

end-closed : (c : ℕ) (e : Error) (cells : List (Option Cell)) → map (option_map (ended_cell c e)) (map (option_map (closed_cell c e)) cells) ≡ map (option_map (ended_cell c e)) cells
end-closed c e [] = refl
end-closed c e (o ∷ cells) = ap (λ q. q ∷ map (option_map (ended_cell c e)) (map (option_map (closed_cell c e)) cells)) (one o) ∙ ap (λ qs. option_map (ended_cell c e) o ∷ qs) (end-closed c e cells)
  where
    one : (o : Option Cell) → option_map (ended_cell c e) (option_map (closed_cell c e) o) ≡ option_map (ended_cell c e) o
    one None = refl
    one (Some (cell.Queued d)) = elim (d == c) as (λ b. (d == c) ≡ b → Some (ended_cell c e (cond b (cell.Resolved (outcome.Failed e)) (cell.Queued d))) ≡ Some (cond b (cell.Resolved (outcome.Failed e)) (cell.Queued d))) [ true ↦ λ h. refl | false ↦ λ h. rw h refl ] refl
    one (Some (cell.Pending d t)) = refl
    one (Some (cell.Resolved x)) = refl

pub end-close : (c : ℕ) (e : Error) (b : PublishStates) → ended c e (closed_here c e b) ≡ ended c e b
end-close c e b = same-publish_states _ _ _ _ refl (end-closed c e b.cells)

-- ---- confirms with their return lists and origins, which stay

pub all-next : (c n : ℕ) (e : Error) (p : ConfirmState) → under n p.publish_states.cells ≡ Some (cell.Queued c) → after_mark (rejected_on n e p) (mark.ClosedHere c e) ≡ after_mark p (mark.ClosedHere c e)
all-next c n e p was = same-confirm_state _ _ _ _ _ _ (close-next c n e p.publish_states was) refl refl

pub all-done : (c : ℕ) (e : Error) (p : ConfirmState) → queued_count c p.publish_states ≡ 0 → after_mark p (mark.ClosedHere c e) ≡ p
all-done c e p none = same-confirm_state _ _ _ _ _ _ (close-done c e p.publish_states none) refl refl

pub all-end : (c : ℕ) (e : Error) (p : ConfirmState) → after_mark (after_mark p (mark.ClosedHere c e)) (mark.Ended c e) ≡ after_mark p (mark.Ended c e)
all-end c e p = same-confirm_state _ _ _ _ _ _ (end-close c e p.publish_states) refl refl

pub all-ended : (c n : ℕ) (e : Error) (p : ConfirmState) → under n p.publish_states.cells ≡ Some (cell.Queued c) → after_mark (rejected_on n e p) (mark.Ended c e) ≡ after_mark p (mark.Ended c e)
all-ended c n e p was = same-confirm_state _ _ _ _ _ _ (same-publish_states _ _ _ _ refl (ended-rejected c n e p.publish_states.cells was)) refl refl
