-- Where confirms begin, and what a settlement leaves.
use Rattle.std.proofs.Common.{◌≡◌, ℕ, ◌<◌, ◌≤◌, ◌==◌, Bool, true, false, not, cond, ◌&&◌, ◌||◌, List, [], ◌∷◌, map, Option, Some, None, refl, ap, arith, inl, inr, ne_eqb}
use Rattle.std.specs.Prelude.{◌↔◌}
use Rattle.std.specs.List.{list_any}
use Rattle.std.specs.Option.{option_map}
use Rattle.std.proofs.lemmas.Bool.{le-leb, leb-true}
use Rattle.std.proofs.lemmas.Bool.Decides.{eqb_tells}
use Rattle.lapin_rules.specs.declared.marks.SettleKind.{SettleKind}
use Rattle.lapin_types.specs.declared.outcome.Outcome.{Outcome}
use Rattle.lapin_rules.specs.ConfirmReadings.{covers}
use Rattle.lapin_confirm.specs.declared.cell.Cell.{Cell}
use Rattle.lapin_confirm.specs.declared.cell.Cell.TheVariants as cell
use Rattle.lapin_confirm.specs.PublishStates.{multiple_of, settled_cell, is_pending_as}
use Rattle.lapin_confirm.specs.ConfirmState.{empty_confirm_state}
use Rattle.lapin_confirm.specs.Follows.{Follows}

-- the history without a mark
pub nothing : Follows [] empty_confirm_state
nothing = record {
  came = tt;
  confirm_modes = λ c. refl;
  count = refl;
  cells = λ k lt. absurd (omega arith);
  places = refl;
  origins = λ k lt. absurd (omega arith);
  returned_by_channel = λ c. refl;
  return_lists = λ c. refl;
}

pub up_to : (kind : SettleKind) (tag t : ℕ) → 0 < tag → (covers (multiple_of kind tag) t ≡ true) ↔ (t ≤ tag)
up_to kind tag t above =
    let apart : (tag == 0) ≡ false = ne_eqb tag 0 (λ none. absurd (omega arith)) in
    (λ covered. leb-true t tag (rw apart at covered), λ below. rw apart (le-leb t tag below))

-- whether a cell is pending after a settlement
stays : (c t : ℕ) (p : ℕ → Bool) (x : Outcome) (o : Option Cell) → is_pending_as c t (option_map (settled_cell c p x) o) ≡ (is_pending_as c t o && not (p t))
stays c t p x None = refl
stays c t p x (Some (cell.Queued d)) = refl
stays c t p x (Some (cell.Pending d u)) =
    elim (eqb_tells d c) [
      | inl here ↦ elim (eqb_tells u t) [
        | inl same ↦
            let of : p u ≡ p t = ap p same.1 in
            rw (here.0, of, same.0) (elim (p t) as (λ b. is_pending_as c t (Some (cond b (cell.Resolved x) (cell.Pending d u))) ≡ not b) [ true ↦ refl | false ↦ rw (here.0, same.0) refl ])
        | inr other ↦ rw (here.0, other.0) (elim (p u) as (λ b. is_pending_as c t (Some (cond b (cell.Resolved x) (cell.Pending d u))) ≡ false) [ true ↦ refl | false ↦ rw (here.0, other.0) refl ])
      ]
      | inr away ↦ rw (away.0, away.0) refl
    ]
stays c t p x (Some (cell.Resolved o)) = refl

pub any-stays : (c t : ℕ) (p : ℕ → Bool) (x : Outcome) (cells : List (Option Cell)) → list_any (is_pending_as c t) (map (option_map (settled_cell c p x)) cells) ≡ (list_any (is_pending_as c t) cells && not (p t))
any-stays c t p x [] = refl
any-stays c t p x (o ∷ cells) = rw (stays c t p x o, any-stays c t p x cells) (spread (is_pending_as c t o) (list_any (is_pending_as c t) cells) (not (p t)))
  where
    spread : (a b q : Bool) → ((a && q) || (b && q)) ≡ ((a || b) && q)
    spread true true true = refl
    spread true true false = refl
    spread true false true = refl
    spread true false false = refl
    spread false b q = refl
