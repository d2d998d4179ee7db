-- An outcome that is there stays, whatever comes.
use Rattle.std.proofs.Common.{◌≡◌, ℕ, zero, suc, ◌<◌, ◌≤◌, true, false, cond, List, [], ◌∷◌, ◌++◌, Option, Some, None, refl, ◌∙◌, ap, subst, arith, eqb-true}
use Rattle.std.specs.Option.{option_or}
use Rattle.lapin_types.specs.declared.outcome.Outcome.{Outcome}
use Rattle.lapin_rules.specs.ConfirmMarks.{ConfirmMark}
use Rattle.lapin_rules.specs.ConfirmMarks as mark
use Rattle.lapin_rules.specs.Words.{after}
use Rattle.lapin_rules.specs.ConfirmReadings.{leaves, has_left, channel_of, tag_of, settlement_on, first_settled, first_rejected, rejection_on, life, added, outcome_at, outcome_after, is_open_outcome}
use Rattle.lapin_rules.proofs.ListLaws.{after-push, through-push}
use Rattle.lapin_rules.proofs.ConfirmLaws.{settled-push, rejected-push, accepted-push, life-push}
use Rattle.lapin_confirm.specs.Follows.{WasAdded, MayCome}
use Rattle.lapin_confirm.proofs.CellFollowing.{left-push, IsQueued, queued_facts}

settled_or : (o p : Option Outcome) → is_open_outcome o ≡ false → option_or o p ≡ o
settled_or None p h = cc
settled_or (Some x) p h = refl

after_stays : (c : ℕ) (t : Option ℕ) (later : List ConfirmMark) (m : ConfirmMark) → is_open_outcome (outcome_after c t later) ≡ false → outcome_after c t (later ++ m ∷ []) ≡ outcome_after c t later
after_stays c None later m h = refl
after_stays c (Some t) later m h = settled-push c t later m ∙ settled_or (first_settled c t later) (settlement_on c t m) h

-- an outcome that is there is the outcome of every longer history
pub outcome-push : (k : ℕ) (ms : List ConfirmMark) (m : ConfirmMark) → k < added ms → MayCome ms m → is_open_outcome (outcome_at (suc k) ms) ≡ false → outcome_at (suc k) (ms ++ m ∷ []) ≡ outcome_at (suc k) ms
outcome-push k ms m known may h =
    elim (has_left (suc k) ms) as (λ b. has_left (suc k) ms ≡ b → is_open_outcome (cond b (outcome_after (channel_of (suc k) ms) (tag_of (suc k) ms) (after (leaves (suc k)) ms)) (first_rejected (channel_of (suc k) ms) (life (suc k) ms))) ≡ false → outcome_at (suc k) (ms ++ m ∷ []) ≡ cond b (outcome_after (channel_of (suc k) ms) (tag_of (suc k) ms) (after (leaves (suc k)) ms)) (first_rejected (channel_of (suc k) ms) (life (suc k) ms))) [
      | true ↦ λ left h. rw (left-push (suc k) ms m, left, accepted-push k ms m known, through-push (leaves (suc k)) ms m, left, after-push (leaves (suc k)) ms m, left) (after_stays (channel_of (suc k) ms) (tag_of (suc k) ms) (after (leaves (suc k)) ms) m h)
      | false ↦ λ left h.
          elim (leaves (suc k) m) as (λ b. leaves (suc k) m ≡ b → outcome_at (suc k) (ms ++ m ∷ []) ≡ first_rejected (channel_of (suc k) ms) (life (suc k) ms)) [
            | true ↦ λ goes. absurd (unrejected (suc k) ms m may goes h)
            | false ↦ λ away. rw (left-push (suc k) ms m, left, away, accepted-push k ms m known, life-push k ms m known, rejected-push (channel_of (suc k) ms) (life (suc k) ms) m) (settled_or (first_rejected (channel_of (suc k) ms) (life (suc k) ms)) (rejection_on (channel_of (suc k) ms) m) h)
          ] refl
    ] refl h
  where
    unrejected : (n : ℕ) (ms : List ConfirmMark) (m : ConfirmMark) → MayCome ms m → leaves n m ≡ true → is_open_outcome (first_rejected (channel_of n ms) (life n ms)) ≡ false → ⊥
    unrejected n ms (mark.Left c j) may goes h =
        let same : j ≡ n = eqb-true j n goes in
        let facts : IsQueued c j ms = queued_facts c j ms may.1 in
        let P : ℕ → Type 0 = λ i. first_rejected (channel_of i ms) (life i ms) ≡ None in
        let none : first_rejected (channel_of n ms) (life n ms) ≡ None = subst P same facts.unrejected in
        let open_ : is_open_outcome (first_rejected (channel_of n ms) (life n ms)) ≡ true = ap is_open_outcome none in
        cc
    unrejected n ms _ may goes h = cc

pub outcome-stays : (n : ℕ) (ms : List ConfirmMark) (m : ConfirmMark) → WasAdded n ms → MayCome ms m → is_open_outcome (outcome_at n ms) ≡ false → outcome_at n (ms ++ m ∷ []) ≡ outcome_at n ms
outcome-stays zero ms m known may h = let none : 1 ≤ 0 = known.0 in absurd (omega arith)
outcome-stays (suc k) ms m known may h = let last : suc k ≤ added ms = known.1 in outcome-push k ms m (omega arith) may h
