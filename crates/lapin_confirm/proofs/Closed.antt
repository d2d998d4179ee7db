-- Every publish of a channel has an outcome once an opening of the channel has ended.
use Rattle.std.proofs.Common.{◌≡◌, ℕ, zero, suc, ◌<◌, ◌≤◌, true, false, List, [], ◌∷◌, ◌++◌, Option, Some, None, refl, subst, arith, eq-eqb}
use Rattle.std.specs.Option.{option_or}
use Rattle.lapin_types.specs.declared.Error.{Error}
use Rattle.lapin_types.specs.declared.outcome.Outcome.{Outcome}
use Rattle.lapin_types.specs.declared.outcome.Outcome.TheVariants as outcome
use Rattle.lapin_rules.specs.ConfirmMarks.{ConfirmMark}
use Rattle.lapin_rules.specs.ConfirmMarks as mark
use Rattle.lapin_rules.specs.Words.{after}
use Rattle.lapin_rules.specs.ConfirmReadings.{leaves, has_left, channel_of, tag_of, added, life, first_settled, first_rejected, outcome_after, outcome_at, is_open_outcome}
use Rattle.lapin_rules.proofs.ListLaws.{after-push, through-push}
use Rattle.lapin_rules.proofs.ConfirmLaws.{settled-push, rejected-push, accepted-push, life-push}
use Rattle.lapin_confirm.specs.Follows.{WasAdded}
use Rattle.lapin_confirm.proofs.CellFollowing.{left-push}

-- the first or another: one of them is there
there_or : (o : Option Outcome) (x : Outcome) → is_open_outcome (option_or o (Some x)) ≡ false
there_or None x = refl
there_or (Some y) x = refl

-- a publish that left
left-closed : (c : ℕ) (t : Option ℕ) (later : List ConfirmMark) (e : Error) → is_open_outcome (outcome_after c t (later ++ mark.Ended c e ∷ [])) ≡ false
left-closed c None later e = refl
left-closed c (Some t) later e = rw (settled-push c t later (mark.Ended c e), eq-eqb c c refl) (there_or (first_settled c t later) (outcome.Failed e))

-- and one that did not
queued-closed : (c : ℕ) (later : List ConfirmMark) (e : Error) → is_open_outcome (first_rejected c (later ++ mark.Ended c e ∷ [])) ≡ false
queued-closed c later e = rw (rejected-push c later (mark.Ended c e), eq-eqb c c refl) (there_or (first_rejected c later) (outcome.Failed e))

-- an end of the publish's channel
own-closed : (k : ℕ) (e : Error) (ms : List ConfirmMark) → k < added ms → is_open_outcome (outcome_at (suc k) (ms ++ mark.Ended (channel_of (suc k) ms) e ∷ [])) ≡ false
own-closed k e ms known =
    let m : ConfirmMark = mark.Ended (channel_of (suc k) ms) e in
    elim (has_left (suc k) ms) as (λ b. has_left (suc k) ms ≡ b → is_open_outcome (outcome_at (suc k) (ms ++ m ∷ [])) ≡ false) [
      | true ↦ λ left. rw (left-push (suc k) ms m, left, accepted-push k ms m known, through-push (leaves (suc k)) ms m, left, after-push (leaves (suc k)) ms m, left) (left-closed (channel_of (suc k) ms) (tag_of (suc k) ms) (after (leaves (suc k)) ms) e)
      | false ↦ λ left. rw (left-push (suc k) ms m, left, accepted-push k ms m known, life-push k ms m known) (queued-closed (channel_of (suc k) ms) (life (suc k) ms) e)
    ] refl

pub end-closes : (n c : ℕ) (e : Error) (ms : List ConfirmMark) → WasAdded n ms → channel_of n ms ≡ c → is_open_outcome (outcome_at n (ms ++ mark.Ended c e ∷ [])) ≡ false
end-closes zero c e ms known own = let none : 1 ≤ 0 = known.0 in absurd (omega arith)
end-closes (suc k) c e ms known own =
    let P : ℕ → Type 0 = λ d. is_open_outcome (outcome_at (suc k) (ms ++ mark.Ended d e ∷ [])) ≡ false in
    let last : suc k ≤ added ms = known.1 in
    subst P own (own-closed k e ms (omega arith))

-- and a close of this side resolves every publish of the channel that has not left
pub close-rejects : (n : ℕ) (e : Error) (ms : List ConfirmMark) → WasAdded n ms → has_left n ms ≡ false → is_open_outcome (outcome_at n (ms ++ mark.ClosedHere (channel_of n ms) e ∷ [])) ≡ false
close-rejects zero e ms known left = let none : 1 ≤ 0 = known.0 in absurd (omega arith)
close-rejects (suc k) e ms known left =
    let m : ConfirmMark = mark.ClosedHere (channel_of (suc k) ms) e in
    let last : suc k ≤ added ms = known.1 in
    rw (left-push (suc k) ms m, left, accepted-push k ms m (omega arith), life-push k ms m (omega arith), rejected-push (channel_of (suc k) ms) (life (suc k) ms) m, eq-eqb (channel_of (suc k) ms) (channel_of (suc k) ms) refl)
    (there_or (first_rejected (channel_of (suc k) ms) (life (suc k) ms)) (outcome.Failed e))
