-- What the ends of the live openings make of confirms, one by one.
use Rattle.std.proofs.Common.{◌≡◌, ℕ, ◌+◌, true, false, cond, List, [], ◌∷◌, ◌++◌, Some, None, refl, sym, ◌∙◌, ap}
use Rattle.std.specs.List.{fold}
use Rattle.lapin_types.specs.declared.Error.{Error}
use Rattle.lapin_tables.specs.ByChannel.{at_channel}
use Rattle.lapin_rules.specs.declared.phases.ChannelPhase.{ChannelPhase}
use Rattle.lapin_rules.specs.Phases.{is_live, phase_in}
use Rattle.lapin_rules.specs.Ends.{ends, live_below}
use Rattle.lapin_rules.proofs.EndLaws.{live-next}
use Rattle.lapin_rules.specs.ConfirmMarks as mark
use Rattle.lapin_confirm.specs.Machine.{after_mark}
use Rattle.lapin_confirm.specs.ConfirmState.{ConfirmState}
use Rattle.lapin_outstanding.specs.Live.{live_at}

pub ends-join : (e : Error) (xs ys : List ℕ) (b : ConfirmState) → fold after_mark b (ends e (xs ++ ys)) ≡ fold after_mark (fold after_mark b (ends e xs)) (ends e ys)
ends-join e [] ys b = refl
ends-join e (x ∷ xs) ys b = ends-join e xs ys (after_mark b (mark.Ended x e))

-- the channel of one more number
pub ends-next : (e : Error) (n : ℕ) (all : List (ℕ × ChannelPhase)) (start b after : ConfirmState) → b ≡ fold after_mark start (ends e (live_below n all)) → after ≡ fold after_mark b (ends e (live_at n all)) → after ≡ fold after_mark start (ends e (live_below (n + 1) all))
ends-next e n all start b after before is =
    is
    ∙ ap (λ x. fold after_mark x (ends e (live_at n all))) before
    ∙ sym (ends-join e (live_below n all) (live_at n all) start)
    ∙ ap (λ cs. fold after_mark start (ends e cs)) (sym (live-next n all))

-- a number that was found is that of a channel with a live opening
pub found-live : (e : Error) (n c : ℕ) (all : List (ℕ × ChannelPhase)) (b : ConfirmState) → Some c ≡ cond (is_live (phase_in (at_channel n all))) (Some n) None → after_mark b (mark.Ended c e) ≡ fold after_mark b (ends e (live_at n all))
found-live e n c all b = elim (is_live (phase_in (at_channel n all))) as (λ t. Some c ≡ cond t (Some n) None → after_mark b (mark.Ended c e) ≡ fold after_mark b (ends e (cond t (n ∷ []) []))) [
  | true ↦ λ h. let same : c ≡ n = cc in ap (λ d. after_mark b (mark.Ended d e)) same
  | false ↦ λ h. cc
]

pub none-live : (e : Error) (n : ℕ) (all : List (ℕ × ChannelPhase)) (b : ConfirmState) → None ≡ cond (is_live (phase_in (at_channel n all))) (Some n) None → b ≡ fold after_mark b (ends e (live_at n all))
none-live e n all b = elim (is_live (phase_in (at_channel n all))) as (λ t. None ≡ cond t (Some n) None → b ≡ fold after_mark b (ends e (cond t (n ∷ []) []))) [
  | true ↦ λ h. cc
  | false ↦ λ h. refl
]
