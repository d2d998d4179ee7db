-- What the ends of the live openings make of consumers and ackers, one by one.
use Rattle.std.proofs.Common.{◌≡◌, ℕ, ◌+◌, List, [], ◌∷◌, ◌++◌, Some, refl, sym, ◌∙◌, ap}
use Rattle.std.specs.List.{fold}
use Rattle.lapin_types.specs.Types.{Error}
use Rattle.lapin_rules.specs.declared.phases.ChannelPhase.{ChannelPhase}
use Rattle.lapin_rules.specs.Ends.{deliveries_ends, live_below}
use Rattle.lapin_rules.proofs.EndLaws.{live-next}
use Rattle.lapin_delivery.specs.Deliveries.{Deliveries, after_mark}
use Rattle.lapin_delivery.specs.Marks as mark
use Rattle.lapin_outstanding.specs.Live.{live_at}

deliveries-join : (e : Error) (xs ys : List ℕ) (i : Deliveries) → fold after_mark i (deliveries_ends e (xs ++ ys)) ≡ fold after_mark (fold after_mark i (deliveries_ends e xs)) (deliveries_ends e ys)
deliveries-join e [] ys i = refl
deliveries-join e (x ∷ xs) ys i = deliveries-join e xs ys (after_mark i (mark.Ended x (Some e)))

-- the channel of one more number
pub deliveries-ends-next : (e : Error) (n : ℕ) (all : List (ℕ × ChannelPhase)) (start i after : Deliveries) → i ≡ fold after_mark start (deliveries_ends e (live_below n all)) → after ≡ fold after_mark i (deliveries_ends e (live_at n all)) → after ≡ fold after_mark start (deliveries_ends e (live_below (n + 1) all))
deliveries-ends-next e n all start i after before is =
    is
    ∙ ap (λ x. fold after_mark x (deliveries_ends e (live_at n all))) before
    ∙ sym (deliveries-join e (live_below n all) (live_at n all) start)
    ∙ ap (λ cs. fold after_mark start (deliveries_ends e cs)) (sym (live-next n all))
