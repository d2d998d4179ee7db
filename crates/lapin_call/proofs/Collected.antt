-- One poll more: where it gives an item, the polls that are left go on from there; where it gives none, there are no more.
use Rattle.std.proofs.Common.{◌≡◌, ◌∙◌, ℕ, suc, true, false, cond, Option, sym, ap}
use Rattle.std.specs.Prelude.{Result}
use Rattle.lapin_types.specs.declared.event.Event.TheVariants as event
use Rattle.lapin_types.specs.declared.message.Delivery.{Delivery}
use Rattle.lapin_types.specs.Types.{Error}
use Rattle.lapin_machine.specs.World.{World, told_by, next}
use Rattle.lapin_machine.specs.Way.{by_machine}
use Rattle.lapin_call.specs.Calls.{item_of, is_item, Gathered, heard, polled, polls, waiting_for}
use Rattle.lapin_call.proofs.Items.{one_fewer}

-- what a poll told and left, and what was heard of it
polled_is : (n : ℕ) (o : Option (Result Delivery Error)) (v : World) (g : Gathered World) → o ≡ item_of (told_by g.session (event.PollConsumer n)) → v ≡ next g.session (event.PollConsumer n) → polled by_machine n g ≡ heard o v g
polled_is n o v g told stepped = λ i. heard (sym told i) (sym stepped i) g

pub poll_item : (n : ℕ) (o : Option (Result Delivery Error)) (v : World) (g : Gathered World) → o ≡ item_of (told_by g.session (event.PollConsumer n)) → v ≡ next g.session (event.PollConsumer n) → is_item o ≡ true → polls by_machine n (suc (waiting_for n g.session.wire)) g ≡ polls by_machine n (suc (waiting_for n v.wire)) (heard o v g)
poll_item n o v g told stepped item =
    let is : is_item (item_of (told_by g.session (event.PollConsumer n))) ≡ true = ap is_item (sym told) ∙ item in
    let m : ℕ = waiting_for n g.session.wire in
    ap (λ b. cond b (polls by_machine n m (polled by_machine n g)) (polled by_machine n g)) is
    ∙ ap (λ k. polls by_machine n k (polled by_machine n g)) (one_fewer n g.session v stepped is)
    ∙ ap (polls by_machine n (suc (waiting_for n v.wire))) (polled_is n o v g told stepped)

pub poll_none : (n m : ℕ) (o : Option (Result Delivery Error)) (v : World) (g : Gathered World) → o ≡ item_of (told_by g.session (event.PollConsumer n)) → v ≡ next g.session (event.PollConsumer n) → is_item o ≡ false → polls by_machine n (suc m) g ≡ heard o v g
poll_none n m o v g told stepped none =
    let is : is_item (item_of (told_by g.session (event.PollConsumer n))) ≡ false = ap is_item (sym told) ∙ none in
    ap (λ b. cond b (polls by_machine n m (polled by_machine n g)) (polled by_machine n g)) is ∙ polled_is n o v g told stepped
