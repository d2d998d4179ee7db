use Rattle.std.proofs.Common.{◌≡◌, ◌∙◌, ap, arith}
use Rattle.std.specs.List.{fold}
use Rattle.lapin_rules.specs.Ends.{deliveries_ends, live_below}
use Rattle.lapin_delivery.specs.WithRoom.{what}
use Rattle.lapin_delivery.specs.Deliveries.{after_mark}
use Rattle.lapin_machine.proofs.Ended.{deliveries-ends-next}
use Rattle.lapin_machine.proofs.closing.end_consumers.Goals as goal

pub loop-number-preserved : goal.loop-number-preserved
loop-number-preserved c = record {
  within = omega arith;
  ended = deliveries-ends-next c.args.error c.loop-number.number c.args.phases.now.entries (what c.args.deliveries.now) (what c.loop-number.deliveries) _ c.loop-number.invariant.ended c.end_consumers_at.ensures.ended;
  room = c.end_consumers_at.ensures.room;
}

pub returns : goal.returns
returns c =
    let last : c.loop-number.number ≡ c.reach-reach.result = omega arith in
    c.loop-number.invariant.ended
    ∙ ap (λ n. fold after_mark (what c.args.deliveries.now) (deliveries_ends c.args.error (live_below n c.args.phases.now.entries))) last
    ∙ ap (λ cs. fold after_mark (what c.args.deliveries.now) (deliveries_ends c.args.error cs)) c.reach-reach.ensures
