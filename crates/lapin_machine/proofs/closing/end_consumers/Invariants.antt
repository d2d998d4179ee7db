use Rattle.std.proofs.Common.{◌≡◌, ◌≤◌, ◌-◌}
use Rattle.std.specs.List.{fold}
use Rattle.lapin_consumer.specs.WithRoom.{HasEnds}
use Rattle.lapin_rules.specs.Ends.{deliveries_ends, live_below}
use Rattle.lapin_delivery.specs.WithRoom.{what}
use Rattle.lapin_delivery.specs.Deliveries.{after_mark}
use Rattle.lapin_machine.proofs.closing.end_consumers.Given as goal

abbrev pub invariant-loop-number : goal.invariant-loop-number
invariant-loop-number l = record {
  within : l.number ≤ l.reach;
  ended : what l.deliveries ≡ fold after_mark (what l.initial.deliveries) (deliveries_ends l.error (live_below l.number l.phases.entries));
  room : HasEnds l.deliveries.consumers;
}

abbrev pub decreases-loop-number : goal.decreases-loop-number
decreases-loop-number l = l.reach - l.number
