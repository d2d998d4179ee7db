use Rattle.std.proofs.Common.{◌-◌}
use Rattle.lapin_outbox.specs.Passing.{not_full, AreHeld, NonePasses}
use Rattle.lapin_outbox.proofs.passing.pass_over.Given as goal

abbrev pub invariant-loop-passed : goal.invariant-loop-passed
invariant-loop-passed g l = record {
  held : AreHeld l.passed l.held l.order.keys;
  none : NonePasses (not_full (g.F.FullChannels.full l.full)) l.passed l.order.keys;
}

abbrev pub decreases-loop-passed : goal.decreases-loop-passed
decreases-loop-passed g l = l.count - l.passed
