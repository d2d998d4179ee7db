use Rattle.std.proofs.Common.{◌-◌, ◌≤◌}
use Rattle.lapin_outbox.specs.Passing.{not_full, AreHeld}
use Rattle.lapin_outbox.proofs.PassedOver.{SearchDone}
use Rattle.lapin_outbox.proofs.passing.first_held.Given as goal

abbrev pub invariant-loop-key : goal.invariant-loop-key
invariant-loop-key g l = record {
  held : AreHeld l.passed l.held l.order.keys;
  done : SearchDone (not_full (g.F.FullChannels.full l.full)) l.passed l.held l.order.keys l.best l.from;
  within : l.from ≤ 65536;
}

abbrev pub decreases-loop-key : goal.decreases-loop-key
decreases-loop-key g l = 65536 - l.from
