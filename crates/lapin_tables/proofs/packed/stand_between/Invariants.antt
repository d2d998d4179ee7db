use Rattle.std.proofs.Common.{◌≤◌}
use Rattle.lapin_tables.proofs.packed.stand_between.Given as goal

abbrev pub invariant-loop-place : goal.invariant-loop-place
invariant-loop-place g l = record { within : l.place ≤ 64 }

abbrev pub decreases-loop-place : goal.decreases-loop-place
decreases-loop-place g l = l.place
