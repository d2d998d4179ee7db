use Rattle.std.proofs.Common.{length}
use Rattle.lapin_reasons.proofs.lines.first_bad.Given as goal

abbrev pub decreases-loop-line : goal.decreases-loop-line
decreases-loop-line l = length l.lines
