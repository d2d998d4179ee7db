use Rattle.std.proofs.Common.{length}
use Rattle.lapin_text.proofs.parsing.steps_at_most.Given as goal

abbrev pub decreases-loop-line : goal.decreases-loop-line
decreases-loop-line l = length l.ahead
