use Rattle.std.proofs.Common.{◌+◌, ◌++◌, ℕ, List, Option, length}
use Rattle.lapin_text.specs.Input.{AreSteps}
use Rattle.lapin_text.proofs.parsing.read_steps.Given as goal

-- what was read so far, before whatever is read after it
abbrev pub invariant-loop-line : goal.invariant-loop-line
invariant-loop-line g l = (more : List _) (bad : Option ℕ) → AreSteps g.R.ReadLine.line_of g.R.ReadLine.has_line (2 + length l.steps.items) l.lines more bad → AreSteps g.R.ReadLine.line_of g.R.ReadLine.has_line 2 l.initial.lines (l.steps.items ++ more) bad

abbrev pub decreases-loop-line : goal.decreases-loop-line
decreases-loop-line g l = length l.lines
