use Rattle.std.proofs.Common.{sym, ◌∙◌, arith}
use Rattle.lapin_tables.proofs.Halves.{in-first, in-second}
use Rattle.lapin_tables.proofs.block.Block.mark.Goals as goal

pub returns-then-place-lt-IN_A_HALF : goal.returns-then-place-lt-IN_A_HALF
returns-then-place-lt-IN_A_HALF c = c.mark.ensures ∙ sym (in-first c.args.place c.args.self.now (omega arith))

pub returns-else-place-lt-IN_A_HALF : goal.returns-else-place-lt-IN_A_HALF
returns-else-place-lt-IN_A_HALF c = c.mark-else-place-lt-IN_A_HALF.ensures ∙ sym (in-second c.args.place c.args.self.now (omega arith))
