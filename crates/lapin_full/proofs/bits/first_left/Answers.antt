use Rattle.std.proofs.Common.{arith}
use Rattle.lapin_full.proofs.Numbers.{first-here}
use Rattle.lapin_full.proofs.bits.first_left.Goals as goal

pub returns-then-left-ne0 : goal.returns-then-left-ne0
returns-then-left-ne0 c = first-here c.args.words.now c.args.others.now c.loop-place.place c.args.from c.left_at-left.result c.number_at.result c.loop-place.invariant.done c.left_at-left.ensures (omega (arith, c.if-left-ne0.true)) c.left_at-left.type_inv c.number_at.ensures
