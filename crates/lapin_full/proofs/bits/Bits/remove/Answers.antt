use Rattle.std.proofs.Common.{arith}
use Rattle.lapin_full.proofs.Numbers.{fewer}
use Rattle.lapin_full.proofs.bits.Bits.remove.Goals as goal

pub returns-clause-fewer : goal.returns-clause-fewer
returns-clause-fewer c = rw (← c.self.view_is) (fewer c.self.inside.words.items c.args.number c.place_of-place.result c.without_bit-word.result c.index.result.now c.place_of-place.ensures.place (omega (arith, c.len.ensures, c.if-len-place.false)) (omega (arith, c.without_bit-word.ensures.fewer, c.index.ensures)))
