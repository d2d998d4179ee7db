use Rattle.std.proofs.Common.{◌<◌, arith}
use Rattle.lapin_shared.proofs.hand.index_of.Goals as goal

pub unreachable-requires : goal.unreachable-requires
unreachable-requires c =
    let h = c.requires in
    let lt : h.0 < c.loop-k.k = omega (arith, h.1.inside) in
    c.loop-k.invariant h.0 h.1.entry lt h.1.stands h.1.is
