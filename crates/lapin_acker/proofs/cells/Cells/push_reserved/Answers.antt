use Rattle.std.proofs.Common.{◌+◌, ◌^◌, ◌<◌, ◌++◌, List, length, length-append, arith}
use Rattle.lapin_acker.specs.declared.blocks.Block.{Block}
use Rattle.lapin_acker.specs.declared.switch.Switch.{Switch}
use Rattle.lapin_acker.specs.Blocks.{laid}
use Rattle.lapin_acker.proofs.InBlocks.{length-laid}
use Rattle.lapin_acker.proofs.cells.Cells.push_reserved.Goals as goal

pub invariant_of-self : goal.invariant_of-self
invariant_of-self c =
    let bs : List Block = c.self.inside.blocks.items in
    let ts : List Switch = c.self.inside.tail.items in
    let fits : length (laid bs ++ ts) + 1 < 2 ^ 64 = rw (← c.self.view_is) at c.requires.fits in
    omega (arith, fits, length-laid bs, length-append (laid bs) ts, c.push_back_reserved.ensures.len)
