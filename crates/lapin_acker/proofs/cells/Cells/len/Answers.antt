use Rattle.std.proofs.Common.{List, length-append, arith}
use Rattle.lapin_acker.specs.declared.blocks.Block.{Block}
use Rattle.lapin_acker.specs.declared.switch.Switch.{Switch}
use Rattle.lapin_acker.specs.Blocks.{laid}
use Rattle.lapin_acker.proofs.InBlocks.{length-laid}
use Rattle.lapin_acker.proofs.cells.Cells.len.Goals as goal

pub returns : goal.returns
returns c =
    let bs : List Block = c.self.inside.blocks.items in
    let ts : List Switch = c.self.inside.tail.items in
    rw (← c.self.view_is) (omega (arith, c.len.ensures, c.len-2.ensures, length-laid bs, length-append (laid bs) ts))
