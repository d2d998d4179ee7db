use Rattle.std.proofs.Common.{◌++◌, List, length-append, arith}
use Rattle.lapin_acker.specs.declared.blocks.Block.{Block}
use Rattle.lapin_acker.specs.declared.switch.Switch.{Switch}
use Rattle.lapin_acker.specs.Blocks.{laid}
use Rattle.lapin_acker.proofs.InBlocks.{length-laid}
use Rattle.lapin_acker.proofs.cells.Cells.pass.Goals as goal

pub returns-else-is_empty-clause-count : goal.returns-else-is_empty-clause-count
returns-else-is_empty-clause-count c =
    let bs : List Block = c.self.inside.blocks.items in
    let ds : List Block = c.pass_block.new.blocks.items in
    let ts : List Switch = c.self.inside.tail.items in
    let us : List Switch = c.args.passed.now.used in
    let vs : List Switch = c.pass_block.new.passed.used in
    rw (← c.self.view_is) (omega (arith, c.pass_block.ensures.gone, c.pass_block.ensures.count, length-append us (laid bs ++ ts), length-append (laid bs) ts, length-append vs (laid ds ++ ts), length-append (laid ds) ts, length-laid bs, length-laid ds))

pub returns-else-is_empty-clause-more : goal.returns-else-is_empty-clause-more
returns-else-is_empty-clause-more c =
    let bs : List Block = c.self.inside.blocks.items in
    let ds : List Block = c.pass_block.new.blocks.items in
    let ts : List Switch = c.self.inside.tail.items in
    let us : List Switch = c.args.passed.now.used in
    let vs : List Switch = c.pass_block.new.passed.used in
    rw (← c.self.view_is) (omega (arith, c.pass_block.ensures.count, length-append us (laid bs ++ ts), length-append (laid bs) ts, length-append vs (laid ds ++ ts), length-append (laid ds) ts, length-laid bs, length-laid ds))
