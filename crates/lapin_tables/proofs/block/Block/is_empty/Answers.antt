use Rattle.lapin_tables.proofs.Halves.{both-empty}
use Rattle.lapin_tables.proofs.block.Block.is_empty.Goals as goal

pub returns-then-is_empty : goal.returns-then-is_empty
returns-then-is_empty c = λ done. both-empty c.args.self.now (c.is_empty.ensures c.if-is_empty.true) (c.is_empty-then-is_empty.ensures done)
