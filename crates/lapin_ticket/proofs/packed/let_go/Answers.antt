use Rattle.std.proofs.Common.{◌∙◌, ap}
use Rattle.lapin_ticket.specs.Packed.{packed_at}
use Rattle.lapin_ticket.proofs.Blocks.{spent-goes}
use Rattle.lapin_ticket.proofs.packed.let_go.Goals as goal

pub returns-then-is_spent-clause-same : goal.returns-then-is_spent-clause-same
returns-then-is_spent-clause-same c = λ n. ap (packed_at n) c.take.ensures.slots ∙ spent-goes c.args.index c.args.blocks.now.slots (c.is_spent.ensures c.if-is_spent.true) n
