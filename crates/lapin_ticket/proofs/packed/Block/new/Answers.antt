use Rattle.lapin_ticket.proofs.Blocks.{zeros}
use Rattle.lapin_ticket.proofs.packed.Block.new.Goals as goal

pub returns : goal.returns
returns c = λ p. zeros 64 p
