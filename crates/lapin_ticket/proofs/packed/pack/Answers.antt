use Rattle.std.proofs.Common.{◌∙◌, ap, arith}
use Rattle.lapin_ticket.specs.Packed.{packed_at}
use Rattle.lapin_ticket.proofs.Blocks.{put-here, put-other}
use Rattle.lapin_ticket.proofs.packed.pack.Goals as goal

pub returns-clause-packed : goal.returns-clause-packed
returns-clause-packed c = λ _. ap (packed_at c.args.number) c.put.ensures ∙ put-here c.args.number c.in-Some.mark c.args.answer.now c.args.blocks.now.slots (omega arith) c.in-Some.ensures

pub returns-clause-others : goal.returns-clause-others
returns-clause-others c = λ n other. ap (packed_at n) c.put.ensures ∙ put-other c.args.number c.in-Some.mark c.args.blocks.now.slots (omega arith) n other
