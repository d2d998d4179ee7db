use Rattle.std.proofs.Common.{◌∙◌, ap, arith}
use Rattle.lapin_ticket.specs.Packed.{packed_at}
use Rattle.lapin_ticket.proofs.Blocks.{put-gone, put-other}
use Rattle.lapin_ticket.proofs.packed.unpack.Goals as goal

pub returns-clause-gone : goal.returns-clause-gone
returns-clause-gone c = c.let_go.ensures.same c.args.number ∙ ap (packed_at c.args.number) c.put.ensures ∙ put-gone c.args.number c.args.blocks.now.slots

pub returns-clause-others : goal.returns-clause-others
returns-clause-others c = λ n other. c.let_go.ensures.same n ∙ ap (packed_at n) c.put.ensures ∙ put-other c.args.number 0 c.args.blocks.now.slots (omega arith) n other
