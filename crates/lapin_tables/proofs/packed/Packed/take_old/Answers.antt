use Rattle.std.proofs.Common.{◌∙◌, arith}
use Rattle.lapin_tables.proofs.Packing.{packed-alike, shown-alike}
use Rattle.lapin_tables.proofs.packed.Packed.take_old.Goals as goal

pub invariant_of-self : goal.invariant_of-self
invariant_of-self g c = packed-alike g.T.Marked.told_by c.take_out-value.new.blocks.slots c.let_go.new.blocks.slots c.take_out-value.new.slots.slots c.let_go.ensures.same (omega (arith, c.let_go.ensures.count, c.take_out-value.ensures.packed.covers)) c.take_out-value.ensures.packed

pub returns-clause-value : goal.returns-clause-value
returns-clause-value g c = rw (← c.self.view_is) c.take_out-value.ensures.value

pub returns-clause-slots : goal.returns-clause-slots
returns-clause-slots g c = rw (← c.self.view_is) (shown-alike g.T.Marked.told_by c.take_out-value.new.blocks.slots c.let_go.new.blocks.slots c.take_out-value.new.slots.slots c.let_go.ensures.same ∙ c.take_out-value.ensures.gone)
