use Rattle.std.proofs.Common.{sym, ◌∙◌}
use Rattle.lapin_tables.proofs.Shown.{length-shown}
use Rattle.lapin_tables.proofs.Packing.{under-slot, under-block}
use Rattle.lapin_tables.proofs.packed.Packed.get.Goals as goal

pub returns-in-Some-clause-value : goal.returns-in-Some-clause-value
returns-in-Some-clause-value g c = rw (← c.self.view_is) (sym (under-slot g.T.Marked.told_by c.args.number _ c.self.inside.blocks.slots c.self.inside.slots.slots c.self.invariant (sym c.in-Some.ensures.value)))

pub returns-in-Some-clause-fits : goal.returns-in-Some-clause-fits
returns-in-Some-clause-fits g c = rw (← c.self.view_is, length-shown) c.in-Some.ensures.fits

pub returns-in-None-clause-value : goal.returns-in-None-clause-value
returns-in-None-clause-value g c = rw (← c.self.view_is) (c.value_at.ensures ∙ sym (under-block g.T.Marked.told_by c.args.number c.self.inside.blocks.slots c.self.inside.slots.slots c.self.invariant (sym c.in-None.ensures.value)))

pub returns-in-None-clause-fits : goal.returns-in-None-clause-fits
returns-in-None-clause-fits g c = rw (← c.self.view_is, length-shown) c.in-None.ensures.fits
