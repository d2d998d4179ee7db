use Rattle.std.proofs.Common.{sym, ◌∙◌}
use Rattle.lapin_tables.specs.Packed.{packed_at}
use Rattle.lapin_tables.proofs.Shown.{length-shown}
use Rattle.lapin_tables.proofs.packed.Packed.count.Goals as goal

pub returns : goal.returns
returns g c = rw (← c.self.view_is) (c.count.ensures ∙ sym (length-shown (packed_at g.T.Marked.told_by c.self.inside.blocks.slots) 0 c.self.inside.slots.slots))
