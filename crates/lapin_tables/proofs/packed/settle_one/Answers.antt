use Rattle.std.proofs.Common.{◌∙◌, sym, ap}
use Rattle.lapin_tables.specs.Packed.{packed_at, shown}
use Rattle.lapin_tables.proofs.Packing.{packed-moved, shown-stays}
use Rattle.lapin_tables.proofs.packed.settle_one.Goals as goal

pub returns-then-pack-clause-packed : goal.returns-then-pack-clause-packed
returns-then-pack-clause-packed g c =
    rw c.take.ensures.slots
    (packed-moved g.T.Marked.told_by c.args.number c.args.blocks.now.slots c.pack.new.blocks.slots c.args.slots.now.slots c.pack.ensures.others c.pack.ensures.count c.requires)

pub returns-then-pack-clause-same : goal.returns-then-pack-clause-same
returns-then-pack-clause-same g c =
    ap (shown (packed_at g.T.Marked.told_by c.pack.new.blocks.slots) 0) c.take.ensures.slots
    ∙ shown-stays g.T.Marked.told_by c.args.number c.in-Some.value.now c.args.blocks.now.slots c.pack.new.blocks.slots c.args.slots.now.slots c.pack.ensures.others c.requires (sym c.in-Some.ensures.value) (c.pack.ensures.packed c.if-pack.true)
