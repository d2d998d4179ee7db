use Rattle.std.proofs.Common.{Some, ◌∙◌, ap}
use Rattle.lapin_tables.specs.Packed.{packed_at, shown}
use Rattle.lapin_tables.proofs.Shown.{length-shown}
use Rattle.lapin_tables.proofs.Packing.{packed-given, shown-given}
use Rattle.lapin_tables.proofs.packed.Packed.push_reserved.Goals as goal

pub settle_at-requires : goal.settle_at-requires
settle_at-requires g c = rw c.push_reserved-number.ensures.slots (packed-given g.T.Marked.told_by (Some c.args.value) c.self.inside.blocks.slots c.self.inside.slots.slots c.self.invariant)

pub push_reserved-number-requires-clause-numbers : goal.push_reserved-number-requires-clause-numbers
push_reserved-number-requires-clause-numbers g c = rw (← c.self.view_is, length-shown) at c.requires.numbers

pub returns-clause-number : goal.returns-clause-number
returns-clause-number g c = rw (← c.self.view_is, length-shown) c.push_reserved-number.ensures.number

pub returns-clause-slots : goal.returns-clause-slots
returns-clause-slots g c =
    rw (← c.self.view_is)
    (c.settle_at.ensures.same
    ∙ ap (shown (packed_at g.T.Marked.told_by c.self.inside.blocks.slots) 0) c.push_reserved-number.ensures.slots
    ∙ shown-given g.T.Marked.told_by (Some c.args.value) c.self.inside.blocks.slots c.self.inside.slots.slots c.self.invariant)
