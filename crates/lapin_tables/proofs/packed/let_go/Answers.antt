use Rattle.std.proofs.Common.{◌+◌, ◌-◌, ◌/◌, ◌∙◌, ap}
use Rattle.lapin_tables.specs.Packed.{packed_at}
use Rattle.lapin_tables.proofs.Blocks.{spent-goes}
use Rattle.lapin_tables.proofs.packed.let_go.Goals as goal

pub returns-then-not-stand_between-clause-same : goal.returns-then-not-stand_between-clause-same
returns-then-not-stand_between-clause-same g c = λ n.
    let told = g.T.Marked.told_by in
    ap (λ bs. packed_at told bs n) c.take.ensures.slots
    ∙ spent-goes told ((c.args.number - 1) / 64 + 1) c.args.blocks.now.slots (c.is_spent.ensures c.if-is_spent.true) n
