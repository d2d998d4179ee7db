use Rattle.std.proofs.Common.{◌≤◌, ◌∙◌, nat_le, sym, arith}
use Rattle.std.proofs.lemmas.Bool.{le-leb, lt-leb}
use Rattle.lapin_tables.proofs.SlotLaws.{first-there, first-least, first-none}
use Rattle.lapin_confirm.proofs.Settled.{settled-after, settled-kept}
use Rattle.lapin_confirm.proofs.settling.settle_through.Goals as goal

pub loop-tag-smaller : goal.loop-tag-smaller
loop-tag-smaller c =
    let found = c.settle_tag.ensures.found ∙ first-there c.in-Some.tag c.loop-tag.mode.tags.slots (sym c.in-Some.ensures) in
    omega (arith, c.settle_tag.ensures.pending found)

pub loop-tag-preserved : goal.loop-tag-preserved
loop-tag-preserved c = record {
  tied = c.settle_tag.ensures.tied;
  same = rw c.settle_tag.ensures.cells (settled-after c.args.channel c.in-Some.tag (λ t. nat_le t c.args.limit) c.args.outcome c.loop-tag.cells.slots (le-leb c.in-Some.tag c.args.limit (omega arith))) ∙ c.loop-tag.invariant.same;
  mode = c.settle_tag.ensures.mode ∙ c.loop-tag.invariant.mode;
  spare = omega (arith, c.settle_tag.ensures.spare, c.loop-tag.invariant.spare);
  room = omega (arith, c.settle_tag.ensures.room, c.loop-tag.invariant.room);
}

pub returns-then-tag-limit-clause-cells : goal.returns-then-tag-limit-clause-cells
returns-then-tag-limit-clause-cells c =
    sym (settled-kept c.args.channel (λ t. nat_le t c.args.limit) c.args.outcome c.loop-tag.cells.slots (λ n t there.
    let least : c.in-Some.tag ≤ t = first-least t c.in-Some.tag n c.loop-tag.mode.tags.slots (sym c.in-Some.ensures) (c.loop-tag.invariant.tied.named n t there) in
    lt-leb t c.args.limit (omega arith)))
    ∙ c.loop-tag.invariant.same

pub returns-in_default-clause-cells : goal.returns-in_default-clause-cells
returns-in_default-clause-cells c =
    sym (settled-kept c.args.channel (λ t. nat_le t c.args.limit) c.args.outcome c.loop-tag.cells.slots (λ n t there.
    absurd (first-none t n c.loop-tag.mode.tags.slots (sym c.in_default.ensures) (c.loop-tag.invariant.tied.named n t there))))
    ∙ c.loop-tag.invariant.same
