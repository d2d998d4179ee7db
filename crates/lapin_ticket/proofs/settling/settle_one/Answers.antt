use Rattle.std.proofs.Common.{◌≡◌, ◌∙◌, Some, sym, ap, subst}
use Rattle.lapin_tables.specs.Numbered.{under}
use Rattle.lapin_ticket.specs.declared.Slot.TheVariants as slot
use Rattle.lapin_ticket.specs.Packed.{IsPacked, shown}
use Rattle.lapin_ticket.proofs.Shown.{shown-moved, packed-moved}
use Rattle.lapin_ticket.proofs.settling.settle_one.Goals as goal

pub returns-then-pack-clause-packed : goal.returns-then-pack-clause-packed
returns-then-pack-clause-packed c =
    subst (IsPacked c.pack.new.blocks.slots) (sym c.take.ensures.slots)
    (packed-moved c.args.number c.args.blocks.now.slots c.pack.new.blocks.slots c.args.slots.now.slots c.pack.ensures.others c.pack.ensures.count c.requires)

pub returns-then-pack-clause-same : goal.returns-then-pack-clause-same
returns-then-pack-clause-same c =
    let there : under c.args.number c.args.slots.now.slots ≡ Some (slot.Held c.in-Some-Held.answer) = sym c.in-Some-Held.ensures.value ∙ ap Some c.in-Some-Held.field-0-is in
    ap (shown 0 c.pack.new.blocks.slots) c.take.ensures.slots
    ∙ shown-moved c.args.number c.in-Some-Held.answer c.args.blocks.now.slots c.pack.new.blocks.slots c.args.slots.now.slots (c.pack.ensures.packed c.if-pack.true) c.pack.ensures.others c.requires there
