use Rattle.std.proofs.Common.{◌≡◌, List, Option, Some, None, sym, ◌∙◌, ap, subst, refl, cond}
use Rattle.lapin_tables.specs.Numbered.{under, with_under}
use Rattle.lapin_rules.specs.TicketReadings as mark
use Rattle.lapin_ticket.specs.declared.Slot.{Slot}
use Rattle.lapin_ticket.specs.Given.{AreListed}
use Rattle.lapin_ticket.specs.Slots.{laid_slot}
use Rattle.lapin_ticket.specs.Packed.{IsPacked, shown}
use Rattle.std.proofs.Common.{is_ok}
use Rattle.lapin_ticket.proofs.Shown.{free, has-more, listed-marked, packed-marked, packed-unpacked, laid-unpacked, shown-closed, under-block, under-slot}
use Rattle.lapin_ticket.proofs.Tickets.drop_answer.Goals as goal

pub invariant_of-self : goal.invariant_of-self
invariant_of-self c =
    let none : under c.args.number c.self.inside.slots.slots ≡ None = sym c.in-None.ensures.value in
    (c.self.invariant.0, (c.self.invariant.1.0, packed-unpacked c.args.number c.self.inside.blocks.slots c.drop_packed.new.blocks.slots c.self.inside.slots.slots c.drop_packed.ensures.gone c.drop_packed.ensures.others c.self.invariant.1.1 none c.drop_packed.ensures.count))

pub returns-in-None-clause-told : goal.returns-in-None-clause-told
returns-in-None-clause-told c =
    let none : under c.args.number c.self.inside.slots.slots ≡ None = sym c.in-None.ensures.value in
    rw (← c.self.view_is) (c.drop_packed.ensures.told ∙ sym (ap laid_slot (under-block c.args.number c.self.inside.blocks.slots c.self.inside.slots.slots c.self.invariant.1.1 none)))

pub returns-in-None-clause-slots : goal.returns-in-None-clause-slots
returns-in-None-clause-slots c =
    let none : under c.args.number c.self.inside.slots.slots ≡ None = sym c.in-None.ensures.value in
    let all = shown 0 c.self.inside.blocks.slots c.self.inside.slots.slots in
    rw (← c.self.view_is)
    (laid-unpacked c.args.number c.self.inside.blocks.slots c.drop_packed.new.blocks.slots c.self.inside.slots.slots c.drop_packed.ensures.gone c.drop_packed.ensures.others c.self.invariant.1.1 none
    ∙ sym (ap (λ r. cond (is_ok r) (with_under c.args.number None all) all) c.drop_packed.ensures.told))

pub invariant_of-self-in-Some : goal.invariant_of-self-in-Some
invariant_of-self-in-Some c =
    let L : List (Option Slot) → Type 0 = λ xs. AreListed xs c.self.inside.given.channels in (
      subst L (sym c.take.ensures.slots) (listed-marked c.self.inside.slots.slots (mark.SetAside c.args.number) c.self.inside.given.channels refl c.self.invariant.0),
      (
        has-more c.self.inside.given.ready c.self.inside.slots.spare c.take.new.self.spare c.take.ensures.kept c.self.invariant.1.0,
        subst (IsPacked c.self.inside.blocks.slots) (sym c.take.ensures.slots) (packed-marked c.self.inside.blocks.slots c.self.inside.slots.slots (mark.SetAside c.args.number) refl c.self.invariant.1.1),
      ),
    )

pub returns-in-Some-clause-told : goal.returns-in-Some-clause-told
returns-in-Some-clause-told c =
    let there : under c.args.number c.self.inside.slots.slots ≡ Some c.in-Some.field-0.now = sym c.in-Some.ensures.value in
    rw (← c.self.view_is) (sym (ap laid_slot (under-slot c.args.number c.in-Some.field-0.now c.self.inside.blocks.slots c.self.inside.slots.slots c.self.invariant.1.1 there)))

pub returns-in-Some-clause-slots : goal.returns-in-Some-clause-slots
returns-in-Some-clause-slots c =
    let there : under c.args.number c.self.inside.slots.slots ≡ Some c.in-Some.field-0.now = sym c.in-Some.ensures.value in
    rw (← c.self.view_is)
    (ap (shown 0 c.self.inside.blocks.slots) c.take.ensures.slots
    ∙ shown-closed c.args.number c.self.inside.blocks.slots c.self.inside.slots.slots (free c.args.number c.in-Some.field-0.now c.self.inside.blocks.slots c.self.inside.slots.slots c.self.invariant.1.1 there))
