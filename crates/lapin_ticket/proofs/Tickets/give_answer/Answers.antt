use Rattle.std.proofs.Common.{◌≡◌, List, Option, Some, None, Ok, sym, ◌∙◌, ap, subst, refl, cond}
use Rattle.lapin_tables.specs.Numbered.{under, with_under}
use Rattle.lapin_rules.specs.TicketReadings as mark
use Rattle.lapin_ticket.specs.declared.Slot.{Slot}
use Rattle.lapin_ticket.specs.declared.Slot.TheVariants as slot
use Rattle.lapin_ticket.specs.Given.{AreListed}
use Rattle.lapin_ticket.specs.Slots.{polled_slot, is_held}
use Rattle.lapin_ticket.specs.Packed.{IsPacked, shown, held_in}
use Rattle.lapin_ticket.proofs.Shown.{free, has-more, listed-marked, packed-marked, packed-unpacked, polled-unpacked, shown-closed, under-block, under-slot}
use Rattle.lapin_ticket.proofs.Tickets.give_answer.Goals as goal

pub invariant_of-self : goal.invariant_of-self
invariant_of-self c =
    let none : under c.args.number c.self.inside.slots.slots ≡ None = sym c.in-None.ensures.value in
    (c.self.invariant.0, (c.self.invariant.1.0, packed-unpacked c.args.number c.self.inside.blocks.slots c.give_packed.new.blocks.slots c.self.inside.slots.slots c.give_packed.ensures.gone c.give_packed.ensures.others c.self.invariant.1.1 none c.give_packed.ensures.count))

pub returns-in-None-clause-told : goal.returns-in-None-clause-told
returns-in-None-clause-told c =
    let none : under c.args.number c.self.inside.slots.slots ≡ None = sym c.in-None.ensures.value in
    rw (← c.self.view_is) (c.give_packed.ensures.told ∙ sym (ap polled_slot (under-block c.args.number c.self.inside.blocks.slots c.self.inside.slots.slots c.self.invariant.1.1 none)))

pub returns-in-None-clause-slots : goal.returns-in-None-clause-slots
returns-in-None-clause-slots c =
    let none : under c.args.number c.self.inside.slots.slots ≡ None = sym c.in-None.ensures.value in
    rw (← c.self.view_is) (polled-unpacked c.args.number c.self.inside.blocks.slots c.give_packed.new.blocks.slots c.self.inside.slots.slots c.give_packed.ensures.gone c.give_packed.ensures.others c.self.invariant.1.1 none)

pub returns-in-Some-Open-clause-told : goal.returns-in-Some-Open-clause-told
returns-in-Some-Open-clause-told c =
    let s : Slot = slot.Open c.in-Some-Open.field-0-0 c.in-Some-Open.field-0-1 c.in-Some-Open.field-0-2 in
    let there : under c.args.number c.self.inside.slots.slots ≡ Some s = sym c.in-Some-Open.ensures.value ∙ ap Some c.in-Some-Open.field-0-is in
    rw (← c.self.view_is) (sym (ap polled_slot (under-slot c.args.number s c.self.inside.blocks.slots c.self.inside.slots.slots c.self.invariant.1.1 there)))

pub returns-in-Some-Open-clause-slots : goal.returns-in-Some-Open-clause-slots
returns-in-Some-Open-clause-slots c =
    let s : Slot = slot.Open c.in-Some-Open.field-0-0 c.in-Some-Open.field-0-1 c.in-Some-Open.field-0-2 in
    let there : under c.args.number c.self.inside.slots.slots ≡ Some s = sym c.in-Some-Open.ensures.value ∙ ap Some c.in-Some-Open.field-0-is in
    let all = shown 0 c.self.inside.blocks.slots c.self.inside.slots.slots in
    rw (← c.self.view_is) (sym (ap (λ o. cond (is_held o) (with_under c.args.number None all) all) (under-slot c.args.number s c.self.inside.blocks.slots c.self.inside.slots.slots c.self.invariant.1.1 there)))

pub invariant_of-self-in-Some-Held : goal.invariant_of-self-in-Some-Held
invariant_of-self-in-Some-Held c =
    let L : List (Option Slot) → Type 0 = λ xs. AreListed xs c.self.inside.given.channels in (
      subst L (sym c.take_held.ensures.slots) (listed-marked c.self.inside.slots.slots (mark.Collected c.args.number) c.self.inside.given.channels refl c.self.invariant.0),
      (
        has-more c.self.inside.given.ready c.self.inside.slots.spare c.take_held.new.slots.spare c.take_held.ensures.room c.self.invariant.1.0,
        subst (IsPacked c.self.inside.blocks.slots) (sym c.take_held.ensures.slots) (packed-marked c.self.inside.blocks.slots c.self.inside.slots.slots (mark.Collected c.args.number) refl c.self.invariant.1.1),
      ),
    )

pub returns-in-Some-Held-clause-told : goal.returns-in-Some-Held-clause-told
returns-in-Some-Held-clause-told c =
    let s : Slot = slot.Held c.in-Some-Held.field-0-0 in
    let there : under c.args.number c.self.inside.slots.slots ≡ Some s = sym c.in-Some-Held.ensures.value ∙ ap Some c.in-Some-Held.field-0-is in
    rw (← c.self.view_is) (ap Ok (c.take_held.ensures.answer ∙ ap held_in there) ∙ sym (ap polled_slot (under-slot c.args.number s c.self.inside.blocks.slots c.self.inside.slots.slots c.self.invariant.1.1 there)))

pub returns-in-Some-Held-clause-slots : goal.returns-in-Some-Held-clause-slots
returns-in-Some-Held-clause-slots c =
    let s : Slot = slot.Held c.in-Some-Held.field-0-0 in
    let there : under c.args.number c.self.inside.slots.slots ≡ Some s = sym c.in-Some-Held.ensures.value ∙ ap Some c.in-Some-Held.field-0-is in
    let all = shown 0 c.self.inside.blocks.slots c.self.inside.slots.slots in
    rw (← c.self.view_is)
    (ap (shown 0 c.self.inside.blocks.slots) c.take_held.ensures.slots
    ∙ shown-closed c.args.number c.self.inside.blocks.slots c.self.inside.slots.slots (free c.args.number s c.self.inside.blocks.slots c.self.inside.slots.slots c.self.invariant.1.1 there)
    ∙ sym (ap (λ o. cond (is_held o) (with_under c.args.number None all) all) (under-slot c.args.number s c.self.inside.blocks.slots c.self.inside.slots.slots c.self.invariant.1.1 there)))
