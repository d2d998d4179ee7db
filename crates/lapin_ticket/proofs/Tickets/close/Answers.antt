use Rattle.std.proofs.Common.{ℕ, List, Option, sym, ◌∙◌, ap, subst, refl}
use Rattle.lapin_rules.specs.TicketReadings as mark
use Rattle.lapin_ticket.specs.declared.Slot.{Slot}
use Rattle.lapin_ticket.specs.Given.{AreListed}
use Rattle.lapin_ticket.specs.Packed.{IsPacked, shown}
use Rattle.lapin_ticket.specs.Room.{HasSlot}
use Rattle.lapin_ticket.proofs.Shown.{listed-marked, shown-marked, packed-marked}
use Rattle.lapin_ticket.proofs.Tickets.close.Goals as goal

pub invariant_of-self : goal.invariant_of-self
invariant_of-self c =
    let L : List (Option Slot) → Type 0 = λ xs. AreListed xs c.self.inside.given.channels in
    let P : ℕ → Type 0 = λ k. HasSlot c.self.inside.given.ready k in (
      subst L (sym c.close.ensures.slots) (listed-marked c.self.inside.slots.slots (mark.ClosedHere c.args.channel c.args.error) c.self.inside.given.channels refl c.self.invariant.0),
      (
        subst P (sym c.close.ensures.room) c.self.invariant.1.0,
        subst (IsPacked c.self.inside.blocks.slots) (sym c.close.ensures.slots) (packed-marked c.self.inside.blocks.slots c.self.inside.slots.slots (mark.ClosedHere c.args.channel c.args.error) refl c.self.invariant.1.1),
      ),
    )

pub returns-clause-slots : goal.returns-clause-slots
returns-clause-slots c = rw (← c.self.view_is) (ap (shown 0 c.self.inside.blocks.slots) c.close.ensures.slots ∙ shown-marked c.self.inside.blocks.slots c.self.inside.slots.slots (mark.ClosedHere c.args.channel c.args.error) refl (λ n. refl))
