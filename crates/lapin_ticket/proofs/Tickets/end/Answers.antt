use Rattle.std.proofs.Common.{ℕ, List, Option, sym, ◌∙◌, ap, subst, refl}
use Rattle.lapin_rules.specs.TicketReadings as mark
use Rattle.lapin_ticket.specs.declared.Slot.{Slot}
use Rattle.lapin_ticket.specs.Given.{AreListed}
use Rattle.lapin_ticket.specs.Packed.{IsPacked, shown}
use Rattle.lapin_ticket.specs.Room.{HasSlot}
use Rattle.lapin_ticket.proofs.Shown.{listed-marked, shown-marked, packed-marked}
use Rattle.lapin_ticket.proofs.Tickets.end.Goals as goal

pub let_go-requires : goal.let_go-requires
let_go-requires c =
    let L : List (Option Slot) → Type 0 = λ xs. AreListed xs c.self.inside.given.channels in
    subst L (sym c.end.ensures.slots) (listed-marked c.self.inside.slots.slots (mark.OpeningFailed c.args.channel c.args.spared c.args.error) c.self.inside.given.channels refl c.self.invariant.0)

pub invariant_of-self : goal.invariant_of-self
invariant_of-self c =
    let P : ℕ → Type 0 = λ k. HasSlot c.self.inside.given.ready k in
    let Q : Option ℕ → Type 0 = λ r. HasSlot r c.end.new.slots.spare in (
      c.let_go.ensures.listed,
      (
        subst Q (sym c.let_go.ensures.ready) (subst P (sym c.end.ensures.room) c.self.invariant.1.0),
        subst (IsPacked c.self.inside.blocks.slots) (sym c.end.ensures.slots) (packed-marked c.self.inside.blocks.slots c.self.inside.slots.slots (mark.OpeningFailed c.args.channel c.args.spared c.args.error) refl c.self.invariant.1.1),
      ),
    )

pub returns-clause-slots : goal.returns-clause-slots
returns-clause-slots c = rw (← c.self.view_is) (ap (shown 0 c.self.inside.blocks.slots) c.end.ensures.slots ∙ shown-marked c.self.inside.blocks.slots c.self.inside.slots.slots (mark.OpeningFailed c.args.channel c.args.spared c.args.error) refl (λ n. refl))
