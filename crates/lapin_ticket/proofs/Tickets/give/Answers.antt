use Rattle.std.proofs.Common.{ℕ, List, Option, Some, false, sym, ◌∙◌, ap, subst}
use Rattle.lapin_ticket.specs.declared.Slot.{Slot}
use Rattle.lapin_ticket.specs.declared.Slot.TheVariants as slot
use Rattle.lapin_ticket.specs.Given.{AreListed}
use Rattle.lapin_ticket.specs.Packed.{IsPacked, shown}
use Rattle.lapin_ticket.specs.Room.{HasSlot}
use Rattle.lapin_ticket.proofs.Listing.{listed-push, open-here}
use Rattle.lapin_ticket.proofs.Shown.{packed-given, shown-given}
use Rattle.lapin_ticket.proofs.Tickets.give.Goals as goal

pub settle-requires : goal.settle-requires
settle-requires c =
    let s : Slot = slot.Open c.args.channel c.args.at_leaving false in
    subst (IsPacked c.self.inside.blocks.slots) (sym c.push_reserved-number.ensures.slots) (packed-given (Some s) c.self.inside.blocks.slots c.self.inside.slots.slots c.self.invariant.1.1)

pub invariant_of-self : goal.invariant_of-self
invariant_of-self c =
    let s : Slot = slot.Open c.args.channel c.args.at_leaving false in
    let P : List (Option Slot) → Type 0 = λ xs. AreListed xs c.push.new.self.channels in
    let Q : Option ℕ → Type 0 = λ r. HasSlot r c.settle.new.slots.spare in
    let listed : AreListed c.push_reserved-number.new.self.slots c.push.new.self.channels = subst P (sym c.push_reserved-number.ensures.slots) (listed-push c.args.channel c.push_reserved-number.result s c.self.inside.slots.slots c.let_go.new.given.channels c.push.new.self.channels c.push_reserved-number.ensures.number (λ d. open-here d c.args.channel c.args.at_leaving false) c.push.ensures.numbers c.let_go.ensures.listed) in (
      λ d n h. listed d n (c.settle.ensures.opened d n h),
      (subst Q (sym c.push.ensures.ready) tt, c.settle.ensures.packed),
    )

pub returns-clause-slots : goal.returns-clause-slots
returns-clause-slots c =
    let s : Slot = slot.Open c.args.channel c.args.at_leaving false in
    rw (← c.self.view_is) (c.settle.ensures.same ∙ ap (shown 0 c.self.inside.blocks.slots) c.push_reserved-number.ensures.slots ∙ shown-given (Some s) c.self.inside.blocks.slots c.self.inside.slots.slots c.self.invariant.1.1)
