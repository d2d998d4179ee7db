use Rattle.std.proofs.Common.{◌≡◌, ◌∙◌, ◌++◌, [], ◌∷◌, ap, subst, Some, None}
use Rattle.lapin_pool.specs.Cards.{delivery_in}
use Rattle.lapin_pool.specs.Turns.{IsTaken, IsTreated}
use Rattle.lapin_pool.proofs.Turning.{took}
use Rattle.lapin_pool.proofs.turn.take_turn.Goals as goal

-- a delivery was taken: its card came behind the others
pub returns-in-Some : goal.returns-in-Some
returns-in-Some g c =
    let may = g.D.Duty.may c.args.duty.now in
    let old = c.args.seat.now.caller in
    let mid = c.take.new.caller in
    let new = c.treat.new.caller in
    took may old mid new c.args.seat.now.cards.items c.push_reserved.new.self.items c.args.seat.now.unread c.in-Taken.place (Some c.in-Some.card)
    (subst (λ s. IsTaken old s mid) c.in-Taken.is c.take.ensures)
    (λ t at. subst (λ o. IsTreated may mid c.in-Taken.place (delivery_in t.answer) o new) c.in-Some.is (c.treat.ensures t at))
    (c.push_reserved.ensures.items ∙ ap (λ l. l ++ c.in-Some.card ∷ []) c.reserve.ensures.items)

-- another job was taken: there is no card
pub returns-in_default : goal.returns-in_default
returns-in_default g c =
    let may = g.D.Duty.may c.args.duty.now in
    let old = c.args.seat.now.caller in
    let mid = c.take.new.caller in
    let new = c.treat.new.caller in
    took may old mid new c.args.seat.now.cards.items c.reserve.new.self.items c.args.seat.now.unread c.in-Taken.place None
    (subst (λ s. IsTaken old s mid) c.in-Taken.is c.take.ensures)
    (λ t at. subst (λ o. IsTreated may mid c.in-Taken.place (delivery_in t.answer) o new) c.in_default.is (c.treat.ensures t at))
    c.reserve.ensures.items
