use Rattle.std.proofs.Common.{sym, ◌∙◌, ap}
use Rattle.std.specs.Option.{option_copied_mut}
use Rattle.lapin_ticket.specs.Given.{numbers_on}
use Rattle.lapin_ticket.proofs.Listing.{numbers-spared, numbers-empty, room-found, room-added}
use Rattle.lapin_ticket.proofs.given.Given.reserve.Goals as goal

pub returns-in_err-reserve-clause-same : goal.returns-in_err-reserve-clause-same
returns-in_err-reserve-clause-same c = λ d.
    let at = sym c.get_mut.ensures.value ∙ ap option_copied_mut c.in-Some.is in
    numbers-spared c.args.channel d _ _ _ at c.reserve.ensures.same ∙ ap (λ g. numbers_on d g.channels) c.self.view_is

pub invariant_of-self-in-Some : goal.invariant_of-self-in-Some
invariant_of-self-in-Some c =
    let at = sym c.get_mut.ensures.value ∙ ap option_copied_mut c.in-Some.is in
    room-found c.args.channel _ _ _ at c.in_ok-reserve.ensures.room

pub returns-in-Some-clause-same : goal.returns-in-Some-clause-same
returns-in-Some-clause-same c = λ d.
    let at = sym c.get_mut.ensures.value ∙ ap option_copied_mut c.in-Some.is in
    numbers-spared c.args.channel d _ _ _ at c.reserve.ensures.same ∙ ap (λ g. numbers_on d g.channels) c.self.view_is

pub invariant_of-self-2 : goal.invariant_of-self-2
invariant_of-self-2 c =
    let at = sym c.get_mut.ensures.value ∙ ap option_copied_mut c.in_default.is in
    rw c.in_ok-insert.ensures.ok (room-added c.args.channel _ _ at c.in_ok-reserve-2.ensures.room)

pub returns-clause-same : goal.returns-clause-same
returns-clause-same c = λ d.
    let at = sym c.get_mut.ensures.value ∙ ap option_copied_mut c.in_default.is in
    ap (numbers_on d) c.in_ok-insert.ensures.ok ∙ numbers-empty c.args.channel d _ _ at (c.reserve-2.ensures.same ∙ c.new-numbers.ensures) ∙ ap (λ g. numbers_on d g.channels) c.self.view_is
