use Rattle.std.proofs.Common.{ℕ, List, drop, sym, ◌∙◌, ap, cond, ◌==◌}
use Rattle.std.specs.Option.{option_copied_mut}
use Rattle.lapin_ticket.specs.Given.{GivenNumbers, numbers_on}
use Rattle.lapin_ticket.proofs.Listing.{numbers-by, none-dropped, room-spared}
use Rattle.lapin_ticket.proofs.given.Given.drop_first.Goals as goal

pub invariant_of-self-2 : goal.invariant_of-self-2
invariant_of-self-2 c =
    let at = sym c.get_mut.ensures.value ∙ ap option_copied_mut c.in-Some.is in
    room-spared c.self.inside.ready c.args.channel _ _ _ at c.drop_first.ensures.spared c.self.invariant

pub returns-clause-numbers : goal.returns-clause-numbers
returns-clause-numbers c = λ d.
    let at = sym c.get_mut.ensures.value ∙ ap option_copied_mut c.in-Some.is in
    numbers-by (λ (ns : List ℕ). drop 1 ns) c.args.channel d _ _ _ at c.drop_first.ensures.numbers
    ∙ ap (λ (g : GivenNumbers). cond (c.args.channel == d) (drop 1 (numbers_on d g.channels)) (numbers_on d g.channels)) c.self.view_is

pub returns-in_default-clause-numbers : goal.returns-in_default-clause-numbers
returns-in_default-clause-numbers c = λ d.
    let at = sym c.get_mut.ensures.value ∙ ap option_copied_mut c.in_default.is in
    none-dropped c.args.channel d c.self.inside.channels.entries at
    ∙ ap (λ (g : GivenNumbers). cond (c.args.channel == d) (drop 1 (numbers_on d g.channels)) (numbers_on d g.channels)) c.self.view_is
