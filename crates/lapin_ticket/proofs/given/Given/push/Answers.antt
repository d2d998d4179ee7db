use Rattle.std.proofs.Common.{ℕ, List, ◌++◌, ◌∷◌, [], sym, ◌∙◌, ap, cond, ◌==◌}
use Rattle.std.specs.Option.{option_copied_mut}
use Rattle.lapin_ticket.specs.Given.{GivenNumbers, numbers_on}
use Rattle.lapin_ticket.proofs.Listing.{numbers-by}
use Rattle.lapin_ticket.proofs.given.Given.push.Goals as goal

pub returns-clause-numbers : goal.returns-clause-numbers
returns-clause-numbers c = λ d.
    let at = sym c.get_mut.ensures.value ∙ ap option_copied_mut c.in-Some.is in
    numbers-by (λ (ns : List ℕ). ns ++ c.args.number ∷ []) c.args.channel d _ _ _ at c.push_reserved.ensures
    ∙ ap (λ (g : GivenNumbers). cond (c.args.channel == d) (numbers_on d g.channels ++ c.args.number ∷ []) (numbers_on d g.channels)) c.self.view_is
