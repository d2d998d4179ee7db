use Rattle.std.proofs.Common.{rules, sym, ap, subst, ◌∙◌, slice_get}
use Rattle.std.proofs.lemmas.Fn.{filter_same}
use Rattle.lapin_consumer.specs.Indexed.{Line, Lists, stays_on}
use Rattle.lapin_consumer.proofs.Rising.{swept}
use Rattle.lapin_consumer.proofs.line.Line.sweep.Goals as goal

pub returns-clause-places : goal.returns-clause-places
returns-clause-places c =
    let xs = c.args.hall.now.subscriptions.consumers in
    filter_same _ (λ p. stays_on c.args.channel (slice_get xs p)) _ (λ x b f' k. search rules) _ _ c.retain.ensures.filtered
    ∙ swept c.args.channel xs c.self.inside.places.items (subst (Lists c.args.channel xs) (sym (ap (λ (l : Line). l.places) c.self.view_is)) c.requires)
