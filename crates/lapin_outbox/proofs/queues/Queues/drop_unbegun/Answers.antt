use Rattle.std.proofs.Common.{Some, sym, ◌∙◌, ap, slice_get}
use Rattle.std.specs.Option.{option_map}
use Rattle.lapin_rules.specs.Leaving.{Lists}
use Rattle.lapin_outbox.specs.Outgoing.{InQueues}
use Rattle.lapin_outbox.specs.Drops.{told_publish, unbegun_of}
use Rattle.lapin_rules.specs.Drops.{is_on, publish_channel}
use Rattle.lapin_outbox.proofs.Dropping.{first-told}
use Rattle.lapin_outbox.proofs.queues.Queues.drop_unbegun.Goals as goal

pub returns-in_err-unbegun-clause-told : goal.returns-in_err-unbegun-clause-told
returns-in_err-unbegun-clause-told c =
    let lists = ap (λ (o : InQueues). o.lists) c.self.view_is in
    c.from_residual.ensures
    ∙ sym (ap (option_map told_publish) (sym c.pop_of.ensures.taken ∙ c.in_err-unbegun.was))
    ∙ first-told (is_on publish_channel c.args.channel) told_publish c.self.inside.publishes.entries
    ∙ ap (λ (l : Lists). slice_get (unbegun_of c.args.channel l) 0) lists

pub returns-clause-told : goal.returns-clause-told
returns-clause-told c =
    let lists = ap (λ (o : InQueues). o.lists) c.self.view_is in
    ap Some c.dropped_publish.ensures
    ∙ sym (ap (option_map told_publish) (sym c.pop_of.ensures.taken ∙ c.in_ok-unbegun.was))
    ∙ first-told (is_on publish_channel c.args.channel) told_publish c.self.inside.publishes.entries
    ∙ ap (λ (l : Lists). slice_get (unbegun_of c.args.channel l) 0) lists
