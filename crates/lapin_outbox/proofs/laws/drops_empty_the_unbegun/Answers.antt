use Rattle.lapin_outbox.proofs.Dropping.{unbegun-told, unbegun-others, unbegun-empty}
use Rattle.lapin_outbox.proofs.laws.drops_empty_the_unbegun.Goals as goal

pub returns-clause-told : goal.returns-clause-told
returns-clause-told c = unbegun-told c.args.channel

pub returns-clause-others : goal.returns-clause-others
returns-clause-others c = unbegun-others c.args.channel

pub returns-clause-end : goal.returns-clause-end
returns-clause-end c = unbegun-empty c.args.channel
