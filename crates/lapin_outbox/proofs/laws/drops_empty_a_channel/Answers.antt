use Rattle.lapin_outbox.proofs.Dropping.{channel-told, channel-others, channel-empty}
use Rattle.lapin_outbox.proofs.laws.drops_empty_a_channel.Goals as goal

pub returns-clause-told : goal.returns-clause-told
returns-clause-told c = channel-told c.args.channel

pub returns-clause-others : goal.returns-clause-others
returns-clause-others c = channel-others c.args.channel

pub returns-clause-end : goal.returns-clause-end
returns-clause-end c = channel-empty c.args.channel
