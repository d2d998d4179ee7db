use Rattle.lapin_outbox.proofs.Poison.{poison-set, poison-cleared, poison-others}
use Rattle.lapin_outbox.proofs.laws.poison_of_a_channel_comes_first.Goals as goal

pub returns-clause-set : goal.returns-clause-set
returns-clause-set c = poison-set c.args.channel c.args.error

pub returns-clause-cleared : goal.returns-clause-cleared
returns-clause-cleared c = poison-cleared c.args.channel

pub returns-clause-others : goal.returns-clause-others
returns-clause-others c d = poison-others c.args.channel d c.args.error
