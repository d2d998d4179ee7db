use Rattle.lapin_client.proofs.Taking.{takes_after, takes_not}
use Rattle.lapin_client.proofs.client.Client.take.Goals as goal

pub returns-in-Done-clause-told : goal.returns-in-Done-clause-told
returns-in-Done-clause-told c =
    takes_after c.take_idle.result c.args.frame c.args.self.now c.finish.new.self c.take_idle.new.self c.in-Done.ensures.told c.take_idle.ensures.told c.take_idle.ensures.count

pub returns-in_default-clause-told : goal.returns-in_default-clause-told
returns-in_default-clause-told c = takes_not c.finish.result c.args.frame c.args.self.now c.finish.new.self c.in_default.not-Done c.in_default.not-NoMemory c.finish.ensures.told
