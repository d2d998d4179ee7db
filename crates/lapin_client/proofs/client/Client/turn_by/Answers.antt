use Rattle.lapin_client.proofs.Taking.{turn_done, turn_not, turn_refused}
use Rattle.lapin_client.proofs.client.Client.turn_by.Goals as goal

pub returns-in-Done-clause-told : goal.returns-in-Done-clause-told
returns-in-Done-clause-told c = turn_done c.args.frame c.args.length c.args.self.now c.take.new.self c.pass.new.self c.pass.ensures c.in-Done.ensures.told

pub returns-in-Refused-clause-told : goal.returns-in-Refused-clause-told
returns-in-Refused-clause-told c = turn_refused c.args.frame c.args.length c.args.self.now c.take.new.self c.pass-in-Refused.new.self c.pass-in-Refused.ensures c.in-Refused.ensures.told

pub returns-in_default-clause-told : goal.returns-in_default-clause-told
returns-in_default-clause-told c = turn_not c.take.result c.args.frame c.args.length c.args.self.now c.take.new.self c.in_default.not-Done c.in_default.not-Refused c.take.ensures.told
