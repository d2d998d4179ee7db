use Rattle.lapin_client.proofs.Requests.{finishes_held, finishes_join}
use Rattle.lapin_client.proofs.client.Client.finish.Goals as goal

pub returns-in-Done-clause-told : goal.returns-in-Done-clause-told
returns-in-Done-clause-told c = finishes_join c.finish_on.result c.args.self.now c.write_held.new.self c.finish_on.new.self c.in-Done.ensures.told c.finish_on.ensures.told

pub returns-in_default-clause-told : goal.returns-in_default-clause-told
returns-in_default-clause-told c = finishes_held c.write_held.result c.args.self.now c.write_held.new.self c.in_default.not-Done c.write_held.ensures.told
