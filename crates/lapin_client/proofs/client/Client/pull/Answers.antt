use Rattle.lapin_client.proofs.Requests.{pulls_held, pulls_join}
use Rattle.lapin_client.proofs.client.Client.pull.Goals as goal

pub returns-in-Done-clause-told : goal.returns-in-Done-clause-told
returns-in-Done-clause-told c = pulls_join c.pull_on.result c.args.enough c.args.flow c.args.self.now c.write_held.new.self c.pull_on.new.self c.in-Done.ensures.told c.pull_on.ensures.told

pub returns-in_default-clause-told : goal.returns-in_default-clause-told
returns-in_default-clause-told c = pulls_held c.write_held.result c.args.enough c.args.flow c.args.self.now c.write_held.new.self c.in_default.not-Done c.write_held.ensures.told
