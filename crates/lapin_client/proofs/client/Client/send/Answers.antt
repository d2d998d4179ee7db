use Rattle.lapin_client.proofs.Requests.{sends_after, sends_pulled}
use Rattle.lapin_client.proofs.client.Client.send.Goals as goal

pub returns-in-Done-clause-told : goal.returns-in-Done-clause-told
returns-in-Done-clause-told c =
    sends_after c.finish.result c.args.flow c.args.enough c.args.self.now c.pull.new.self c.finish.new.self c.in-Done.ensures.told c.finish.ensures.told

pub returns-in_default-clause-told : goal.returns-in_default-clause-told
returns-in_default-clause-told c = sends_pulled c.pull.result c.args.flow c.args.enough c.args.self.now c.pull.new.self c.in_default.not-Done c.pull.ensures.told
