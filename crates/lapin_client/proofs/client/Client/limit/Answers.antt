use Rattle.lapin_client.proofs.Refused.{limited_by}
use Rattle.lapin_client.proofs.client.Client.limit.Goals as goal

pub returns-clause-told : goal.returns-clause-told
returns-clause-told c = limited_by c.call_by.result c.args.channel c.args.limit c.args.self.now c.call_by.new.self c.call_by.ensures.told
