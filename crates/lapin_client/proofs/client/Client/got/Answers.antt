use Rattle.lapin_client.proofs.Refused.{got_not}
use Rattle.lapin_client.proofs.client.Client.got.Goals as goal

pub returns-in-Err-clause-told : goal.returns-in-Err-clause-told
returns-in-Err-clause-told c = got_not c.in-Err.status c.args.message c.args.self.now c.show.new.self c.in-Err.ensures.told
