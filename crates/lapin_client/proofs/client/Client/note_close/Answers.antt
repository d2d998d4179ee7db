use Rattle.lapin_client.proofs.Closing.{noted_reserved}
use Rattle.lapin_client.proofs.client.Client.note_close.Goals as goal

pub returns-in-Ok-clause-told : goal.returns-in-Ok-clause-told
returns-in-Ok-clause-told c = noted_reserved c.note_reserved.result c.args.frame c.args.self.now c.note_reserved.new.self c.reserve.new.self c.reserve.ensures.same c.note_reserved.ensures.told
