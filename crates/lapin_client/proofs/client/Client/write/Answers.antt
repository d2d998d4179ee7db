use Rattle.std.proofs.Common.{refl}
use Rattle.lapin_client.proofs.Requests.{writes_from}
use Rattle.lapin_client.proofs.client.Client.write.Goals as goal

pub returns-in-Err-clause-told : goal.returns-in-Err-clause-told
returns-in-Err-clause-told c =
    writes_from c.unwritten.result c.args.left c.args.self.now (record c.args.self.now { leaving = c.put_left.new.out; room = c.put_left.new.room }) c.unwritten.new.self refl c.in-Err.ensures.err refl refl (refl, refl, refl, refl, refl, refl, refl) c.unwritten.ensures.told
