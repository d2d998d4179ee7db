use Rattle.std.proofs.Common.{refl}
use Rattle.lapin_client.proofs.Running.{receives_ran}
use Rattle.lapin_client.proofs.client.Client.receive.Goals as goal

pub returns-in-Ok-clause-told : goal.returns-in-Ok-clause-told
returns-in-Ok-clause-told c =
    receives_ran c.run.result c.args.bytes.now c.args.self.now (record c.args.self.now { came = c.add.new.self }) c.run.new.self (refl, c.in-Ok.ensures.ok, refl, refl, refl, refl, (refl, refl, refl), refl, refl) c.run.ensures.told
