use Rattle.std.proofs.Common.{refl}
use Rattle.lapin_client.proofs.Requests.{write_cause}
use Rattle.lapin_client.proofs.client.Client.unwritten.Goals as goal

pub returns-in_default-clause-told : goal.returns-in_default-clause-told
returns-in_default-clause-told c =
    (write_cause c.args.fault c.args.left.frame c.args.self.now.frame_max c.requires.refused c.in_default.not-NoMemory, refl, refl, c.requires.none, refl, (refl, refl, refl, refl, refl, refl, refl))
