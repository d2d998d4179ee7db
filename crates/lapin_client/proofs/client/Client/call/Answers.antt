use Rattle.std.proofs.Common.{arith}
use Rattle.lapin_client.proofs.Refused.{called_with, uncalled}
use Rattle.lapin_client.proofs.client.Client.call.Goals as goal

pub returns-in-Ok-clause-told : goal.returns-in-Ok-clause-told
returns-in-Ok-clause-told c =
    called_with c.call_method.result c.in-Ok.method c.args.channel c.args.octets.now c.args.self.now c.call_method.new.self c.in-Ok.ensures (omega (c.requires.1, arith)) c.call_method.ensures.told

pub returns-in-Err-Malformed-clause-told : goal.returns-in-Err-Malformed-clause-told
returns-in-Err-Malformed-clause-told c = uncalled c.args.channel c.args.octets.now c.args.self.now (rw c.in-Err-Malformed.field-0-is at c.in-Err-Malformed.ensures) (omega (c.requires.1, arith))
