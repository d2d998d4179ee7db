use Rattle.std.proofs.Common.{ℕ, List, sym, subst}
use Rattle.lapin_client.specs.Calls.{IsText, Published}
use Rattle.lapin_client.proofs.Refused.{no_key}
use Rattle.lapin_client.proofs.client.Client.publish_to.Goals as goal

pub publish_octets-requires-clause-fits : goal.publish_octets-requires-clause-fits
publish_octets-requires-clause-fits c = (c.requires.text, subst (λ (x : List ℕ). IsText x) (sym c.in-Ok.ensures.0) c.in-Ok.ensures.1, c.requires.list)

pub returns-in-Ok-clause-told : goal.returns-in-Ok-clause-told
returns-in-Ok-clause-told c =
    let a = c.args in
    subst (λ (x : List ℕ). Published c.publish_octets.result a.channel a.exchange x a.options a.payload.now a.properties.now a.self.now c.publish_octets.new.self) c.in-Ok.ensures.0 c.publish_octets.ensures.told

pub returns-in-Err-clause-told : goal.returns-in-Err-clause-told
returns-in-Err-clause-told c =
    let a = c.args in no_key c.in-Err.status a.channel a.exchange a.routing_key.now a.options a.payload.now a.properties.now a.self.now c.in-Err.ensures
