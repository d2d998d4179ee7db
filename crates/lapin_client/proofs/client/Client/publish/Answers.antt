use Rattle.std.proofs.Common.{ℕ, List, sym, subst}
use Rattle.lapin_client.specs.Calls.{IsText, Published}
use Rattle.lapin_client.proofs.Refused.{no_exchange}
use Rattle.lapin_client.proofs.client.Client.publish.Goals as goal

pub publish_to-requires-clause-text : goal.publish_to-requires-clause-text
publish_to-requires-clause-text c = subst (λ (x : List ℕ). IsText x) (sym c.in-Ok.ensures.0) c.in-Ok.ensures.1

pub returns-in-Ok-clause-told : goal.returns-in-Ok-clause-told
returns-in-Ok-clause-told c =
    let a = c.args in
    subst (λ (x : List ℕ). Published c.publish_to.result a.channel x a.routing_key.now a.options a.payload.now a.properties.now a.self.now c.publish_to.new.self) c.in-Ok.ensures.0 c.publish_to.ensures.told

pub returns-in-Err-clause-told : goal.returns-in-Err-clause-told
returns-in-Err-clause-told c =
    let a = c.args in no_exchange c.in-Err.status a.channel a.exchange.now a.routing_key.now a.options a.payload.now a.properties.now a.self.now c.in-Err.ensures
