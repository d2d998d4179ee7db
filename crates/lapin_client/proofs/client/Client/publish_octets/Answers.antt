use Rattle.std.proofs.Common.{refl}
use Rattle.lapin_client.proofs.Refused.{published_with}
use Rattle.lapin_client.proofs.client.Client.publish_octets.Goals as goal

pub returns-clause-told : goal.returns-clause-told
returns-clause-told c =
    let a = c.args in
    published_with c.publish_values.result a.channel a.exchange a.routing_key a.exchange a.routing_key a.options a.payload.now a.properties.now c.in-Ok-new.payload c.in-Ok.properties a.self.now c.publish_values.new.self
    refl refl c.in-Ok-new.ensures c.in-Ok.ensures.ok c.requires.fits c.publish_values.ensures.told
