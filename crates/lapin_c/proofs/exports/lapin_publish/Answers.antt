use Rattle.std.proofs.Common.{◌≡◌, ℕ, Result, subst}
use Rattle.lapin_client.specs.declared.client.Client.{Client}
use Rattle.lapin_client.specs.declared.status.Status.{Status}
use Rattle.lapin_client.specs.Calls.{Published}
use Rattle.lapin_client.specs.Counts.{PublishCounts}
use Rattle.lapin_c.specs.Behind.{Gave}
use Rattle.lapin_c.proofs.BehindLaws.{behind_some, gave_number}
use Rattle.lapin_c.proofs.exports.lapin_publish.Goals as goal

pub returns-in-Some : goal.returns-in-Some
returns-in-Some c =
    let done = c.publish-done in let n = c.number_of in
    behind_some (λ (b d : Client). Gave n.result c.args.confirm.now n.new.place (λ (r : Result ℕ Status). Published r c.args.channel c.args.exchange.now c.args.routing_key.now (record { mandatory = c.args.mandatory; immediate = c.args.immediate }) c.args.payload.now c.args.properties.now b d × PublishCounts r b d)) ((n.result ≡ 7) × (n.new.place ≡ c.args.confirm.now)) c.args.handle.now.pointer.held c.put.new.handle.pointer.held c.in-Some.client.value done.new.self c.in-Some.ensures.value c.put.ensures
    (gave_number done.result n.result c.args.confirm.now n.new.place (λ (r : Result ℕ Status). Published r c.args.channel c.args.exchange.now c.args.routing_key.now (record { mandatory = c.args.mandatory; immediate = c.args.immediate }) c.args.payload.now c.args.properties.now c.in-Some.client.value done.new.self × PublishCounts r c.in-Some.client.value done.new.self) n.ensures
    (subst (λ (b : Client). Published done.result c.args.channel c.args.exchange.now c.args.routing_key.now (record { mandatory = c.args.mandatory; immediate = c.args.immediate }) c.args.payload.now c.args.properties.now b done.new.self × PublishCounts done.result b done.new.self) c.deref_mut.ensures.value (done.ensures.told, done.ensures.count)))
