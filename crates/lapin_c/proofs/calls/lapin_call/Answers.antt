use Rattle.std.proofs.Common.{◌≡◌, ℕ, Result, subst}
use Rattle.lapin_client.specs.declared.client.Client.{Client}
use Rattle.lapin_client.specs.declared.status.Status.{Status}
use Rattle.lapin_client.specs.Asking.{Called}
use Rattle.lapin_client.specs.Counts.{CallCounts}
use Rattle.lapin_c.specs.Behind.{Gave}
use Rattle.lapin_c.proofs.BehindLaws.{behind_some, gave_number}
use Rattle.lapin_c.proofs.calls.lapin_call.Goals as goal

pub returns-in-Some : goal.returns-in-Some
returns-in-Some c =
    let done = c.call-done in let n = c.number_of in
    behind_some (λ (b d : Client). Gave n.result c.args.ticket.now n.new.place (λ (r : Result ℕ Status). Called r c.args.channel c.args.method.now b d × CallCounts r b d)) ((n.result ≡ 7) × (n.new.place ≡ c.args.ticket.now)) c.args.handle.now.pointer.held c.put.new.handle.pointer.held c.in-Some.client.value done.new.self c.in-Some.ensures.value c.put.ensures
    (gave_number done.result n.result c.args.ticket.now n.new.place (λ (r : Result ℕ Status). Called r c.args.channel c.args.method.now c.in-Some.client.value done.new.self × CallCounts r c.in-Some.client.value done.new.self) n.ensures
    (subst (λ (b : Client). Called done.result c.args.channel c.args.method.now b done.new.self × CallCounts done.result b done.new.self) c.deref_mut.ensures.value (done.ensures.told, done.ensures.count)))
