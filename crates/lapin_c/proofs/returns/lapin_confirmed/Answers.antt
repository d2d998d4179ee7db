use Rattle.std.proofs.Common.{◌≡◌, ℕ, Result, subst}
use Rattle.lapin_client.specs.declared.client.Client.{Client}
use Rattle.lapin_client.specs.declared.status.Status.{Status}
use Rattle.lapin_client.specs.Counts.{PollCounts}
use Rattle.lapin_client.specs.Returns.{ConfirmTold}
use Rattle.lapin_c.specs.Behind.{Gave}
use Rattle.lapin_c.proofs.BehindLaws.{behind_some, gave_number}
use Rattle.lapin_c.proofs.returns.lapin_confirmed.Goals as goal

pub returns-in-Some : goal.returns-in-Some
returns-in-Some c =
    let done = c.confirmed-done in let n = c.number_of in
    behind_some (λ (b d : Client). Gave n.result c.args.outcome.now n.new.place (λ (r : Result ℕ Status). ConfirmTold r c.args.confirm b d × PollCounts r b d)) ((n.result ≡ 7) × (n.new.place ≡ c.args.outcome.now)) c.args.handle.now.pointer.held c.put.new.handle.pointer.held c.in-Some.client.value done.new.self c.in-Some.ensures.value c.put.ensures
    (gave_number done.result n.result c.args.outcome.now n.new.place (λ (r : Result ℕ Status). ConfirmTold r c.args.confirm c.in-Some.client.value done.new.self × PollCounts r c.in-Some.client.value done.new.self) n.ensures
    (subst (λ (b : Client). ConfirmTold done.result c.args.confirm b done.new.self × PollCounts done.result b done.new.self) c.deref_mut.ensures.value (done.ensures.told, done.ensures.count)))
