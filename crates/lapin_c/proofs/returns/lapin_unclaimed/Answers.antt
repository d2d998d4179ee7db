use Rattle.std.proofs.Common.{◌≡◌, ℕ, Result, subst}
use Rattle.lapin_client.specs.declared.client.Client.{Client}
use Rattle.lapin_client.specs.declared.status.Status.{Status}
use Rattle.lapin_client.specs.Counts.{UnclaimedCounts}
use Rattle.lapin_client.specs.Returns.{UnclaimedTold}
use Rattle.lapin_c.specs.Behind.{Gave}
use Rattle.lapin_c.proofs.BehindLaws.{behind_some, gave_number}
use Rattle.lapin_c.proofs.returns.lapin_unclaimed.Goals as goal

pub returns-in-Some : goal.returns-in-Some
returns-in-Some c =
    let done = c.unclaimed-done in let n = c.number_of in
    behind_some (λ (b d : Client). Gave n.result c.args.count.now n.new.place (λ (r : Result ℕ Status). UnclaimedTold r c.args.channel b d × UnclaimedCounts r b d)) ((n.result ≡ 7) × (n.new.place ≡ c.args.count.now)) c.args.handle.now.pointer.held c.put.new.handle.pointer.held c.in-Some.client.value done.new.self c.in-Some.ensures.value c.put.ensures
    (gave_number done.result n.result c.args.count.now n.new.place (λ (r : Result ℕ Status). UnclaimedTold r c.args.channel c.in-Some.client.value done.new.self × UnclaimedCounts r c.in-Some.client.value done.new.self) n.ensures
    (subst (λ (b : Client). UnclaimedTold done.result c.args.channel b done.new.self × UnclaimedCounts done.result b done.new.self) c.deref_mut.ensures.value (done.ensures.told, done.ensures.count)))
