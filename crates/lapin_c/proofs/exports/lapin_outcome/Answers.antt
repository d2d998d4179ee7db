use Rattle.std.proofs.Common.{◌≡◌, subst, refl, inl, inr, Ok, Err}
use Rattle.lapin_client.specs.declared.client.Client.{Client}
use Rattle.lapin_client.specs.Calls.{OutcomeTold}
use Rattle.lapin_client.specs.Counts.{OutcomeCounts}
use Rattle.lapin_c.specs.Behind.{Gave}
use Rattle.lapin_c.proofs.BehindLaws.{behind_some}
use Rattle.lapin_c.proofs.exports.lapin_outcome.Goals as goal

pub returns-in-Some : goal.returns-in-Some
returns-in-Some c =
    behind_some (λ (b d : Client). OutcomeTold c.outcome-outcome.result c.args.confirm b d × OutcomeCounts c.outcome-outcome.result b d) (c.outcome-outcome.result ≡ 0) c.args.handle.now.pointer.held c.put.new.handle.pointer.held c.in-Some.client.value c.outcome-outcome.new.self c.in-Some.ensures.value c.put.ensures
    (subst (λ (b : Client). OutcomeTold c.outcome-outcome.result c.args.confirm b c.outcome-outcome.new.self × OutcomeCounts c.outcome-outcome.result b c.outcome-outcome.new.self) c.deref_mut.ensures.value (c.outcome-outcome.ensures.told, c.outcome-outcome.ensures.count))
