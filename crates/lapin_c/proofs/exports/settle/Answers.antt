use Rattle.std.proofs.Common.{◌≡◌, subst}
use Rattle.lapin_client.specs.declared.client.Client.{Client}
use Rattle.lapin_client.specs.declared.status.Status.{Status}
use Rattle.lapin_client.specs.Calls.{Settled, fate_call}
use Rattle.lapin_client.specs.Counts.{SettleCounts}
use Rattle.lapin_c.specs.Behind.{Coded}
use Rattle.lapin_c.proofs.BehindLaws.{behind_some}
use Rattle.lapin_c.proofs.exports.settle.Goals as goal

pub returns-in-Some : goal.returns-in-Some
returns-in-Some c =
    behind_some (λ (b d : Client). Coded c.code.result (λ (s : Status). Settled s c.args.acker (fate_call c.args.fate c.args.multiple c.args.requeue) b d × SettleCounts s b d)) (c.code.result ≡ 7) c.args.handle.now.pointer.held c.put.new.handle.pointer.held c.in-Some.client.value c.settle-status.new.self c.in-Some.ensures.value c.put.ensures
    (c.settle-status.result, c.code.ensures, subst (λ (b : Client). Settled c.settle-status.result c.args.acker (fate_call c.args.fate c.args.multiple c.args.requeue) b c.settle-status.new.self × SettleCounts c.settle-status.result b c.settle-status.new.self) c.deref_mut.ensures.value (c.settle-status.ensures.told, c.settle-status.ensures.count))
