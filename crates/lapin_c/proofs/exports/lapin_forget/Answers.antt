use Rattle.std.proofs.Common.{◌≡◌, subst}
use Rattle.lapin_client.specs.declared.client.Client.{Client}
use Rattle.lapin_client.specs.declared.status.Status.{Status}
use Rattle.lapin_client.specs.Calls.{Forgotten}
use Rattle.lapin_client.specs.Counts.{OneWhereDone}
use Rattle.lapin_c.specs.Behind.{Coded}
use Rattle.lapin_c.proofs.BehindLaws.{behind_some}
use Rattle.lapin_c.proofs.exports.lapin_forget.Goals as goal

pub returns-in-Some : goal.returns-in-Some
returns-in-Some c =
    behind_some (λ (b d : Client). Coded c.code.result (λ (s : Status). Forgotten s c.args.confirm b d × OneWhereDone s b d)) (c.code.result ≡ 7) c.args.handle.now.pointer.held c.put.new.handle.pointer.held c.in-Some.client.value c.forget-status.new.self c.in-Some.ensures.value c.put.ensures
    (c.forget-status.result, c.code.ensures, subst (λ (b : Client). Forgotten c.forget-status.result c.args.confirm b c.forget-status.new.self × OneWhereDone c.forget-status.result b c.forget-status.new.self) c.deref_mut.ensures.value (c.forget-status.ensures.told, c.forget-status.ensures.count))
