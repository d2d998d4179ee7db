use Rattle.std.proofs.Common.{◌≡◌, subst}
use Rattle.lapin_client.specs.declared.client.Client.{Client}
use Rattle.lapin_client.specs.declared.status.Status.{Status}
use Rattle.lapin_client.specs.Asking.{Unasked}
use Rattle.lapin_client.specs.Counts.{OneWhereDone}
use Rattle.lapin_c.specs.Behind.{Coded}
use Rattle.lapin_c.proofs.BehindLaws.{behind_some}
use Rattle.lapin_c.proofs.calls.lapin_forget_call.Goals as goal

pub returns-in-Some : goal.returns-in-Some
returns-in-Some c =
    behind_some (λ (b d : Client). Coded c.code.result (λ (s : Status). Unasked s c.args.ticket b d × OneWhereDone s b d)) (c.code.result ≡ 7) c.args.handle.now.pointer.held c.put.new.handle.pointer.held c.in-Some.client.value c.forget_call-status.new.self c.in-Some.ensures.value c.put.ensures
    (c.forget_call-status.result, c.code.ensures, subst (λ (b : Client). Unasked c.forget_call-status.result c.args.ticket b c.forget_call-status.new.self × OneWhereDone c.forget_call-status.result b c.forget_call-status.new.self) c.deref_mut.ensures.value (c.forget_call-status.ensures.told, c.forget_call-status.ensures.count))
