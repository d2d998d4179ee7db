use Rattle.std.proofs.Common.{◌≡◌, subst}
use Rattle.lapin_client.specs.declared.client.Client.{Client}
use Rattle.lapin_client.specs.declared.status.Status.{Status}
use Rattle.lapin_client.specs.Counts.{OneWhereDone}
use Rattle.lapin_client.specs.States.{IsLost}
use Rattle.lapin_c.specs.Behind.{Coded}
use Rattle.lapin_c.proofs.BehindLaws.{behind_some}
use Rattle.lapin_c.proofs.calls.lapin_lost.Goals as goal

pub returns-in-Some : goal.returns-in-Some
returns-in-Some c =
    behind_some (λ (b d : Client). Coded c.code.result (λ (s : Status). IsLost s b d × OneWhereDone s b d)) (c.code.result ≡ 7) c.args.handle.now.pointer.held c.put.new.handle.pointer.held c.in-Some.client.value c.lost-status.new.self c.in-Some.ensures.value c.put.ensures
    (c.lost-status.result, c.code.ensures, subst (λ (b : Client). IsLost c.lost-status.result b c.lost-status.new.self × OneWhereDone c.lost-status.result b c.lost-status.new.self) c.deref_mut.ensures.value (c.lost-status.ensures.told, c.lost-status.ensures.count))
