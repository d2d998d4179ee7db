use Rattle.std.proofs.Common.{◌≡◌, true, sym, subst}
use Rattle.std.specs.Prelude.{IfSome}
use Rattle.std.proofs.lemmas.Result.{IfOk-weaker}
use Rattle.lapin_broker.specs.Sends.{may}
use Rattle.lapin_broker.proofs.PlainMay.{plain_goes}
use Rattle.lapin_broker.proofs.plain.PlainBroker.next.Goals as goal

pub returns-clause-allowed : goal.returns-clause-allowed
returns-clause-allowed c =
    IfOk-weaker c.plain_frame.result _ _
    (λ o same. subst (λ o. IfSome o (λ f. may c.args.broker.now f ≡ true)) (sym same) (plain_goes c.args.broker.now))
    c.plain_frame.ensures
