use Rattle.std.proofs.Common.{◌∙◌, [], sym, ap, subst, map}
use Rattle.lapin_joint.specs.JoinedRun.{JoinedRun, StandsFor}
use Rattle.lapin_resend.specs.Messages.{forgotten}
use Rattle.lapin_resend.specs.Follows.{standing, place}
use Rattle.lapin_resend.proofs.StepLaws.{loss_goes}
use Rattle.lapin_resend.proofs.publisher.Publisher.lose.Goals as goal

pub returns-in-Ok-clause-goes : goal.returns-in-Ok-clause-goes
returns-in-Ok-clause-goes c =
    loss_goes c.args.frame_max c.args.self.now c.begin_anew.new.self
    (subst (λ (k : JoinedRun). StandsFor c.args.frame_max [] k) (sym c.begin_anew.ensures.joined) c.in-Ok.ensures.stands)
    (ap (λ (k : JoinedRun). k.stopped) (c.begin_anew.ensures.joined ∙ c.in-Ok.ensures.made))
    c.begin_anew.ensures.selects
    (c.begin_anew.ensures.messages ∙ ap (λ ms. map forgotten (map standing ms.items)) c.in_ok-report.ensures.same)
    (c.begin_anew.ensures.places ∙ ap (λ ms. map place ms.items) c.in_ok-report.ensures.same)
