use Rattle.std.proofs.Common.{refl, ap}
use Rattle.lapin_joint.specs.JoinedRun.{JoinedRun}
use Rattle.lapin_resend.proofs.StepLaws.{joined_tells, joined_goes}
use Rattle.lapin_resend.proofs.publisher.Publisher.joined_step.Goals as goal

pub returns-in-Ok-clause-told : goal.returns-in-Ok-clause-told
returns-in-Ok-clause-told c = joined_tells c.args.step c.args.self.now c.step.new.self c.in-Ok.report c.in-Ok.ensures.stands

pub returns-in-Ok-clause-goes : goal.returns-in-Ok-clause-goes
returns-in-Ok-clause-goes c =
    joined_goes c.args.step c.args.self.now (record { joined = c.step.new.self; messages = c.args.self.now.messages; selects = c.args.self.now.selects }) c.in-Ok.report c.in-Ok.ensures.stands (ap (λ (k : JoinedRun). k.stopped) c.in-Ok.ensures.ok) refl refl
