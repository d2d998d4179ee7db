use Rattle.std.proofs.Common.{◌∙◌, sym, ap}
use Rattle.std.proofs.lemmas.Result.{on_ok_weaker}
use Rattle.lapin_resend.specs.declared.step.ResendStep.{ResendStep}
use Rattle.lapin_resend.specs.declared.step.ResendStep.TheVariants as step
use Rattle.lapin_resend.specs.Resend.{report_of}
use Rattle.lapin_resend.proofs.StepLaws.{begun_by, status_tells}
use Rattle.lapin_resend.proofs.publisher.Publisher.begin.Goals as goal

pub returns-in-Next-clause-goes : goal.returns-in-Next-clause-goes
returns-in-Next-clause-goes c = on_ok_weaker c.joined_step.result (λ goes p h. begun_by c.args.frame_max c.args.known.now c.args.step step.Next p c.joined_step.new.self c.in-Next.is (goes c.args.frame_max c.args.known.now p h.follows)) c.joined_step.ensures.goes

pub returns-in-Read-clause-goes : goal.returns-in-Read-clause-goes
returns-in-Read-clause-goes c = on_ok_weaker c.joined_step-in-Read.result (λ goes p h. begun_by c.args.frame_max c.args.known.now c.args.step step.Read p c.joined_step-in-Read.new.self c.in-Read.is (goes c.args.frame_max c.args.known.now p h.follows)) c.joined_step-in-Read.ensures.goes

pub returns-in-Send-clause-goes : goal.returns-in-Send-clause-goes
returns-in-Send-clause-goes c = on_ok_weaker c.joined_step-in-Send.result (λ goes p h. begun_by c.args.frame_max c.args.known.now c.args.step (step.Send c.in-Send.frame) p c.joined_step-in-Send.new.self c.in-Send.is (goes c.args.frame_max c.args.known.now p h.follows)) c.joined_step-in-Send.ensures.goes

pub returns-in-Deliver-clause-goes : goal.returns-in-Deliver-clause-goes
returns-in-Deliver-clause-goes c = on_ok_weaker c.joined_step-in-Deliver.result (λ goes p h. begun_by c.args.frame_max c.args.known.now c.args.step step.Deliver p c.joined_step-in-Deliver.new.self c.in-Deliver.is (goes c.args.frame_max c.args.known.now p h.follows)) c.joined_step-in-Deliver.ensures.goes

pub returns-in-Status-clause-told : goal.returns-in-Status-clause-told
returns-in-Status-clause-told c p h =
    status_tells c.in-Status.message c.args.known.now c.args.self.now c.status.result c.status.ensures c.args.frame_max p h
    ∙ ap (λ (s : ResendStep). report_of c.args.frame_max s p) (sym c.in-Status.is)
