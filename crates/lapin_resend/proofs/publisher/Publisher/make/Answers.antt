use Rattle.lapin_resend.specs.Resend.{begun}
use Rattle.lapin_resend.proofs.StepLaws.{tended_but}
use Rattle.lapin_resend.proofs.publisher.Publisher.make.Goals as goal

pub returns-in-Ok-clause-goes : goal.returns-in-Ok-clause-goes
returns-in-Ok-clause-goes c p h = tended_but c.args.frame_max c.args.known.now (begun c.args.step p) c.begin.new.self c.tend.new.self c.in-Ok.ensures.goes c.in-Ok.ensures.places (c.in_ok-report.ensures.goes p h)
