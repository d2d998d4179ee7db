use Rattle.lapin_resend_text.proofs.StepLaws.{send_found, send_none}
use Rattle.lapin_resend_text.proofs.steps.send_step.Goals as goal

pub returns-in-Some-clause-found : goal.returns-in-Some-clause-found
returns-in-Some-clause-found c = send_found c.args.line.now c.args.rest.now c.in-Some.frame c.requires (rw c.in-Some.is at c.in_ok-frame.ensures.found)

pub returns-in-None-clause-none : goal.returns-in-None-clause-none
returns-in-None-clause-none c = send_none c.args.line.now c.args.rest.now c.requires (rw c.in-None.is at c.in_ok-frame.ensures.none)
