use Rattle.lapin_resend_text.proofs.StepLaws.{submit_found, submit_none}
use Rattle.lapin_resend_text.proofs.steps.submit_step.Goals as goal

pub returns-in-Some-clause-found : goal.returns-in-Some-clause-found
returns-in-Some-clause-found c = submit_found c.args.line.now c.args.rest.now c.in-Some.message c.requires (rw c.in-Some.is at c.in_ok-message.ensures.found)

pub returns-in-None-clause-none : goal.returns-in-None-clause-none
returns-in-None-clause-none c = submit_none c.args.line.now c.args.rest.now c.requires (rw c.in-None.is at c.in_ok-message.ensures.none)
