use Rattle.lapin_joint_text.proofs.StepLaws.{client_found, client_none}
use Rattle.lapin_joint_text.proofs.steps.client_step.Goals as goal

pub returns-in-Some-clause-found : goal.returns-in-Some-clause-found
returns-in-Some-clause-found c = client_found c.args.line.now c.args.rest.now c.in-Some.event c.requires (rw c.in-Some.is at c.in_ok-event.ensures.found)

pub returns-in-None-clause-none : goal.returns-in-None-clause-none
returns-in-None-clause-none c = client_none c.args.line.now c.args.rest.now c.requires (rw c.in-None.is at c.in_ok-event.ensures.none)
