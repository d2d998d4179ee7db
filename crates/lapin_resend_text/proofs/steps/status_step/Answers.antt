use Rattle.std.proofs.Common.{arith}
use Rattle.lapin_resend_text.proofs.StepLaws.{status_found, status_none}
use Rattle.lapin_resend_text.proofs.steps.status_step.Goals as goal

pub returns-in-Some-clause-found : goal.returns-in-Some-clause-found
returns-in-Some-clause-found c = status_found c.args.line.now c.args.rest.now c.in-Some.number c.requires c.in-Some.ensures.found (omega arith)

pub returns-in-None-clause-none : goal.returns-in-None-clause-none
returns-in-None-clause-none c = status_none c.args.line.now c.args.rest.now c.requires c.in-None.ensures.none
