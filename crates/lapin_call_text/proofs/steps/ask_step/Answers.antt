use Rattle.lapin_call_text.proofs.StepLaws.{asked_found, asked_none}
use Rattle.lapin_call_text.proofs.steps.ask_step.Goals as goal

pub returns-in-Ok-clause-found : goal.returns-in-Ok-clause-found
returns-in-Ok-clause-found c = asked_found c.args.line.now c.args.rest.now c.in-Ok.step c.requires c.in-Ok.ensures

pub returns-in-Err-Bad-clause-none : goal.returns-in-Err-Bad-clause-none
returns-in-Err-Bad-clause-none c = asked_none c.args.line.now c.args.rest.now c.requires (rw c.in-Err-Bad.field-0-is at c.in-Err-Bad.ensures)
