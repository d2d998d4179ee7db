use Rattle.std.proofs.Common.{rules}
use Rattle.lapin_call_text.proofs.StepLaws.{bare_none}
use Rattle.lapin_call_text.proofs.steps.bare_step.Goals as goal

pub returns-in-None-clause-none : goal.returns-in-None-clause-none
returns-in-None-clause-none c = bare_none c.args.line.now c.requires.ask c.requires.take (search rules) (rw c.in-None.is at c.in_ok-event.ensures.none)
