use Rattle.lapin_shared_commands.proofs.Complete.{not_bad}
use Rattle.lapin_shared_commands.proofs.answering.answer.Goals as goal

-- no line of an input in the format is bad
pub returns-in-Ok-Some-clause-complete : goal.returns-in-Ok-Some-clause-complete
returns-in-Ok-Some-clause-complete g c = λ said calm.
    not_bad c.args.callers c.args.input.items c.in-Ok.history c.in-Ok.bad c.in-Ok-Some.field-0-1 c.in-Ok.ensures c.in-Ok-Some.is-1 said
