use Rattle.std.proofs.Common.{◌∙◌, subst, OnOk}
use Rattle.std.specs.Io.KnownBytes.{Appends}
use Rattle.lapin_pool_commands.specs.Printed.{run_text}
use Rattle.lapin_pool_commands.proofs.Complete.{not_bad, wrote_all}
use Rattle.lapin_pool_commands.proofs.answering.answer.Goals as goal

-- no line of an input in the format is bad
pub returns-in-Ok-Some-clause-complete : goal.returns-in-Ok-Some-clause-complete
returns-in-Ok-Some-clause-complete g c = λ said calm.
    not_bad c.args.workers c.args.input.now c.in-Ok.end c.in-Ok.bad c.in-Ok-Some.field-0-1 c.in-Ok.ensures c.in-Ok-Some.is-1 said

-- the text of what is kept was written
pub returns-in-Ok-None-clause-fine : goal.returns-in-Ok-None-clause-fine
returns-in-Ok-None-clause-fine g c = λ fine.
    let before = g.K.Sink.written c.args.sink.now in
    let after = g.K.Sink.written c.write_all.new.sink in
    let whole : Appends before after c.deref.result.now = subst (λ r. OnOk r (Appends before after c.deref.result.now)) c.in-Ok-None.is-0 c.write_all.ensures.whole in
    let wrote : Appends before after (run_text c.in-Ok.end c.in-Ok.bad) = subst (λ l. Appends before after l) (c.deref.ensures.value ∙ c.in-Ok-print_end.ensures) whole in
    wrote_all c.args.workers c.args.input.now c.in-Ok.end c.in-Ok.bad before after c.in-Ok.ensures c.in-Ok-None.is-1 wrote
