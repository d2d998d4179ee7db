use Rattle.std.proofs.Common.{rules}
use Rattle.lapin_commands.specs.declared.words.Command.TheVariants as command
use Rattle.lapin_commands.proofs.Commands.{of_command}
use Rattle.lapin_program.proofs.Complete.{told_events, told_steps, told_resends, told_calls, told_seen}
use Rattle.lapin_program.proofs.commands.run_program.Goals as goal

pub returns-in-Ok-Some-Generate-clause-fine : goal.returns-in-Ok-Some-Generate-clause-fine
returns-in-Ok-Some-Generate-clause-fine g c = of_command c.args.words.now _ (command.Generate c.in-Ok-Some-Generate.publishes) (search rules) c.run_generated.ensures.fine

pub returns-in-Ok-Some-Generate-clause-cut_short : goal.returns-in-Ok-Some-Generate-clause-cut_short
returns-in-Ok-Some-Generate-clause-cut_short g c = of_command c.args.words.now _ (command.Generate c.in-Ok-Some-Generate.publishes) (search rules) c.run_generated.ensures.cut_short

pub returns-in-Ok-Some-Generate-clause-no_memory : goal.returns-in-Ok-Some-Generate-clause-no_memory
returns-in-Ok-Some-Generate-clause-no_memory g c = of_command c.args.words.now _ (command.Generate c.in-Ok-Some-Generate.publishes) (search rules) c.run_generated.ensures.no_memory

pub returns-in-Ok-Some-Session-clause-complete : goal.returns-in-Ok-Some-Session-clause-complete
returns-in-Ok-Some-Session-clause-complete g c = of_command c.args.words.now _ command.Session (search rules) (λ told. c.answer_input.ensures.complete (told_events _ told))

pub returns-in-Ok-Some-Joined-clause-complete : goal.returns-in-Ok-Some-Joined-clause-complete
returns-in-Ok-Some-Joined-clause-complete g c = of_command c.args.words.now _ command.Joined (search rules) (λ told. c.answer_input-in-Ok-Some-Joined.ensures.complete (told_steps _ told))

pub returns-in-Ok-Some-Resend-clause-complete : goal.returns-in-Ok-Some-Resend-clause-complete
returns-in-Ok-Some-Resend-clause-complete g c = of_command c.args.words.now _ command.Resend (search rules) (λ told. c.answer_input-in-Ok-Some-Resend.ensures.complete (told_resends _ told))

pub returns-in-Ok-Some-Call-clause-complete : goal.returns-in-Ok-Some-Call-clause-complete
returns-in-Ok-Some-Call-clause-complete g c = of_command c.args.words.now _ (command.Call c.in-Ok-Some-Call.queue) (search rules) (λ told. c.answer_input-in-Ok-Some-Call.ensures.complete (told_calls _ _ told))

pub returns-in-Ok-Some-Check-clause-complete : goal.returns-in-Ok-Some-Check-clause-complete
returns-in-Ok-Some-Check-clause-complete g c = of_command c.args.words.now _ command.Check (search rules) (λ told. c.answer_input-in-Ok-Some-Check.ensures.complete (told_seen _ told))
