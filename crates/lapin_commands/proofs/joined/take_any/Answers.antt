use Rattle.lapin_commands.proofs.JoinedRuns.{step_made}
use Rattle.lapin_commands.proofs.joined.take_any.Goals as goal

pub returns-in_ok-print_step-in-Some : goal.returns-in_ok-print_step-in-Some
returns-in_ok-print_step-in-Some c =
    step_made c.args.line.now c.in-Some.step c.args.run.now c.print_step.new.run c.args.text.now.items c.print_step.new.text.items (rw c.in-Some.is at c.in_ok-step.ensures.found) c.in_ok-print_step-in-Some.ensures
