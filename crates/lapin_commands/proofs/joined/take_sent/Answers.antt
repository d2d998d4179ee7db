use Rattle.lapin_joint.specs.declared.step.Step.TheVariants as step
use Rattle.lapin_commands.proofs.JoinedRuns.{step_made}
use Rattle.lapin_commands.proofs.joined.take_sent.Goals as goal

pub returns-in_ok-print_sent-in-Some : goal.returns-in_ok-print_sent-in-Some
returns-in_ok-print_sent-in-Some c =
    step_made c.args.line.now (step.Send c.in-Some.frame) c.args.run.now c.print_sent.new.run c.args.text.now.items c.print_sent.new.text.items (rw c.in-Some.is at c.in_ok-frame.ensures.found) c.in_ok-print_sent-in-Some.ensures
