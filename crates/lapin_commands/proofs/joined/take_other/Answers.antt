use Rattle.std.proofs.Common.{◌≡◌, rules}
use Rattle.std.specs.Prelude.{codes}
use Rattle.lapin_joint.specs.declared.step.Step.TheVariants as step
use Rattle.lapin_commands.proofs.JoinedRuns.{step_made}
use Rattle.lapin_commands.proofs.joined.take_other.Goals as goal

pub returns-then-eq-2 : goal.returns-then-eq-2
returns-then-eq-2 c =
    let is : c.args.line.now ≡ codes "deliver" = search rules in
    step_made c.args.line.now step.Deliver c.args.run.now c.print_delivered.new.run c.args.text.now.items c.print_delivered.new.text.items (is, tt) c.in_ok-print_delivered.ensures
