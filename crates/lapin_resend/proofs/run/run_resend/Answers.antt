use Rattle.std.proofs.Common.{◌≡◌, ◌∷◌, arith, refl}
use Rattle.std.proofs.lemmas.Grind.{common_steps}
use Rattle.lapin_machine.proofs.Growing.{not_started}
use Rattle.lapin_resend.specs.Resend.{resend}
use Rattle.lapin_resend.proofs.Running.{at_next, at_stop}
use Rattle.lapin_resend.proofs.run.run_resend.Goals as goal
use Rattle.lapin_tables.proofs.Bools.{on_err}

pub loop-step-preserved : goal.loop-step-preserved
loop-step-preserved c =
    let is : c.loop-step.step-iterator.rest.items ≡ c.in-Some.step ∷ c.next.new.self.rest.items = grind (arith, common_steps, c.in-Some.ensures.steps, c.in-Some.ensures.goes) in
    at_next c.args.frame_max c.args.steps.items c.args.report.now.items c.loop-step.report.items c.add.new.report.items c.in-Some.step c.loop-step.step-iterator.rest.items c.next.new.self.rest.items c.loop-step.made c.add.new.run c.loop-step.invariant is c.in_ok-add.ensures.told

pub returns-in_err-add-clause-err : goal.returns-in_err-add-clause-err
returns-in_err-add-clause-err c = on_err c.from_residual.result _ (at_stop c.args.frame_max c.args.steps.items c.args.report.now.items c.loop-step.report.items c.add.new.report.items c.loop-step.step-iterator.rest.items c.loop-step.made c.loop-step.invariant c.in_err-add.ensures.err)

pub returns-in_default-clause-err : goal.returns-in_default-clause-err
returns-in_default-clause-err c = not_started c.args.report.now.items c.args.report.now.items (resend c.args.frame_max c.args.steps.items) refl
