use Rattle.std.proofs.Common.{[], ◌∷◌, Some, sym, subst}
use Rattle.lapin_call.specs.CallRun.{CallRun}
use Rattle.lapin_commands.specs.Call.{CallsGoOn}
use Rattle.lapin_commands.proofs.CallRuns.{calls_add_from, calls_stop}
use Rattle.lapin_commands.proofs.call.OfCallsRun.take_line.Goals as goal

pub returns-in_ok-print_step-in-Some-clause-good : goal.returns-in_ok-print_step-in-Some-clause-good
returns-in_ok-print_step-in-Some-clause-good c =
    let found = rw c.in-Some.is at c.in_ok-step.ensures.found in
    λ _. calls_add_from c.args.run.now c.print_step.new.run c.in-Some.step c.args.line.now c.args.text.now.items c.print_step.new.text.items found.1 found.0 c.in_ok-print_step-in-Some.ensures.run c.in_ok-print_step-in-Some.ensures.text

pub returns-in-None-clause-bad : goal.returns-in-None-clause-bad
returns-in-None-clause-bad c =
    let none = rw c.in-None.is at c.in_ok-step.ensures.none in
    λ _ past n lines here. subst (λ (x : CallRun). CallsGoOn x n (c.args.line.now ∷ lines) (Some n) []) (sym here) (calls_stop c.args.run.now n lines c.args.line.now none)
