use Rattle.std.proofs.Common.{◌++◌, ◌∷◌, []}
use Rattle.lapin_commands.proofs.ResendRuns.{resend_adds, resend_stops}
use Rattle.lapin_commands.proofs.resend.OfResendRun.take_line.Goals as goal

pub returns-in_ok-print_step-in-Some-clause-good : goal.returns-in_ok-print_step-in-Some-clause-good
returns-in_ok-print_step-in-Some-clause-good c =
    let found = rw c.in-Some.is at c.in_ok-step.ensures.found in
    λ _ past h.
    let told = c.in_ok-print_step-in-Some.ensures.told past.0 past.1 h in
    ((past.0, past.1 ++ c.in-Some.step ∷ []), told.2, resend_adds past.0 past.1 c.in-Some.step told.0 c.args.line.now c.args.text.now.items c.print_step.new.text.items found.1 found.0 told.1 told.3)

pub returns-in-None-clause-bad : goal.returns-in-None-clause-bad
returns-in-None-clause-bad c =
    let none = rw c.in-None.is at c.in_ok-step.ensures.none in
    λ _ past n lines h. resend_stops past.0 past.1 n lines c.args.line.now none
