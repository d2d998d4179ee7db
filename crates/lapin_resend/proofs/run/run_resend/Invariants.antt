use Rattle.lapin_resend.proofs.Running.{IsAt}
use Rattle.lapin_resend.proofs.run.run_resend.Given as goal

abbrev pub invariant-loop-step : goal.invariant-loop-step
invariant-loop-step l = IsAt l.frame_max l.fn.steps.items l.fn.report.items l.report.items l.step-iterator.rest.items l.made
