use Rattle.lapin_machine.specs.Way.{by_machine}
use Rattle.lapin_call.specs.Calls.{reports}
use Rattle.lapin_machine.specs.Growing.{IsLonger}
use Rattle.lapin_call.proofs.run.run_steps.Given as goal

abbrev pub invariant-loop-step : goal.invariant-loop-step
invariant-loop-step l = record {
  longer : IsLonger l.fn.report.items l.report.items (reports by_machine l.fn.steps.items l.fn.run.requester) (reports by_machine l.step-iterator.rest.items l.run.requester);
}
