use Rattle.std.proofs.Common.{◌+◌, ◌<◌, ◌^◌, length}
use Rattle.lapin_machine.specs.Way.{by_machine}
use Rattle.lapin_joint.specs.Order.{along}
use Rattle.lapin_machine.specs.Growing.{IsLonger}
use Rattle.lapin_transcript.specs.Transcript.{seen_in}
use Rattle.lapin_transcript.proofs.transcript.run_steps.Given as goal

abbrev pub invariant-loop-step : goal.invariant-loop-step
invariant-loop-step l = record {
  longer : IsLonger l.fn.transcript.items l.transcript.items (along by_machine seen_in l.fn.steps.items l.fn.run.joint) (along by_machine seen_in l.step-iterator.rest.items l.run.joint);
  numbers : l.run.steps + length l.step-iterator.rest.items < 2 ^ 64;
}
