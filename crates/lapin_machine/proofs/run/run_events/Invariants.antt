use Rattle.std.proofs.Common.{length}
use Rattle.lapin_machine.specs.World.{outputs}
use Rattle.lapin_machine.specs.Growing.{IsLonger}
use Rattle.lapin_machine.specs.Numbers.{HasNumbersFor}
use Rattle.lapin_machine.proofs.run.run_events.Given as goal

abbrev pub invariant-loop-event : goal.invariant-loop-event
invariant-loop-event l = record {
  longer : IsLonger l.fn.trace.items l.trace.items (outputs l.fn.session l.fn.events.items) (outputs l.session l.event-iterator.rest.items);
  numbers : HasNumbersFor (length l.event-iterator.rest.items) l.session;
}
