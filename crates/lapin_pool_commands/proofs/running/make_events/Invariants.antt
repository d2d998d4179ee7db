use Rattle.std.proofs.Common.{◌≡◌, ◌++◌, map}
use Rattle.lapin_shared.specs.Own.{event_of}
use Rattle.lapin_pool_commands.proofs.running.make_events.Given as goal

-- the events so far were made, and the rest is left
abbrev pub invariant-loop-event : goal.invariant-loop-event
invariant-loop-event g l = record {
  number : l.caller.number ≡ l.fn.caller.number;
  made : map event_of l.caller.log ++ l.event-iterator.rest.items ≡ map event_of l.fn.caller.log ++ l.fn.events.items;
}
