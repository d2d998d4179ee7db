use Rattle.std.proofs.Common.{◌≡◌, ◌++◌, map, vec_len}
use Rattle.std.specs.Prelude.{reverse}
use Rattle.lapin_shared.specs.Own.{event_of}
use Rattle.lapin_shared_commands.proofs.turns.make_own.Given as goal

-- the caller made the events that are no longer left
abbrev pub invariant-loop-event : goal.invariant-loop-event
invariant-loop-event g l = record {
  number : l.caller.number ≡ l.fn.caller.number;
  done : map event_of l.caller.log ++ reverse l.events.items ≡ map event_of l.fn.caller.log ++ reverse l.fn.events.items;
}

abbrev pub decreases-loop-event : goal.decreases-loop-event
decreases-loop-event g l = vec_len l.events
