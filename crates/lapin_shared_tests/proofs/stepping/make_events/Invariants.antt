use Rattle.std.proofs.Common.{◌≡◌}
use Rattle.lapin_shared_tests.proofs.stepping.make_events.Given as goal

-- the caller keeps its number
abbrev pub invariant-loop-event : goal.invariant-loop-event
invariant-loop-event g l = l.caller.number ≡ l.fn.caller.number
