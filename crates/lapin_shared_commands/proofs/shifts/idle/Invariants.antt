use Rattle.std.proofs.Common.{◌≡◌, ◌≤◌, ◌++◌, map, length, vec_capacity}
use Rattle.lapin_shared_commands.specs.Dealt.{caller_of, AreIdle}
use Rattle.lapin_shared_commands.proofs.shifts.idle.Given as goal

abbrev pub invariant-loop-caller : goal.invariant-loop-caller
invariant-loop-caller g l = record {
  callers : map caller_of l.shifts.items ++ l.caller-iterator.rest.items ≡ l.fn.callers.items;
  none : AreIdle l.shifts.items;
  room : length l.fn.callers.items ≤ vec_capacity l.shifts;
}
