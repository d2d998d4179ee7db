use Rattle.std.proofs.Common.{◌≡◌, ◌≤◌, ◌++◌, map, length, vec_capacity}
use Rattle.lapin_shared_commands.specs.Dealt.{caller_of}
use Rattle.lapin_shared_commands.proofs.shifts.callers_back.Given as goal

abbrev pub invariant-loop-shift : goal.invariant-loop-shift
invariant-loop-shift g l = record {
  callers : l.callers.items ++ map caller_of l.shift-iterator.rest.items ≡ map caller_of l.fn.shifts.items;
  room : length l.fn.shifts.items ≤ vec_capacity l.callers;
}
