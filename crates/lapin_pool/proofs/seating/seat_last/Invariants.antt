use Rattle.std.proofs.Common.{◌≡◌, ◌+◌, ◌-◌, ◌≤◌, ◌++◌, map, length, vec_len, vec_capacity}
use Rattle.std.specs.Prelude.{reverse}
use Rattle.lapin_pool.specs.Seats.{AreNew, caller_of}
use Rattle.lapin_pool.proofs.seating.seat_last.Given as goal

-- the callers that are seated are those that no longer stand in the list, and their room there is free
abbrev pub invariant-loop-alloc : goal.invariant-loop-alloc
invariant-loop-alloc g l = record {
  callers : l.callers.items ++ reverse (map caller_of l.seats.items) ≡ l.initial.callers.items;
  new : AreNew l.seats.items;
  some : length l.callers.items + length l.seats.items ≡ length l.initial.callers.items;
  within : length l.seats.items ≤ l.workers;
  room : l.workers ≤ vec_capacity l.seats;
  free : length l.initial.callers.items ≤ vec_capacity l.callers;
}

abbrev pub decreases-loop-alloc : goal.decreases-loop-alloc
decreases-loop-alloc g l = l.workers - vec_len l.seats
