use Rattle.std.proofs.Common.{◌≡◌, ◌+◌, ◌++◌, length}
use Rattle.std.specs.Vec.{vec_len, vec_capacity}
use Rattle.std.specs.VecDeque.{deque_len, deque_capacity}
use Rattle.lapin_confirm.proofs.sweep.pour.Given as goal

abbrev pub invariant-loop-message : goal.invariant-loop-message
invariant-loop-message l = record {
  same : l.into.items ++ l.from.items ≡ l.initial.into.items ++ l.initial.from.items;
  len : vec_len l.into + deque_len l.from ≡ vec_len l.initial.into + deque_len l.initial.from;
  capacity : vec_capacity l.into ≡ vec_capacity l.initial.into;
  room : deque_capacity l.from ≡ deque_capacity l.initial.from;
}

abbrev pub decreases-loop-message : goal.decreases-loop-message
decreases-loop-message l = length l.from.items
