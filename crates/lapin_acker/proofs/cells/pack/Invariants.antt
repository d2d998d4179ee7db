use Rattle.std.proofs.Common.{◌≡◌, ◌-◌, ◌≤◌, drop}
use Rattle.std.specs.VecDeque.{deque_capacity}
use Rattle.lapin_acker.proofs.cells.pack.Given as goal

abbrev pub invariant-loop-left : goal.invariant-loop-left
invariant-loop-left l = record {
  within : l.left ≤ 64;
  tail : l.tail.items ≡ drop (64 - l.left) l.fn.tail.items;
  capacity : deque_capacity l.tail ≡ deque_capacity l.fn.tail;
}

abbrev pub decreases-loop-left : goal.decreases-loop-left
decreases-loop-left l = l.left
