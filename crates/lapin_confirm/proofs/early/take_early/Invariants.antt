use Rattle.std.proofs.Common.{◌≡◌, ◌+◌, ◌≤◌, [], length}
use Rattle.std.specs.Vec.{vec_len, vec_capacity}
use Rattle.std.specs.VecDeque.{deque_len, deque_capacity}
use Rattle.lapin_confirm.specs.Turns.{turned, turns}
use Rattle.lapin_confirm.proofs.early.take_early.Given as goal

abbrev pub invariant-loop-left : goal.invariant-loop-left
invariant-loop-left l = record {
  same : turns l.channel l.left (turned l.given.items l.early.items) ≡ turns l.channel (length l.initial.early.items) (turned [] l.initial.early.items);
  given : vec_len l.given + l.left ≤ vec_capacity l.given;
  len : deque_len l.early ≤ deque_len l.initial.early;
  capacity : deque_capacity l.early ≡ deque_capacity l.initial.early;
}

abbrev pub decreases-loop-left : goal.decreases-loop-left
decreases-loop-left l = l.left
