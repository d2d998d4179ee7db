use Rattle.std.proofs.Common.{◌≡◌, ◌+◌, ◌≤◌, length}
use Rattle.std.specs.Vec.{vec_len, vec_capacity}
use Rattle.std.specs.VecDeque.{deque_len, deque_capacity}
use Rattle.lapin_confirm.specs.Drain.{is_over, sweep_all}
use Rattle.lapin_confirm.specs.Sweeps.{swept_of}
use Rattle.lapin_confirm.proofs.sweep.sweep_all.Given as goal

abbrev pub invariant-loop-number : goal.invariant-loop-number
invariant-loop-number l = record {
  same : sweep_all (is_over l.cells.slots) l.aside.items (swept_of l.sweep l.attached.items) ≡ sweep_all (is_over l.cells.slots) l.initial.aside.items (swept_of l.initial.sweep l.initial.attached.items);
  left : deque_len l.sweep.left + deque_len l.aside ≤ deque_capacity l.sweep.left;
  over : deque_len l.sweep.over + deque_len l.aside ≤ deque_capacity l.sweep.over;
  given : vec_len l.sweep.given + deque_len l.aside ≤ vec_capacity l.sweep.given;
  len : deque_len l.attached ≤ deque_len l.initial.attached;
  capacity : deque_capacity l.attached ≡ deque_capacity l.initial.attached;
}

abbrev pub decreases-loop-number : goal.decreases-loop-number
decreases-loop-number l = length l.aside.items
