use Rattle.std.proofs.Common.{◌≡◌, ◌+◌, ◌-◌, ◌≤◌, ◌++◌, None, replicate}
use Rattle.std.specs.VecDeque.{deque_len, deque_capacity}
use Rattle.lapin_tables.proofs.numbered.let_go.Given as goal

abbrev pub invariant-loop-slots : goal.invariant-loop-slots
invariant-loop-slots g l = record {
  slots : replicate l.gone None ++ l.slots.items ≡ replicate l.initial.gone None ++ l.initial.slots.items;
  count : l.gone + deque_len l.slots ≡ l.initial.gone + deque_len l.initial.slots;
  grows : l.initial.gone ≤ l.gone;
  room : deque_capacity l.initial.slots - deque_len l.initial.slots ≤ deque_capacity l.slots - deque_len l.slots;
}

abbrev pub decreases-loop-slots : goal.decreases-loop-slots
decreases-loop-slots g l = deque_len l.slots
