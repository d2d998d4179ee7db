use Rattle.std.proofs.Common.{◌≡◌, ◌++◌, ◌≤◌, ◌-◌, length}
use Rattle.std.specs.VecDeque.{deque_len, deque_capacity}
use Rattle.lapin_uses.specs.Reconnecting.{kept_of}
use Rattle.lapin_uses.proofs.reconnect.take_back.Given as goal

-- what was taken back with what the rest will give is the same all the time
abbrev pub invariant-loop-confirm : goal.invariant-loop-confirm
invariant-loop-confirm l = record {
  sum : l.unsent.items ++ kept_of l.session l.waiting.items ≡ l.initial.unsent.items ++ kept_of l.initial.session l.initial.waiting.items;
  room : length l.waiting.items ≤ deque_capacity l.unsent - deque_len l.unsent;
}

abbrev pub decreases-loop-confirm : goal.decreases-loop-confirm
decreases-loop-confirm l = length l.waiting.items
