use Rattle.std.proofs.Common.{◌≡◌, ◌≤◌, ℕ, List, length}
use Rattle.std.specs.VecDeque.{deque_len, deque_capacity}
use Rattle.lapin_rules.specs.ReturnLists.{without_all}
use Rattle.lapin_confirm.specs.declared.confirm_mode.ConfirmMode.{ConfirmMode}
use Rattle.lapin_confirm.specs.Drain.{remaining, less_all}
use Rattle.lapin_confirm.specs.Ties.{AllTied}
use Rattle.lapin_confirm.proofs.lists.forget.Given as goal

abbrev pub invariant-loop-number : goal.invariant-loop-number
invariant-loop-number l = record {
  same : without_all l.numbers.items l.attached.items ≡ without_all l.initial.numbers.items l.initial.attached.items;
  len : deque_len l.attached ≤ deque_len l.initial.attached;
  capacity : deque_capacity l.attached ≡ deque_capacity l.initial.attached;
  remains : less_all l.numbers.items (remaining l.cells.slots l.origins.slots) ≡ less_all l.initial.numbers.items (remaining l.initial.cells.slots l.initial.origins.slots);
  tied : (es : List (ℕ × ConfirmMode)) → AllTied es l.initial.cells.slots → AllTied es l.cells.slots;
  cells : length l.cells.slots ≡ length l.initial.cells.slots;
  origins : length l.origins.slots ≡ length l.initial.origins.slots;
  spare : l.initial.cells.spare ≤ l.cells.spare;
  room : l.initial.origins.spare ≤ l.origins.spare;
}

abbrev pub decreases-loop-number : goal.decreases-loop-number
decreases-loop-number l = length l.numbers.items
