-- What the walk of a drain has done to its lists. No public clause cites this module.
use Rattle.std.specs.Prelude.{◌≡◌, ℕ, ◌+◌, ◌≤◌, List, [], Option}
use Rattle.std.specs.Vec.{vec_len, vec_capacity}
use Rattle.std.specs.VecDeque.{deque_len, deque_capacity}
use Rattle.lapin_types.specs.declared.message.BasicReturnMessage.{BasicReturnMessage}
use Rattle.lapin_confirm.specs.declared.cell.Cell.{Cell}
use Rattle.lapin_confirm.specs.declared.sweep.Sweep.{Sweep}
use Rattle.lapin_confirm.specs.Drain.{is_over, Swept, sweep_one, sweep_all}

-- nothing is done yet, and there is room for so many messages and so many confirms
pub record IsReady (messages confirms : ℕ) (s : Sweep) : Type 0 where
  pub left : s.left.items ≡ []
  pub over : s.over.items ≡ []
  pub given : s.given.items ≡ []
  pub left_room : deque_len s.left + confirms ≤ deque_capacity s.left
  pub over_room : deque_len s.over + confirms ≤ deque_capacity s.over
  pub given_room : vec_len s.given + messages ≤ vec_capacity s.given

-- what a walk has come to, and beside it the messages that confirms took and still have
abbrev pub swept_of : Sweep → List (ℕ × BasicReturnMessage) → Swept
swept_of s attached = record { left = s.left.items; over = s.over.items; given = s.given.items; attached = attached }

-- the walk came past confirm n: from old to new, as the messages that confirms took went from before to after
abbrev pub SweptOne : ℕ → List (Option Cell) → List (ℕ × BasicReturnMessage) → List (ℕ × BasicReturnMessage) → Sweep → Sweep → Type 0
SweptOne n cells before after old new = swept_of new after ≡ sweep_one (is_over cells) n (swept_of old before)

-- the walk came past each of these confirms: from old to new, as the messages that confirms took went from before to after
abbrev pub SweptAll : List ℕ → List (Option Cell) → List (ℕ × BasicReturnMessage) → List (ℕ × BasicReturnMessage) → Sweep → Sweep → Type 0
SweptAll ns cells before after old new = swept_of new after ≡ sweep_all (is_over cells) ns (swept_of old before)
