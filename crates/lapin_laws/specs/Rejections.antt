-- A publish that is rejected alone, and what comes next.
use Rattle.std.specs.Prelude.{◌≡◌, ◌≢◌, ℕ, false, List}
use Rattle.lapin_rules.specs.ConfirmMarks.{ConfirmMark}
use Rattle.lapin_rules.specs.ConfirmMarks as mark
use Rattle.lapin_rules.specs.ConfirmReadings.{has_left, is_finished}
use Rattle.lapin_confirm.specs.Follows.{WasAdded}

-- publish n was accepted, its method frame has not left, and its result is still to be asked for
pub record IsUnasked (n : ℕ) (ms : List ConfirmMark) : Type 0 where
  pub added : WasAdded n ms
  pub unleft : has_left n ms ≡ false
  pub unfinished : is_finished n ms ≡ false

-- the mark isn't about publish n by itself: its method frame doesn't leave by it, and its result is neither given nor set aside
abbrev pub IsOther : ℕ → ConfirmMark → Type 0
IsOther n (mark.Left c k) = k ≢ n
IsOther n (mark.Taken k) = k ≢ n
IsOther n (mark.SetAside k) = k ≢ n
IsOther n _ = Unit {0}
