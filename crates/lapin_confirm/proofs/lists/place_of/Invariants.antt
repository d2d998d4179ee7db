use Rattle.std.proofs.Common.{◌≡◌, ℕ, ◌<◌, ◌-◌, false, slice_get, length}
use Rattle.lapin_confirm.specs.ReturnedMessages.{is_of}
use Rattle.lapin_confirm.proofs.lists.place_of.Given as goal

abbrev pub invariant-loop-place : goal.invariant-loop-place
invariant-loop-place l = (k : ℕ) → k < l.place → is_of l.number (slice_get l.attached.items k) ≡ false

abbrev pub decreases-loop-place : goal.decreases-loop-place
decreases-loop-place l = length l.attached.items - l.place
