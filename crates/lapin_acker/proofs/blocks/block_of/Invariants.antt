use Rattle.std.proofs.Common.{◌-◌, ◌≡◌, ℕ, ◌<◌, ◌≤◌, Some, slice_get}
use Rattle.std.specs.Int.{bit_at}
use Rattle.lapin_acker.specs.Blocks.{cell_at}
use Rattle.lapin_acker.proofs.blocks.block_of.Given as goal

abbrev pub invariant-loop-place : goal.invariant-loop-place
invariant-loop-place l = record {
  within : l.place ≤ 64;
  done : (p : ℕ) → p < l.place → slice_get l.cells.items p ≡ Some (cell_at l.block p);
  left : (i : ℕ) → l.place ≤ i → i < 64 → bit_at l.block.usable i ≡ 0;
}

abbrev pub decreases-loop-place : goal.decreases-loop-place
decreases-loop-place l = 64 - l.place
