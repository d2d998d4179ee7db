use Rattle.std.proofs.Common.{◌≡◌, ℕ, ◌<◌, ◌≤◌, ◌-◌, length, get_or, eqb, false}
use Rattle.lapin_tokens.proofs.tokens.first_space.Given as goal

-- none of the first places has a space
abbrev pub invariant-loop-place : goal.invariant-loop-place
invariant-loop-place l = record {
  before : (k : ℕ) → k < l.place → eqb (get_or l.line k 0) 32 ≡ false;
  within : l.place ≤ length l.line;
}

abbrev pub decreases-loop-place : goal.decreases-loop-place
decreases-loop-place l = length l.line - l.place
