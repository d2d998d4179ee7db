use Rattle.std.proofs.Common.{ℕ, ◌-◌, ◌≤◌, ◌<◌, length, get_or}
use Rattle.lapin_tables.proofs.numbered.find.Given as goal

abbrev pub invariant-loop-low : goal.invariant-loop-low
invariant-loop-low g l = record {
  within : l.high ≤ length l.behind.items;
  below : (k : ℕ) (d : ℕ × g.row.T.Denot) → k < l.low → k < length l.behind.items → (get_or l.behind.items k d).0 < l.number;
  above : (k : ℕ) (d : ℕ × g.row.T.Denot) → l.high ≤ k → k < length l.behind.items → l.number < (get_or l.behind.items k d).0;
}

abbrev pub decreases-loop-low : goal.decreases-loop-low
decreases-loop-low g l = l.high - l.low
