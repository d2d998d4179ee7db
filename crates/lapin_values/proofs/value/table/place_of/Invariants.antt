use Rattle.std.proofs.Common.{◌≤◌, ◌-◌, length}
use Rattle.lapin_values.specs.Table.{keys_below}
use Rattle.lapin_values.proofs.value.table.place_of.Given as goal

abbrev pub invariant-loop-low : goal.invariant-loop-low
invariant-loop-low l = (l.low ≤ keys_below l.key l.entries) × (keys_below l.key l.entries ≤ l.high) × (l.high ≤ length l.entries)

abbrev pub decreases-loop-low : goal.decreases-loop-low
decreases-loop-low l = l.high - l.low
