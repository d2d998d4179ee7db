use Rattle.std.proofs.Common.{◌≡◌, ◌++◌, vec_len}
use Rattle.lapin_values.proofs.value.gathered.sorted.Given as goal

abbrev pub invariant-loop-key : goal.invariant-loop-key
invariant-loop-key l = l.rows.items ++ l.tree.entries ≡ l.fn.rows.items

abbrev pub decreases-loop-key : goal.decreases-loop-key
decreases-loop-key l = vec_len l.rows
