use Rattle.std.proofs.Common.{◌≡◌, ◌++◌}
use Rattle.lapin_values.proofs.value.gathered.in_order.Given as goal

abbrev pub invariant-loop-entry : goal.invariant-loop-entry
invariant-loop-entry l = l.rows.items ++ l.entry-iterator ≡ l.fn.tree.entries
