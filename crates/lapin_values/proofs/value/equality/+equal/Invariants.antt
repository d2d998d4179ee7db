use Rattle.std.proofs.Common.{◌≡◌, take, length}
use Rattle.lapin_values.proofs.value.equality.+equal.Given as goal

abbrev pub invariant-same_items-loop-i : goal.invariant-same_items-loop-i
invariant-same_items-loop-i l = (length l.a ≡ length l.b) × (take l.i l.a ≡ take l.i l.b)

abbrev pub invariant-same_entries-loop-i : goal.invariant-same_entries-loop-i
invariant-same_entries-loop-i l = (length l.a ≡ length l.b) × (take l.i l.a ≡ take l.i l.b)
