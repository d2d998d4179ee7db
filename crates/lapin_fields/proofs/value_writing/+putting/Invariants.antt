use Rattle.std.proofs.Common.{◌≡◌, ◌+◌, ◌-◌, ◌*◌, ◌++◌, drop}
use Rattle.lapin_values.specs.Data.{items_of, pairs_of}
use Rattle.lapin_fields.specs.Fits.{ItemsFit, PairsFit}
use Rattle.lapin_fields.specs.Values.{items_bytes, pairs_bytes}
use Rattle.lapin_fields.proofs.value_writing.+putting.Given as goal

abbrev pub decreases-put_value : goal.decreases-put_value
decreases-put_value l = 3 * l.level + 2

abbrev pub decreases-put_array : goal.decreases-put_array
decreases-put_array l = 3 * l.level + 1

abbrev pub decreases-put_item : goal.decreases-put_item
decreases-put_item l = 3 * l.level + 3

abbrev pub decreases-put_levels : goal.decreases-put_levels
decreases-put_levels l = 3 * l.level + 1

abbrev pub decreases-put_pair : goal.decreases-put_pair
decreases-put_pair l = 3 * l.level + 3

abbrev pub invariant-put_array-loop-place : goal.invariant-put_array-loop-place
invariant-put_array-loop-place l = record {
  written : l.inner.items ++ items_bytes (items_of (drop l.place l.array)) ≡ items_bytes (items_of l.array);
  fits : ItemsFit (l.level - 1) (items_of (drop l.place l.array)) → ItemsFit (l.level - 1) (items_of l.array);
}

abbrev pub invariant-put_levels-loop-place : goal.invariant-put_levels-loop-place
invariant-put_levels-loop-place l = record {
  written : l.inner.items ++ pairs_bytes (pairs_of (drop l.place l.table)) ≡ pairs_bytes (pairs_of l.table);
  fits : PairsFit (l.level - 1) (pairs_of (drop l.place l.table)) → PairsFit (l.level - 1) (pairs_of l.table);
}
