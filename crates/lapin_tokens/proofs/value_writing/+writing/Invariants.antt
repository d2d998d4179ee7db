use Rattle.std.proofs.Common.{◌≡◌, ◌+◌, ◌*◌, ◌∷◌, ◌++◌, []}
use Rattle.lapin_values.specs.Data.{data_depth, array_depth, table_depth}
use Rattle.lapin_values.specs.DataOf.{data_of}
use Rattle.lapin_tokens.specs.Values.{value_text}
use Rattle.lapin_tokens.specs.Writing.{members_text, pair_text}
use Rattle.lapin_tokens.proofs.value_writing.+writing.Given as goal

abbrev pub decreases-put_value : goal.decreases-put_value
decreases-put_value l = 3 * data_depth (data_of l.value.now)

abbrev pub decreases-put_array : goal.decreases-put_array
decreases-put_array l = 3 * array_depth l.array.now + 2

abbrev pub decreases-put_item : goal.decreases-put_item
decreases-put_item l = 3 * array_depth l.array.now + 1

abbrev pub decreases-put_table : goal.decreases-put_table
decreases-put_table l = 3 * table_depth l.table.now + 2

abbrev pub decreases-put_pair : goal.decreases-put_pair
decreases-put_pair l = 3 * table_depth l.table.now + 1

abbrev pub invariant-put_array-loop-place : goal.invariant-put_array-loop-place
invariant-put_array-loop-place l = l.out.items ≡ (l.fn.out.items ++ 91 ∷ []) ++ members_text value_text l.array l.place

abbrev pub invariant-put_table-loop-place : goal.invariant-put_table-loop-place
invariant-put_table-loop-place l = l.out.items ≡ (l.fn.out.items ++ 123 ∷ []) ++ members_text pair_text l.table l.place
