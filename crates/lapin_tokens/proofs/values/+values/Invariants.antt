use Rattle.std.proofs.Common.{◌≡◌, ◌+◌, ◌*◌, ◌-◌, [], length}
use Rattle.lapin_tokens.specs.ValueReading.{members_at, item_at, pair_at, value_at}
use Rattle.lapin_tokens.proofs.values.+values.Given as goal

abbrev pub decreases-value : goal.decreases-value
decreases-value l = 3 * l.level + 2

abbrev pub decreases-array : goal.decreases-array
decreases-array l = 3 * l.level + 1

abbrev pub decreases-table_from : goal.decreases-table_from
decreases-table_from l = 3 * l.level + 1

abbrev pub decreases-items : goal.decreases-items
decreases-items l = 3 * l.level + 3

abbrev pub decreases-pairs : goal.decreases-pairs
decreases-pairs l = 3 * l.level + 3

abbrev pub invariant-items-loop-turn : goal.invariant-items-loop-turn
invariant-items-loop-turn l =
    members_at (item_at (value_at l.level)) 93 (l._turn-end - l._turn) l.items l.text ≡ members_at (item_at (value_at l.level)) 93 (length l.fn.text) [] l.fn.text

abbrev pub invariant-pairs-loop-turn : goal.invariant-pairs-loop-turn
invariant-pairs-loop-turn l =
    members_at (pair_at (value_at l.level)) 125 (l._turn-end - l._turn) l.pairs l.text ≡ members_at (pair_at (value_at l.level)) 125 (length l.fn.text) [] l.fn.text
