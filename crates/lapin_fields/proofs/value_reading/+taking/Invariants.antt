use Rattle.std.proofs.Common.{◌≡◌, ◌+◌, ◌*◌, ◌-◌, [], length}
use Rattle.lapin_fields.specs.ValueReading.{value_at, items_in, pairs_in}
use Rattle.lapin_fields.proofs.value_reading.+taking.Given as goal

abbrev pub decreases-take_value : goal.decreases-take_value
decreases-take_value l = 4 * l.level + 3

abbrev pub decreases-array_or_bytes : goal.decreases-array_or_bytes
decreases-array_or_bytes l = 4 * l.level + 2

abbrev pub decreases-table_or_bytes : goal.decreases-table_or_bytes
decreases-table_or_bytes l = 4 * l.level + 2

abbrev pub decreases-array_of : goal.decreases-array_of
decreases-array_of l = 4 * l.level + 1

abbrev pub decreases-table_of : goal.decreases-table_of
decreases-table_of l = 4 * l.level + 1

abbrev pub decreases-items : goal.decreases-items
decreases-items l = 4 * l.level + 4

abbrev pub decreases-pairs : goal.decreases-pairs
decreases-pairs l = 4 * l.level + 4

abbrev pub invariant-items-loop-turn : goal.invariant-items-loop-turn
invariant-items-loop-turn l =
    items_in (value_at l.level) (l._turn-end - l._turn) l.items l.octets ≡ items_in (value_at l.level) (length l.fn.piece) [] l.fn.piece

abbrev pub invariant-pairs-loop-turn : goal.invariant-pairs-loop-turn
invariant-pairs-loop-turn l =
    pairs_in (value_at l.level) (l._turn-end - l._turn) l.pairs l.octets ≡ pairs_in (value_at l.level) (length l.fn.piece) [] l.fn.piece
