use Rattle.std.proofs.Common.{arith}
use Rattle.std.proofs.lemmas.Result.{err_from_is_err_and}
use Rattle.lapin_values.specs.DataOf.{data_of}
use Rattle.lapin_tokens.specs.ValueReading.{item_at, pair_at, value_at}
use Rattle.lapin_tokens.proofs.Turns.{fails_bind, turn_fails, turn_ends, turn_stops, turn_on, turns_past, item_read, key_fails, value_fails, pair_fails, pair_read}
use Rattle.lapin_tokens.proofs.ByLetter.{value_none, value_leaf, value_array, value_table, array_fails, table_fails}
use Rattle.lapin_tokens.proofs.values.+values.Goals as goal

pub items-returns-in_err-item : goal.items-returns-in_err-item
items-returns-in_err-item t c =
    let p = err_from_is_err_and c.from_residual.result c.from_residual.ensures.1 in
    rw (p.1, p.2) (turn_fails (item_at (value_at c.args.level)) 93 c.len-turn-end.result c.loop-turn._turn c.loop-turn.items c.loop-turn.text _ _ (omega arith) c.loop-turn.invariant (fails_bind _ (value_at c.args.level c.loop-turn.text) _ c.in_err-item.ensures))

pub items-returns-then-skip : goal.items-returns-then-skip
items-returns-then-skip t c =
    turn_ends (item_at (value_at c.args.level)) 93 c.len-turn-end.result c.loop-turn._turn c.loop-turn.items c.loop-turn.text _ c.push.new.self c.value.new.text c.skip.new.self (omega arith) c.loop-turn.invariant
    (item_read (value_at c.args.level) c.loop-turn.items c.loop-turn.text (data_of c.in_ok-item.item) c.value.new.text c.push.new.self c.in_ok-item.ensures c.in_ok-push.ensures) c.if-skip.ensures

pub items-returns-in_err-expect : goal.items-returns-in_err-expect
items-returns-in_err-expect t c =
    let p = err_from_is_err_and c.from_residual-in_err-expect.result c.from_residual-in_err-expect.ensures.1 in
    rw (p.1, p.2) (turn_stops (item_at (value_at c.args.level)) 93 c.len-turn-end.result c.loop-turn._turn c.loop-turn.items c.loop-turn.text _ _ c.push.new.self c.value.new.text (omega arith) c.loop-turn.invariant
    (item_read (value_at c.args.level) c.loop-turn.items c.loop-turn.text (data_of c.in_ok-item.item) c.value.new.text c.push.new.self c.in_ok-item.ensures c.in_ok-push.ensures) c.if-skip.ensures.0 (rw c.if-skip.ensures.1 at c.in_err-expect.ensures))

pub items-loop-turn-preserved : goal.items-loop-turn-preserved
items-loop-turn-preserved t c =
    turn_on (item_at (value_at c.args.level)) 93 c.len-turn-end.result c.loop-turn._turn c.loop-turn.items c.loop-turn.text _ c.push.new.self c.value.new.text c.expect.new.self (omega arith) c.loop-turn.invariant
    (item_read (value_at c.args.level) c.loop-turn.items c.loop-turn.text (data_of c.in_ok-item.item) c.value.new.text c.push.new.self c.in_ok-item.ensures c.in_ok-push.ensures) c.if-skip.ensures.0 (rw c.if-skip.ensures.1 at c.in_ok-expect.ensures)

pub items-returns : goal.items-returns
items-returns t c = turns_past (item_at (value_at c.args.level)) 93 c.len-turn-end.result c.loop-turn._turn c.loop-turn.items c.loop-turn.text _ (omega arith) c.loop-turn.invariant

pub pairs-returns-in_err-key : goal.pairs-returns-in_err-key
pairs-returns-in_err-key t c =
    let p = err_from_is_err_and c.from_residual.result c.from_residual.ensures.1 in
    rw (p.1, p.2) (turn_fails (pair_at (value_at c.args.level)) 125 c.len-turn-end.result c.loop-turn._turn c.loop-turn.pairs c.loop-turn.text _ _ (omega arith) c.loop-turn.invariant (key_fails (value_at c.args.level) c.loop-turn.pairs c.loop-turn.text _ c.in_err-key.ensures))

pub pairs-returns-in_err-value : goal.pairs-returns-in_err-value
pairs-returns-in_err-value t c =
    let p = err_from_is_err_and c.from_residual-in_err-value.result c.from_residual-in_err-value.ensures.1 in
    rw (p.1, p.2) (turn_fails (pair_at (value_at c.args.level)) 125 c.len-turn-end.result c.loop-turn._turn c.loop-turn.pairs c.loop-turn.text _ _ (omega arith) c.loop-turn.invariant (value_fails (value_at c.args.level) c.loop-turn.pairs c.loop-turn.text _ c.in_ok-key.key c.key.new.text c.in_ok-key.ensures c.in_err-value.ensures))

pub pairs-returns-in_err-add : goal.pairs-returns-in_err-add
pairs-returns-in_err-add t c =
    let p = err_from_is_err_and c.from_residual-in_err-add.result c.from_residual-in_err-add.ensures.1 in
    rw (p.1, p.2) (turn_fails (pair_at (value_at c.args.level)) 125 c.len-turn-end.result c.loop-turn._turn c.loop-turn.pairs c.loop-turn.text _ _ (omega arith) c.loop-turn.invariant (pair_fails (value_at c.args.level) c.loop-turn.pairs c.loop-turn.text _ c.in_ok-key.key c.key.new.text (data_of c.in_ok-value.value) c.value.new.text c.in_ok-key.ensures c.in_ok-value.ensures c.in_err-add.ensures))

pub pairs-returns-then-skip : goal.pairs-returns-then-skip
pairs-returns-then-skip t c =
    turn_ends (pair_at (value_at c.args.level)) 125 c.len-turn-end.result c.loop-turn._turn c.loop-turn.pairs c.loop-turn.text _ c.add.new.table c.value.new.text c.skip.new.self (omega arith) c.loop-turn.invariant
    (pair_read (value_at c.args.level) c.loop-turn.pairs c.loop-turn.text c.in_ok-key.key c.key.new.text (data_of c.in_ok-value.value) c.value.new.text c.add.new.table c.in_ok-key.ensures c.in_ok-value.ensures c.in_ok-add.ensures) c.if-skip.ensures

pub pairs-returns-in_err-expect : goal.pairs-returns-in_err-expect
pairs-returns-in_err-expect t c =
    let p = err_from_is_err_and c.from_residual-in_err-expect.result c.from_residual-in_err-expect.ensures.1 in
    rw (p.1, p.2) (turn_stops (pair_at (value_at c.args.level)) 125 c.len-turn-end.result c.loop-turn._turn c.loop-turn.pairs c.loop-turn.text _ _ c.add.new.table c.value.new.text (omega arith) c.loop-turn.invariant
    (pair_read (value_at c.args.level) c.loop-turn.pairs c.loop-turn.text c.in_ok-key.key c.key.new.text (data_of c.in_ok-value.value) c.value.new.text c.add.new.table c.in_ok-key.ensures c.in_ok-value.ensures c.in_ok-add.ensures) c.if-skip.ensures.0 (rw c.if-skip.ensures.1 at c.in_err-expect.ensures))

pub pairs-loop-turn-preserved : goal.pairs-loop-turn-preserved
pairs-loop-turn-preserved t c =
    turn_on (pair_at (value_at c.args.level)) 125 c.len-turn-end.result c.loop-turn._turn c.loop-turn.pairs c.loop-turn.text _ c.add.new.table c.value.new.text c.expect.new.self (omega arith) c.loop-turn.invariant
    (pair_read (value_at c.args.level) c.loop-turn.pairs c.loop-turn.text c.in_ok-key.key c.key.new.text (data_of c.in_ok-value.value) c.value.new.text c.add.new.table c.in_ok-key.ensures c.in_ok-value.ensures c.in_ok-add.ensures) c.if-skip.ensures.0 (rw c.if-skip.ensures.1 at c.in_ok-expect.ensures)

pub pairs-returns : goal.pairs-returns
pairs-returns t c = turns_past (pair_at (value_at c.args.level)) 125 c.len-turn-end.result c.loop-turn._turn c.loop-turn.pairs c.loop-turn.text _ (omega arith) c.loop-turn.invariant

pub value-returns-in_err-array-in-FieldArray : goal.value-returns-in_err-array-in-FieldArray
value-returns-in_err-array-in-FieldArray t c =
    let p = err_from_is_err_and c.from_residual.result c.from_residual.ensures.1 in
    rw (p.1, p.2) (array_fails c.args.level c.args.text.now c.letter.new.self _ (rw c.in-FieldArray.is at c.in-Some.ensures.some) c.in_err-array-in-FieldArray.ensures)

pub value-returns-in_err-table_from-in-FieldTable : goal.value-returns-in_err-table_from-in-FieldTable
value-returns-in_err-table_from-in-FieldTable t c =
    let p = err_from_is_err_and c.from_residual-in_err-table_from-in-FieldTable.result c.from_residual-in_err-table_from-in-FieldTable.ensures.1 in
    rw (p.1, p.2) (table_fails c.args.level c.args.text.now c.letter.new.self _ (rw c.in-FieldTable.is at c.in-Some.ensures.some) c.in_err-table_from-in-FieldTable.ensures)

pub value-returns-in_ok-array-in-FieldArray : goal.value-returns-in_ok-array-in-FieldArray
value-returns-in_ok-array-in-FieldArray t c = value_array c.args.level c.args.text.now c.letter.new.self _ c.array.new.text (rw c.in-FieldArray.is at c.in-Some.ensures.some) c.in_ok-array-in-FieldArray.ensures

pub value-returns-in_ok-table_from-in-FieldTable : goal.value-returns-in_ok-table_from-in-FieldTable
value-returns-in_ok-table_from-in-FieldTable t c = value_table c.args.level c.args.text.now c.letter.new.self _ c.table_from.new.text (rw c.in-FieldTable.is at c.in-Some.ensures.some) c.in_ok-table_from-in-FieldTable.ensures

pub value-returns-in_default : goal.value-returns-in_default
value-returns-in_default t c = rw (value_leaf c.args.level c.args.text.now c.letter.new.self c.in-Some.letter c.in-Some.ensures.some c.in_default.not-FieldArray c.in_default.not-FieldTable) c.leaf.ensures

pub value-returns-in-None : goal.value-returns-in-None
value-returns-in-None t c = value_none c.args.level c.args.text.now c.in-None.ensures.none
