use Rattle.std.proofs.Common.{arith, length}
use Rattle.std.proofs.lemmas.Result.{err_from_is_err_and}
use Rattle.lapin_values.specs.DataOf.{data_of}
use Rattle.lapin_fields.specs.ValueReading.{value_at}
use Rattle.lapin_fields.proofs.Turns.{refuted, fails_none, items_fail, items_on, items_past, key_fails, value_fails, pairs_on, pairs_past}
use Rattle.lapin_fields.proofs.value_reading.+taking.Goals as goal

pub items-loop-turn-preserved : goal.items-loop-turn-preserved
items-loop-turn-preserved t c =
    items_on (value_at c.args.level) (length c.args.piece.now) c.loop-turn._turn c.loop-turn.items c.loop-turn.octets _ (data_of c.in_ok-item.item) c.take_value.new.octets c.push.new.self
    (omega arith) (refuted c.loop-turn.octets c.if-is_empty.ensures) c.loop-turn.invariant c.in_ok-item.ensures c.in_ok-push.ensures

pub items-returns-in_err-item : goal.items-returns-in_err-item
items-returns-in_err-item t c =
    let p = err_from_is_err_and c.from_residual.result c.from_residual.ensures.1 in
    rw (p.1, p.2) (items_fail (value_at c.args.level) (length c.args.piece.now) c.loop-turn._turn c.loop-turn.items c.loop-turn.octets _ _ (omega arith) (refuted c.loop-turn.octets c.if-is_empty.ensures) c.loop-turn.invariant c.in_err-item.ensures)

pub items-returns-in_err-finish : goal.items-returns-in_err-finish
items-returns-in_err-finish t c =
    let p = err_from_is_err_and c.from_residual-in_err-finish.result c.from_residual-in_err-finish.ensures.1 in
    rw (p.1, p.2) (fails_none _ _ (items_past (value_at c.args.level) (length c.args.piece.now) c.loop-turn._turn c.loop-turn.items c.loop-turn.octets _ (omega arith) c.in_err-finish.ensures.1 c.loop-turn.invariant))

pub pairs-loop-turn-preserved : goal.pairs-loop-turn-preserved
pairs-loop-turn-preserved t c =
    pairs_on (value_at c.args.level) (length c.args.piece.now) c.loop-turn._turn c.loop-turn.pairs c.loop-turn.octets _ c.in_ok-key.key c.take_text.new.octets (data_of c.in_ok-value.value) c.take_value.new.octets c.insert.new.self
    (omega arith) (refuted c.loop-turn.octets c.if-is_empty.ensures) c.loop-turn.invariant c.in_ok-key.ensures c.in_ok-value.ensures c.in_ok-insert.ensures

pub pairs-returns-in_err-key : goal.pairs-returns-in_err-key
pairs-returns-in_err-key t c =
    let p = err_from_is_err_and c.from_residual-in_err-key.result c.from_residual-in_err-key.ensures.1 in
    rw (p.1, p.2) (key_fails (value_at c.args.level) (length c.args.piece.now) c.loop-turn._turn c.loop-turn.pairs c.loop-turn.octets _ _ (omega arith) (refuted c.loop-turn.octets c.if-is_empty.ensures) c.loop-turn.invariant c.in_err-key.ensures)

pub pairs-returns-in_err-value : goal.pairs-returns-in_err-value
pairs-returns-in_err-value t c =
    let p = err_from_is_err_and c.from_residual-in_err-value.result c.from_residual-in_err-value.ensures.1 in
    rw (p.1, p.2) (value_fails (value_at c.args.level) (length c.args.piece.now) c.loop-turn._turn c.loop-turn.pairs c.loop-turn.octets _ _ c.in_ok-key.key c.take_text.new.octets (omega arith) (refuted c.loop-turn.octets c.if-is_empty.ensures) c.loop-turn.invariant c.in_ok-key.ensures c.in_err-value.ensures)

pub pairs-returns-in_err-finish : goal.pairs-returns-in_err-finish
pairs-returns-in_err-finish t c =
    let p = err_from_is_err_and c.from_residual-in_err-finish.result c.from_residual-in_err-finish.ensures.1 in
    rw (p.1, p.2) (fails_none _ _ (pairs_past (value_at c.args.level) (length c.args.piece.now) c.loop-turn._turn c.loop-turn.pairs c.loop-turn.octets _ (omega arith) c.in_err-finish.ensures.1 c.loop-turn.invariant))
