use Rattle.std.proofs.Common.{◌≡◌, ℕ, List, length, true, take, drop, get_or, refl, ap, arith}
use Rattle.std.proofs.lemmas.Result.{err_from_is_err_and}
use Rattle.lapin_rules.specs.Wire.{state_of, is_open}
use Rattle.lapin_tables.proofs.Bools.{on_err}
use Rattle.lapin_keeping.specs.declared.kept.Kept.{Kept}
use Rattle.lapin_publisher.specs.Publishes.{placed}
use Rattle.lapin_publisher.proofs.Causing.{so_far_up}
use Rattle.lapin_publisher.proofs.Going.{each_step, rest_step, all_made, stopped_at}
use Rattle.lapin_publisher.proofs.publishing.place_each.Goals as goal

pub loop-kept-init : goal.loop-kept-init
loop-kept-init c = record { done = refl; rest = ap (drop 0) c.deref_mut-kept-items.ensures.value }

pub loop-kept-preserved : goal.loop-kept-preserved
loop-kept-preserved c =
    let xs : List Kept = c.args.messages.now.items in
    let ys : List Kept = c.loop-kept.kept-items in
    let i : ℕ = c.loop-kept.kept-index in
    let x : Kept = get_or ys i c.kept-item.result in
    let same : length c.deref_mut-kept-items.result.now ≡ length xs = ap length c.deref_mut-kept-items.ensures.value in
    record {
      done = each_step (placed c.args.turn) (c.args.session.now, c.args.room.now) (c.loop-kept.session, c.loop-kept.room) (c.place.new.session, c.place.new.room) xs ys i x c.place.new.kept
          c.loop-kept.invariant.done c.loop-kept.invariant.rest (omega (arith, c.loop-kept-test.true, c.loop-kept.auto.kept-items)) (omega (arith, same, c.loop-kept-test.true, c.loop-kept.auto.kept-items)) (ap (get_or ys i) c.kept-item.is) c.in_ok-place.ensures.ok;
      rest = rest_step xs ys i c.place.new.kept c.loop-kept.invariant.rest (omega (arith, c.loop-kept-test.true, c.loop-kept.auto.kept-items)) (omega (arith, same, c.loop-kept-test.true, c.loop-kept.auto.kept-items));
    }

pub returns-clause-ok : goal.returns-clause-ok
returns-clause-ok c =
    let xs : List Kept = c.args.messages.now.items in
    let ys : List Kept = c.loop-kept.kept-items in
    let same : length c.deref_mut-kept-items.result.now ≡ length xs = ap length c.deref_mut-kept-items.ensures.value in
    all_made (placed c.args.turn) (c.args.session.now, c.args.room.now) (c.loop-kept.session, c.loop-kept.room) c.args.messages.now.len xs ys c.loop-kept.kept-index c.loop-kept.invariant.done (omega (arith, same, c.loop-kept.auto.kept-items))
    (omega (arith, same, c.deref_mut-kept-items.ensures.len, c.loop-kept.auto.kept-items)) (omega (arith, same, c.loop-kept-test.false, c.loop-kept.auto.kept-items)) (omega (arith, same, c.loop-kept-test.false))

pub returns-in_err-place-clause-err : goal.returns-in_err-place-clause-err
returns-in_err-place-clause-err c =
    let xs : List Kept = c.args.messages.now.items in
    let ys : List Kept = c.loop-kept.kept-items in
    let same : length c.deref_mut-kept-items.result.now ≡ length xs = ap length c.deref_mut-kept-items.ensures.value in
    let still : c.place.new.session ≡ c.loop-kept.session = c.in_err-place.ensures.err.1.0 in
    let also : c.place.new.room ≡ c.loop-kept.room = c.in_err-place.ensures.err.1.1 in
    on_err c.from_residual.result _ (stopped_at (placed c.args.turn) (c.args.session.now, c.args.room.now) (c.loop-kept.session, c.loop-kept.room) (c.place.new.session, c.place.new.room) c.args.messages.now.len xs ys c.loop-kept.kept-index c.kept-item.result c.place.new.kept
    c.loop-kept.invariant.done c.loop-kept.invariant.rest (omega (arith, same, c.loop-kept.auto.kept-items)) (omega (arith, same, c.deref_mut-kept-items.ensures.len, c.loop-kept.auto.kept-items))
    (c.in_err-place.ensures.err.0) (cc))

pub returns-in_err-place-clause-cause : goal.returns-in_err-place-clause-cause
returns-in_err-place-clause-cause c = λ opened.
    let up : is_open (state_of c.args.turn.channel c.loop-kept.session.wire) ≡ true =
    so_far_up c.args.turn (c.args.session.now, c.args.room.now) (c.loop-kept.session, c.loop-kept.room) (take c.loop-kept.kept-index c.args.messages.now.items) (take c.loop-kept.kept-index c.loop-kept.kept-items) c.loop-kept.invariant.done opened in
    let still : c.place.new.session ≡ c.loop-kept.session = c.in_err-place.ensures.err.1.0 in
    let p = err_from_is_err_and c.from_residual.result c.from_residual.ensures.1 in
    rw (p.1, p.2, still) (c.in_err-place.ensures.cause up)
