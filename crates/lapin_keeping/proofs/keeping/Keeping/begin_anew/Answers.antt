use Rattle.std.proofs.Common.{◌≡◌, ℕ, List, length, get_or, ap, arith}
use Rattle.std.proofs.lemmas.List.Edits.{map_over_more}
use Rattle.lapin_keeping.specs.declared.kept.Kept.{Kept}
use Rattle.lapin_keeping.specs.Fates.{begun_anew}
use Rattle.lapin_keeping.proofs.Beginning.{began_all}
use Rattle.lapin_keeping.proofs.keeping.Keeping.begin_anew.Goals as goal

pub loop-kept-preserved : goal.loop-kept-preserved
loop-kept-preserved c =
    let xs : List Kept = c.args.self.now.kept.items in
    let ys : List Kept = c.loop-kept.kept-items in
    let i : ℕ = c.loop-kept.kept-index in
    let x : Kept = get_or ys i c.kept-item.result in
    let same : length c.deref_mut-kept-items.result.now ≡ length xs = ap length c.deref_mut-kept-items.ensures.value in
    rw c.begin_anew.ensures (map_over_more begun_anew xs ys i x (omega (arith, c.loop-kept-test.true, same)) c.loop-kept.invariant (ap (get_or ys i) c.kept-item.is))

pub returns-clause-kept : goal.returns-clause-kept
returns-clause-kept c =
    let xs : List Kept = c.args.self.now.kept.items in
    let ys : List Kept = c.loop-kept.kept-items in
    let same : length c.deref_mut-kept-items.result.now ≡ length xs = ap length c.deref_mut-kept-items.ensures.value in
    began_all c.args.self.now.kept.len c.loop-kept.kept-index xs ys (omega (arith, same, c.loop-kept.auto.kept-items)) (omega (arith, same, c.deref_mut-kept-items.ensures.len, c.loop-kept.auto.kept-items)) (omega (arith, same, c.loop-kept-test.false)) c.loop-kept.invariant
