use Rattle.std.proofs.Common.{◌≡◌, ◌∙◌, Some, slice_get, sym, ap, arith}
use Rattle.std.proofs.lemmas.Option.{slice_get_within, slice_get-get_or}
use Rattle.lapin_check.specs.declared.account.Counted.{Counted}
use Rattle.lapin_tables.specs.Numbered.{under}
use Rattle.lapin_check.proofs.Pointing.{one_points, one_same}
use Rattle.lapin_check.proofs.unsettled.settle_one.Goals as goal

pub index_mut-requires : goal.index_mut-requires
index_mut-requires c =
    let at : under c.args.number c.args.places.now.slots ≡ Some c.in-Some.at = sym c.take.ensures.value ∙ c.in-Some.is in
    let entry = c.requires.points.there c.args.number c.in-Some.at at in
    omega (arith, slice_get_within c.args.account.now.items c.in-Some.at entry.0 entry.1, c.args.account.now.ok)

pub returns-in-Some-clause-points : goal.returns-in-Some-clause-points
returns-in-Some-clause-points c =
    let at : under c.args.number c.args.places.now.slots ≡ Some c.in-Some.at = sym c.take.ensures.value ∙ c.in-Some.is in
    let entry = c.requires.points.there c.args.number c.in-Some.at at in
    let is : slice_get c.args.account.now.items c.in-Some.at ≡ Some c.index_mut.result.now =
    slice_get-get_or c.args.account.now.items c.in-Some.at c.index_mut.result.now (slice_get_within c.args.account.now.items c.in-Some.at entry.0 entry.1) ∙ ap (λ (k : Counted). Some k) (sym c.index_mut.ensures.value) in
    rw c.take.ensures.slots (one_points c.args.place c.args.opening c.args.settlement c.args.number c.in-Some.at c.index_mut.result.now c.mark.new.self c.args.places.now.slots c.args.account.now.items c.requires.points c.requires.reached at is c.mark.ensures)

pub returns-in-Some-clause-same : goal.returns-in-Some-clause-same
returns-in-Some-clause-same c =
    let at : under c.args.number c.args.places.now.slots ≡ Some c.in-Some.at = sym c.take.ensures.value ∙ c.in-Some.is in
    let entry = c.requires.points.there c.args.number c.in-Some.at at in
    let is : slice_get c.args.account.now.items c.in-Some.at ≡ Some c.index_mut.result.now =
    slice_get-get_or c.args.account.now.items c.in-Some.at c.index_mut.result.now (slice_get_within c.args.account.now.items c.in-Some.at entry.0 entry.1) ∙ ap (λ (k : Counted). Some k) (sym c.index_mut.ensures.value) in
    one_same c.args.place c.args.opening c.args.settlement c.in-Some.at c.index_mut.result.now c.mark.new.self c.args.account.now.items is c.mark.ensures
