use Rattle.std.proofs.Common.{subst, arith, List}
use Rattle.std.specs.Prelude.{All}
use Rattle.std.proofs.lemmas.List.{take_all}
use Rattle.lapin_keeping.specs.declared.kept.Kept.{Kept}
use Rattle.lapin_keeping.specs.Returns.{IsNotOf}
use Rattle.lapin_keeping.proofs.Returning.{passed_over}
use Rattle.lapin_keeping.proofs.keeping.first_of.Goals as goal

pub loop-place-preserved : goal.loop-place-preserved
loop-place-preserved c =
    passed_over c.args.exact c.args.delivery.now c.args.messages.now c.loop-place.place c.index-messages-place.result c.is_of.result (omega (arith, c.loop-place-test.true)) c.index-messages-place.is
    c.is_of.ensures c.if-is_of.false c.loop-place.invariant

pub returns-clause-none : goal.returns-clause-none
returns-clause-none c =
    subst (λ (ks : List Kept). All (IsNotOf c.args.exact c.args.delivery.now) ks) (take_all c.loop-place.place c.args.messages.now (omega (arith, c.loop-place-test.false))) c.loop-place.invariant
