use Rattle.std.proofs.Common.{◌∙◌, refl, sym}
use Rattle.lapin_broker.proofs.Settling.{settled-fewer}
use Rattle.lapin_check.proofs.Pointing.{none_left, beyond_first, beyond_last}
use Rattle.lapin_check.proofs.unsettled.settle_first.Goals as goal

pub loop-number-smaller : goal.loop-number-smaller
loop-number-smaller c = rw c.settle_one.ensures.taken (settled-fewer c.in-Some.number c.loop-number.places.slots (sym (c.in-Some.ensures)))

pub returns-then-not-reaches-clause-marked : goal.returns-then-not-reaches-clause-marked
returns-then-not-reaches-clause-marked c =
    none_left c.args.settlement.channel c.args.opening c.loop-number.places.slots c.loop-number.account.items c.loop-number.invariant.points c.args.place c.args.settlement refl
    (beyond_first c.args.settlement c.in-Some.number c.loop-number.places.slots c.requires.multiple (sym (c.in-Some.ensures)) (sym c.reaches.ensures ∙ c.if-not-reaches.true))
    ∙ c.loop-number.invariant.same

pub returns-clause-marked : goal.returns-clause-marked
returns-clause-marked c =
    none_left c.args.settlement.channel c.args.opening c.loop-number.places.slots c.loop-number.account.items c.loop-number.invariant.points c.args.place c.args.settlement refl
    (beyond_last c.args.settlement c.loop-number.places.slots (sym (c.in_default.ensures)))
    ∙ c.loop-number.invariant.same
