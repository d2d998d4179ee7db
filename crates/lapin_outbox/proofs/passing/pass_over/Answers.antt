use Rattle.std.proofs.Common.{sym, refl, ◌∙◌, arith, length, ◌≤◌}
use Rattle.lapin_outbox.proofs.PassedOver.{where-next, is-none-all}
use Rattle.lapin_outbox.proofs.passing.pass_over.Goals as goal

pub returns-then-does-clause-number : goal.returns-then-does-clause-number
returns-then-does-clause-number g c = where-next _ _ _ _ c.loop-passed.invariant.none refl (sym c.in_ok-does.ensures.told ∙ c.if-does.true)

pub returns-clause-number : goal.returns-clause-number
returns-clause-number g c =
    let all : length c.args.order.now.keys ≤ c.loop-passed.passed = omega (arith, c.count-count.ensures) in
    sym (is-none-all _ _ _ all c.loop-passed.invariant.none)
