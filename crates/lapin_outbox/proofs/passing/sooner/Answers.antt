use Rattle.std.proofs.Common.{◌≤◌, sym, ◌∙◌, arith}
use Rattle.lapin_outbox.proofs.PassedOver.{free-none, free-first, free-later, held-less, fewer-held, sooner-open}
use Rattle.lapin_outbox.proofs.passing.sooner.Goals as goal

pub returns-in_default-clause-free : goal.returns-in_default-clause-free
returns-in_default-clause-free c = free-none _ _ _ (sym c.in_default.ensures)

pub returns-in_default-clause-held : goal.returns-in_default-clause-held
returns-in_default-clause-held c = held-less _ _ _ _ _ c.requires.held (free-none _ _ _ (sym c.in_default.ensures)) c.remove.ensures.others

pub returns-in_default-clause-fewer : goal.returns-in_default-clause-fewer
returns-in_default-clause-fewer c = fewer-held _ _ _ c.remove.ensures.here c.remove.ensures.others

pub returns-then-passed-number-clause-free : goal.returns-then-passed-number-clause-free
returns-then-passed-number-clause-free c = free-first _ _ _ _ (sym c.in-Some.ensures) (omega (arith, c.requires.within, c.if-passed-number.true))

pub returns-then-passed-number-clause-held : goal.returns-then-passed-number-clause-held
returns-then-passed-number-clause-held c = held-less _ _ _ _ _ c.requires.held (free-first _ _ _ _ (sym c.in-Some.ensures) (omega (arith, c.if-passed-number.true))) c.remove-then-passed-number.ensures.others

pub returns-then-passed-number-clause-fewer : goal.returns-then-passed-number-clause-fewer
returns-then-passed-number-clause-fewer c = fewer-held _ _ _ c.remove-then-passed-number.ensures.here c.remove-then-passed-number.ensures.others

pub returns-then-is_below-clause-free : goal.returns-then-is_below-clause-free
returns-then-is_below-clause-free c =
    let same : c.in-Some.number ≤ c.in-Some.number = omega arith in
    free-first _ _ _ _ (sym c.in-Some.ensures) same

pub returns-then-is_below-clause-open : goal.returns-then-is_below-clause-open
returns-then-is_below-clause-open c = λ t passes was. sooner-open t _ _ _ _ (sym c.in-Some.ensures) c.if-passed-number.false passes

pub returns-else-is_below-clause-free : goal.returns-else-is_below-clause-free
returns-else-is_below-clause-free c = free-later _ _ _ _ (sym c.in-Some.ensures) (sym c.is_below.ensures ∙ c.if-is_below.false)
