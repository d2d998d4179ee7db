use Rattle.std.proofs.Common.{arith}
use Rattle.lapin_scalars.proofs.SignedLaws.{minus_other, minus_none}
use Rattle.lapin_scalars.proofs.signed.negative.Goals as goal

pub returns-then-number-eq0-clause-none : goal.returns-then-number-eq0-clause-none
returns-then-number-eq0-clause-none c = minus_other c.args.limit c.args.digits.now c.in-Some.number (omega arith) c.in-Some.ensures.found (λ some le. omega (arith, some))

pub returns-then-number-limit-clause-none : goal.returns-then-number-limit-clause-none
returns-then-number-limit-clause-none c = minus_other c.args.limit c.args.digits.now c.in-Some.number (omega arith) c.in-Some.ensures.found (λ some le. omega (arith, le))

pub returns-in-None-clause-none : goal.returns-in-None-clause-none
returns-in-None-clause-none c = minus_none c.args.limit c.args.digits.now c.in-None.ensures.none
