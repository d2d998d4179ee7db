use Rattle.std.proofs.Common.{◌^◌, arith, sym}
use Rattle.lapin_scalars.proofs.NumberLaws.{wide_some, wide_none}
use Rattle.lapin_call.proofs.fates.number_of.Goals as goal

pub returns-in-Some : goal.returns-in-Some
returns-in-Some c = sym (wide_some c.args.id.now c.in-Some.number (2 ^ 64) c.in-Some.ensures.found (omega arith) (omega arith))

pub returns-in-None : goal.returns-in-None
returns-in-None c = sym (wide_none c.args.id.now (2 ^ 64) (λ n small fits. c.in-None.ensures.none n fits))
