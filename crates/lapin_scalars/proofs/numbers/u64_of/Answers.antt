use Rattle.std.proofs.Common.{◌^◌, arith}
use Rattle.lapin_scalars.proofs.NumberLaws.{wide_some, wide_none}
use Rattle.lapin_scalars.proofs.numbers.u64_of.Goals as goal

pub returns-in-Some : goal.returns-in-Some
returns-in-Some c = wide_some c.args.piece.now c.in-Some.number (2 ^ 64) c.in-Some.ensures.found (omega arith) (omega arith)

pub returns-in-None : goal.returns-in-None
returns-in-None c = wide_none c.args.piece.now (2 ^ 64) (λ n small fits. c.in-None.ensures.none n fits)
