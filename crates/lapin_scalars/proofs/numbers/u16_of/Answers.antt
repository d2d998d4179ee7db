use Rattle.std.proofs.Common.{◌^◌, arith}
use Rattle.lapin_scalars.proofs.NumberLaws.{wide_some, wide_none, wide_past}
use Rattle.lapin_scalars.proofs.numbers.u16_of.Goals as goal

pub returns-in-Some : goal.returns-in-Some
returns-in-Some c = wide_some c.args.piece.now c.in-Some.number (2 ^ 16) c.in-Some.ensures.found (omega arith) (omega arith)

pub returns-in_default : goal.returns-in_default
returns-in_default c = wide_past c.args.piece.now c.in-Some.number (2 ^ 16) c.in-Some.ensures.found (omega arith) (omega arith)

pub returns-in_default-2 : goal.returns-in_default-2
returns-in_default-2 c = wide_none c.args.piece.now (2 ^ 16) (λ n small fits. c.in_default.ensures.none n fits)
