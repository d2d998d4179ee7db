use Rattle.std.proofs.Common.{arith}
use Rattle.lapin_scalars.proofs.SignedLaws.{plain_past, plain_none}
use Rattle.lapin_scalars.proofs.signed.positive.Goals as goal

pub returns-in_default-clause-none : goal.returns-in_default-clause-none
returns-in_default-clause-none c = plain_past c.args.limit c.args.piece.now c.in-Some.number (omega arith) c.in-Some.ensures.found (omega arith)

pub returns-in_default-2-clause-none : goal.returns-in_default-2-clause-none
returns-in_default-2-clause-none c = plain_none c.args.limit c.args.piece.now c.in_default.ensures.none
