use Rattle.std.proofs.Common.{◌^◌, arith}
use mir.Syntax.{w16}
use Rattle.lapin_scalars.proofs.SignedLaws.{narrowed, signed_none}
use Rattle.lapin_scalars.proofs.signed.i16_of.Goals as goal

pub returns-in-None : goal.returns-in-None
returns-in-None c = signed_none (2 ^ 15) c.args.piece.now c.in-None.ensures.none

pub returns-in-Some : goal.returns-in-Some
returns-in-Some c = narrowed w16 (2 ^ 15) c.args.piece.now c.in-Some.number c.in-Some.ensures.found.0 c.in-Some.ensures.found.1 (omega arith) (omega arith)
