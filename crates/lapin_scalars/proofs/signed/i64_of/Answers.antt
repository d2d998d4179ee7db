use Rattle.std.proofs.Common.{◌^◌, ◌∙◌, arith, ap, sym, ℤ, Some}
use Rattle.std.proofs.lemmas.Int.{to_z-of_z}
use mir.Syntax.{w64}
use Rattle.lapin_scalars.proofs.SignedLaws.{within_width, signed_some, signed_none}
use Rattle.lapin_scalars.proofs.signed.i64_of.Goals as goal

pub returns-in-None : goal.returns-in-None
returns-in-None c = signed_none (2 ^ 63) c.args.piece.now c.in-None.ensures.none

pub returns-in-Some : goal.returns-in-Some
returns-in-Some c =
    let f = c.in-Some.ensures.found in
    signed_some (2 ^ 63) c.args.piece.now c.in-Some.number f.0 f.1 ∙ ap (λ (z : ℤ). Some z) (sym (to_z-of_z w64 c.in-Some.number (within_width w64 (2 ^ 63) c.in-Some.number (omega arith) f.1)))
