use Rattle.std.proofs.Common.{arith, sym}
use Rattle.lapin_scalars.proofs.HexLaws.{all_digits_more}
use Rattle.lapin_scalars.proofs.hexadecimal.are_digits.Goals as goal

pub loop-byte-preserved : goal.loop-byte-preserved
loop-byte-preserved c = rw (c.loop-byte.invariant, c.is_digit-all.ensures) (sym (all_digits_more c.args.bytes.now c.loop-byte.byte-index (omega arith)))
