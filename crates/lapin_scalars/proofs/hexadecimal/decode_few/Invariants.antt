use Rattle.std.proofs.Common.{◌≡◌, ◌*◌, true, take}
use Rattle.arrayvec.specs.ArrayVec.{array_vec_len}
use Rattle.hex.specs.Hex.{encode_lower}
use Rattle.lapin_scalars.specs.Digits.{all_digits}
use Rattle.lapin_scalars.proofs.hexadecimal.decode_few.Given as goal

abbrev pub invariant-loop-pair : goal.invariant-loop-pair
invariant-loop-pair l = (encode_lower l.bytes.items ≡ take (2 * l.pair-index) l.fn.digits) × (array_vec_len l.bytes ≡ l.pair-index)
    × (all_digits (take (2 * l.pair-index) l.fn.digits) ≡ true)
