use Rattle.std.proofs.Common.{◌≡◌, ◌*◌, ◌/◌, ◌≤◌, take, length}
use Rattle.std.specs.Vec.{vec_len, vec_capacity}
use Rattle.hex.specs.Hex.{encode_lower}
use Rattle.lapin_scalars.proofs.hexadecimal.decode.Given as goal

abbrev pub invariant-loop-pair : goal.invariant-loop-pair
invariant-loop-pair l = (encode_lower l.bytes.items ≡ take (2 * l.pair-index) l.fn.digits) × (vec_len l.bytes ≡ l.pair-index)
    × (length l.fn.digits / 2 ≤ vec_capacity l.bytes)
