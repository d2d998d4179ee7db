use Rattle.std.proofs.Common.{◌≡◌, ◌+◌, ◌*◌, ◌++◌, ◌≤◌, take, length}
use Rattle.std.specs.Vec.{vec_len, vec_capacity}
use Rattle.hex.specs.Hex.{encode_lower}
use Rattle.lapin_scalars.proofs.hexadecimal.encode.Given as goal

abbrev pub invariant-loop-byte : goal.invariant-loop-byte
invariant-loop-byte l = (l.text.items ≡ l.fn.text.items ++ encode_lower (take l.byte-index l.bytes))
    × (vec_len l.text + 2 * length l.bytes ≤ vec_capacity l.text + 2 * l.byte-index)
