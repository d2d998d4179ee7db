use Rattle.std.proofs.Common.{◌≡◌, take}
use Rattle.lapin_scalars.specs.Digits.{all_digits}
use Rattle.lapin_scalars.proofs.hexadecimal.are_digits.Given as goal

abbrev pub invariant-loop-byte : goal.invariant-loop-byte
invariant-loop-byte l = l.all ≡ all_digits (take l.byte-index l.bytes)
