use Rattle.std.proofs.Common.{◌≡◌, ℕ, ◌+◌, ◌*◌, ◌/◌, ◌%◌, bit_and, arith}
use Rattle.std.proofs.lemmas.Nat.{and_mask}
use Rattle.lapin_scalars.proofs.HexLaws.{pair_text}
use Rattle.lapin_scalars.proofs.hexadecimal.byte_of.Goals as goal

-- the masks leave remainders
masked : (n : ℕ) → 16 * (bit_and n 15 + 9 * bit_and (n / 64) 1) + (bit_and (n / 256) 15 + 9 * (n / 16384)) ≡ 16 * (n % 16 + 9 * (n / 64 % 2)) + (n / 256 % 16 + 9 * (n / 16384))
masked n =
    let low = and_mask n 4 in
    let letter = and_mask (n / 64) 1 in
    let high = and_mask (n / 256) 4 in
    omega (arith, low, letter, high)

pub returns-clause-first : goal.returns-clause-first
returns-clause-first c = (pair_text c.args.digits _ c.requires.first c.requires.second (masked c.args.digits)).0

pub returns-clause-second : goal.returns-clause-second
returns-clause-second c = (pair_text c.args.digits _ c.requires.first c.requires.second (masked c.args.digits)).1
