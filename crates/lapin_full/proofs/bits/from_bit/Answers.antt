use Rattle.std.proofs.Common.{ℕ, ◌-◌, ◌^◌, bit_and, ap, ◌∙◌, arith}
use Rattle.std.proofs.lemmas.Nat.Bits.{ones_shl, bit_at_and, bit_at_mask_inside, bit_at_mask_below, bit_at-lt}
use Rattle.std.specs.Int.{bit_at}
use Rattle.lapin_full.proofs.bits.from_bit.Goals as goal

pub returns-clause-below : goal.returns-clause-below
returns-clause-below c = λ i low.
    let mask : ℕ = 2 ^ 64 - 2 ^ c.args.first in
    ap (λ m. bit_at (bit_and c.args.word m) i) (ones_shl 64 c.args.first (omega arith))
    ∙ omega (arith, bit_at_and c.args.word mask i, bit_at_mask_below c.args.first 64 i low)

pub returns-clause-others : goal.returns-clause-others
returns-clause-others c = λ i high within.
    let mask : ℕ = 2 ^ 64 - 2 ^ c.args.first in
    ap (λ m. bit_at (bit_and c.args.word m) i) (ones_shl 64 c.args.first (omega arith))
    ∙ omega (arith, bit_at_and c.args.word mask i, bit_at_mask_inside c.args.first 64 i high within, bit_at-lt c.args.word i)
