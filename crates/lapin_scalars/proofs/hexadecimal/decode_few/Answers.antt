use Rattle.std.proofs.Common.{◌≡◌, ℕ, ◌+◌, ◌*◌, ◌/◌, ◌%◌, List, refl, sym, ap, ◌∙◌, arith, length, get_or}
use Rattle.hex.specs.Hex.{encode_lower, encode_with, lower_digits}
use Rattle.lapin_scalars.specs.Digits.{is_digit}
use Rattle.lapin_scalars.proofs.HexLaws.{pair_bytes, other_digits, digits_step, decode_step}
use Rattle.lapin_scalars.proofs.hexadecimal.decode_few.Goals.{then-high-gt15-via-then-high-gt15, then-high-gt15-via-else-high-gt15+then-low-gt15}
use Rattle.lapin_scalars.proofs.hexadecimal.decode_few.Goals as goal

pub loop-pair-init : goal.loop-pair-init
unfolding encode_with
loop-pair-init c = (ap encode_lower c.requires.empty, ap length c.requires.empty, refl)

pub returns-then-high-gt15-clause-digits : goal.returns-then-high-gt15-clause-digits
returns-then-high-gt15-clause-digits c =
    let xs : List ℕ = c.args.digits.now in
    let i : ℕ = c.loop-pair.pair-index in
    let at = pair_bytes xs _ _ i c.as_chunks.ensures.front (omega arith) in
    elim c.then-high-gt15.branch [
      | then-high-gt15-via-then-high-gt15 w ↦ other_digits xs (2 * i) (omega arith) (sym (ap is_digit at.0) ∙ c.value_of-high.ensures.other (omega (arith, w.if-high-gt15)))
      | then-high-gt15-via-else-high-gt15+then-low-gt15 w ↦ other_digits xs (2 * i + 1) (omega arith) (sym (ap is_digit at.1) ∙ c.value_of-low.ensures.other (omega (arith, w.if-low-gt15)))
    ]

pub loop-pair-preserved : goal.loop-pair-preserved
loop-pair-preserved c =
    let xs : List ℕ = c.args.digits.now in
    let i : ℕ = c.loop-pair.pair-index in
    let high : ℕ = c.value_of-high.result in
    let low : ℕ = c.value_of-low.result in
    let first = c.value_of-high.ensures.digit (omega arith) in
    let second = c.value_of-low.ensures.digit (omega arith) in
    let up : (16 * high + low) / 16 ≡ high = omega arith in
    let down : (16 * high + low) % 16 ≡ low = omega arith in
    let at = pair_bytes xs _ _ i c.as_chunks.ensures.front (omega arith) in (
      ap encode_lower c.push.ensures.items
          ∙ decode_step xs c.loop-pair.bytes.items i (16 * high + low) (omega arith) (ap (λ (k : ℕ). get_or lower_digits k 0) up ∙ first.1 ∙ at.0) (ap (λ (k : ℕ). get_or lower_digits k 0) down ∙ second.1 ∙ at.1) c.loop-pair.invariant.0,
      omega (arith, c.push.ensures.len, c.loop-pair.invariant.1),
      digits_step xs i (omega arith) (sym (ap is_digit at.0) ∙ first.0) (sym (ap is_digit at.1) ∙ second.0) c.loop-pair.invariant.2,
    )
