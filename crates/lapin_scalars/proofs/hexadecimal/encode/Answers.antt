use Rattle.std.proofs.Common.{ℕ, List, ◌++◌, [], ◌∷◌, arith, slice_index, sym, ◌∙◌, ap}
use Rattle.std.proofs.lemmas.Nat.{and_mask}
use Rattle.std.proofs.lemmas.List.{append-nil}
use Rattle.hex.specs.Hex.{encode_with, lower_digits}
use Rattle.lapin_scalars.proofs.HexLaws.{encode_step, encode_done}
use Rattle.lapin_scalars.proofs.hexadecimal.encode.Goals as goal

pub loop-byte-init : goal.loop-byte-init
unfolding encode_with
loop-byte-init c = (sym (append-nil c.args.text.items), omega (arith, c.requires))

pub loop-byte-preserved : goal.loop-byte-preserved
loop-byte-preserved c =
    let byte : ℕ = slice_index c.args.bytes.now c.loop-byte.byte-index in (
      c.push_reserved-in-loop-byte.ensures.items ∙ ap (λ (s : List ℕ). s ++ c.digit_of-in-loop-byte.result ∷ []) c.push_reserved.ensures.items
          ∙ encode_step c.args.text.items c.loop-byte.text.items c.args.bytes.now c.loop-byte.byte-index _ _ (omega arith) c.digit_of.ensures (c.digit_of-in-loop-byte.ensures ∙ ap (λ (k : ℕ). slice_index lower_digits k) (and_mask byte 4)) c.loop-byte.invariant.0,
      omega (arith, c.push_reserved.ensures.len, c.push_reserved-in-loop-byte.ensures.len, c.push_reserved.ensures.capacity, c.push_reserved-in-loop-byte.ensures.capacity, c.loop-byte.invariant.1),
    )

pub returns : goal.returns
returns c = encode_done c.args.text.items c.loop-byte.text.items c.args.bytes.now c.loop-byte.byte-index (omega arith) c.loop-byte.invariant.0
