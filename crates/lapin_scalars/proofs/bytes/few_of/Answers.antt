use Rattle.std.proofs.Common.{◌≡◌, ◌∷◌, rules, refl, sym, ap, ◌∙◌, true, false}
use Rattle.hex.specs.Hex.{encode_lower}
use Rattle.lapin_scalars.proofs.HexLaws.{pairs_some, pairs_odd, pairs_other, bytes_are_pairs, text_none}
use Rattle.lapin_scalars.proofs.bytes.few_of.Goals as goal

pub returns-then-digits-ne0 : goal.returns-then-digits-ne0
returns-then-digits-ne0 c = text_none (120 ∷ c.args.digits.now) (bytes_are_pairs (120 ∷ c.args.digits.now) c.args.digits.now refl ∙ pairs_odd c.args.digits.now c.if-digits-ne0.true)

pub returns-then-not-decode_few : goal.returns-then-not-decode_few
returns-then-not-decode_few c =
    let not : c.decode_few.result ≡ false = search rules in
    text_none (120 ∷ c.args.digits.now) (bytes_are_pairs (120 ∷ c.args.digits.now) c.args.digits.now refl ∙ pairs_other c.args.digits.now (sym c.decode_few.ensures.digits ∙ not))

pub returns : goal.returns
returns c =
    let all : c.decode_few.result ≡ true = search rules in
    let items = c.as_slice.ensures.value in
    c.text_of.ensures (120 ∷ c.args.digits.now)
    (bytes_are_pairs (120 ∷ c.args.digits.now) c.args.digits.now refl
    ∙ pairs_some c.args.digits.now c.as_slice.result.now (sym c.decode_few.ensures.digits ∙ all) (ap encode_lower items ∙ c.decode_few.ensures.bytes all))
