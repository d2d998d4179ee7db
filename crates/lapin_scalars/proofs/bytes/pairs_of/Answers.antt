use Rattle.std.proofs.Common.{◌≡◌, rules, sym, ◌∙◌, true, false}
use Rattle.lapin_scalars.proofs.HexLaws.{pairs_some, pairs_odd, pairs_other}
use Rattle.lapin_scalars.proofs.bytes.pairs_of.Goals as goal

pub returns-then-digits-ne0 : goal.returns-then-digits-ne0
returns-then-digits-ne0 c = pairs_odd c.args.digits.now c.if-digits-ne0.true

pub returns-then-not-are_digits : goal.returns-then-not-are_digits
returns-then-not-are_digits c =
    let not : c.are_digits.result ≡ false = search rules in
    pairs_other c.args.digits.now (sym c.are_digits.ensures ∙ not)

pub returns : goal.returns
returns c =
    let all : c.are_digits.result ≡ true = search rules in
    pairs_some c.args.digits.now c.in_ok-bytes.bytes.items (sym c.are_digits.ensures ∙ all) c.in_ok-bytes.ensures
