use Rattle.std.proofs.Common.{◌≡◌, ◌≤◌, ◌<◌, ℕ, length, arith, refl, ap, inl, inr}
use Rattle.std.proofs.lemmas.Bool.{cases_lt}
use Rattle.lapin_scalars.proofs.HexLaws.{text_some, text_other}
use Rattle.lapin_scalars.proofs.bytes.text_of.Goals as goal

pub returns-in-Ok-new : goal.returns-in-Ok-new
returns-in-Ok-new c piece said =
    let text : c.in-Ok.text.now ≡ c.args.bytes.now = c.in-Ok.ensures.cases.0 in
    let short : length c.in-Ok.text.now ≤ 255 = at_most_255 _ (λ long. let wrong = (c.in-Ok-new.ensures.too_long (length c.in-Ok.text.now)).1 (long, refl) in cc) in
    rw c.in-Ok-new.ensures.ok (rw text (text_some piece c.args.bytes.now said (rw text at short) c.in-Ok.ensures.cases.1))
  where
    at_most_255 : (n : ℕ) → (255 < n → ⊥) → n ≤ 255
    at_most_255 n h = elim (cases_lt 255 n) [ inl lt ↦ absurd (h lt) | inr le ↦ le ]

pub returns-in-Err-TooLong : goal.returns-in-Err-TooLong
returns-in-Err-TooLong c piece said =
    let text : c.in-Ok.text.now ≡ c.args.bytes.now = c.in-Ok.ensures.cases.0 in
    let long = (c.in-Err-TooLong.ensures.too_long c.in-Err-TooLong.field-0-0).0 (cc) in
    text_other piece c.args.bytes.now said (λ short utf8. omega (arith, long.0, short, ap length text))

pub returns-in-Err : goal.returns-in-Err
returns-in-Err c piece said = text_other piece c.args.bytes.now said (λ short utf8. c.in-Err.ensures.cases.0 utf8)
