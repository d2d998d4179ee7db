-- The bytes of single values: digits, the letters a to f and x, and a minus.
use Rattle.std.proofs.Common.{◌≡◌, ℕ, zero, suc, ◌<◌, ◌^◌, ◌/◌, ◌%◌, List, [], ◌∷◌, length, get_or, refl, arith, true, false, ltb, leb, ℤ, pos, negsuc}
use Rattle.std.specs.Prelude.{decimal, ◌&&◌}
use Rattle.std.specs.Fmt.{signed_decimal}
use Rattle.std.specs.Str.{is_utf8}
use Rattle.std.specs.Str.Parse.{AllDigits}
use Rattle.std.proofs.lemmas.Str.Parse.{digit_from_value}
use Rattle.std.proofs.lemmas.Fmt.{decimal_is_IsNumeral}
use Rattle.std.proofs.lemmas.Bool.{ltb-true, lt-ltb, and_parts, and_from, or_left}
use Rattle.hex.specs.Hex.{encode_lower, encode_with, lower_digits}
use Rattle.lapin_scalars.specs.Scalars.{Scalar, ScalarValue, scalar_text, scalar_fits, are_bytes, in_range}
use Rattle.lapin_scalars.specs.Scalars.Scalar.{text, bytes, pairs, flag, number, signed}
use Rattle.lapin_scalars.proofs.ScalarLaws.{small}
use Rattle.lapin_scalars.specs.Scalars.{is_plain, all_plain}

low_plain : (b : ℕ) → 44 < b → b < 61 → is_plain b ≡ true
low_plain b lo hi = or_left (ltb 44 b && ltb b 61) (ltb 96 b && ltb b 123) (and_from (ltb 44 b) (ltb b 61) (lt-ltb _ _ lo) (lt-ltb _ _ hi))

plain_at : (xs : List ℕ) → all_plain xs ≡ true → (i : ℕ) → i < length xs → is_plain (get_or xs i 0) ≡ true
plain_at [] e i lt = absurd (omega arith)
plain_at (b ∷ bs) e zero lt = (and_parts (is_plain b) (all_plain bs) e).0
plain_at (b ∷ bs) e (suc i) lt = plain_at bs (and_parts (is_plain b) (all_plain bs) e).1 i (omega arith)

plain_digits : all_plain lower_digits ≡ true
plain_digits = refl

plain_pairs : (bs : List ℕ) → are_bytes bs ≡ true → all_plain (encode_lower bs) ≡ true
unfolding encode_with
plain_pairs [] e = refl
plain_pairs (b ∷ bs) e =
    let p = and_parts (ltb b 256) (are_bytes bs) e in
    let small : b < 256 = ltb-true _ _ p.0 in
    let high : b / 16 < length lower_digits = omega (arith, small) in
    let low : b % 16 < length lower_digits = omega (arith, small) in
    and_from (is_plain (get_or lower_digits (b / 16) 0)) _ (plain_at lower_digits plain_digits (b / 16) high)
    (and_from (is_plain (get_or lower_digits (b % 16) 0)) _ (plain_at lower_digits plain_digits (b % 16) low) (plain_pairs bs p.1))

plain_all_digits : (ds : List ℕ) → AllDigits 10 ds → all_plain ds ≡ true
plain_all_digits [] h = refl
plain_all_digits (c ∷ cs) h = let r = digit_from_value c h.0 in and_from (is_plain c) (all_plain cs) (low_plain c (omega (arith, r)) (omega (arith, r))) (plain_all_digits cs h.1)

plain_decimal : (n : ℕ) → n < 2 ^ 64 → all_plain (decimal n) ≡ true
plain_decimal n lt = plain_all_digits (decimal n) (decimal_is_IsNumeral n lt).0.1

plain_signed : (limit : ℕ) (z : ℤ) → in_range limit z ≡ true → all_plain (signed_decimal z) ≡ true
plain_signed limit (pos n) e = plain_decimal n (omega (arith, (small limit n e).1))
plain_signed limit (negsuc n) e = plain_decimal (suc n) (omega (arith, (small limit n e).1))

-- the text of a value that fits has plain bytes alone
pub plain_scalar : (k : Scalar) (v : ScalarValue k) → scalar_fits k v ≡ true → all_plain (scalar_text k v) ≡ true
plain_scalar text s e = plain_pairs s (and_parts (leb (length s) 255 && is_utf8 s) (are_bytes s) e).1
plain_scalar bytes s e = plain_pairs s e
plain_scalar pairs s e = plain_pairs s e
plain_scalar flag true e = refl
plain_scalar flag false e = refl
plain_scalar (number limit) n e = plain_decimal n (ltb-true _ _ (and_parts (ltb n limit) (ltb n (2 ^ 64)) e).1)
plain_scalar (signed limit) z e = plain_signed limit z e
