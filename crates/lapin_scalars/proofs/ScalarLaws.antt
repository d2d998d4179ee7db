-- The text of a value gives back the value, and nothing else has that text.
use Rattle.std.proofs.Common.{◌≡◌, ◌≢◌, ℕ, zero, suc, ◌<◌, ◌^◌, List, [], ◌∷◌, length, get_or, Option, Some, None, refl, sym, ap, subst, ◌∙◌, arith, true, false, ltb, leb, ℤ, pos, negsuc, neg_ℤ}
use Rattle.std.specs.Prelude.{decimal, ◌&&◌}
use Rattle.std.specs.Fmt.{signed_decimal}
use Rattle.std.specs.Str.{bytes_eq, is_utf8}
use Rattle.std.specs.Str.Parse.{digits_value}
use Rattle.std.proofs.lemmas.Bool.{ltb-true, ne_eqb, and_parts}
use Rattle.std.proofs.lemmas.Slice.Eq.{bytes_eq-Decides}
use Rattle.std.proofs.lemmas.Fmt.{decimal_is_IsNumeral, first_decimal, decimal_digit}
use Rattle.hex.specs.Hex.{IsBytes}
use Rattle.hex.proofs.HexLemmas.{decode_of-encode_lower}
use Rattle.lapin_scalars.specs.Scalars.{Scalar, ScalarValue, scalar_text, scalar_fits, are_bytes, in_range}
use Rattle.lapin_scalars.specs.Scalars.Scalar.{text, bytes, pairs, flag, number, signed}
use Rattle.lapin_scalars.specs.Reading.{guess, scalar_of, signed_value}
use Rattle.std.proofs.lemmas.Option.{cond_some}

pub bytes_fit : (s : List ℕ) → are_bytes s ≡ true → IsBytes s
bytes_fit [] e i = omega arith
bytes_fit (b ∷ bs) e zero = let p = and_parts (ltb b 256) (are_bytes bs) e in ltb-true _ _ p.0
bytes_fit (b ∷ bs) e (suc i) = let p = and_parts (ltb b 256) (are_bytes bs) e in bytes_fit bs p.1 i

-- no decimal begins with a minus
pub no_minus : (n : ℕ) → n < 2 ^ 64 → get_or (decimal n) 0 0 ≢ 45
no_minus zero lt e = let d = decimal_digit 0 (omega arith) in let f : get_or (48 ∷ []) 0 0 ≡ 45 = sym (ap (λ (bs : List ℕ). get_or bs 0 0) d) ∙ e in omega (arith, f)
no_minus (suc n) lt e = let first = first_decimal (suc n) (omega arith) lt in omega (arith, first, e)

pub plain_value : (bs : List ℕ) → get_or bs 0 0 ≢ 45 → signed_value bs ≡ pos (digits_value 10 bs)
plain_value [] h = refl
plain_value (c ∷ cs) h = rw (ne_eqb c 45 h) refl

pub small : (limit n : ℕ) → (ltb n limit && ltb n (2 ^ 63)) ≡ true → (n < limit) × (n < 2 ^ 63)
small limit n e = let p = and_parts (ltb n limit) (ltb n (2 ^ 63)) e in (ltb-true _ _ p.0, ltb-true _ _ p.1)

signed_again : (limit : ℕ) (z : ℤ) → in_range limit z ≡ true → signed_value (signed_decimal z) ≡ z
signed_again limit (pos n) e =
    let s = small limit n e in
    let lt : n < 2 ^ 64 = omega (arith, s.1) in
    plain_value (decimal n) (no_minus n lt) ∙ ap pos (decimal_is_IsNumeral n lt).1
signed_again limit (negsuc n) e =
    let s = small limit n e in
    let lt : suc n < 2 ^ 64 = omega (arith, s.1) in
    ap (λ (m : ℕ). neg_ℤ (pos m)) (decimal_is_IsNumeral (suc n) lt).1

again_guessed : (k : Scalar) (v : ScalarValue k) → scalar_fits k v ≡ true → guess k (scalar_text k v) ≡ v
again_guessed text s e = let p = and_parts (leb (length s) 255 && is_utf8 s) (are_bytes s) e in rw (decode_of-encode_lower s (bytes_fit s p.1)) refl
again_guessed bytes s e = rw (decode_of-encode_lower s (bytes_fit s e)) refl
again_guessed pairs s e = rw (decode_of-encode_lower s (bytes_fit s e)) refl
again_guessed flag true e = refl
again_guessed flag false e = refl
again_guessed (number limit) n e = let p = and_parts (ltb n limit) (ltb n (2 ^ 64)) e in (decimal_is_IsNumeral n (ltb-true _ _ p.1)).1
again_guessed (signed limit) z e = signed_again limit z e

pub scalar_again : (k : Scalar) (v : ScalarValue k) → scalar_fits k v ≡ true → scalar_of k (scalar_text k v) ≡ Some v
unfolding scalar_of
scalar_again k v e =
    let g = again_guessed k v e in
    let same : bytes_eq (scalar_text k v) (scalar_text k v) ≡ true = (bytes_eq-Decides (scalar_text k v) (scalar_text k v)).1 refl in
    rw (g, same, e) refl

pub record IsTextOf (k : Scalar) (v : ScalarValue k) (piece : List ℕ) : Type 0 where
  pub is : piece ≡ scalar_text k v
  pub fits : scalar_fits k v ≡ true

pub scalar_found : (k : Scalar) (piece : List ℕ) (v : ScalarValue k) → scalar_of k piece ≡ Some v → IsTextOf k v piece
unfolding scalar_of
scalar_found k piece v e =
    let g = cond_some (bytes_eq (scalar_text k (guess k piece)) piece && scalar_fits k (guess k piece)) (guess k piece) v e in
    let p = and_parts (bytes_eq (scalar_text k (guess k piece)) piece) (scalar_fits k (guess k piece)) g.0 in
    subst (λ (x : ScalarValue k). IsTextOf k x piece) g.1 (record { is = sym ((bytes_eq-Decides (scalar_text k (guess k piece)) piece).0 p.0); fits = p.1 })

-- a reader of bytes that is exact both ways gives scalar_of
abbrev pub Exactly : (k : Scalar) → List ℕ → Option (ScalarValue k) → Type 0
Exactly k piece (Some v) = IsTextOf k v piece
Exactly k piece None = (v : ScalarValue k) → scalar_fits k v ≡ true → piece ≡ scalar_text k v → ⊥

pub is_scalar : (k : Scalar) (piece : List ℕ) (r : Option (ScalarValue k)) → Exactly k piece r → r ≡ scalar_of k piece
is_scalar k piece (Some v) h = sym (ap (scalar_of k) h.is ∙ scalar_again k v h.fits)
is_scalar k piece None h = go (scalar_of k piece) refl
  where
    go : (r : Option (ScalarValue k)) → scalar_of k piece ≡ r → None ≡ r
    go None e = refl
    go (Some v) e = let f = scalar_found k piece v e in absurd (h v f.fits f.is)

-- no value that fits has the bytes for its text
pub none_fits : (k : Scalar) (piece : List ℕ) → scalar_of k piece ≡ None → (v : ScalarValue k) → scalar_fits k v ≡ true → piece ≡ scalar_text k v → ⊥
none_fits k piece none v fit is = let again = ap (scalar_of k) is ∙ scalar_again k v fit in cc
