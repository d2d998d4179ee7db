-- Signed decimals.
use Rattle.std.proofs.Common.{◌≡◌, ℕ, suc, ◌<◌, ◌≤◌, ◌^◌, List, ◌∷◌, get_or, Some, None, refl, sym, ap, ◌∙◌, arith, true, ltb, ℤ, pos, negsuc}
use Rattle.std.specs.Prelude.{decimal}
use Rattle.std.specs.Fmt.{signed_decimal}
use Rattle.std.proofs.lemmas.Bool.{lt-ltb, and_from}
use Rattle.std.proofs.lemmas.Fmt.{decimal_injective}
use Rattle.std.proofs.lemmas.Int.{to_z-of_z}
use mir.Syntax.{Width, w64}
use mir.Val.{SFits, to_z, of_z, hbits}
use Rattle.lapin_scalars.specs.Scalars.{in_range}
use Rattle.lapin_scalars.specs.Scalars.Scalar.{signed}
use Rattle.lapin_scalars.specs.Reading.{scalar_of}
use Rattle.lapin_scalars.proofs.ScalarLaws.{scalar_again, is_scalar, small, no_minus}

pub within : (limit n : ℕ) → n < limit → limit ≤ 2 ^ 63 → in_range limit (pos n) ≡ true
within limit n lt le = and_from (ltb n limit) (ltb n (2 ^ 63)) (lt-ltb _ _ lt) (lt-ltb _ _ (omega arith))

pub below_zero : (limit n : ℕ) → n < limit → limit ≤ 2 ^ 63 → in_range limit (negsuc n) ≡ true
below_zero limit n lt le = and_from (ltb n limit) (ltb n (2 ^ 63)) (lt-ltb _ _ lt) (lt-ltb _ _ (omega arith))

pub signed_some : (limit : ℕ) (piece : List ℕ) (z : ℤ) → piece ≡ signed_decimal z → in_range limit z ≡ true → scalar_of (signed limit) piece ≡ Some z
signed_some limit piece z is fit = ap (scalar_of (signed limit)) is ∙ scalar_again (signed limit) z fit

pub signed_none : (limit : ℕ) (piece : List ℕ) → ((z : ℤ) → in_range limit z ≡ true → piece ≡ signed_decimal z → ⊥) → scalar_of (signed limit) piece ≡ None
signed_none limit piece h = sym (is_scalar (signed limit) piece None h)

-- what a minus and digits are the text of
pub record IsBelow (limit : ℕ) (digits : List ℕ) (z : ℤ) : Type 0 where
  pub less : ℕ
  pub is : z ≡ negsuc less
  pub spelled : digits ≡ decimal (suc less)
  pub in_limit : less < limit
  pub small : less < 2 ^ 63

tail_is : (x y : ℕ) (xs ys : List ℕ) → x ∷ xs ≡ y ∷ ys → xs ≡ ys
tail_is x y xs ys e = cc

pub behind_minus : (limit : ℕ) (digits : List ℕ) (z : ℤ) → in_range limit z ≡ true → 45 ∷ digits ≡ signed_decimal z → IsBelow limit digits z
behind_minus limit digits (pos n) fit e =
    let s = small limit n fit in
    absurd (no_minus n (omega (arith, s.1)) (sym (ap (λ (bs : List ℕ). get_or bs 0 0) e)))
behind_minus limit digits (negsuc n) fit e =
    let s = small limit n fit in
    record { less = n; is = refl; spelled = tail_is 45 45 digits (decimal (suc n)) e; in_limit = s.0; small = s.1 }

-- behind a minus stands a number from 1 to the limit
pub minus_other : (limit : ℕ) (digits : List ℕ) (m : ℕ) → m < 2 ^ 64 → digits ≡ decimal m → (0 < m → m ≤ limit → ⊥) → (z : ℤ) → in_range limit z ≡ true → 45 ∷ digits ≡ signed_decimal z → ⊥
minus_other limit digits m lt is out z fit e =
    let b = behind_minus limit digits z fit e in
    let same : m ≡ suc b.less = decimal_injective m (suc b.less) lt (omega (arith, b.small)) (sym is ∙ b.spelled) in
    out (omega (arith, same)) (omega (arith, same, b.in_limit))

pub minus_none : (limit : ℕ) (digits : List ℕ) → ((n : ℕ) → n < 2 ^ 64 → digits ≡ decimal n → ⊥) → (z : ℤ) → in_range limit z ≡ true → 45 ∷ digits ≡ signed_decimal z → ⊥
minus_none limit digits none z fit e = let b = behind_minus limit digits z fit e in none (suc b.less) (omega (arith, b.small)) b.spelled

pub plain_past : (limit : ℕ) (piece : List ℕ) (m : ℕ) → m < 2 ^ 64 → piece ≡ decimal m → limit ≤ m → (n : ℕ) → in_range limit (pos n) ≡ true → piece ≡ decimal n → ⊥
plain_past limit piece m lt is past n fit e =
    let s = small limit n fit in
    let same : m ≡ n = decimal_injective m n lt (omega (arith, s.1)) (sym is ∙ e) in
    omega (arith, same, s.0)

pub plain_none : (limit : ℕ) (piece : List ℕ) → ((n : ℕ) → n < 2 ^ 64 → piece ≡ decimal n → ⊥) → (n : ℕ) → in_range limit (pos n) ≡ true → piece ≡ decimal n → ⊥
plain_none limit piece none n fit e = let s = small limit n fit in none n (omega (arith, s.1)) e

pub none_within : (limit : ℕ) (piece : List ℕ) → ((digits : List ℕ) → piece ≡ 45 ∷ digits → ⊥) → ((n : ℕ) → in_range limit (pos n) ≡ true → piece ≡ decimal n → ⊥) → (z : ℤ) → in_range limit z ≡ true → piece ≡ signed_decimal z → ⊥
none_within limit piece no_digits none (pos n) fit e = none n fit e
none_within limit piece no_digits none (negsuc n) fit e = no_digits (decimal (suc n)) e

-- ---- as signed numbers of the code

pub within_width : (w : Width) (limit : ℕ) (z : ℤ) → limit ≤ 2 ^ hbits w → in_range limit z ≡ true → SFits w z
within_width w limit (pos n) le fit = let s = small limit n fit in record { sfits = omega (arith, s.0) }
within_width w limit (negsuc n) le fit = let s = small limit n fit in record { sfits = omega (arith, s.0) }

-- a number that is stored at 64 bits and then at a width in whose range it is
pub narrowed : (w : Width) (limit : ℕ) (piece : List ℕ) (z : ℤ) → piece ≡ signed_decimal z → in_range limit z ≡ true → limit ≤ 2 ^ hbits w → limit ≤ 2 ^ 63 → scalar_of (signed limit) piece ≡ Some (to_z w (of_z w (to_z w64 (of_z w64 z))))
narrowed w limit piece z is fit le le64 =
    let inner = to_z-of_z w64 z (within_width w64 limit z le64 fit) in
    let outer = to_z-of_z w z (within_width w limit z le fit) in
    signed_some limit piece z is fit ∙ ap (λ (y : ℤ). Some y) (sym (ap (λ (y : ℤ). to_z w (of_z w y)) inner ∙ outer))
