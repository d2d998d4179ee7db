-- Decimals without leading zeros.
use Rattle.std.proofs.Common.{◌≡◌, ℕ, zero, suc, ◌+◌, ◌*◌, ◌<◌, ◌≤◌, ◌^◌, List, length, get_or, take, refl, sym, ap, subst, ◌∙◌, arith, true}
use Rattle.std.specs.Prelude.{decimal}
use Rattle.std.specs.Str.Parse.{digits_value, AllDigits}
use Rattle.std.specs.Char.{digit_value}
use Rattle.std.proofs.lemmas.Str.Parse.{IsNumeralModel, numerals_by_value, tells_digits, digit_at, digits_value-take-le}
use Rattle.std.proofs.lemmas.Int.Digits.{digits_value_more}
use Rattle.std.proofs.lemmas.List.{take_all}
use Rattle.std.proofs.lemmas.Str.{digit_value_digit}
use Rattle.std.proofs.lemmas.Fmt.{decimal_nonempty, first_decimal, decimal_digit, decimal_is_IsNumeral, decimal-digits_value}
use Rattle.std.proofs.Common.{Some, None, ltb}
use Rattle.std.specs.Prelude.{◌&&◌}
use Rattle.std.proofs.lemmas.Bool.{ltb-true, lt-ltb, and_parts, and_from}
use Rattle.std.proofs.lemmas.Fmt.{decimal_injective}
use Rattle.lapin_scalars.specs.Scalars.Scalar.{number}
use Rattle.lapin_scalars.specs.Reading.{scalar_of}
use Rattle.lapin_scalars.proofs.ScalarLaws.{scalar_again, is_scalar}
use Rattle.lapin_scalars.specs.Numerals.{StartsPlainly}

own : IsNumeralModel (AllDigits 10) (digits_value 10)
own = numerals_by_value (AllDigits 10) tells_digits

pub starts_decimal : (n : ℕ) → n < 2 ^ 64 → StartsPlainly (decimal n)
starts_decimal zero lt = let e = decimal_digit 0 (omega arith) in subst (λ (bs : List ℕ). StartsPlainly bs) (sym e) (record { some = omega arith; no_zero = λ _. refl })
starts_decimal (suc n) lt =
    let first = first_decimal (suc n) (omega arith) lt in
    record {
      some = decimal_nonempty (suc n) lt;
      no_zero = λ e. absurd (omega (arith, first, e));
    }

pub starts_as_decimal : (bs : List ℕ) (n : ℕ) → n < 2 ^ 64 → bs ≡ decimal n → StartsPlainly bs
starts_as_decimal bs n lt e = subst (λ (b : List ℕ). StartsPlainly b) (sym e) (starts_decimal n lt)

-- ---- digits read one by one

pub num_found : (bs : List ℕ) (i v : ℕ) → length bs ≤ i → StartsPlainly bs → v ≡ digits_value 10 (take i bs) → AllDigits 10 (take i bs) → v < 2 ^ 64 → bs ≡ decimal v
num_found bs i v past plain value all small =
    let whole : take i bs ≡ bs = take_all i bs past in
    let is : v ≡ digits_value 10 bs = value ∙ ap (digits_value 10) whole in
    let digits : AllDigits 10 bs = subst (λ (b : List ℕ). AllDigits 10 b) whole all in
    sym (decimal-digits_value own bs digits plain.some plain.no_zero (omega (arith, is, small))) ∙ ap decimal (sym is)

-- no further digit, or one that goes past 64 bits
pub num_none : (bs : List ℕ) (i v : ℕ) → i < length bs → v ≡ digits_value 10 (take i bs)
    → (digit_value (get_or bs i 0) < 10 → 2 ^ 64 ≤ v * 10 + digit_value (get_or bs i 0))
    → (n : ℕ) → n < 2 ^ 64 → bs ≡ decimal n → ⊥
num_none bs i v lt value past n small is =
    let d = decimal_is_IsNumeral n small in
    let all : AllDigits 10 bs = subst (λ (b : List ℕ). AllDigits 10 b) (sym is) d.0.1 in
    let digit = digit_at bs i all lt in
    let one : digit_value (get_or bs i 0) < 10 = omega (arith, digit_value_digit (get_or bs i 0) digit, digit) in
    let wide = past one in
    let more = digits_value_more 10 bs i lt in
    let part = digits_value-take-le 10 bs (i + 1) (omega arith) in
    let whole : digits_value 10 bs ≡ n = ap (digits_value 10) is ∙ d.1 in
    omega (arith, wide, more, part, whole, small, value)

pub wide_some : (bs : List ℕ) (n limit : ℕ) → bs ≡ decimal n → n < limit → limit ≤ 2 ^ 64 → scalar_of (number limit) bs ≡ Some n
wide_some bs n limit is lt le =
    let fits : (ltb n limit && ltb n (2 ^ 64)) ≡ true = and_from (ltb n limit) (ltb n (2 ^ 64)) (lt-ltb _ _ lt) (lt-ltb _ _ (omega arith)) in
    ap (scalar_of (number limit)) is ∙ scalar_again (number limit) n fits

pub wide_none : (bs : List ℕ) (limit : ℕ) → ((n : ℕ) → n < limit → n < 2 ^ 64 → bs ≡ decimal n → ⊥) → scalar_of (number limit) bs ≡ None
wide_none bs limit h = sym (is_scalar (number limit) bs None (λ n fits is. let p = and_parts (ltb n limit) (ltb n (2 ^ 64)) fits in h n (ltb-true _ _ p.0) (ltb-true _ _ p.1) is))

-- a number past the limit
pub wide_past : (bs : List ℕ) (n limit : ℕ) → bs ≡ decimal n → n < 2 ^ 64 → limit ≤ n → scalar_of (number limit) bs ≡ None
wide_past bs n limit is lt past = wide_none bs limit (λ m small fits e. let same : m ≡ n = decimal_injective m n fits lt (sym e ∙ is) in omega arith)
