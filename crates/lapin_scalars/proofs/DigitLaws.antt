-- A decimal written two digits at a time.
use Rattle.std.proofs.Common.{◌≡◌, ℕ, ◌/◌, ◌%◌, ◌<◌, ◌≤◌, ◌^◌, List, ◌++◌, append_assoc, ap, ◌∙◌, arith, refl}
use Rattle.std.specs.Prelude.{decimal}
use Rattle.std.proofs.lemmas.Fmt.{decimal_step, decimal_digit}
use Rattle.lapin_scalars.specs.Numerals.{two_digits}

-- a number of two digits
pub decimal_tens : (n : ℕ) → 10 ≤ n → n < 100 → two_digits n ≡ decimal n
decimal_tens n low high = rw (decimal_step n low (omega arith), decimal_digit (n / 10) (omega arith)) refl

-- its hundreds, and two digits more
hundreds : (n : ℕ) → 100 ≤ n → n < 2 ^ 64 → decimal (n / 100) ++ two_digits (n % 100) ≡ decimal n
hundreds n low high =
    let front : n / 10 / 10 ≡ n / 100 = omega arith in
    let tens : n / 10 % 10 ≡ n % 100 / 10 = omega arith in
    let ones : n % 10 ≡ n % 100 % 10 = omega arith in
    rw (decimal_step n (omega arith) high, decimal_step (n / 10) (omega arith) (omega arith), append_assoc, front, tens, ones) refl

pub decimal_hundreds : (xs : List ℕ) (n : ℕ) → 100 ≤ n → n < 2 ^ 64 → (xs ++ decimal (n / 100)) ++ two_digits (n % 100) ≡ xs ++ decimal n
decimal_hundreds xs n low high = append_assoc xs (decimal (n / 100)) (two_digits (n % 100)) ∙ ap (λ (ds : List ℕ). xs ++ ds) (hundreds n low high)

-- its ten thousands, and four digits more
pub decimal_four : (xs : List ℕ) (n : ℕ) → 10000 ≤ n → n < 2 ^ 64
    → ((xs ++ decimal (n / 10000)) ++ two_digits (n % 10000 / 100)) ++ two_digits (n % 100) ≡ xs ++ decimal n
decimal_four xs n low high =
    let front : n / 10000 ≡ n / 100 / 100 = omega arith in
    let middle : n % 10000 / 100 ≡ n / 100 % 100 = omega arith in
    ap (λ (m : ℕ). ((xs ++ decimal m) ++ two_digits (n % 10000 / 100)) ++ two_digits (n % 100)) front
    ∙ ap (λ (m : ℕ). ((xs ++ decimal (n / 100 / 100)) ++ two_digits m) ++ two_digits (n % 100)) middle
    ∙ ap (λ (ds : List ℕ). ds ++ two_digits (n % 100)) (decimal_hundreds xs (n / 100) (omega arith) (omega arith))
    ∙ decimal_hundreds xs n (omega arith) high
