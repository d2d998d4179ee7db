-- How a decimal number begins, and its last two digits.
use Rattle.std.specs.Prelude.{◌≡◌, ℕ, ◌+◌, ◌/◌, ◌%◌, ◌<◌, List, [], ◌∷◌, length, slice_index}

-- neither empty, nor with a zero before another digit
pub record StartsPlainly (bs : List ℕ) : Type 0 where
  pub some : 0 < length bs
  pub no_zero : slice_index bs 0 ≡ 48 → length bs ≡ 1

-- the two digits of a number below 100, a zero first where it has one digit
abbrev pub two_digits : ℕ → List ℕ
two_digits n = (48 + n / 10) ∷ (48 + n % 10) ∷ []
