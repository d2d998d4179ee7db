-- Hexadecimal digits.
use Rattle.std.specs.Prelude.{ℕ, Bool, true, nat_le, ◌&&◌, ◌||◌, List, [], ◌∷◌}

-- a digit in lower case: 0 to 9, or a to f
abbrev pub is_digit : ℕ → Bool
is_digit c = (nat_le 48 c && nat_le c 57) || (nat_le 97 c && nat_le c 102)

-- whether every byte is a hexadecimal digit in lower case
abbrev pub all_digits : List ℕ → Bool
all_digits [] = true
all_digits (c ∷ cs) = is_digit c && all_digits cs
