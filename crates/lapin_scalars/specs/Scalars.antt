-- Single values and their texts: numbers, flags, bytes and short texts.
use Rattle.std.specs.Prelude.{ℕ, ℤ, pos, negsuc, ◌^◌, Bool, true, nat_lt, nat_le, ◌&&◌, ◌||◌, List, [], ◌∷◌, length, decimal, if◌then◌else◌}
use Rattle.std.specs.Fmt.{signed_decimal}
use Rattle.std.specs.Str.{is_utf8}
use Rattle.hex.specs.Hex.{encode_lower}

-- the kinds of single values
pub data Scalar : Type 0 where
  -- a short text, as an x and pairs of hexadecimal digits
  text : Scalar
  -- bytes, as an x and pairs of hexadecimal digits
  bytes : Scalar
  -- bytes, as pairs of hexadecimal digits alone
  pairs : Scalar
  -- 0 or 1
  flag : Scalar
  -- a number below a limit, in decimal
  number : ℕ → Scalar
  -- a number from minus a limit to below it, in decimal
  signed : ℕ → Scalar

-- what a value of each kind is: bytes, a truth, or a number with or without a sign
abbrev pub ScalarValue : Scalar → Type 0
ScalarValue text = List ℕ
ScalarValue bytes = List ℕ
ScalarValue pairs = List ℕ
ScalarValue flag = Bool
ScalarValue (number limit) = ℕ
ScalarValue (signed limit) = ℤ

-- The text of a value. Digits are in lower case; a number has no leading zeros, and a sign only below 0.
abbrev pub scalar_text : (k : Scalar) → ScalarValue k → List ℕ
scalar_text text s = 120 ∷ encode_lower s
scalar_text bytes s = 120 ∷ encode_lower s
scalar_text pairs s = encode_lower s
scalar_text flag b = if b then 49 ∷ [] else 48 ∷ []
scalar_text (number limit) n = decimal n
scalar_text (signed limit) z = signed_decimal z

-- whether each of the numbers is a byte, that is, below 256
abbrev pub are_bytes : List ℕ → Bool
are_bytes [] = true
are_bytes (b ∷ bs) = nat_lt b 256 && are_bytes bs

-- from minus the limit to below it, and of 64 bits
abbrev pub in_range : ℕ → ℤ → Bool
in_range limit (pos n) = nat_lt n limit && nat_lt n (2 ^ 63)
in_range limit (negsuc n) = nat_lt n limit && nat_lt n (2 ^ 63)

-- The values that have a text: a short text is UTF-8 and has at most 255 bytes, and a number is in range.
abbrev pub scalar_fits : (k : Scalar) → ScalarValue k → Bool
scalar_fits text s = (nat_le (length s) 255 && is_utf8 s) && are_bytes s
scalar_fits bytes s = are_bytes s
scalar_fits pairs s = are_bytes s
scalar_fits flag b = true
scalar_fits (number limit) n = nat_lt n limit && nat_lt n (2 ^ 64)
scalar_fits (signed limit) z = in_range limit z

-- a digit, a small letter or a minus (or a byte beside these that ends no value): the texts hold no other bytes
abbrev pub is_plain : ℕ → Bool
is_plain b = (nat_lt 44 b && nat_lt b 61) || (nat_lt 96 b && nat_lt b 123)

-- whether every byte of a text is plain
abbrev pub all_plain : List ℕ → Bool
all_plain [] = true
all_plain (b ∷ bs) = is_plain b && all_plain bs
