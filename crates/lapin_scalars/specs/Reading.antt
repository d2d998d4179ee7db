-- Reading a single value: the value whose text the bytes are.
use Rattle.std.specs.Prelude.{◌≡◌, ℕ, ℤ, pos, neg_ℤ, ◌==◌, ◌&&◌, List, [], ◌∷◌, Option, Some, None, Result, Ok, Err, if◌then◌else◌}
use Rattle.std.specs.Str.{bytes_eq}
use Rattle.std.specs.Result.{result_unwrap_or}
use Rattle.std.specs.Str.Parse.{digits_value}
use Rattle.hex.specs.Hex.{decode_of}
use Rattle.lapin_scalars.specs.declared.fault.ReadError.{ReadError}
use Rattle.lapin_scalars.specs.declared.fault.ReadError.TheVariants as errors
use Rattle.lapin_scalars.specs.Scalars.{Scalar, ScalarValue, scalar_text, scalar_fits}
use Rattle.lapin_scalars.specs.Scalars.Scalar.{text, bytes, pairs, flag, number, signed}

-- the bytes that pairs of digits in any case say
abbrev pub of_pairs : List ℕ → List ℕ
of_pairs digits = result_unwrap_or (decode_of digits) []

-- the same behind an x
abbrev pub behind_x : List ℕ → List ℕ
behind_x [] = []
behind_x (c ∷ digits) = of_pairs digits

-- the number that digits say, below 0 behind a minus
abbrev pub signed_value : List ℕ → ℤ
signed_value [] = pos 0
signed_value (c ∷ cs) = if c == 45 then neg_ℤ (pos (digits_value 10 cs)) else pos (digits_value 10 (c ∷ cs))

-- The one value that bytes can be the text of, which is then compared.
abbrev pub guess : (k : Scalar) → List ℕ → ScalarValue k
guess text piece = behind_x piece
guess bytes piece = behind_x piece
guess pairs piece = of_pairs piece
guess flag piece = bytes_eq (49 ∷ []) piece
guess (number limit) piece = digits_value 10 piece
guess (signed limit) piece = signed_value piece

-- the value whose text the bytes are
unfoldable pub scalar_of : (k : Scalar) → List ℕ → Option (ScalarValue k)
scalar_of k piece = if bytes_eq (scalar_text k (guess k piece)) piece && scalar_fits k (guess k piece) then Some (guess k piece) else None

-- what an error says of a reading: that nothing is read, unless memory ran out
abbrev pub Fails : {Y : Type 0} → ReadError → Option Y → Type 0
Fails errors.Memory read = Unit {0}
Fails errors.Bad read = read ≡ None

-- what a function returned, seen as a value, is what reading gives, unless memory ran out
abbrev pub GivesValue : {X Y : Type 0} → (X → Y) → Result X ReadError → Option Y → Type 0
GivesValue view (Ok x) read = read ≡ Some (view x)
GivesValue view (Err e) read = Fails e read
