-- The kinds of fields that a line has, their values, and the token of each value.
use Rattle.std.specs.Prelude.{◌≡◌, ℕ, ◌^◌, Bool, true, List, [], ◌∷◌}
use Rattle.lapin_values.specs.Data.{Data}
use Rattle.lapin_values.specs.Properties.{Properties}
use Rattle.lapin_scalars.specs.Scalars.{scalar_text, scalar_fits}
use Rattle.lapin_scalars.specs.Scalars.Scalar.{text as a_text, bytes as some_bytes, flag as a_flag, number as a_number}
use Rattle.lapin_tokens.specs.Values.{table_text, table_fits}
use Rattle.lapin_tokens.specs.Properties.{properties_text, properties_fit}

-- a short text, bytes, a table, properties, a flag, or a number below a limit
pub data Field : Type 0 where
  text : Field
  bytes : Field
  table : Field
  props : Field
  flag : Field
  number : ℕ → Field

-- numbers of 16, 32 and 64 bits
abbrev pub short_number : Field
short_number = number (2 ^ 16)

-- a number of 32 bits
abbrev pub long_number : Field
long_number = number (2 ^ 32)

-- a number of 64 bits
abbrev pub wide_number : Field
wide_number = number (2 ^ 64)

-- what a value of each kind of field is
abbrev pub Value : Field → Type 0
Value text = List ℕ
Value bytes = List ℕ
Value table = List (List ℕ × Data)
Value props = Properties
Value flag = Bool
Value (number limit) = ℕ

-- the token of a field's value: the one text that stands for it in a line
abbrev pub token : (f : Field) → Value f → List ℕ
token text s = scalar_text a_text s
token bytes s = scalar_text some_bytes s
token table ps = table_text ps
token props v = properties_text v
token flag b = scalar_text a_flag b
token (number limit) n = scalar_text (a_number limit) n

-- The values that have a token: a text is UTF-8 of at most 255 bytes, a number is below its limit, a table nests at most
-- 8 levels and its keys rise.
abbrev pub fits : (f : Field) → Value f → Bool
fits text s = scalar_fits a_text s
fits bytes s = scalar_fits some_bytes s
fits table ps = table_fits 8 ps
fits props v = properties_fit v
fits flag b = true
fits (number limit) n = scalar_fits (a_number limit) n

-- one value for each field
abbrev pub Values : List Field → Type 0
Values [] = Unit {0}
Values (f ∷ fs) = Value f × Values fs

-- the tokens of the values of fields in a row, one for each
abbrev pub tokens : (fs : List Field) → Values fs → List (List ℕ)
tokens [] v = []
tokens (f ∷ fs) v = token f v.0 ∷ tokens fs v.1

-- each of the values of fields in a row has a token
abbrev pub AllFit : (fs : List Field) → Values fs → Type 0
AllFit [] v = Unit {0}
AllFit (f ∷ fs) v = (fits f v.0 ≡ true) × AllFit fs v.1
