-- Reading the pieces of a line from left to right.
use Rattle.std.specs.Prelude.{ℕ, Bool, true, not, ◌==◌, ◌&&◌, List, [], ◌∷◌, Option, Some, None}
use Rattle.lapin_scalars.specs.Scalars.Scalar.{text as a_text, bytes as some_bytes, flag as a_flag, number as a_number}
use Rattle.lapin_scalars.specs.Reading.{scalar_of}
use Rattle.lapin_tokens.specs.ValueReading.{table_at, whole}
use Rattle.lapin_tokens.specs.PropertyReading.{properties_at}
use Rattle.lapin_tokens.specs.Fields.{Field, Value, Values}
use Rattle.lapin_tokens.specs.Fields.Field.{text, bytes, table, props, flag, number}
pub use Rattle.lapin_scalars.specs.Reading.{Fails, GivesValue}
pub use Rattle.lapin_tokens.specs.Cursor.{◌>>=◌, Gives}

-- a word without a space is one piece
abbrev pub has_no_space : List ℕ → Bool
has_no_space [] = true
has_no_space (b ∷ bs) = not (b == 32) && has_no_space bs

-- the value whose token the piece is
unfoldable pub value_of : (f : Field) → List ℕ → Option (Value f)
value_of text piece = scalar_of a_text piece
value_of bytes piece = scalar_of some_bytes piece
value_of table piece = whole (table_at 8 piece)
value_of props piece = whole (properties_at piece)
value_of flag piece = scalar_of a_flag piece
value_of (number limit) piece = scalar_of (a_number limit) piece

-- the value of the next piece
unfoldable pub field_at : (f : Field) → List (List ℕ) → Option (Value f × List (List ℕ))
field_at f [] = None
field_at f (piece ∷ rest) = value_of f piece >>= λ x. Some (x, rest)

-- the values of fields in a row, put together by k
abbrev pub fields_at : {A : Type 0} → (fs : List Field) → (Values fs → A) → List (List ℕ) → Option (A × List (List ℕ))
fields_at [] k pieces = Some (k tt, pieces)
fields_at (f ∷ fs) k pieces = field_at f pieces >>= λ x. fields_at fs (λ vs. k (x.0, vs)) x.1
