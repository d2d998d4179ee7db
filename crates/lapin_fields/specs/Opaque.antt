-- Tables of arguments as frames have them: octets that nobody reads. Such octets stand in a table that has them as a byte array under the empty
-- name; a table that a caller gives by its values is written by them.
use Rattle.std.specs.Prelude.{ℕ, List, [], ◌∷◌, Option, Some, None}
use Rattle.lapin_values.specs.Data.{Data, leaf, byte_array, pairs_of}
use Rattle.lapin_fields.specs.Fields.{counted}
use Rattle.lapin_fields.specs.Fits.{StringFits, TableFits}
use Rattle.lapin_fields.specs.Reading.{◌>>=◌, counted_at}
use Rattle.lapin_fields.specs.Values.{pairs_bytes}

-- the table that has octets as a byte array under the empty name
abbrev pub carrier : List ℕ → List (List ℕ × Data)
carrier octets = ([], leaf (byte_array octets)) ∷ []

-- the octets that a table carries, if it is such a one
abbrev pub carried : List (List ℕ × Data) → Option (List ℕ)
carried (([], leaf (byte_array octets)) ∷ []) = Some octets
carried _ = None

-- the table of arguments that octets are: no octets are the empty table
abbrev pub opaque : List ℕ → List (List ℕ × Data)
opaque [] = []
opaque (o ∷ os) = carrier (o ∷ os)

-- the table of arguments that stands next behind its length, whatever its octets are
abbrev pub opaque_at : List ℕ → Option (List (List ℕ × Data) × List ℕ)
opaque_at bytes = counted_at bytes >>= λ s. Some (opaque s.0, s.1)

-- octets that are carried, and else those of the table's pairs
abbrev pub octets_by : Option (List ℕ) → List (List ℕ × Data) → List ℕ
octets_by (Some octets) t = octets
octets_by None t = pairs_bytes (pairs_of t)

-- the octets of a table of arguments: those that it carries, or those of its pairs
abbrev pub table_octets : List (List ℕ × Data) → List ℕ
table_octets t = octets_by (carried t) t

-- a table of arguments behind its length
abbrev pub arguments_bytes : List (List ℕ × Data) → List ℕ
arguments_bytes t = counted (table_octets t)

-- octets that are carried have room, and else the table by its values
abbrev pub FitsBy : Option (List ℕ) → List (List ℕ × Data) → Type 0
FitsBy (Some octets) t = StringFits octets
FitsBy None t = TableFits t

-- a table of arguments has room: the octets that it carries, or the values that it holds
abbrev pub ArgumentsFit : List (List ℕ × Data) → Type 0
ArgumentsFit t = FitsBy (carried t) t
