-- Field values behind the letters of their types, arrays and tables: each array and table behind its length in four octets.
use Rattle.std.specs.Prelude.{ℕ, List, [], ◌∷◌, ◌++◌, Option, Some, None}
use Rattle.std.specs.Int.{w8, w16, w32, w64, cast_unsigned}
use Rattle.lapin_values.specs.Data.{Leaf, boolean, short_short_int, short_short_uint, short_int, short_uint, long_int, long_uint, long_long_int, timestamp, long_string, byte_array, void, Data, leaf, array, table, Items, no_items, item, Pairs, no_pairs, pair, items_of, pairs_of}
use Rattle.lapin_fields.specs.Fields.{octet, short, long, wide, text, counted, bit}

-- A value that holds no other is the letter of its type and its octets; negative numbers stand in two's complement.
abbrev pub leaf_bytes : Leaf → List ℕ
leaf_bytes (boolean b) = 116 ∷ octet (bit b)
leaf_bytes (short_short_int z) = 98 ∷ octet (cast_unsigned w8 z)
leaf_bytes (short_short_uint n) = 66 ∷ octet n
leaf_bytes (short_int z) = 115 ∷ short (cast_unsigned w16 z)
leaf_bytes (short_uint n) = 117 ∷ short n
leaf_bytes (long_int z) = 73 ∷ long (cast_unsigned w32 z)
leaf_bytes (long_uint n) = 105 ∷ long n
leaf_bytes (long_long_int z) = 108 ∷ wide (cast_unsigned w64 z)
leaf_bytes (timestamp n) = 84 ∷ wide n
leaf_bytes (long_string s) = 83 ∷ counted s
leaf_bytes (byte_array s) = 120 ∷ counted s
leaf_bytes void = 86 ∷ []

-- An array is its values in a row; a table is its pairs in a row, a key and then its value.
unfoldable mutual
  pub value_bytes : Data → List ℕ
  value_bytes (leaf l) = leaf_bytes l
  value_bytes (array ds) = 65 ∷ counted (items_bytes ds)
  value_bytes (table ps) = 70 ∷ counted (pairs_bytes ps)

  pub items_bytes : Items → List ℕ
  items_bytes no_items = []
  items_bytes (item d ds) = value_bytes d ++ items_bytes ds

  pub pairs_bytes : Pairs → List ℕ
  pairs_bytes no_pairs = []
  pairs_bytes (pair k d ps) = (text k ++ value_bytes d) ++ pairs_bytes ps

-- an array without its letter
abbrev pub array_bytes : List Data → List ℕ
array_bytes ds = counted (items_bytes (items_of ds))

-- a table that stands by itself: no letter
abbrev pub table_bytes : List (List ℕ × Data) → List ℕ
table_bytes ps = counted (pairs_bytes (pairs_of ps))

-- the octets of a value that holds no other; an array and a table have none of their own
abbrev pub leaf_part : Data → List ℕ
leaf_part (leaf l) = leaf_bytes l
leaf_part (array ds) = []
leaf_part (table ps) = []

-- a key and its value
abbrev pub pair_bytes : List ℕ × Data → List ℕ
pair_bytes p = text p.0 ++ value_bytes p.1

-- the octets of a member, where there is one
abbrev pub member_bytes : {A : Type 0} → (A → List ℕ) → Option A → List ℕ
member_bytes bytes None = []
member_bytes bytes (Some x) = bytes x
