-- The texts of field values, arrays and tables.
use Rattle.std.specs.Prelude.{ℕ, zero, suc, ◌^◌, Bool, true, false, ◌&&◌, List, [], ◌∷◌, ◌++◌}
use Rattle.std.specs.List.{join_with_byte}
use Rattle.std.specs.FinMap.Entries as entries
use Rattle.lapin_values.specs.Data.{Leaf, boolean, short_short_int, short_short_uint, short_int, short_uint, long_int, long_uint, long_long_int, timestamp, long_string, byte_array, void, Data, leaf, array, table, Items, no_items, item, Pairs, no_pairs, pair, items_of, pairs_of}
use Rattle.lapin_values.specs.Table.{key_cmp}
use Rattle.lapin_values.specs.ValueOf.{pairs_list}
use Rattle.lapin_scalars.specs.Scalars.{scalar_text, scalar_fits}
use Rattle.lapin_scalars.specs.Scalars.Scalar.{text as a_text, pairs as some_pairs, flag as a_flag, number as a_number, signed as a_signed}
use Rattle.lapin_tokens.specs.declared.letters.Letter.TheVariants as letter
use Rattle.lapin_tokens.specs.Letters.{letter_byte}

-- A value that holds no other is its letter and its text; the void is its letter alone.
abbrev pub leaf_text : Leaf → List ℕ
leaf_text (boolean b) = letter_byte letter.Boolean ∷ scalar_text a_flag b
leaf_text (short_short_int z) = letter_byte letter.ShortShortInt ∷ scalar_text (a_signed (2 ^ 7)) z
leaf_text (short_short_uint n) = letter_byte letter.ShortShortUInt ∷ scalar_text (a_number (2 ^ 8)) n
leaf_text (short_int z) = letter_byte letter.ShortInt ∷ scalar_text (a_signed (2 ^ 15)) z
leaf_text (short_uint n) = letter_byte letter.ShortUInt ∷ scalar_text (a_number (2 ^ 16)) n
leaf_text (long_int z) = letter_byte letter.LongInt ∷ scalar_text (a_signed (2 ^ 31)) z
leaf_text (long_uint n) = letter_byte letter.LongUInt ∷ scalar_text (a_number (2 ^ 32)) n
leaf_text (long_long_int z) = letter_byte letter.LongLongInt ∷ scalar_text (a_signed (2 ^ 63)) z
leaf_text (timestamp n) = letter_byte letter.Timestamp ∷ scalar_text (a_number (2 ^ 64)) n
leaf_text (long_string s) = letter_byte letter.LongString ∷ scalar_text some_pairs s
leaf_text (byte_array s) = letter_byte letter.ByteArray ∷ scalar_text some_pairs s
leaf_text void = letter_byte letter.Void ∷ []

-- texts joined by commas, between two marks
abbrev pub bracketed : ℕ → ℕ → List (List ℕ) → List ℕ
bracketed opening closing texts = opening ∷ (join_with_byte 44 texts ++ closing ∷ [])

-- An array is its letter and its values in square brackets; a table is its letter and its pairs KEY=VALUE in braces.
unfoldable mutual
  pub value_text : Data → List ℕ
  value_text (leaf l) = leaf_text l
  value_text (array ds) = letter_byte letter.FieldArray ∷ bracketed 91 93 (item_texts ds)
  value_text (table ps) = letter_byte letter.FieldTable ∷ bracketed 123 125 (pair_texts ps)

  pub item_texts : Items → List (List ℕ)
  item_texts no_items = []
  item_texts (item d ds) = value_text d ∷ item_texts ds

  pub pair_texts : Pairs → List (List ℕ)
  pair_texts no_pairs = []
  pair_texts (pair k d ps) = (scalar_text a_text k ++ 61 ∷ value_text d) ∷ pair_texts ps

-- the text of an array without its letter
abbrev pub array_text : List Data → List ℕ
array_text ds = bracketed 91 93 (item_texts (items_of ds))

-- the text of a table that stands by itself: no letter
abbrev pub table_text : List (List ℕ × Data) → List ℕ
table_text ps = bracketed 123 125 (pair_texts (pairs_of ps))

-- numbers in range of their kinds, and bytes that are bytes
abbrev pub leaf_fits : Leaf → Bool
leaf_fits (boolean b) = true
leaf_fits (short_short_int z) = scalar_fits (a_signed (2 ^ 7)) z
leaf_fits (short_short_uint n) = scalar_fits (a_number (2 ^ 8)) n
leaf_fits (short_int z) = scalar_fits (a_signed (2 ^ 15)) z
leaf_fits (short_uint n) = scalar_fits (a_number (2 ^ 16)) n
leaf_fits (long_int z) = scalar_fits (a_signed (2 ^ 31)) z
leaf_fits (long_uint n) = scalar_fits (a_number (2 ^ 32)) n
leaf_fits (long_long_int z) = scalar_fits (a_signed (2 ^ 63)) z
leaf_fits (timestamp n) = scalar_fits (a_number (2 ^ 64)) n
leaf_fits (long_string s) = scalar_fits some_pairs s
leaf_fits (byte_array s) = scalar_fits some_pairs s
leaf_fits void = true

-- What fits nests at most as many levels of arrays and tables as the level says, and the keys of each table rise strictly.
unfoldable mutual
  pub value_fits : ℕ → Data → Bool
  value_fits level (leaf l) = leaf_fits l
  value_fits zero (array ds) = false
  value_fits (suc level) (array ds) = items_fit level ds
  value_fits zero (table ps) = false
  value_fits (suc level) (table ps) = pairs_fit level ps && entries.is_sorted key_cmp (pairs_list ps)

  pub items_fit : ℕ → Items → Bool
  items_fit level no_items = true
  items_fit level (item d ds) = value_fits level d && items_fit level ds

  pub pairs_fit : ℕ → Pairs → Bool
  pairs_fit level no_pairs = true
  pairs_fit level (pair k d ps) = (scalar_fits a_text k && value_fits level d) && pairs_fit level ps

-- a table that nests at most so many levels, itself the first
abbrev pub table_fits : ℕ → List (List ℕ × Data) → Bool
table_fits level ps = value_fits level (table (pairs_of ps))
