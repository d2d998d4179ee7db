-- Reading field values from left to right.
use Rattle.std.specs.Prelude.{ℕ, zero, suc, ◌^◌, ◌-◌, ◌==◌, List, [], ◌∷◌, ◌++◌, length, Option, Some, None, if◌then◌else◌}
use Rattle.std.specs.FinMap.Entries as entries
use Rattle.lapin_values.specs.Data.{boolean, short_short_int, short_short_uint, short_int, short_uint, long_int, long_uint, long_long_int, timestamp, long_string, byte_array, void, Data, leaf, array, table, items_of, pairs_of}
use Rattle.lapin_values.specs.Table.{key_cmp}
use Rattle.lapin_scalars.specs.Scalars.Scalar.{text as a_text, pairs as some_pairs, flag as a_flag, number as a_number, signed as a_signed}
use Rattle.lapin_scalars.specs.Reading.{scalar_of}
use Rattle.lapin_tokens.specs.declared.letters.Letter.{Letter}
use Rattle.lapin_tokens.specs.declared.letters.Letter.TheVariants as letter
use Rattle.lapin_tokens.specs.Letters.{letter_at}
use Rattle.lapin_tokens.specs.Cursor.{◌>>=◌, after_mark, word_of, after_word}

-- nothing stands behind the letter of the void
abbrev pub void_of : List ℕ → Option Data
void_of [] = Some (leaf void)
void_of (b ∷ bs) = None

-- the value of a kind that holds no other
abbrev pub leaf_of : Letter → List ℕ → Option Data
leaf_of letter.Boolean piece = scalar_of a_flag piece >>= λ x. Some (leaf (boolean x))
leaf_of letter.ShortShortInt piece = scalar_of (a_signed (2 ^ 7)) piece >>= λ x. Some (leaf (short_short_int x))
leaf_of letter.ShortShortUInt piece = scalar_of (a_number (2 ^ 8)) piece >>= λ x. Some (leaf (short_short_uint x))
leaf_of letter.ShortInt piece = scalar_of (a_signed (2 ^ 15)) piece >>= λ x. Some (leaf (short_int x))
leaf_of letter.ShortUInt piece = scalar_of (a_number (2 ^ 16)) piece >>= λ x. Some (leaf (short_uint x))
leaf_of letter.LongInt piece = scalar_of (a_signed (2 ^ 31)) piece >>= λ x. Some (leaf (long_int x))
leaf_of letter.LongUInt piece = scalar_of (a_number (2 ^ 32)) piece >>= λ x. Some (leaf (long_uint x))
leaf_of letter.LongLongInt piece = scalar_of (a_signed (2 ^ 63)) piece >>= λ x. Some (leaf (long_long_int x))
leaf_of letter.Timestamp piece = scalar_of (a_number (2 ^ 64)) piece >>= λ x. Some (leaf (timestamp x))
leaf_of letter.LongString piece = scalar_of some_pairs piece >>= λ x. Some (leaf (long_string x))
leaf_of letter.ByteArray piece = scalar_of some_pairs piece >>= λ x. Some (leaf (byte_array x))
leaf_of letter.FieldArray piece = None
leaf_of letter.FieldTable piece = None
leaf_of letter.Void piece = void_of piece

-- the same where the bytes begin with the value
abbrev pub leaf_at : Letter → List ℕ → Option (Data × List ℕ)
leaf_at l text = leaf_of l (word_of text) >>= λ x. Some (x, after_word text)

-- the kind that the next byte is the letter of
abbrev pub next_letter : List ℕ → Option (Letter × List ℕ)
next_letter [] = None
next_letter (b ∷ bs) = letter_at b >>= λ l. Some (l, bs)

-- Members one after another, each added to what was found. Behind each stands the closing mark, or a comma and another member.
-- n is more than the members that there can be.
abbrev pub ending : {S : Type 0} → Option (List ℕ) → S → Option (S × List ℕ) → Option (S × List ℕ)
ending (Some rest) found others = Some (found, rest)
ending None found others = others

-- one member or more up to the closing mark, all added to what was found, and the bytes behind the mark
abbrev pub members_at : {S : Type 0} → (S → List ℕ → Option (S × List ℕ)) → ℕ → ℕ → S → List ℕ → Option (S × List ℕ)
members_at read closing zero found text = None
members_at read closing (suc n) found text = read found text >>= λ x. ending (after_mark closing x.1) x.0 (after_mark 44 x.1 >>= λ rest. members_at read closing n x.0 rest)

-- the same between an opening and a closing mark, where there may be no member
abbrev pub listed : {S : Type 0} → (S → List ℕ → Option (S × List ℕ)) → ℕ → ℕ → S → List ℕ → Option (S × List ℕ)
listed read opening closing found text = after_mark opening text >>= λ inner. ending (after_mark closing inner) found (members_at read closing (length inner) found inner)

-- a value of an array, read by `read`
abbrev pub item_at : (List ℕ → Option (Data × List ℕ)) → List Data → List ℕ → Option (List Data × List ℕ)
item_at read found text = read text >>= λ x. Some (found ++ x.0 ∷ [], x.1)

-- the key of a pair, with the equals sign behind it
abbrev pub key_at : List ℕ → Option (List ℕ × List ℕ)
key_at text = scalar_of a_text (word_of text) >>= λ key. after_mark 61 (after_word text) >>= λ rest. Some (key, rest)

-- the pairs with one more behind them, whose key is above all others
abbrev pub added : List ℕ → Data → List (List ℕ × Data) → Option (List (List ℕ × Data))
added k v found = if entries.is_sorted key_cmp (found ++ (k, v) ∷ []) then Some (found ++ (k, v) ∷ []) else None

-- a pair of a table, added to those that were found
abbrev pub pair_at : (List ℕ → Option (Data × List ℕ)) → List (List ℕ × Data) → List ℕ → Option (List (List ℕ × Data) × List ℕ)
pair_at read found text = do
  k ← key_at text
  x ← read k.1
  pairs ← added k.0 x.0 found
  Some (pairs, x.1)

-- the value behind a letter, where arrays and tables are read by the two functions
abbrev pub by_letter : (List ℕ → Option (List Data × List ℕ)) → (List ℕ → Option (List (List ℕ × Data) × List ℕ)) → Letter → List ℕ → Option (Data × List ℕ)
by_letter arrays tables letter.FieldArray text = arrays text >>= λ x. Some (array (items_of x.0), x.1)
by_letter arrays tables letter.FieldTable text = tables text >>= λ x. Some (table (pairs_of x.0), x.1)
by_letter arrays tables l text = leaf_at l text

-- the value that the bytes begin with, which nests at most so many levels
unfoldable pub value_at : ℕ → List ℕ → Option (Data × List ℕ)
value_at zero text = next_letter text >>= λ x. by_letter (λ t. None) (λ t. None) x.0 x.1
value_at (suc level) text = next_letter text >>= λ x. by_letter (λ t. listed (item_at (value_at level)) 91 93 [] t) (λ t. listed (pair_at (value_at level)) 123 125 [] t) x.0 x.1

-- the values of an array and the pairs of a table, each followed by the closing bracket
abbrev pub items_at : ℕ → List ℕ → Option (List Data × List ℕ)
items_at level text = members_at (item_at (value_at level)) 93 (length text) [] text

-- the pairs of a table up to the closing brace, whose values nest at most so many levels, and the bytes behind it
abbrev pub pairs_at : ℕ → List ℕ → Option (List (List ℕ × Data) × List ℕ)
pairs_at level text = members_at (pair_at (value_at level)) 125 (length text) [] text

-- the array and the table that the bytes begin with, with their brackets
unfoldable pub array_at : ℕ → List ℕ → Option (List Data × List ℕ)
array_at level text = if level == 0 then None else (after_mark 91 text >>= λ inner. ending (after_mark 93 inner) [] (items_at (level - 1) inner))

unfoldable pub table_at : ℕ → List ℕ → Option (List (List ℕ × Data) × List ℕ)
table_at level text = if level == 0 then None else (after_mark 123 text >>= λ inner. ending (after_mark 125 inner) [] (pairs_at (level - 1) inner))

-- nothing may follow
abbrev pub whole : {A : Type 0} → Option (A × List ℕ) → Option A
whole None = None
whole (Some x) = if_none x.1 x.0
  where
    if_none : {A : Type 0} → List ℕ → A → Option A
    if_none [] a = Some a
    if_none (_ ∷ _) a = None
