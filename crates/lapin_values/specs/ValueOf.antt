-- The value back from its tree, so that values with one tree are one.
use Rattle.std.specs.Prelude.{ℕ, Bool, List, [], ◌∷◌, ◌≡◌, refl, map}
use Rattle.std.specs.Bool.{Decides}
use Rattle.std.proofs.Common.{sym, ap, ◌∙◌}
use Rattle.lapin_values.specs.Data.{Data, leaf, array, table, boolean, short_short_int, short_short_uint, short_int, short_uint, long_int, long_uint, long_long_int, timestamp, long_string, byte_array, void, Items, no_items, item, Pairs, no_pairs, pair, items_of, pairs_of}
use Rattle.lapin_values.specs.DataOf.{data_of, to_pair}
use Rattle.lapin_values.specs.declared.value.AMQPValue.{AMQPValue}
use Rattle.lapin_values.specs.declared.value.AMQPValue.TheVariants as V

-- the list of an array's elements, back
abbrev pub items_list : Items → List Data
items_list no_items = []
items_list (item d ds) = d ∷ items_list ds

-- the list of a table's pairs, back
abbrev pub pairs_list : Pairs → List (List ℕ × Data)
pairs_list no_pairs = []
pairs_list (pair k d ps) = (k, d) ∷ pairs_list ps

-- a list is what is read back from the elements of its array
pub items_list-items_of : (ds : List Data) → items_list (items_of ds) ≡ ds
items_list-items_of [] = refl
items_list-items_of (d ∷ ds) = ap (λ es. d ∷ es) (items_list-items_of ds)

-- a list is what is read back from the pairs of its table
pub pairs_list-pairs_of : (ps : List (List ℕ × Data)) → pairs_list (pairs_of ps) ≡ ps
pairs_list-pairs_of [] = refl
pairs_list-pairs_of (p ∷ ps) = ap (λ qs. p ∷ qs) (pairs_list-pairs_of ps)

-- the value that a tree stands for
abbrev pub value_of : Data → AMQPValue
value_of (leaf (boolean b)) = V.Boolean b
value_of (leaf (short_short_int z)) = V.ShortShortInt z
value_of (leaf (short_short_uint n)) = V.ShortShortUInt n
value_of (leaf (short_int z)) = V.ShortInt z
value_of (leaf (short_uint n)) = V.ShortUInt n
value_of (leaf (long_int z)) = V.LongInt z
value_of (leaf (long_uint n)) = V.LongUInt n
value_of (leaf (long_long_int z)) = V.LongLongInt z
value_of (leaf (timestamp n)) = V.Timestamp n
value_of (leaf (long_string bytes)) = V.LongString bytes
value_of (leaf (byte_array bytes)) = V.ByteArray bytes
value_of (leaf void) = V.Void
value_of (array ds) = V.FieldArray (items_list ds)
value_of (table ps) = V.FieldTable (pairs_list ps)

-- a value is the one that its tree stands for
pub value_of-data_of : (v : AMQPValue) → value_of (data_of v) ≡ v
value_of-data_of (V.Boolean b) = refl
value_of-data_of (V.ShortShortInt z) = refl
value_of-data_of (V.ShortShortUInt n) = refl
value_of-data_of (V.ShortInt z) = refl
value_of-data_of (V.ShortUInt n) = refl
value_of-data_of (V.LongInt z) = refl
value_of-data_of (V.LongUInt n) = refl
value_of-data_of (V.LongLongInt z) = refl
value_of-data_of (V.Timestamp n) = refl
value_of-data_of (V.LongString bytes) = refl
value_of-data_of (V.ByteArray bytes) = refl
value_of-data_of (V.FieldArray ds) = ap V.FieldArray (items_list-items_of ds)
value_of-data_of (V.FieldTable ps) = ap V.FieldTable (pairs_list-pairs_of ps)
value_of-data_of V.Void = refl

-- values are those that their trees stand for
values_back : (vs : List AMQPValue) → map value_of (map data_of vs) ≡ vs
values_back [] = refl
values_back (v ∷ vs) = λ i. value_of-data_of v i ∷ values_back vs i

-- values in a row with the same trees are the same
pub values_same : (vs ws : List AMQPValue) → map data_of vs ≡ map data_of ws → vs ≡ ws
values_same vs ws e = sym (values_back vs) ∙ ap (map value_of) e ∙ values_back ws

-- an entry back from its pair
abbrev pub from_pair : List ℕ × Data → List ℕ × AMQPValue
from_pair p = (p.0, value_of p.1)

-- entries are those that their pairs of plain data stand for
entries_back : (es : List (List ℕ × AMQPValue)) → map from_pair (map to_pair es) ≡ es
entries_back [] = refl
entries_back (e ∷ es) = λ i. (e.0, value_of-data_of e.1 i) ∷ entries_back es i

-- entries in a row with the same pairs of plain data are the same
pub entries_same : (es fs : List (List ℕ × AMQPValue)) → map to_pair es ≡ map to_pair fs → es ≡ fs
entries_same es fs e = sym (entries_back es) ∙ ap (map from_pair) e ∙ entries_back fs

-- two lists are the same where what they are read from is
pub read_Decides : {A B : Type 0} (f : A → B) → ((vs ws : List A) → map f vs ≡ map f ws → vs ≡ ws) → {r : Bool} {x y : List B} {us vs ws zs : List A}
    → map f vs ≡ x → map f ws ≡ y → us ≡ vs → zs ≡ ws → Decides r (us ≡ zs) → Decides r (x ≡ y)
read_Decides f inj p q s t d =
    (λ e. sym p ∙ ap (map f) (sym s ∙ d.0 e ∙ t) ∙ q, λ e. d.1 (s ∙ inj _ _ (p ∙ e ∙ sym q) ∙ sym t))
