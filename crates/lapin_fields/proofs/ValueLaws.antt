-- What was written is read: field values, arrays and tables.
use Rattle.std.proofs.Common.{◌≡◌, ℕ, zero, suc, ◌≤◌, ◌<◌, ◌^◌, true, false, List, [], ◌∷◌, ◌++◌, length, Option, Some, refl, sym, ap, subst, ◌∙◌, arith, append_assoc, to_z}
use Rattle.std.specs.Int.{w8, w16, w32, w64, cast_unsigned}
use Rattle.std.specs.Int.RustNames.{FitsSigned}
use Rattle.std.specs.FinMap.Entries.{is_sorted}
use Rattle.std.proofs.lemmas.Int.{to_z-of_z, ints}
use Rattle.std.proofs.lemmas.List.{append-nil, length-append}
use Rattle.std.proofs.lemmas.Nat.{from_be_bytes-to_be_bytes_2, from_be_bytes-to_be_bytes_4, from_be_bytes-to_be_bytes_8}
use Rattle.lapin_values.specs.Data.{Leaf, boolean, short_short_int, short_short_uint, short_int, short_uint, long_int, long_uint, long_long_int, timestamp, long_string, byte_array, void, Data, leaf, array, table, Items, no_items, item, Pairs, no_pairs, pair, items_of, pairs_of}
use Rattle.lapin_values.specs.Table.{key_cmp, put}
use Rattle.lapin_values.specs.ValueOf.{items_list, pairs_list, pairs_list-pairs_of}
use Rattle.lapin_fields.specs.Fields.{text, counted}
use Rattle.lapin_fields.specs.Fits.{StringFits, LeafFits, ValueFits, ItemsFit, PairsFit, TableFits}
use Rattle.lapin_fields.specs.Reading.{◌>>=◌, counted_at, text_at}
use Rattle.lapin_fields.specs.ValueReading.{one_of, items_in, pairs_in, value_at, array_in, table_in, table_at}
use Rattle.lapin_fields.specs.Values.{leaf_bytes, value_bytes, items_bytes, pairs_bytes, table_bytes}
use Rattle.lapin_fields.proofs.ReadingLaws.{then_on, text_back, counted_back}
use Rattle.lapin_fields.proofs.RisingLaws.{rising_front, put_last}
use Rattle.lapin_fields.proofs.Turns.{item_step, pair_step}

-- ---- the trees of arrays and tables

items_back : (is : Items) → items_of (items_list is) ≡ is
items_back no_items = refl
items_back (item d is) = ap (λ (js : Items). item d js) (items_back is)

pairs_back : (ps : Pairs) → pairs_of (pairs_list ps) ≡ ps
pairs_back no_pairs = refl
pairs_back (pair k d ps) = ap (λ (qs : Pairs). pair k d qs) (pairs_back ps)

-- ---- values that hold no other

unsigned_16 : (z : _) → FitsSigned w16 z → cast_unsigned w16 z < 2 ^ 16
unsigned_16 z h = omega (arith, ints)

unsigned_32 : (z : _) → FitsSigned w32 z → cast_unsigned w32 z < 2 ^ 32
unsigned_32 z h = omega (arith, ints)

unsigned_64 : (z : _) → FitsSigned w64 z → cast_unsigned w64 z < 2 ^ 64
unsigned_64 z h = omega (arith, ints)

leaf_back : (l : ℕ) (x : Leaf) (rest : List ℕ) → LeafFits x → value_at l (leaf_bytes x ++ rest) ≡ Some (leaf x, rest)
leaf_back l (boolean true) rest h = refl
leaf_back l (boolean false) rest h = refl
leaf_back l (short_short_int z) rest h = ap (λ k. Some (leaf (short_short_int k), rest)) (to_z-of_z w8 z h)
leaf_back l (short_short_uint n) rest h = refl
leaf_back l (short_int z) rest h = ap (λ k. Some (leaf (short_int (to_z w16 k)), rest)) (from_be_bytes-to_be_bytes_2 (cast_unsigned w16 z) (unsigned_16 z h)) ∙ ap (λ k. Some (leaf (short_int k), rest)) (to_z-of_z w16 z h)
leaf_back l (short_uint n) rest h = ap (λ k. Some (leaf (short_uint k), rest)) (from_be_bytes-to_be_bytes_2 n h)
leaf_back l (long_int z) rest h = ap (λ k. Some (leaf (long_int (to_z w32 k)), rest)) (from_be_bytes-to_be_bytes_4 (cast_unsigned w32 z) (unsigned_32 z h)) ∙ ap (λ k. Some (leaf (long_int k), rest)) (to_z-of_z w32 z h)
leaf_back l (long_uint n) rest h = ap (λ k. Some (leaf (long_uint k), rest)) (from_be_bytes-to_be_bytes_4 n h)
leaf_back l (long_long_int z) rest h = ap (λ k. Some (leaf (long_long_int (to_z w64 k)), rest)) (from_be_bytes-to_be_bytes_8 (cast_unsigned w64 z) (unsigned_64 z h)) ∙ ap (λ k. Some (leaf (long_long_int k), rest)) (to_z-of_z w64 z h)
leaf_back l (timestamp n) rest h = ap (λ k. Some (leaf (timestamp k), rest)) (from_be_bytes-to_be_bytes_8 n h)
leaf_back l (long_string s) rest h = ap (λ (o : Option (List ℕ × List ℕ)). o >>= λ t. Some (leaf (long_string t.0), t.1)) (counted_back s rest h)
leaf_back l (byte_array s) rest h = ap (λ (o : Option (List ℕ × List ℕ)). o >>= λ t. Some (leaf (byte_array t.0), t.1)) (counted_back s rest h)
leaf_back l void rest h = refl

-- ---- members

-- a value has a letter
record Lettered (v : Data) : Type 0 where
  letter : ℕ
  more : List ℕ
  is : value_bytes v ≡ letter ∷ more

leaf_lettered : (x : Leaf) → (n : ℕ) × (t : List ℕ) × (leaf_bytes x ≡ n ∷ t)
leaf_lettered (boolean b) = (_, _, refl)
leaf_lettered (short_short_int z) = (_, _, refl)
leaf_lettered (short_short_uint n) = (_, _, refl)
leaf_lettered (short_int z) = (_, _, refl)
leaf_lettered (short_uint n) = (_, _, refl)
leaf_lettered (long_int z) = (_, _, refl)
leaf_lettered (long_uint n) = (_, _, refl)
leaf_lettered (long_long_int z) = (_, _, refl)
leaf_lettered (timestamp n) = (_, _, refl)
leaf_lettered (long_string s) = (_, _, refl)
leaf_lettered (byte_array s) = (_, _, refl)
leaf_lettered void = (_, _, refl)

lettered : (v : Data) → Lettered v
unfolding value_bytes items_bytes pairs_bytes
lettered (leaf x) = let h = leaf_lettered x in record { letter = h.0; more = h.1; is = h.2 }
lettered (array is) = record { letter = 65; more = counted (items_bytes is); is = refl }
lettered (table ps) = record { letter = 70; more = counted (pairs_bytes ps); is = refl }

value_is_some : (v : Data) (rest : List ℕ) → value_bytes v ++ rest ≡ [] → ⊥
value_is_some v rest e = let h = lettered v in let f : h.letter ∷ (h.more ++ rest) ≡ [] = sym (ap (λ (t : List ℕ). t ++ rest) h.is) ∙ e in cc

value_is_long : (v : Data) → 1 ≤ length (value_bytes v)
value_is_long v = let h = lettered v in let f : length (value_bytes v) ≡ suc (length h.more) = ap length h.is in omega arith

abbrev Back : ℕ → Type 0
Back l = (v : Data) (rest : List ℕ) → ValueFits l v → value_at l (value_bytes v ++ rest) ≡ Some (v, rest)

module _ (l : ℕ) (back : Back l) where
  items_run : (is : Items) (found : List Data) (n : ℕ) → ItemsFit l is → length (items_bytes is) ≤ n → items_in (value_at l) n found (items_bytes is) ≡ Some (found ++ items_list is)
  unfolding value_bytes items_bytes pairs_bytes ValueFits ItemsFit PairsFit
  items_run no_items found n fit le = ap Some (sym (append-nil found))
  items_run (item d is) found zero fit le = absurd (omega (arith, length-append (value_bytes d) (items_bytes is), value_is_long d))
  items_run (item d is) found (suc n) fit le =
      let m : length (items_bytes is) ≤ n = omega (arith, length-append (value_bytes d) (items_bytes is), value_is_long d) in
      item_step (value_at l) n found (value_bytes d ++ items_bytes is) (value_is_some d (items_bytes is))
      ∙ then_on (value_at l (value_bytes d ++ items_bytes is)) (d, items_bytes is) (λ x. items_in (value_at l) n (found ++ x.0 ∷ []) x.1) _ (back d (items_bytes is) fit.0) (items_run is (found ++ d ∷ []) n fit.1 m)
      ∙ ap Some (append_assoc found (d ∷ []) (items_list is))

  pairs_run : (ps : Pairs) (found : List (List ℕ × Data)) (n : ℕ) → PairsFit l ps → is_sorted key_cmp (found ++ pairs_list ps) ≡ true → length (pairs_bytes ps) ≤ n → pairs_in (value_at l) n found (pairs_bytes ps) ≡ Some (found ++ pairs_list ps)
  unfolding value_bytes items_bytes pairs_bytes ValueFits ItemsFit PairsFit
  pairs_run no_pairs found n fit rising le = ap Some (sym (append-nil found))
  pairs_run (pair k d ps) found zero fit rising le = absurd (omega arith)
  pairs_run (pair k d ps) found (suc n) fit rising le =
      let m : length (pairs_bytes ps) ≤ n = omega (arith, length-append (k ++ value_bytes d) (pairs_bytes ps)) in
      let more = append_assoc found ((k, d) ∷ []) (pairs_list ps) in
      let on : is_sorted key_cmp ((found ++ (k, d) ∷ []) ++ pairs_list ps) ≡ true = subst (λ (e : List (List ℕ × Data)). is_sorted key_cmp e ≡ true) (sym more) rising in
      let last = put_last k d found (rising_front (found ++ (k, d) ∷ []) (pairs_list ps) on) in
      pair_step (value_at l) n found ((text k ++ value_bytes d) ++ pairs_bytes ps) (λ e. cc)
      ∙ ap (λ (t : List ℕ). text_at (length k ∷ t) >>= λ key. value_at l key.1 >>= λ x. pairs_in (value_at l) n (put key.0 x.0 found) x.1) (append_assoc k (value_bytes d) (pairs_bytes ps))
      ∙ then_on (text_at (text k ++ (value_bytes d ++ pairs_bytes ps))) (k, value_bytes d ++ pairs_bytes ps) (λ key. value_at l key.1 >>= λ x. pairs_in (value_at l) n (put key.0 x.0 found) x.1) _ (text_back k (value_bytes d ++ pairs_bytes ps) fit.0)
      (then_on (value_at l (value_bytes d ++ pairs_bytes ps)) (d, pairs_bytes ps) (λ x. pairs_in (value_at l) n (put k x.0 found) x.1) _ (back d (pairs_bytes ps) fit.1)
      (ap (λ (f : List (List ℕ × Data)). pairs_in (value_at l) n f (pairs_bytes ps)) last ∙ pairs_run ps (found ++ (k, d) ∷ []) n fit.2 on m))
      ∙ ap Some more

  array_again : (is : Items) → ItemsFit l is → array_in (suc l) (items_bytes is) ≡ Some (items_list is)
  unfolding array_in
  array_again is fit = items_run is [] (length (items_bytes is)) fit (omega arith)

  table_again : (ps : Pairs) → PairsFit l ps → is_sorted key_cmp (pairs_list ps) ≡ true → table_in (suc l) (pairs_bytes ps) ≡ Some (pairs_list ps)
  unfolding table_in
  table_again ps fit rising = pairs_run ps [] (length (pairs_bytes ps)) fit rising (omega arith)

  array_back : (is : Items) (rest : List ℕ) → ItemsFit l is → StringFits (items_bytes is) → value_at (suc l) (value_bytes (array is) ++ rest) ≡ Some (array is, rest)
  unfolding value_bytes items_bytes pairs_bytes
  array_back is rest fit lt =
      then_on (counted_at (counted (items_bytes is) ++ rest)) (items_bytes is, rest) (λ s. Some (one_of (λ ds. array (items_of ds)) 65 s.0 (array_in (suc l) s.0), s.1)) _ (counted_back (items_bytes is) rest lt)
      (ap (λ (o : Option (List Data)). Some (one_of (λ ds. array (items_of ds)) 65 (items_bytes is) o, rest)) (array_again is fit) ∙ ap (λ (js : Items). Some (array js, rest)) (items_back is))

  table_value_back : (ps : Pairs) (rest : List ℕ) → PairsFit l ps → is_sorted key_cmp (pairs_list ps) ≡ true → StringFits (pairs_bytes ps) → value_at (suc l) (value_bytes (table ps) ++ rest) ≡ Some (table ps, rest)
  unfolding value_bytes items_bytes pairs_bytes
  table_value_back ps rest fit rising lt =
      then_on (counted_at (counted (pairs_bytes ps) ++ rest)) (pairs_bytes ps, rest) (λ s. Some (one_of (λ qs. table (pairs_of qs)) 70 s.0 (table_in (suc l) s.0), s.1)) _ (counted_back (pairs_bytes ps) rest lt)
      (ap (λ (o : Option (List (List ℕ × Data))). Some (one_of (λ qs. table (pairs_of qs)) 70 (pairs_bytes ps) o, rest)) (table_again ps fit rising) ∙ ap (λ (qs : Pairs). Some (table qs, rest)) (pairs_back ps))

pub value_back : (l : ℕ) → Back l
unfolding value_bytes items_bytes pairs_bytes ValueFits ItemsFit PairsFit
value_back l (leaf x) rest fit = leaf_back l x rest (leaf_room l x fit)
  where
    leaf_room : (l : ℕ) (x : Leaf) → ValueFits l (leaf x) → LeafFits x
    leaf_room zero x h = h
    leaf_room (suc l) x h = h
value_back zero (array is) rest fit = absurd fit
value_back zero (table ps) rest fit = absurd fit
value_back (suc l) (array is) rest fit = array_back l (value_back l) is rest fit.0 fit.1
value_back (suc l) (table ps) rest fit = table_value_back l (value_back l) ps rest fit.0 fit.1 fit.2

-- a table that stands by itself
pub table_inside : (ps : List (List ℕ × Data)) → TableFits ps → table_in 8 (pairs_bytes (pairs_of ps)) ≡ Some ps
unfolding ValueFits ItemsFit PairsFit
table_inside ps fit = table_again 7 (value_back 7) (pairs_of ps) fit.0 fit.1 ∙ ap Some (pairs_list-pairs_of ps)

pub table_long : (ps : List (List ℕ × Data)) → TableFits ps → StringFits (pairs_bytes (pairs_of ps))
unfolding ValueFits ItemsFit PairsFit
table_long ps fit = fit.2

pub table_string_back : (ps : List (List ℕ × Data)) (rest : List ℕ) → TableFits ps → counted_at (table_bytes ps ++ rest) ≡ Some (pairs_bytes (pairs_of ps), rest)
table_string_back ps rest fit = counted_back (pairs_bytes (pairs_of ps)) rest (table_long ps fit)

pub table_back : (ps : List (List ℕ × Data)) (rest : List ℕ) → TableFits ps → table_at (table_bytes ps ++ rest) ≡ Some (ps, rest)
table_back ps rest fit =
    then_on (counted_at (table_bytes ps ++ rest)) (pairs_bytes (pairs_of ps), rest) (λ s. table_in 8 s.0 >>= λ qs. Some (qs, s.1)) _ (table_string_back ps rest fit)
    (ap (λ (o : Option (List (List ℕ × Data))). o >>= λ qs. Some (qs, rest)) (table_inside ps fit))
