-- How the logic stores a tree of data: as nested pairs of numbers, from which the tree can be read back.
-- No rule of the protocol stands here.
use Rattle.std.specs.Prelude.{ℕ, ℤ, Bool, List, ◌⊎◌, ◌≡◌, ◌≢◌, refl}
use Rattle.std.proofs.Common.{inl, inr, ap, sym, arith}
use Rattle.std.specs.Coded.{Coded, code_by, coded×, coded⊎, coded_ℕ, coded_ℤ, coded_bool, coded_list}
use base.Stored.{Gv, gnil, gnum, gcons, coded_unit}
use Rattle.lapin_values.specs.Data.{Leaf, boolean, short_short_int, short_short_uint, short_int, short_uint, long_int, long_uint, long_long_int, timestamp, long_string, byte_array, void, Data, leaf, array, table, Items, no_items, item, Pairs, no_pairs, pair}

-- how a list of bytes is stored
abbrev pub bytes_code : Coded (List ℕ)
bytes_code = coded_list coded_ℕ

-- one summand a kind of leaf, in the order of the kinds
abbrev pub Sum : Type 0
Sum = Bool ⊎ (ℤ ⊎ (ℕ ⊎ (ℤ ⊎ (ℕ ⊎ (ℤ ⊎ (ℕ ⊎ (ℤ ⊎ (ℕ ⊎ (List ℕ ⊎ (List ℕ ⊎ (Unit {0})))))))))))

-- a leaf as its summand
abbrev pub to_sum : Leaf → Sum
to_sum (boolean x) = inl x
to_sum (short_short_int x) = inr (inl x)
to_sum (short_short_uint x) = inr (inr (inl x))
to_sum (short_int x) = inr (inr (inr (inl x)))
to_sum (short_uint x) = inr (inr (inr (inr (inl x))))
to_sum (long_int x) = inr (inr (inr (inr (inr (inl x)))))
to_sum (long_uint x) = inr (inr (inr (inr (inr (inr (inl x))))))
to_sum (long_long_int x) = inr (inr (inr (inr (inr (inr (inr (inl x)))))))
to_sum (timestamp x) = inr (inr (inr (inr (inr (inr (inr (inr (inl x))))))))
to_sum (long_string x) = inr (inr (inr (inr (inr (inr (inr (inr (inr (inl x)))))))))
to_sum (byte_array x) = inr (inr (inr (inr (inr (inr (inr (inr (inr (inr (inl x))))))))))
to_sum void = inr (inr (inr (inr (inr (inr (inr (inr (inr (inr (inr tt))))))))))

-- the leaf of a summand
abbrev pub from_sum : Sum → Leaf
from_sum (inl x) = boolean x
from_sum (inr (inl x)) = short_short_int x
from_sum (inr (inr (inl x))) = short_short_uint x
from_sum (inr (inr (inr (inl x)))) = short_int x
from_sum (inr (inr (inr (inr (inl x))))) = short_uint x
from_sum (inr (inr (inr (inr (inr (inl x)))))) = long_int x
from_sum (inr (inr (inr (inr (inr (inr (inl x))))))) = long_uint x
from_sum (inr (inr (inr (inr (inr (inr (inr (inl x)))))))) = long_long_int x
from_sum (inr (inr (inr (inr (inr (inr (inr (inr (inl x))))))))) = timestamp x
from_sum (inr (inr (inr (inr (inr (inr (inr (inr (inr (inl x)))))))))) = long_string x
from_sum (inr (inr (inr (inr (inr (inr (inr (inr (inr (inr (inl x))))))))))) = byte_array x
from_sum (inr (inr (inr (inr (inr (inr (inr (inr (inr (inr (inr _))))))))))) = void

-- a leaf is the leaf of its summand
pub from_sum-to_sum : (l : Leaf) → from_sum (to_sum l) ≡ l
from_sum-to_sum (boolean x) = refl
from_sum-to_sum (short_short_int x) = refl
from_sum-to_sum (short_short_uint x) = refl
from_sum-to_sum (short_int x) = refl
from_sum-to_sum (short_uint x) = refl
from_sum-to_sum (long_int x) = refl
from_sum-to_sum (long_uint x) = refl
from_sum-to_sum (long_long_int x) = refl
from_sum-to_sum (timestamp x) = refl
from_sum-to_sum (long_string x) = refl
from_sum-to_sum (byte_array x) = refl
from_sum-to_sum void = refl

-- how a leaf is stored
abbrev pub leaf_code : Coded Leaf
leaf_code = code_by Sum (coded⊎ coded_bool (coded⊎ coded_ℤ (coded⊎ coded_ℕ (coded⊎ coded_ℤ (coded⊎ coded_ℕ (coded⊎ coded_ℤ (coded⊎ coded_ℕ (coded⊎ coded_ℤ (coded⊎ coded_ℕ (coded⊎ bytes_code (coded⊎ bytes_code (coded_unit)))))))))))) to_sum from_sum from_sum-to_sum

-- the first part of a stored pair; nothing of what is no pair
abbrev head : Gv → Gv
head gnil = gnil
head (gnum n) = gnil
head (gcons a b) = a

-- the second part of a stored pair; nothing of what is no pair
abbrev tail : Gv → Gv
tail gnil = gnil
tail (gnum n) = gnil
tail (gcons a b) = b

-- stored pairs that begin with different numbers are not the same
pub apart : (m n : ℕ) {a b : Gv} → gcons (gnum m) a ≡ gcons (gnum n) b → m ≢ n → ⊥
apart m n p other = other (cc)

-- a stored pair is not the same as nothing
pub nil_cons : {a b : Gv} → gnil ≡ gcons a b → ⊥
nil_cons p = cc

-- a tree as pairs: its kind, then what it holds
abbrev mutual
  pub data_to_gv : Data → Gv
  data_to_gv (leaf l) = gcons (gnum 0) (leaf_code.code l)
  data_to_gv (array ds) = gcons (gnum 1) (items_to_gv ds)
  data_to_gv (table ps) = gcons (gnum 2) (pairs_to_gv ps)

  pub items_to_gv : Items → Gv
  items_to_gv no_items = gnil
  items_to_gv (item d ds) = gcons (data_to_gv d) (items_to_gv ds)

  pub pairs_to_gv : Pairs → Gv
  pairs_to_gv no_pairs = gnil
  pairs_to_gv (pair k d ps) = gcons (bytes_code.code k) (gcons (data_to_gv d) (pairs_to_gv ps))

-- trees that are stored alike are the same
mutual
  pub data_inj : (x y : Data) → data_to_gv x ≡ data_to_gv y → x ≡ y
  data_inj (leaf a) (leaf b) p = ap leaf (leaf_code.inj a b (ap tail p))
  data_inj (leaf a) (array b) p = absurd (apart 0 1 p (omega arith))
  data_inj (leaf a) (table b) p = absurd (apart 0 2 p (omega arith))
  data_inj (array a) (leaf b) p = absurd (apart 1 0 p (omega arith))
  data_inj (array a) (array b) p = ap array (items_inj a b (ap tail p))
  data_inj (array a) (table b) p = absurd (apart 1 2 p (omega arith))
  data_inj (table a) (leaf b) p = absurd (apart 2 0 p (omega arith))
  data_inj (table a) (array b) p = absurd (apart 2 1 p (omega arith))
  data_inj (table a) (table b) p = ap table (pairs_inj a b (ap tail p))

  pub items_inj : (x y : Items) → items_to_gv x ≡ items_to_gv y → x ≡ y
  items_inj no_items no_items p = refl
  items_inj no_items (item d ds) p = absurd (nil_cons p)
  items_inj (item d ds) no_items p = absurd (nil_cons (sym p))
  items_inj (item d ds) (item e es) p = λ i. item (data_inj d e (ap head p) i) (items_inj ds es (ap tail p) i)

  pub pairs_inj : (x y : Pairs) → pairs_to_gv x ≡ pairs_to_gv y → x ≡ y
  pairs_inj no_pairs no_pairs p = refl
  pairs_inj no_pairs (pair l e es) p = absurd (nil_cons p)
  pairs_inj (pair k d ds) no_pairs p = absurd (nil_cons (sym p))
  pairs_inj (pair k d ds) (pair l e es) p = λ i. pair (bytes_code.inj k l (ap head p) i) (data_inj d e (ap (λ g. head (tail g)) p) i) (pairs_inj ds es (ap (λ g. tail (tail g)) p) i)

-- how a value, an array and a table are stored
abbrev pub data_code : Coded Data
data_code = record { code = data_to_gv; inj = data_inj }

-- an array as the list of its values, each as it is stored
abbrev pub array_code : Coded (List Data)
array_code = coded_list data_code

-- a table as the list of its pairs, each a key's bytes and a value as they are stored
abbrev pub table_code : Coded (List (List ℕ × Data))
table_code = coded_list (coded× bytes_code data_code)
