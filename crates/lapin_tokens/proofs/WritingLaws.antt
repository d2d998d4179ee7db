-- What is written member by member is the text of the whole.
use Rattle.std.proofs.Common.{◌≡◌, ℕ, zero, suc, ◌+◌, ◌≤◌, ◌<◌, List, [], ◌∷◌, ◌++◌, map, length, take, Option, Some, None, refl, sym, ap, ◌∙◌, arith, Bool, true, false, append_assoc}
use Rattle.std.specs.Prelude.{slice_get}
use Rattle.std.specs.List.{join_with_byte}
use Rattle.std.proofs.Common.{drop, get_or, add-one, drop-cons}
use Rattle.std.proofs.lemmas.Bool.{ne_eqb, and_parts}
use Rattle.std.proofs.lemmas.List.{append-nil, take_all}
use Rattle.lapin_values.specs.Data.{Leaf, boolean, short_short_int, short_short_uint, short_int, short_uint, long_int, long_uint, long_long_int, timestamp, long_string, byte_array, void, Data, leaf, array, table, items_of, pairs_of}
use Rattle.lapin_values.specs.Properties.{Properties}
use Rattle.lapin_values.specs.DataOf.{data_of}
use Rattle.lapin_values.specs.declared.value.AMQPValue.{AMQPValue}
use Rattle.lapin_values.specs.declared.value.AMQPValue.TheVariants as V
use Rattle.lapin_tokens.specs.declared.names.Property.{Property}
use Rattle.lapin_tokens.specs.declared.names.TheConstants.{PROPERTIES}
use Rattle.lapin_tokens.specs.Values.{bracketed, leaf_text, value_text, item_texts, pair_texts, array_text, table_text}
use Rattle.lapin_tokens.specs.Properties.{KindValue, kind, given, part_text, with_part, part_texts, properties_text}
use Rattle.lapin_tokens.specs.Writing.{leaf_part, comma, member_text, members_text, pair_text, marked, stays, parts_text, is_missing, all_missing}
use Rattle.lapin_tokens.proofs.PropertyLaws.{commas, opened, bracketed_is}

-- ---- members

comma_behind : (n : ℕ) → comma (suc n) ≡ 44 ∷ []
comma_behind n = rw (ne_eqb (suc n) 0 (λ z. omega (arith, z))) refl

join_more : (ts : List (List ℕ)) (t : List ℕ) → join_with_byte 44 (ts ++ t ∷ []) ≡ join_with_byte 44 ts ++ (comma (length ts) ++ t)
join_more [] t = refl
join_more (u ∷ []) t = refl
join_more (u ∷ v ∷ us) t =
    ap (λ (r : List ℕ). u ++ 44 ∷ r) (join_more (v ∷ us) t ∙ ap (λ (c : List ℕ). join_with_byte 44 (v ∷ us) ++ (c ++ t)) (comma_behind (length us)))
    ∙ sym (append_assoc u (44 ∷ join_with_byte 44 (v ∷ us)) (44 ∷ t))
    ∙ ap (λ (c : List ℕ). (u ++ 44 ∷ join_with_byte 44 (v ∷ us)) ++ (c ++ t)) (sym (comma_behind (suc (length us))))

module _ {A : Type 0} (text : A → List ℕ) where
  pick : (xs : List A) (n : ℕ) → n < length xs → (x : A) × (slice_get xs n ≡ Some x) × (take (suc n) xs ≡ take n xs ++ x ∷ [])
  pick [] n lt = absurd (omega arith)
  pick (x ∷ xs) zero lt = (x, refl, refl)
  pick (x ∷ xs) (suc n) lt = let p = pick xs n (omega arith) in (p.0, p.1, ap (λ (ys : List A). x ∷ ys) p.2)

  map_more : (xs : List A) (x : A) → map text (xs ++ x ∷ []) ≡ map text xs ++ text x ∷ []
  map_more [] x = refl
  map_more (y ∷ ys) x = ap (λ (ts : List (List ℕ)). text y ∷ ts) (map_more ys x)

  length_taken : (xs : List A) (n : ℕ) → n ≤ length xs → length (map text (take n xs)) ≡ n
  length_taken [] zero le = refl
  length_taken [] (suc n) le = absurd (omega arith)
  length_taken (x ∷ xs) zero le = refl
  length_taken (x ∷ xs) (suc n) le = ap suc (length_taken xs n (omega arith))

  members_joined : (xs : List A) (n : ℕ) → n ≤ length xs → members_text text xs n ≡ join_with_byte 44 (map text (take n xs))
  members_joined xs zero le = refl
  members_joined xs (suc n) le =
      let p = pick xs n (omega arith) in
      ap (λ (m : List ℕ). m ++ member_text text n (slice_get xs n)) (members_joined xs n (omega arith))
      ∙ ap (λ (o : Option A). join_with_byte 44 (map text (take n xs)) ++ member_text text n o) p.1
      ∙ ap (λ (k : ℕ). join_with_byte 44 (map text (take n xs)) ++ (comma k ++ text p.0)) (sym (length_taken xs n (omega arith)))
      ∙ sym (join_more (map text (take n xs)) (text p.0))
      ∙ ap (join_with_byte 44) (sym (map_more (take n xs) p.0) ∙ ap (map text) (sym p.2))

  pub all_members : (xs : List A) → members_text text xs (length xs) ≡ join_with_byte 44 (map text xs)
  all_members xs = members_joined xs (length xs) (omega arith) ∙ ap (λ (ys : List A). join_with_byte 44 (map text ys)) (take_all (length xs) xs (omega arith))

items_mapped : (ds : List Data) → item_texts (items_of ds) ≡ map value_text ds
unfolding value_text item_texts pair_texts
items_mapped [] = refl
items_mapped (d ∷ ds) = ap (λ (ts : List (List ℕ)). value_text d ∷ ts) (items_mapped ds)

pairs_mapped : (ps : List (List ℕ × Data)) → pair_texts (pairs_of ps) ≡ map pair_text ps
unfolding value_text item_texts pair_texts
pairs_mapped [] = refl
pairs_mapped (p ∷ ps) = ap (λ (ts : List (List ℕ)). pair_text p ∷ ts) (pairs_mapped ps)

around : (old inner : List ℕ) (opening closing : ℕ) → ((old ++ opening ∷ []) ++ inner) ++ closing ∷ [] ≡ old ++ opening ∷ (inner ++ closing ∷ [])
around old inner opening closing = append_assoc (old ++ opening ∷ []) inner (closing ∷ []) ∙ append_assoc old (opening ∷ []) (inner ++ closing ∷ [])

pub array_written : (old : List ℕ) (ds : List Data) → ((old ++ 91 ∷ []) ++ members_text value_text ds (length ds)) ++ 93 ∷ [] ≡ old ++ array_text ds
array_written old ds =
    around old (members_text value_text ds (length ds)) 91 93
    ∙ ap (λ (m : List ℕ). old ++ 91 ∷ (m ++ 93 ∷ [])) (all_members value_text ds ∙ ap (join_with_byte 44) (sym (items_mapped ds)))

pub table_written : (old : List ℕ) (ps : List (List ℕ × Data)) → ((old ++ 123 ∷ []) ++ members_text pair_text ps (length ps)) ++ 125 ∷ [] ≡ old ++ table_text ps
table_written old ps =
    around old (members_text pair_text ps (length ps)) 123 125
    ∙ ap (λ (m : List ℕ). old ++ 123 ∷ (m ++ 125 ∷ [])) (all_members pair_text ps ∙ ap (join_with_byte 44) (sym (pairs_mapped ps)))

pub member_more : {A : Type 0} (text : A → List ℕ) (out new front : List ℕ) (xs : List A) (n : ℕ) → out ≡ front ++ members_text text xs n → new ≡ out ++ member_text text n (slice_get xs n) → new ≡ front ++ members_text text xs (n + 1)
member_more text out new front xs n e f =
    rw add-one (f ∙ ap (λ (o : List ℕ). o ++ member_text text n (slice_get xs n)) e ∙ append_assoc front (members_text text xs n) (member_text text n (slice_get xs n)))

-- the text of a value with its letter

pub array_lettered : (ds : List Data) → value_text (array (items_of ds)) ≡ 65 ∷ array_text ds
unfolding value_text item_texts pair_texts
array_lettered ds = refl

pub table_lettered : (ps : List (List ℕ × Data)) → value_text (table (pairs_of ps)) ≡ 70 ∷ table_text ps
unfolding value_text item_texts pair_texts
table_lettered ps = refl

pub leaf_lettered : (l : Leaf) → value_text (leaf l) ≡ leaf_text l
unfolding value_text item_texts pair_texts
leaf_lettered l = refl

pub array_behind : (old : List ℕ) (ds : List Data) → (old ++ 65 ∷ []) ++ array_text ds ≡ old ++ value_text (array (items_of ds))
array_behind old ds = append_assoc old (65 ∷ []) (array_text ds) ∙ ap (λ (t : List ℕ). old ++ t) (sym (array_lettered ds))

pub table_behind : (old : List ℕ) (ps : List (List ℕ × Data)) → (old ++ 70 ∷ []) ++ table_text ps ≡ old ++ value_text (table (pairs_of ps))
table_behind old ps = append_assoc old (70 ∷ []) (table_text ps) ∙ ap (λ (t : List ℕ). old ++ t) (sym (table_lettered ps))

-- a value that is neither an array nor a table
pub leaf_alone : (v : AMQPValue) → ((ds : List Data) → v ≡ V.FieldArray ds → ⊥) → ((ps : List (List ℕ × Data)) → v ≡ V.FieldTable ps → ⊥) → leaf_part (data_of v) ≡ value_text (data_of v)
leaf_alone (V.Boolean x) f g = sym (leaf_lettered (boolean x))
leaf_alone (V.ShortShortInt x) f g = sym (leaf_lettered (short_short_int x))
leaf_alone (V.ShortShortUInt x) f g = sym (leaf_lettered (short_short_uint x))
leaf_alone (V.ShortInt x) f g = sym (leaf_lettered (short_int x))
leaf_alone (V.ShortUInt x) f g = sym (leaf_lettered (short_uint x))
leaf_alone (V.LongInt x) f g = sym (leaf_lettered (long_int x))
leaf_alone (V.LongUInt x) f g = sym (leaf_lettered (long_uint x))
leaf_alone (V.LongLongInt x) f g = sym (leaf_lettered (long_long_int x))
leaf_alone (V.Timestamp x) f g = sym (leaf_lettered (timestamp x))
leaf_alone (V.LongString x) f g = sym (leaf_lettered (long_string x))
leaf_alone (V.ByteArray x) f g = sym (leaf_lettered (byte_array x))
leaf_alone (V.FieldArray ds) f g = absurd (f ds refl)
leaf_alone (V.FieldTable ps) f g = absurd (g ps refl)
leaf_alone V.Void f g = sym (leaf_lettered void)

-- ---- properties

led : (p : Property) (x : Option (KindValue (kind p))) (ts : List (List ℕ)) (more : List ℕ) → more ≡ commas ts [] → marked p x false ++ more ≡ commas (with_part p x ts) []
led p None ts more e = e
led p (Some y) ts more e = ap (λ (r : List ℕ). 44 ∷ (part_text p y ++ r)) e

opening : (p : Property) (x : Option (KindValue (kind p))) (ts : List (List ℕ)) (more : Bool → List ℕ) → more true ≡ opened ts [] → more false ≡ commas ts [] → marked p x true ++ more (stays x true) ≡ opened (with_part p x ts) []
opening p None ts more e f = e
opening p (Some y) ts more e f = ap (λ (r : List ℕ). 91 ∷ (part_text p y ++ r)) f

still_false : {A : Type 0} (x : Option A) → stays x false ≡ false
still_false None = refl
still_false (Some y) = refl

parts_led : (ps : List Property) (v : Properties) → parts_text ps v false ≡ commas (part_texts ps v) []
parts_led [] v = refl
parts_led (p ∷ ps) v =
    ap (λ b. marked p (given p v) false ++ parts_text ps v b) (still_false (given p v))
    ∙ led p (given p v) (part_texts ps v) (parts_text ps v false) (parts_led ps v)

parts_opening : (ps : List Property) (v : Properties) → parts_text ps v true ≡ opened (part_texts ps v) []
parts_opening [] v = refl
parts_opening (p ∷ ps) v = opening p (given p v) (part_texts ps v) (λ b. parts_text ps v b) (parts_opening ps v) (parts_led ps v)

pub parts_whole : (v : Properties) → parts_text PROPERTIES v true ≡ properties_text v
parts_whole v = parts_opening PROPERTIES v ∙ sym (bracketed_is (part_texts PROPERTIES v) []) ∙ append-nil (properties_text v)

-- one turn of the loop over the properties
pub part_written : (ps : List Property) (i : ℕ) (d : Property) (v : Properties) (first still : Bool) (out new all : List ℕ) → i < length ps
    → out ++ parts_text (drop i ps) v first ≡ all → still ≡ stays (given (get_or ps i d) v) first → new ≡ out ++ marked (get_or ps i d) (given (get_or ps i d) v) first
    → new ++ parts_text (drop (i + 1) ps) v still ≡ all
part_written ps i d v first still out new all lt ahead s w =
    let p = get_or ps i d in
    rw (add-one, w, s)
    (append_assoc out (marked p (given p v) first) (parts_text (drop (suc i) ps) v (stays (given p v) first))
    ∙ ap (λ (l : List Property). out ++ parts_text l v first) (sym (drop-cons ps i d lt)) ∙ ahead)

-- where no property is given

passed_over : (p : Property) (x : Option (KindValue (kind p))) (ts : List (List ℕ)) → is_missing x ≡ true → with_part p x ts ≡ ts
passed_over p None ts e = refl
passed_over p (Some y) ts e = absurd cc

no_parts : (ps : List Property) (v : Properties) → all_missing ps v ≡ true → part_texts ps v ≡ []
no_parts [] v e = refl
no_parts (p ∷ ps) v e =
    let both = and_parts (is_missing (given p v)) (all_missing ps v) e in
    passed_over p (given p v) (part_texts ps v) both.0 ∙ no_parts ps v both.1

pub bare_text : (v : Properties) → all_missing PROPERTIES v ≡ true → properties_text v ≡ 91 ∷ 93 ∷ []
bare_text v e = ap (bracketed 91 93) (no_parts PROPERTIES v e)
