-- No token of a field has a space or a byte below it.
use Rattle.std.proofs.Common.{◌≡◌, ℕ, zero, suc, ◌^◌, List, [], ◌∷◌, ◌++◌, Option, Some, None, refl, arith, true, ltb, inl, inr}
use Rattle.std.specs.Prelude.{◌&&◌}
use Rattle.std.specs.List.{join_with_byte}
use Rattle.std.specs.FinMap.Entries.{is_sorted}
use Rattle.std.proofs.lemmas.Bool.{ltb-true, lt-ltb, and_parts, and_from, or_cases}
use Rattle.lapin_values.specs.Data.{Leaf, boolean, short_short_int, short_short_uint, short_int, short_uint, long_int, long_uint, long_long_int, timestamp, long_string, byte_array, void, Data, leaf, array, table, Items, no_items, item, Pairs, no_pairs, pair, pairs_of}
use Rattle.lapin_values.specs.Properties.{Properties}
use Rattle.lapin_values.specs.Table.{key_cmp}
use Rattle.lapin_values.specs.ValueOf.{pairs_list}
use Rattle.lapin_scalars.specs.Scalars.{Scalar, ScalarValue, scalar_text, scalar_fits, is_plain, all_plain}
use Rattle.lapin_scalars.specs.Scalars.Scalar.{text as a_text, bytes as some_bytes, pairs as some_pairs, flag as a_flag, number as a_number, signed as a_signed}
use Rattle.lapin_scalars.proofs.PlainLaws.{plain_scalar}
use Rattle.lapin_tokens.specs.declared.names.Property.{Property}
use Rattle.lapin_tokens.specs.declared.names.Property.TheVariants as property
use Rattle.lapin_tokens.specs.declared.names.TheConstants.{PROPERTIES}
use Rattle.lapin_tokens.specs.Values.{bracketed, leaf_text, leaf_fits, value_text, item_texts, pair_texts, value_fits, items_fit, pairs_fit}
use Rattle.lapin_tokens.specs.Properties.{Kind, KindValue, short, headers, octet, moment, kind_text, kind_fits, name, kind, given, with_part, part_texts, part_fits, parts_fit}
use Rattle.lapin_tokens.specs.Fields.{Field, Value, Values, token, tokens, fits, AllFit}
use Rattle.lapin_tokens.specs.Fields.Field.{text, bytes, table, props, flag, number}
use Rattle.lapin_tokens.proofs.Plain.{no_space, AllPlain, no_space_append}

plain_above : (b : ℕ) → is_plain b ≡ true → ltb 32 b ≡ true
plain_above b e = elim (or_cases (ltb 44 b && ltb b 61) (ltb 96 b && ltb b 123) e) [
  | inl low ↦ let lo = ltb-true _ _ (and_parts (ltb 44 b) (ltb b 61) low).0 in lt-ltb _ _ (omega (arith, lo))
  | inr high ↦ let lo = ltb-true _ _ (and_parts (ltb 96 b) (ltb b 123) high).0 in lt-ltb _ _ (omega (arith, lo))
]

plain_no_space : (bs : List ℕ) → all_plain bs ≡ true → no_space bs ≡ true
plain_no_space [] e = refl
plain_no_space (b ∷ bs) e = let p = and_parts (is_plain b) (all_plain bs) e in and_from (ltb 32 b) (no_space bs) (plain_above b p.0) (plain_no_space bs p.1)

scalar_no_space : (k : Scalar) (v : ScalarValue k) → scalar_fits k v ≡ true → no_space (scalar_text k v) ≡ true
scalar_no_space k v fit = plain_no_space (scalar_text k v) (plain_scalar k v fit)

behind : (b : ℕ) (bs : List ℕ) → ltb 32 b ≡ true → no_space bs ≡ true → no_space (b ∷ bs) ≡ true
behind b bs e f = and_from (ltb 32 b) (no_space bs) e f

join_no_space : (ts : List (List ℕ)) → AllPlain ts → no_space (join_with_byte 44 ts) ≡ true
join_no_space [] h = refl
join_no_space (t ∷ []) h = h.0
join_no_space (t ∷ u ∷ ts) h = no_space_append t (44 ∷ join_with_byte 44 (u ∷ ts)) h.0 (behind 44 (join_with_byte 44 (u ∷ ts)) refl (join_no_space (u ∷ ts) h.1))

bracketed_no_space : (opening closing : ℕ) (ts : List (List ℕ)) → ltb 32 opening ≡ true → ltb 32 closing ≡ true → AllPlain ts → no_space (bracketed opening closing ts) ≡ true
bracketed_no_space opening closing ts a b h = behind opening (join_with_byte 44 ts ++ closing ∷ []) a (no_space_append (join_with_byte 44 ts) (closing ∷ []) (join_no_space ts h) (behind closing [] b refl))

lettered : (b : ℕ) (k : Scalar) (v : ScalarValue k) → ltb 32 b ≡ true → scalar_fits k v ≡ true → no_space (b ∷ scalar_text k v) ≡ true
lettered b k v e fit = behind b (scalar_text k v) e (scalar_no_space k v fit)

leaf_no_space : (l : Leaf) → leaf_fits l ≡ true → no_space (leaf_text l) ≡ true
leaf_no_space (boolean x) e = lettered 116 a_flag x refl refl
leaf_no_space (short_short_int x) e = lettered 98 (a_signed (2 ^ 7)) x refl e
leaf_no_space (short_short_uint x) e = lettered 66 (a_number (2 ^ 8)) x refl e
leaf_no_space (short_int x) e = lettered 115 (a_signed (2 ^ 15)) x refl e
leaf_no_space (short_uint x) e = lettered 117 (a_number (2 ^ 16)) x refl e
leaf_no_space (long_int x) e = lettered 73 (a_signed (2 ^ 31)) x refl e
leaf_no_space (long_uint x) e = lettered 105 (a_number (2 ^ 32)) x refl e
leaf_no_space (long_long_int x) e = lettered 108 (a_signed (2 ^ 63)) x refl e
leaf_no_space (timestamp x) e = lettered 84 (a_number (2 ^ 64)) x refl e
leaf_no_space (long_string x) e = lettered 83 some_pairs x refl e
leaf_no_space (byte_array x) e = lettered 121 some_pairs x refl e
leaf_no_space void e = refl

mutual
  unfolding value_text item_texts pair_texts value_fits items_fit pairs_fit

  value_no_space : (l : ℕ) (v : Data) → value_fits l v ≡ true → no_space (value_text v) ≡ true
  value_no_space zero (leaf x) e = leaf_no_space x e
  value_no_space (suc l) (leaf x) e = leaf_no_space x e
  value_no_space zero (array is) e = absurd cc
  value_no_space (suc l) (array is) e = behind 65 (bracketed 91 93 (item_texts is)) refl (bracketed_no_space 91 93 (item_texts is) refl refl (items_plain l is e))
  value_no_space zero (table ps) e = absurd cc
  value_no_space (suc l) (table ps) e = behind 70 (bracketed 123 125 (pair_texts ps)) refl (bracketed_no_space 123 125 (pair_texts ps) refl refl (pairs_plain l ps (and_parts (pairs_fit l ps) (is_sorted key_cmp (pairs_list ps)) e).0))

  items_plain : (l : ℕ) (is : Items) → items_fit l is ≡ true → AllPlain (item_texts is)
  items_plain l no_items e = tt
  items_plain l (item v is) e = let p = and_parts (value_fits l v) (items_fit l is) e in (value_no_space l v p.0, items_plain l is p.1)

  pairs_plain : (l : ℕ) (ps : Pairs) → pairs_fit l ps ≡ true → AllPlain (pair_texts ps)
  pairs_plain l no_pairs e = tt
  pairs_plain l (pair k v ps) e =
      let p = and_parts (scalar_fits a_text k && value_fits l v) (pairs_fit l ps) e in
      let q = and_parts (scalar_fits a_text k) (value_fits l v) p.0 in
      (no_space_append (scalar_text a_text k) (61 ∷ value_text v) (scalar_no_space a_text k q.0) (behind 61 (value_text v) refl (value_no_space l v q.1)), pairs_plain l ps p.1)

table_no_space : (ps : List (List ℕ × Data)) → value_fits 8 (table (pairs_of ps)) ≡ true → no_space (bracketed 123 125 (pair_texts (pairs_of ps))) ≡ true
unfolding value_text item_texts pair_texts value_fits items_fit pairs_fit
table_no_space ps e = bracketed_no_space 123 125 (pair_texts (pairs_of ps)) refl refl (pairs_plain 7 (pairs_of ps) (and_parts (pairs_fit 7 (pairs_of ps)) (is_sorted key_cmp (pairs_list (pairs_of ps))) e).0)

-- ---- properties

kind_no_space : (k : Kind) (x : KindValue k) → kind_fits k x ≡ true → no_space (kind_text k x) ≡ true
kind_no_space short x e = scalar_no_space a_text x e
kind_no_space headers x e = table_no_space x e
kind_no_space octet x e = scalar_no_space (a_number (2 ^ 8)) x e
kind_no_space moment x e = scalar_no_space (a_number (2 ^ 64)) x e

name_no_space : (p : Property) → no_space (name p) ≡ true
name_no_space property.ContentType = refl
name_no_space property.ContentEncoding = refl
name_no_space property.Headers = refl
name_no_space property.DeliveryMode = refl
name_no_space property.Priority = refl
name_no_space property.CorrelationId = refl
name_no_space property.ReplyTo = refl
name_no_space property.Expiration = refl
name_no_space property.MessageId = refl
name_no_space property.Timestamp = refl
name_no_space property.Kind = refl
name_no_space property.UserId = refl
name_no_space property.AppId = refl
name_no_space property.ClusterId = refl

part_plain : (p : Property) (x : Option (KindValue (kind p))) (ts : List (List ℕ)) → part_fits p x ≡ true → AllPlain ts → AllPlain (with_part p x ts)
part_plain p None ts e h = h
part_plain p (Some x) ts e h = (no_space_append (name p) (61 ∷ kind_text (kind p) x) (name_no_space p) (behind 61 (kind_text (kind p) x) refl (kind_no_space (kind p) x e)), h)

parts_plain : (ps : List Property) (v : Properties) → parts_fit ps v ≡ true → AllPlain (part_texts ps v)
parts_plain [] v e = tt
parts_plain (p ∷ ps) v e = let b = and_parts (part_fits p (given p v)) (parts_fit ps v) e in part_plain p (given p v) (part_texts ps v) b.0 (parts_plain ps v b.1)

-- ---- fields

pub plain_token : (f : Field) (v : Value f) → fits f v ≡ true → no_space (token f v) ≡ true
plain_token text v e = scalar_no_space a_text v e
plain_token bytes v e = scalar_no_space some_bytes v e
plain_token table v e = table_no_space v e
plain_token props v e = bracketed_no_space 91 93 (part_texts PROPERTIES v) refl refl (parts_plain PROPERTIES v e)
plain_token flag v e = scalar_no_space a_flag v refl
plain_token (number limit) v e = scalar_no_space (a_number limit) v e

pub plain_tokens : (fs : List Field) (vs : Values fs) → AllFit fs vs → AllPlain (tokens fs vs)
plain_tokens [] vs h = tt
plain_tokens (f ∷ fs) vs h = (plain_token f vs.0 h.0, plain_tokens fs vs.1 h.1)
