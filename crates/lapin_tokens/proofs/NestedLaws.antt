-- Arrays and tables: what was written is read, and what was read is spelled so.
use Rattle.std.proofs.Common.{◌≡◌, ℕ, zero, suc, List, [], ◌∷◌, ◌++◌, Some, None, refl, sym, ap, subst, ◌∙◌, arith, true, append_assoc}
use Rattle.std.specs.Prelude.{◌&&◌}
use Rattle.std.specs.List.{join_with_byte}
use Rattle.std.specs.FinMap.Entries.{is_sorted}
use Rattle.std.proofs.lemmas.List.{append-nil}
use Rattle.lapin_values.specs.Data.{Data, leaf, array, table, Items, no_items, item, Pairs, no_pairs, pair, items_of, pairs_of}
use Rattle.lapin_values.specs.Table.{key_cmp}
use Rattle.lapin_values.specs.ValueOf.{items_list, pairs_list, pairs_list-pairs_of}
use Rattle.lapin_scalars.specs.Scalars.{scalar_text, scalar_fits}
use Rattle.lapin_scalars.specs.Scalars.Scalar.{text as a_text}
use Rattle.lapin_scalars.specs.Reading.{scalar_of}
use Rattle.lapin_scalars.proofs.ScalarLaws.{scalar_again, scalar_found}
use Rattle.lapin_scalars.proofs.PlainLaws.{plain_scalar}
use Rattle.lapin_tokens.specs.declared.letters.Letter.{Letter}
use Rattle.lapin_tokens.specs.declared.letters.Letter.TheVariants as letter
use Rattle.lapin_tokens.specs.Letters.{letter_byte}
use Rattle.lapin_tokens.specs.Cursor.{after_mark, is_separator, word_of, after_word}
use Rattle.lapin_tokens.specs.Values.{bracketed, leaf_fits, value_text, item_texts, pair_texts, table_text, value_fits, items_fit, pairs_fit, table_fits}
use Rattle.lapin_tokens.specs.ValueReading.{leaf_of, leaf_at, next_letter, item_at, key_at, added, pair_at, by_letter, value_at, array_at, table_at}
use Rattle.lapin_tokens.proofs.Words.{word_plain, rest_plain, word_rest}
use Rattle.lapin_tokens.proofs.Rising.{rising_front}
use Rattle.lapin_tokens.proofs.Turns.{pair_read}
use Rattle.lapin_tokens.proofs.ByLetter.{by_the_letter, value_letter, array_up, table_up, array_none, table_none}
use Rattle.lapin_tokens.proofs.MemberLaws.{bind_some, some_is, mark_found, Leads, Runs, inside_again, inside_found}
use Rattle.lapin_tokens.proofs.ValueLaws.{items_back, pairs_back, next_again, next_found, letter_of, behind_letter, leaf_read, leaf_spelled, leaf_found}
use Rattle.std.proofs.lemmas.Bool.{and_parts, and_from}
use Rattle.std.proofs.lemmas.Option.{cond_some}

-- ---- texts

bracketed_on : (opening closing : ℕ) (ts : List (List ℕ)) (rest : List ℕ) → bracketed opening closing ts ++ rest ≡ opening ∷ (join_with_byte 44 ts ++ closing ∷ rest)
bracketed_on opening closing ts rest = ap (λ (t : List ℕ). opening ∷ t) (append_assoc (join_with_byte 44 ts) (closing ∷ []) rest)

leaf_on : (l : ℕ) (x : _) (rest : List ℕ) → value_text (leaf x) ++ rest ≡ letter_byte (letter_of x) ∷ (behind_letter x ++ rest)
unfolding value_text item_texts pair_texts
leaf_on l x rest = ap (λ (t : List ℕ). t ++ rest) (leaf_spelled x)

array_on : (is : Items) (rest : List ℕ) → value_text (array is) ++ rest ≡ letter_byte letter.FieldArray ∷ (bracketed 91 93 (item_texts is) ++ rest)
unfolding value_text item_texts pair_texts
array_on is rest = refl

table_on : (ps : Pairs) (rest : List ℕ) → value_text (table ps) ++ rest ≡ letter_byte letter.FieldTable ∷ (bracketed 123 125 (pair_texts ps) ++ rest)
unfolding value_text item_texts pair_texts
table_on ps rest = refl

letter_is_no_end : (l : Letter) (rest : List ℕ) → after_mark 93 (letter_byte l ∷ rest) ≡ None
letter_is_no_end letter.Boolean rest = refl
letter_is_no_end letter.ShortShortInt rest = refl
letter_is_no_end letter.ShortShortUInt rest = refl
letter_is_no_end letter.ShortInt rest = refl
letter_is_no_end letter.ShortUInt rest = refl
letter_is_no_end letter.LongInt rest = refl
letter_is_no_end letter.LongUInt rest = refl
letter_is_no_end letter.LongLongInt rest = refl
letter_is_no_end letter.Timestamp rest = refl
letter_is_no_end letter.LongString rest = refl
letter_is_no_end letter.ByteArray rest = refl
letter_is_no_end letter.FieldArray rest = refl
letter_is_no_end letter.FieldTable rest = refl
letter_is_no_end letter.Void rest = refl

value_is_no_end : (v : Data) (rest : List ℕ) → after_mark 93 (value_text v ++ rest) ≡ None
value_is_no_end (leaf x) rest = ap (after_mark 93) (leaf_on 0 x rest) ∙ letter_is_no_end (letter_of x) (behind_letter x ++ rest)
value_is_no_end (array is) rest = ap (after_mark 93) (array_on is rest) ∙ letter_is_no_end letter.FieldArray (bracketed 91 93 (item_texts is) ++ rest)
value_is_no_end (table ps) rest = ap (after_mark 93) (table_on ps rest) ∙ letter_is_no_end letter.FieldTable (bracketed 123 125 (pair_texts ps) ++ rest)

-- ---- what was written is read

key_again : (k rest : List ℕ) → scalar_fits a_text k ≡ true → key_at (scalar_text a_text k ++ 61 ∷ rest) ≡ Some (k, rest)
key_again k rest fit = rw (word_plain (scalar_text a_text k) 61 rest (plain_scalar a_text k fit) refl, rest_plain (scalar_text a_text k) 61 rest (plain_scalar a_text k fit) refl, scalar_again a_text k fit) refl

abbrev Again : ℕ → Type 0
Again l = (v : Data) (d : ℕ) (rest : List ℕ) → value_fits l v ≡ true → is_separator d ≡ true → value_at l (value_text v ++ d ∷ rest) ≡ Some (v, d ∷ rest)

module _ (l : ℕ) (again : Again l) where
  leads_items : (is : Items) (found : List Data) → items_fit l is ≡ true → Leads (item_at (value_at l)) 93 found (item_texts is) (found ++ items_list is)
  unfolding value_text item_texts pair_texts value_fits items_fit pairs_fit
  leads_items no_items found fit = sym (append-nil found)
  leads_items (item v is) found fit =
      let p = and_parts (value_fits l v) (items_fit l is) fit in (
        found ++ v ∷ [],
        (λ d rest sep. rw (again v d rest p.0 sep) refl),
        (λ rest. value_is_no_end v rest),
        subst (λ (e : List Data). Leads (item_at (value_at l)) 93 (found ++ v ∷ []) (item_texts is) e) (append_assoc found (v ∷ []) (items_list is)) (leads_items is (found ++ v ∷ []) p.1),
      )

  pair_again : (found : List (List ℕ × Data)) (k : List ℕ) (v : Data) (d : ℕ) (rest : List ℕ) → scalar_fits a_text k ≡ true → value_fits l v ≡ true → is_sorted key_cmp (found ++ (k, v) ∷ []) ≡ true → is_separator d ≡ true
      → pair_at (value_at l) found ((scalar_text a_text k ++ 61 ∷ value_text v) ++ d ∷ rest) ≡ Some (found ++ (k, v) ∷ [], d ∷ rest)
  pair_again found k v d rest key fit rising sep =
      let more : added k v found ≡ Some (found ++ (k, v) ∷ []) = rw rising refl in
      ap (pair_at (value_at l) found) (append_assoc (scalar_text a_text k) (61 ∷ value_text v) (d ∷ rest))
      ∙ pair_read (value_at l) found (scalar_text a_text k ++ 61 ∷ (value_text v ++ d ∷ rest)) k (value_text v ++ d ∷ rest) v (d ∷ rest) (found ++ (k, v) ∷ []) (key_again k (value_text v ++ d ∷ rest) key) (again v d rest fit sep) more

  leads_pairs : (ps : Pairs) (found : List (List ℕ × Data)) → pairs_fit l ps ≡ true → is_sorted key_cmp (found ++ pairs_list ps) ≡ true → Leads (pair_at (value_at l)) 125 found (pair_texts ps) (found ++ pairs_list ps)
  unfolding value_text item_texts pair_texts value_fits items_fit pairs_fit
  leads_pairs no_pairs found fit rising = sym (append-nil found)
  leads_pairs (pair k v ps) found fit rising =
      let p = and_parts (scalar_fits a_text k && value_fits l v) (pairs_fit l ps) fit in
      let q = and_parts (scalar_fits a_text k) (value_fits l v) p.0 in
      let more = append_assoc found ((k, v) ∷ []) (pairs_list ps) in
      let on : is_sorted key_cmp ((found ++ (k, v) ∷ []) ++ pairs_list ps) ≡ true = subst (λ (e : List (List ℕ × Data)). is_sorted key_cmp e ≡ true) (sym more) rising in
      let here = rising_front (found ++ (k, v) ∷ []) (pairs_list ps) on in (
        found ++ (k, v) ∷ [],
        (λ d rest sep. pair_again found k v d rest q.0 q.1 here sep),
        (λ rest. refl),
        subst (λ (e : List (List ℕ × Data)). Leads (pair_at (value_at l)) 125 (found ++ (k, v) ∷ []) (pair_texts ps) e) more (leads_pairs ps (found ++ (k, v) ∷ []) p.1 on),
      )

  array_again : (is : Items) (rest : List ℕ) → items_fit l is ≡ true → array_at (suc l) (bracketed 91 93 (item_texts is) ++ rest) ≡ Some (items_list is, rest)
  array_again is rest fit =
      rw (bracketed_on 91 93 (item_texts is) rest, array_up l (91 ∷ (join_with_byte 44 (item_texts is) ++ 93 ∷ rest)))
      (inside_again (item_at (value_at l)) 93 refl (λ e. omega (arith, e)) (item_texts is) [] (items_list is) rest (leads_items is [] fit))

  table_again_up : (ps : Pairs) (rest : List ℕ) → pairs_fit l ps ≡ true → is_sorted key_cmp (pairs_list ps) ≡ true → table_at (suc l) (bracketed 123 125 (pair_texts ps) ++ rest) ≡ Some (pairs_list ps, rest)
  table_again_up ps rest fit rising =
      rw (bracketed_on 123 125 (pair_texts ps) rest, table_up l (123 ∷ (join_with_byte 44 (pair_texts ps) ++ 125 ∷ rest)))
      (inside_again (pair_at (value_at l)) 125 refl (λ e. omega (arith, e)) (pair_texts ps) [] (pairs_list ps) rest (leads_pairs ps [] fit rising))

fits_array : (l : ℕ) (is : Items) → value_fits (suc l) (array is) ≡ items_fit l is
unfolding value_fits items_fit pairs_fit
fits_array l is = refl

fits_table : (l : ℕ) (ps : Pairs) → value_fits (suc l) (table ps) ≡ (pairs_fit l ps && is_sorted key_cmp (pairs_list ps))
unfolding value_fits items_fit pairs_fit
fits_table l ps = refl

fits_leaf : (l : ℕ) (x : _) → value_fits l (leaf x) ≡ leaf_fits x
unfolding value_fits items_fit pairs_fit
fits_leaf zero x = refl
fits_leaf (suc l) x = refl

too_deep_array : (is : Items) → value_fits zero (array is) ≡ true → ⊥
unfolding value_fits items_fit pairs_fit
too_deep_array is e = cc

too_deep_table : (ps : Pairs) → value_fits zero (table ps) ≡ true → ⊥
unfolding value_fits items_fit pairs_fit
too_deep_table ps e = cc

leaf_again : (l : ℕ) (x : _) (d : ℕ) (rest : List ℕ) → leaf_fits x ≡ true → is_separator d ≡ true → value_at l (value_text (leaf x) ++ d ∷ rest) ≡ Some (leaf x, d ∷ rest)
leaf_again l x d rest fit sep =
    ap (value_at l) (leaf_on 0 x (d ∷ rest))
    ∙ value_letter l _ (behind_letter x ++ d ∷ rest) (letter_of x) (next_again (letter_of x) _)
    ∙ leaf_read (array_at l) (table_at l) x d rest fit sep

pub value_again : (l : ℕ) → Again l
value_again l (leaf x) d rest fit sep = leaf_again l x d rest (sym (fits_leaf l x) ∙ fit) sep
value_again zero (array is) d rest fit sep = absurd (too_deep_array is fit)
value_again zero (table ps) d rest fit sep = absurd (too_deep_table ps fit)
value_again (suc l) (array is) d rest fit sep =
    ap (value_at (suc l)) (array_on is (d ∷ rest))
    ∙ value_letter (suc l) _ (bracketed 91 93 (item_texts is) ++ d ∷ rest) letter.FieldArray (next_again letter.FieldArray _)
    ∙ rw (array_again l (value_again l) is (d ∷ rest) (sym (fits_array l is) ∙ fit), items_back is) refl
value_again (suc l) (table ps) d rest fit sep =
    let p = and_parts (pairs_fit l ps) (is_sorted key_cmp (pairs_list ps)) (sym (fits_table l ps) ∙ fit) in
    ap (value_at (suc l)) (table_on ps (d ∷ rest))
    ∙ value_letter (suc l) _ (bracketed 123 125 (pair_texts ps) ++ d ∷ rest) letter.FieldTable (next_again letter.FieldTable _)
    ∙ rw (table_again_up l (value_again l) ps (d ∷ rest) p.0 p.1, pairs_back ps) refl

pub table_again : (l : ℕ) (ps : List (List ℕ × Data)) (rest : List ℕ) → table_fits (suc l) ps ≡ true → table_at (suc l) (table_text ps ++ rest) ≡ Some (ps, rest)
table_again l ps rest fit =
    let p = and_parts (pairs_fit l (pairs_of ps)) (is_sorted key_cmp (pairs_list (pairs_of ps))) (sym (fits_table l (pairs_of ps)) ∙ fit) in
    table_again_up l (value_again l) (pairs_of ps) rest p.0 p.1 ∙ ap (λ (qs : List (List ℕ × Data)). Some (qs, rest)) (pairs_list-pairs_of ps)

-- ---- what was read is spelled so

abbrev Found : ℕ → Type 0
Found l = (text : List ℕ) (x : Data × List ℕ) → value_at l text ≡ Some x → (text ≡ value_text x.0 ++ x.1) × (value_fits l x.0 ≡ true)

key_found : (text : List ℕ) (x : List ℕ × List ℕ) → key_at text ≡ Some x → (text ≡ scalar_text a_text x.0 ++ 61 ∷ x.1) × (scalar_fits a_text x.0 ≡ true)
key_found text x e =
    let a = bind_some (scalar_of a_text (word_of text)) _ x e in
    let b = bind_some (after_mark 61 (after_word text)) _ x a.2 in
    let f = scalar_found a_text (word_of text) a.0 a.1 in
    subst (λ (y : List ℕ × List ℕ). (text ≡ scalar_text a_text y.0 ++ 61 ∷ y.1) × (scalar_fits a_text y.0 ≡ true)) (some_is (a.0, b.0) x b.2)
    (sym (word_rest text) ∙ ap (λ (t : List ℕ). t ++ after_word text) f.is ∙ ap (λ (t : List ℕ). scalar_text a_text a.0 ++ t) (mark_found 61 (after_word text) b.0 b.1), f.fits)

module _ (l : ℕ) (found : Found l) where
  abbrev ItemStep : List Data → List ℕ → List Data → Type 0
  ItemStep s t m = (v : Data) × (t ≡ value_text v) × (value_fits l v ≡ true) × (m ≡ s ++ v ∷ [])

  item_found : (s : List Data) (text : List ℕ) (x : List Data × List ℕ) → item_at (value_at l) s text ≡ Some x → (t : List ℕ) × (text ≡ t ++ x.1) × ItemStep s t x.0
  item_found s text x e =
      let a = bind_some (value_at l text) (λ y. Some (s ++ y.0 ∷ [], y.1)) x e in
      let f = found text a.0 a.1 in
      subst (λ (z : List Data × List ℕ). (t : List ℕ) × (text ≡ t ++ z.1) × ItemStep s t z.0) (some_is (s ++ a.0.0 ∷ [], a.0.1) x a.2) (value_text a.0.0, f.0, (a.0.0, refl, f.1, refl))

  items_run : (ts : List (List ℕ)) (s e : List Data) → Runs ItemStep s ts e → (is : Items) × (ts ≡ item_texts is) × (items_fit l is ≡ true) × (e ≡ s ++ items_list is)
  unfolding value_text item_texts pair_texts value_fits items_fit pairs_fit
  items_run [] s e r = (no_items, refl, refl, sym r ∙ sym (append-nil s))
  items_run (t ∷ ts) s e r =
      let v = r.1.0 in
      let more = items_run ts r.0 e r.2 in (
        item v more.0,
        ap (λ (y : List ℕ). y ∷ ts) r.1.1 ∙ ap (λ (y : List (List ℕ)). value_text v ∷ y) more.1,
        and_from (value_fits l v) (items_fit l more.0) r.1.2 more.2,
        more.3 ∙ ap (λ (y : List Data). y ++ items_list more.0) r.1.3 ∙ append_assoc s (v ∷ []) (items_list more.0),
      )

  array_found : (text : List ℕ) (x : List Data × List ℕ) → array_at (suc l) text ≡ Some x → (text ≡ bracketed 91 93 (item_texts (items_of x.0)) ++ x.1) × (value_fits (suc l) (array (items_of x.0)) ≡ true)
  array_found text x e =
      let a = bind_some (after_mark 91 text) _ x (sym (array_up l text) ∙ e) in
      let f = inside_found (item_at (value_at l)) 93 ItemStep item_found [] a.0 x a.2 in
      let run = items_run f.0 [] x.0 f.2 in
      let same : items_of x.0 ≡ run.0 = ap items_of run.3 ∙ items_back run.0 in (
        mark_found 91 text a.0 a.1 ∙ ap (λ (t : List ℕ). 91 ∷ t) (f.1 ∙ ap (λ (ts : List (List ℕ)). join_with_byte 44 ts ++ 93 ∷ x.1) (run.1 ∙ ap item_texts (sym same))) ∙ sym (bracketed_on 91 93 (item_texts (items_of x.0)) x.1),
        fits_array l (items_of x.0) ∙ ap (items_fit l) same ∙ run.2,
      )

  abbrev PairStep : List (List ℕ × Data) → List ℕ → List (List ℕ × Data) → Type 0
  PairStep s t m = (p : List ℕ × Data) × (t ≡ scalar_text a_text p.0 ++ 61 ∷ value_text p.1) × ((scalar_fits a_text p.0 && value_fits l p.1) ≡ true) × (m ≡ s ++ p ∷ []) × (is_sorted key_cmp m ≡ true)

  pair_found : (s : List (List ℕ × Data)) (text : List ℕ) (x : List (List ℕ × Data) × List ℕ) → pair_at (value_at l) s text ≡ Some x → (t : List ℕ) × (text ≡ t ++ x.1) × PairStep s t x.0
  pair_found s text x e =
      let a = bind_some (key_at text) _ x e in
      let b = bind_some (value_at l a.0.1) _ x a.2 in
      let k = a.0.0 in
      let v = b.0.0 in
      let key = key_found text a.0 a.1 in
      let value = found a.0.1 b.0 b.1 in
      let m = bind_some (added k v s) _ x b.2 in
      let g = cond_some (is_sorted key_cmp (s ++ (k, v) ∷ [])) (s ++ (k, v) ∷ []) m.0 m.1 in
      subst (λ (z : List (List ℕ × Data) × List ℕ). (t : List ℕ) × (text ≡ t ++ z.1) × PairStep s t z.0) (ap (λ (ps : List (List ℕ × Data)). (ps, b.0.1)) g.1 ∙ some_is (m.0, b.0.1) x m.2) (
        scalar_text a_text k ++ 61 ∷ value_text v,
        key.0 ∙ ap (λ (t : List ℕ). scalar_text a_text k ++ 61 ∷ t) value.0 ∙ sym (append_assoc (scalar_text a_text k) (61 ∷ value_text v) b.0.1),
        ((k, v), refl, and_from (scalar_fits a_text k) (value_fits l v) key.1 value.1, refl, g.0),
      )

  pairs_run : (ts : List (List ℕ)) (s e : List (List ℕ × Data)) → is_sorted key_cmp s ≡ true → Runs PairStep s ts e → (ps : Pairs) × (ts ≡ pair_texts ps) × (pairs_fit l ps ≡ true) × (e ≡ s ++ pairs_list ps) × (is_sorted key_cmp e ≡ true)
  unfolding value_text item_texts pair_texts value_fits items_fit pairs_fit
  pairs_run [] s e rising r = (no_pairs, refl, refl, sym r ∙ sym (append-nil s), subst (λ (z : List (List ℕ × Data)). is_sorted key_cmp z ≡ true) r rising)
  pairs_run (t ∷ ts) s e rising r =
      let p = r.1.0 in
      let more = pairs_run ts r.0 e r.1.4 r.2 in (
        pair p.0 p.1 more.0,
        ap (λ (y : List ℕ). y ∷ ts) r.1.1 ∙ ap (λ (y : List (List ℕ)). (scalar_text a_text p.0 ++ 61 ∷ value_text p.1) ∷ y) more.1,
        and_from (scalar_fits a_text p.0 && value_fits l p.1) (pairs_fit l more.0) r.1.2 more.2,
        more.3 ∙ ap (λ (y : List (List ℕ × Data)). y ++ pairs_list more.0) r.1.3 ∙ append_assoc s (p ∷ []) (pairs_list more.0),
        more.4,
      )

  table_found_up : (text : List ℕ) (x : List (List ℕ × Data) × List ℕ) → table_at (suc l) text ≡ Some x → (text ≡ table_text x.0 ++ x.1) × (table_fits (suc l) x.0 ≡ true)
  table_found_up text x e =
      let a = bind_some (after_mark 123 text) _ x (sym (table_up l text) ∙ e) in
      let f = inside_found (pair_at (value_at l)) 125 PairStep pair_found [] a.0 x a.2 in
      let run = pairs_run f.0 [] x.0 refl f.2 in
      let same : pairs_of x.0 ≡ run.0 = ap pairs_of run.3 ∙ pairs_back run.0 in (
        mark_found 123 text a.0 a.1 ∙ ap (λ (t : List ℕ). 123 ∷ t) (f.1 ∙ ap (λ (ts : List (List ℕ)). join_with_byte 44 ts ++ 125 ∷ x.1) (run.1 ∙ ap pair_texts (sym same))) ∙ sym (bracketed_on 123 125 (pair_texts (pairs_of x.0)) x.1),
        fits_table l (pairs_of x.0) ∙ and_from (pairs_fit l (pairs_of x.0)) (is_sorted key_cmp (pairs_list (pairs_of x.0))) (ap (pairs_fit l) same ∙ run.2) (ap (is_sorted key_cmp) (pairs_list-pairs_of x.0) ∙ run.4),
      )

leaf_case : (l : ℕ) (k : Letter) (rest : List ℕ) (x : Data × List ℕ) → leaf_at k rest ≡ Some x → (letter_byte k ∷ rest ≡ value_text x.0 ++ x.1) × (value_fits l x.0 ≡ true)
leaf_case l k rest x e =
    let a = bind_some (leaf_of k (word_of rest)) (λ d. Some (d, after_word rest)) x e in
    let f = leaf_found k (word_of rest) a.0 a.1 in
    let same : (leaf f.what, after_word rest) ≡ x = ap (λ (d : Data). (d, after_word rest)) (sym f.is) ∙ some_is (a.0, after_word rest) x a.2 in
    subst (λ (y : Data × List ℕ). (letter_byte k ∷ rest ≡ value_text y.0 ++ y.1) × (value_fits l y.0 ≡ true)) same (
      ap (λ (t : List ℕ). letter_byte k ∷ t) (sym (word_rest rest) ∙ ap (λ (t : List ℕ). t ++ after_word rest) f.spelled) ∙ ap (λ (j : Letter). letter_byte j ∷ (behind_letter f.what ++ after_word rest)) (sym f.named) ∙ sym (leaf_on 0 f.what (after_word rest)),
      fits_leaf l f.what ∙ f.fit,
    )

abbrev ArraysFound : ℕ → Type 0
ArraysFound l = (text : List ℕ) (x : List Data × List ℕ) → array_at l text ≡ Some x → (text ≡ bracketed 91 93 (item_texts (items_of x.0)) ++ x.1) × (value_fits l (array (items_of x.0)) ≡ true)

abbrev TablesFound : ℕ → Type 0
TablesFound l = (text : List ℕ) (x : List (List ℕ × Data) × List ℕ) → table_at l text ≡ Some x → (text ≡ table_text x.0 ++ x.1) × (table_fits l x.0 ≡ true)

letter_case : (l : ℕ) → ArraysFound l → TablesFound l → (k : Letter) (rest : List ℕ) (x : Data × List ℕ) → by_letter (array_at l) (table_at l) k rest ≡ Some x → (letter_byte k ∷ rest ≡ value_text x.0 ++ x.1) × (value_fits l x.0 ≡ true)
letter_case l arrays tables letter.Boolean rest x e = leaf_case l letter.Boolean rest x e
letter_case l arrays tables letter.ShortShortInt rest x e = leaf_case l letter.ShortShortInt rest x e
letter_case l arrays tables letter.ShortShortUInt rest x e = leaf_case l letter.ShortShortUInt rest x e
letter_case l arrays tables letter.ShortInt rest x e = leaf_case l letter.ShortInt rest x e
letter_case l arrays tables letter.ShortUInt rest x e = leaf_case l letter.ShortUInt rest x e
letter_case l arrays tables letter.LongInt rest x e = leaf_case l letter.LongInt rest x e
letter_case l arrays tables letter.LongUInt rest x e = leaf_case l letter.LongUInt rest x e
letter_case l arrays tables letter.LongLongInt rest x e = leaf_case l letter.LongLongInt rest x e
letter_case l arrays tables letter.Timestamp rest x e = leaf_case l letter.Timestamp rest x e
letter_case l arrays tables letter.LongString rest x e = leaf_case l letter.LongString rest x e
letter_case l arrays tables letter.ByteArray rest x e = leaf_case l letter.ByteArray rest x e
letter_case l arrays tables letter.Void rest x e = leaf_case l letter.Void rest x e
letter_case l arrays tables letter.FieldArray rest x e =
    let a = bind_some (array_at l rest) (λ y. Some (array (items_of y.0), y.1)) x e in
    let f = arrays rest a.0 a.1 in
    subst (λ (y : Data × List ℕ). (letter_byte letter.FieldArray ∷ rest ≡ value_text y.0 ++ y.1) × (value_fits l y.0 ≡ true)) (some_is (array (items_of a.0.0), a.0.1) x a.2)
    (ap (λ (t : List ℕ). letter_byte letter.FieldArray ∷ t) f.0 ∙ sym (array_on (items_of a.0.0) a.0.1), f.1)
letter_case l arrays tables letter.FieldTable rest x e =
    let a = bind_some (table_at l rest) (λ y. Some (table (pairs_of y.0), y.1)) x e in
    let f = tables rest a.0 a.1 in
    subst (λ (y : Data × List ℕ). (letter_byte letter.FieldTable ∷ rest ≡ value_text y.0 ++ y.1) × (value_fits l y.0 ≡ true)) (some_is (table (pairs_of a.0.0), a.0.1) x a.2)
    (ap (λ (t : List ℕ). letter_byte letter.FieldTable ∷ t) f.0 ∙ sym (table_on (pairs_of a.0.0) a.0.1), f.1)

by_level : (l : ℕ) → ArraysFound l → TablesFound l → Found l
by_level l arrays tables text x e =
    let a = bind_some (next_letter text) _ x (sym (by_the_letter l text) ∙ e) in
    let c = letter_case l arrays tables a.0.0 a.0.1 x a.2 in
    (next_found text a.0 a.1 ∙ c.0, c.1)

pub value_found : (l : ℕ) → Found l
value_found zero = by_level zero (λ text x e. absurd (array_none text x e)) (λ text x e. absurd (table_none text x e))
value_found (suc l) = by_level (suc l) (array_found l (value_found l)) (table_found_up l (value_found l))

pub table_found : (l : ℕ) → TablesFound (suc l)
table_found l = table_found_up l (value_found l)
