-- Entries that a tree takes over from a list.
use Rattle.std.proofs.Common.{ℕ, ◌≡◌, List, [], ◌∷◌, ◌++◌, map, true, cond, Result, Ok, Err, is_ok, refl, sym, ap, subst, ◌∙◌, append_assoc}
use Rattle.std.specs.Prelude.{OnOk}
use Rattle.std.specs.BTreeMap.{insert_entry}
use Rattle.std.specs.FinMap.Entries as entries
use Rattle.std.specs.Ordering.{is_lt, match_ordering}
use Rattle.std.specs.declared.cmp.Ordering.{Ordering}
use Rattle.std.specs.declared.cmp.Ordering.TheVariants.{Less, Equal, Greater}
use Rattle.std.proofs.lemmas.Bool.{and_parts}
use Rattle.lapin_values.specs.Data.{Data}
use Rattle.lapin_values.specs.DataOf.{data_of, to_pair}
use Rattle.lapin_values.specs.Table.{key_cmp, IsRising, put}
use Rattle.lapin_values.specs.declared.value.AMQPValue.{AMQPValue}
use Rattle.lapin_values.proofs.TableLemmas.{put_mapped}

less : (o : Ordering) → is_lt o ≡ true → o ≡ Less
less Less e = refl
less Equal e = cc
less Greater e = cc

module _ {V : Type 0} where
  -- a tree puts a pair in its place as a table does
  pub insert_entry_put : (k : List ℕ) (v : V) (es : List (List ℕ × V)) → insert_entry key_cmp es k v ≡ put k v es
  insert_entry_put k v [] = refl
  insert_entry_put k v (x ∷ es) =
      elim (key_cmp k x.0) as (λ o. match_ordering o ((k, v) ∷ x ∷ es) ((x.0, v) ∷ es) (x ∷ insert_entry key_cmp es k v) ≡ entries.by_order o ((k, v) ∷ x ∷ es) ((x.0, v) ∷ es) (x ∷ put k v es)) [
        | Less ↦ refl
        | Equal ↦ refl
        | Greater ↦ ap (λ (r : List (List ℕ × V)). x ∷ r) (insert_entry_put k v es)
      ]

  -- a pair whose key is below all others is put first
  put_first : (p : List ℕ × V) (es : List (List ℕ × V)) → IsRising (p ∷ es) → put p.0 p.1 es ≡ p ∷ es
  put_first p [] h = refl
  put_first p (x ∷ es) h =
      let below = and_parts (entries.below_all key_cmp p.0 (x ∷ es)) (entries.is_sorted key_cmp (x ∷ es)) h in
      let first = and_parts (is_lt (key_cmp p.0 x.0)) (entries.below_all key_cmp p.0 es) below.0 in
      ap (λ (o : Ordering). entries.by_order o (p ∷ x ∷ es) ((x.0, p.1) ∷ es) (x ∷ put p.0 p.1 es)) (less (key_cmp p.0 x.0) first.0)

  -- the back of what rises
  rising_back : (xs ys : List (List ℕ × V)) → IsRising (xs ++ ys) → IsRising ys
  rising_back [] ys h = h
  rising_back (x ∷ xs) ys h = rising_back xs ys (and_parts (entries.below_all key_cmp x.0 (xs ++ ys)) (entries.is_sorted key_cmp (xs ++ ys)) h).1

  -- the last pair of a list is put before those behind it
  pub last_moved : (xs : List (List ℕ × V)) (p : List ℕ × V) (es all : List (List ℕ × V)) → (xs ++ p ∷ []) ++ es ≡ all → IsRising all → xs ++ put p.0 p.1 es ≡ all
  last_moved xs p es all e h =
      let on : xs ++ (p ∷ es) ≡ all = sym (append_assoc xs (p ∷ []) es) ∙ e in
      ap (λ (r : List (List ℕ × V)). xs ++ r) (put_first p es (rising_back xs (p ∷ es) (subst IsRising (sym on) h))) ∙ on

-- what is seen of entries among which one was put
pub put_seen : {A E : Type 0} (r : Result A E) (k : List ℕ) (v : AMQPValue) (es fs : List (List ℕ × AMQPValue)) (xs : List (List ℕ × Data)) → fs ≡ cond (is_ok r) (put k v es) es → map to_pair es ≡ xs → OnOk r (map to_pair fs ≡ put k (data_of v) xs)
put_seen (Ok a) k v es fs xs p q = ap (map to_pair) p ∙ put_mapped k v es ∙ ap (put k (data_of v)) q
put_seen (Err e) k v es fs xs p q = tt
