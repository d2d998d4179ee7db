-- A key's place in a table, found by halving, and what stands there.
use Rattle.std.proofs.Common.{ℕ, zero, suc, ◌<◌, ◌≤◌, ◌≡◌, Bool, true, false, List, [], ◌∷◌, map, length, get_or, refl, sym, ap, subst, ◌∙◌, arith, Some, None}
use Rattle.std.specs.Prelude.{nat_eq, ◌&&◌}
use Rattle.std.specs.Cmp.Lexicographic.{pointwise, nat_list_cmp_total}
use Rattle.std.specs.Ordering.{is_lt, ordering_reverse}
use Rattle.std.specs.declared.cmp.Ordering.{Ordering}
use Rattle.std.specs.declared.cmp.Ordering.TheVariants.{Less, Equal, Greater}
use Rattle.std.specs.FinMap.Entries as entries
use Rattle.lapin_values.specs.DataOf.{to_pair}
use Rattle.lapin_values.specs.declared.value.AMQPValue.{AMQPValue}
use Rattle.lapin_values.specs.Table.{key_cmp, IsRising, lookup, keys_below}
use Rattle.lapin_values.proofs.TableLemmas.{key_ties, key_ties_back}
use Rattle.std.proofs.lemmas.Bool.{and_parts, and_from, cond-true, cond-false}

missing : (b : Bool) → b ≡ true → b ≡ false → ⊥
missing b p q = cc

pub is_less : (o : Ordering) → is_lt o ≡ true → o ≡ Less
is_less Less e = refl
is_less Equal e = cc
is_less Greater e = cc

after : {V : Type 0} (k : List ℕ) (es : List (List ℕ × V)) (n : ℕ) (d : List ℕ × V) → entries.below_all key_cmp k es ≡ true → n < length es → key_cmp k (get_or es n d).0 ≡ Less
after k [] n d h p = absurd (omega arith)
after k (e ∷ es) zero d h p = is_less _ (and_parts _ _ h).0
after k (e ∷ es) (suc n) d h p = after k es n d (and_parts _ _ h).1 (omega arith)

turned : (k l : List ℕ) → key_cmp l k ≡ Less → key_cmp k l ≡ Greater
turned k l e = nat_list_cmp_total.antisymm k l ∙ ap ordering_reverse e

-- a place whose key is below k stands before the place of k
pub place_after : {V : Type 0} (k : List ℕ) (es : List (List ℕ × V)) (n : ℕ) (d : List ℕ × V) → IsRising es → n < length es → key_cmp (get_or es n d).0 k ≡ Less → n < keys_below k es
place_after k [] n d h p e = absurd (omega arith)
place_after k (x ∷ es) zero d h p e = subst (λ o. 0 < entries.by_order o 0 0 (suc (keys_below k es))) (sym (turned k x.0 e)) (omega arith)
place_after k (x ∷ es) (suc n) d h p e =
    let rest = and_parts _ _ h in
    let first : key_cmp x.0 k ≡ Less = nat_list_cmp_total.trans x.0 (get_or es n d).0 k (after x.0 es n d rest.0 (omega arith)) e in
    subst (λ o. suc n < entries.by_order o 0 0 (suc (keys_below k es))) (sym (turned k x.0 first)) (omega (arith, place_after k es n d rest.1 (omega arith) e))

-- a place whose key is not below k stands at the place of k or behind it
pub place_within : {V : Type 0} (k : List ℕ) (es : List (List ℕ × V)) (n : ℕ) (d : List ℕ × V) → n < length es → (key_cmp (get_or es n d).0 k ≡ Less → ⊥) → keys_below k es ≤ n
place_within k [] n d p e = absurd (omega arith)
place_within k (x ∷ es) zero d p e =
    elim (key_cmp k x.0) as (λ o. key_cmp k x.0 ≡ o → entries.by_order o 0 0 (suc (keys_below k es)) ≤ 0) [
      | Less ↦ λ g. omega arith
      | Equal ↦ λ g. omega arith
      | Greater ↦ λ g. absurd (e (nat_list_cmp_total.antisymm x.0 k ∙ ap ordering_reverse g))
    ] refl
place_within k (x ∷ es) (suc n) d p e =
    elim (key_cmp k x.0) as (λ o. entries.by_order o 0 0 (suc (keys_below k es)) ≤ suc n) [
      | Less ↦ omega arith
      | Equal ↦ omega arith
      | Greater ↦ omega (arith, place_within k es n d (omega arith) e)
    ]

-- the two ways that a test of the key at a place may go
pub tested_below : {V : Type 0} (k t : List ℕ) (es : List (List ℕ × V)) (n : ℕ) (d : List ℕ × V) {r : Bool} → IsRising es → n < length es → t ≡ (get_or es n d).0 → r ≡ is_lt (key_cmp t k) → r ≡ true → n < keys_below k es
tested_below k t es n d h p at is e = place_after k es n d h p (is_less _ (sym (is ∙ ap (λ z. is_lt (key_cmp z k)) at) ∙ e))

pub tested_within : {V : Type 0} (k t : List ℕ) (es : List (List ℕ × V)) (n : ℕ) (d : List ℕ × V) {r : Bool} → n < length es → t ≡ (get_or es n d).0 → r ≡ is_lt (key_cmp t k) → r ≡ false → keys_below k es ≤ n
tested_within k t es n d p at is e =
    place_within k es n d p (λ less. missing _ (is ∙ ap (λ z. is_lt (key_cmp z k)) at ∙ ap is_lt less) e)

less_equal : Less ≡ Equal → ⊥
less_equal e = cc

greater_equal : Greater ≡ Equal → ⊥
greater_equal e = cc

differs : (k l : List ℕ) → (key_cmp k l ≡ Equal → ⊥) → pointwise nat_eq l k ≡ false
differs k l h =
    elim (pointwise nat_eq l k) as (λ b. pointwise nat_eq l k ≡ b → b ≡ false) [ true ↦ λ t. absurd (h (key_ties k l t)) | false ↦ λ t. refl ] refl

at_place : {V : Type 0} (k : List ℕ) (es : List (List ℕ × V)) (d : List ℕ × V) → keys_below k es < length es → true ≡ pointwise nat_eq (get_or es (keys_below k es) d).0 k
    → Some (get_or es (keys_below k es) d).1 ≡ lookup k es
at_place k [] d p e = absurd (omega arith)
at_place {V = V} k (x ∷ es) d p e =
    elim (key_cmp k x.0) as (λ o. let n : ℕ = entries.by_order o 0 0 (suc (keys_below k es)) in key_cmp k x.0 ≡ o → n < suc (length es) → true ≡ pointwise nat_eq (get_or (x ∷ es) n d).0 k
    → Some (get_or (x ∷ es) n d).1 ≡ lookup k (x ∷ es)) [
      | Less ↦ λ g q f. sym (cond-true _ _ _ (sym f))
      | Equal ↦ λ g q f. sym (cond-true _ _ _ (sym f))
      | Greater ↦ λ g q f. at_place k es d (omega arith) f ∙ sym (cond-false _ _ _ (differs k x.0 (λ h. greater_equal (sym g ∙ h))))
    ] refl p e

-- the pair at a key's place, where it has that key, is the one that a look-up finds
pub lookup_at : {V : Type 0} (k : List ℕ) (es : List (List ℕ × V)) (n : ℕ) (d : List ℕ × V) → n ≡ keys_below k es → n < length es → true ≡ pointwise nat_eq (get_or es n d).0 k → Some (get_or es n d).1 ≡ lookup k es
lookup_at k es n d at = subst (λ n. n < length es → true ≡ pointwise nat_eq (get_or es n d).0 k → Some (get_or es n d).1 ≡ lookup k es) (sym at) (at_place k es d)

none_above : {V : Type 0} (k l : List ℕ) (es : List (List ℕ × V)) → key_cmp k l ≡ Less → entries.below_all key_cmp l es ≡ true → lookup k es ≡ None
none_above k l [] g h = refl
none_above k l (e ∷ es) g h =
    let rest = and_parts _ _ h in
    let below : key_cmp k e.0 ≡ Less = nat_list_cmp_total.trans k l e.0 g (is_less _ rest.0) in
    cond-false _ _ _ (differs k e.0 (λ t. less_equal (sym below ∙ t))) ∙ none_above k l es g rest.1

no_place : {V : Type 0} (k : List ℕ) (es : List (List ℕ × V)) → IsRising es → ((d : List ℕ × V) → keys_below k es < length es → false ≡ pointwise nat_eq (get_or es (keys_below k es) d).0 k) → lookup k es ≡ None
no_place k [] h e = refl
no_place {V = V} k (x ∷ es) h e =
    let rest = and_parts _ _ h in
    elim (key_cmp k x.0) as (λ o. let n : ℕ = entries.by_order o 0 0 (suc (keys_below k es)) in key_cmp k x.0 ≡ o → ((d : List ℕ × V) → n < suc (length es) → false ≡ pointwise nat_eq (get_or (x ∷ es) n d).0 k) → lookup k (x ∷ es) ≡ None) [
      | Less ↦ λ g f. cond-false _ _ _ (sym (f x (omega arith))) ∙ none_above k x.0 es g rest.0
      | Equal ↦ λ g f. absurd (missing _ (key_ties_back k x.0 g) (sym (f x (omega arith))))
      | Greater ↦ λ g f. cond-false _ _ _ (differs k x.0 (λ t. greater_equal (sym g ∙ t))) ∙ no_place k es rest.1 (λ d p. f d (omega arith))
    ] refl e

-- where no pair at a key's place has that key, a look-up finds none
pub lookup_none : {V : Type 0} (k : List ℕ) (es : List (List ℕ × V)) (n : ℕ) → n ≡ keys_below k es → IsRising es → ((d : List ℕ × V) → n < length es → false ≡ pointwise nat_eq (get_or es n d).0 k) → None ≡ lookup k es
lookup_none {V = V} k es n at h e = sym (no_place k es h (subst (λ n. (d : List ℕ × V) → n < length es → false ≡ pointwise nat_eq (get_or es n d).0 k) at e))

below_mapped : (k : List ℕ) (es : List (List ℕ × AMQPValue)) → entries.below_all key_cmp k (map to_pair es) ≡ entries.below_all key_cmp k es
below_mapped k [] = refl
below_mapped k (e ∷ es) = ap (λ b. is_lt (key_cmp k e.0) && b) (below_mapped k es)

-- the keys rise alike in the pairs of plain data
pub rising_mapped : (es : List (List ℕ × AMQPValue)) → IsRising es → IsRising (map to_pair es)
rising_mapped [] h = refl
rising_mapped (e ∷ es) h = let rest = and_parts _ _ h in and_from _ _ (below_mapped e.0 es ∙ rest.0) (rising_mapped es rest.1)
