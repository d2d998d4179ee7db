-- A pair that is put at the place where the keys stop being below it.
use Rattle.std.proofs.Common.{ℕ, suc, ◌<◌, ◌≤◌, ◌≡◌, Bool, true, false, List, [], ◌∷◌, map, length, get_or, refl, sym, ap, subst, ◌∙◌, arith, Option, Some, None, set, cond, option_map}
use Rattle.std.specs.Ordering.{is_eq}
use lib.Dec.{T}
use Rattle.std.specs.Prelude.{nat_eq, IsTrue}
use Rattle.std.specs.List.{insert}
use Rattle.std.specs.Cmp.Lexicographic.{pointwise, nat_list_cmp_total, nat_list_eq_equiv, texts_ties}
use Rattle.std.specs.declared.cmp.Ordering.{Ordering}
use Rattle.std.specs.declared.cmp.Ordering.TheVariants.{Less, Equal, Greater}
use Rattle.std.specs.FinMap.Entries as entries
use Rattle.lapin_values.specs.Data.{Data}
use Rattle.lapin_values.specs.DataOf.{data_of, to_pair}
use Rattle.lapin_values.specs.declared.value.AMQPValue.{AMQPValue}
use Rattle.lapin_values.specs.Table.{key_cmp, IsRising, put, lookup, keys_below}

pub keys_below-le : {V : Type 0} (k : List ℕ) (es : List (List ℕ × V)) → keys_below k es ≤ length es
keys_below-le k [] = omega arith
keys_below-le k (e ∷ es) =
    elim (key_cmp k e.0) as (λ o. entries.by_order o 0 0 (suc (keys_below k es)) ≤ suc (length es)) [
      | Less ↦ omega arith
      | Equal ↦ omega arith
      | Greater ↦ omega (arith, keys_below-le k es)
    ]

apart : Less ≡ Equal → ⊥
apart h = cc

apart_bool : false ≡ true → ⊥
apart_bool h = cc

pub put_there : {V : Type 0} (k : List ℕ) (v : V) (es : List (List ℕ × V)) (d : List ℕ × V) → keys_below k es < length es → key_cmp k (get_or es (keys_below k es) d).0 ≡ Equal
    → put k v es ≡ set es (keys_below k es) ((get_or es (keys_below k es) d).0, v)
put_there k v [] d p e = absurd (omega arith)
put_there {V = V} k v (x ∷ es) d p e =
    elim (key_cmp k x.0) as (λ o. let n : ℕ = entries.by_order o 0 0 (suc (keys_below k es)) in n < suc (length es) → key_cmp k (get_or (x ∷ es) n d).0 ≡ Equal → key_cmp k x.0 ≡ o
    → entries.by_order o ((k, v) ∷ x ∷ es) ((x.0, v) ∷ es) (x ∷ put k v es) ≡ set (x ∷ es) n ((get_or (x ∷ es) n d).0, v)) [
      | Less ↦ λ q f g. absurd (apart (sym g ∙ f))
      | Equal ↦ λ q f g. refl
      | Greater ↦ λ q f g. ap (λ r. x ∷ r) (put_there k v es d (omega arith) f)
    ] p e refl

pub put_new : {V : Type 0} (k : List ℕ) (v : V) (es : List (List ℕ × V)) (d : List ℕ × V) → (keys_below k es < length es → key_cmp k (get_or es (keys_below k es) d).0 ≡ Equal → ⊥)
    → put k v es ≡ insert es (keys_below k es) (k, v)
put_new k v [] d p = refl
put_new {V = V} k v (x ∷ es) d p =
    elim (key_cmp k x.0) as (λ o. let n : ℕ = entries.by_order o 0 0 (suc (keys_below k es)) in (n < suc (length es) → key_cmp k (get_or (x ∷ es) n d).0 ≡ Equal → ⊥) → key_cmp k x.0 ≡ o
    → entries.by_order o ((k, v) ∷ x ∷ es) ((x.0, v) ∷ es) (x ∷ put k v es) ≡ insert (x ∷ es) n (k, v)) [
      | Less ↦ λ q g. refl
      | Equal ↦ λ q g. absurd (q (omega arith) g)
      | Greater ↦ λ q g. ap (λ r. x ∷ r) (put_new k v es d (λ a. q (omega arith)))
    ] p refl

pub put_mapped : (k : List ℕ) (v : AMQPValue) (es : List (List ℕ × AMQPValue)) → map to_pair (put k v es) ≡ put k (data_of v) (map to_pair es)
put_mapped k v [] = refl
put_mapped k v (x ∷ es) =
    elim (key_cmp k x.0) as (λ o. map to_pair (entries.by_order o ((k, v) ∷ x ∷ es) ((x.0, v) ∷ es) (x ∷ put k v es)) ≡ entries.by_order o ((k, data_of v) ∷ to_pair x ∷ map to_pair es) ((x.0, data_of v) ∷ map to_pair es) (to_pair x ∷ put k (data_of v) (map to_pair es))) [
      | Less ↦ refl
      | Equal ↦ refl
      | Greater ↦ ap (λ r. to_pair x ∷ r) (put_mapped k v es)
    ]

to_T : (b : Bool) → b ≡ true → T b
to_T true e = tt
to_T false e = absurd (apart_bool e)

from_T : (b : Bool) → T b → b ≡ true
from_T true t = refl
from_T false t = absurd t

pub put_rising : {V : Type 0} (k : List ℕ) (v : V) (es : List (List ℕ × V)) → IsRising es → IsRising (put k v es)
put_rising k v es h = from_T _ (entries.is_sorted-put key_cmp nat_list_cmp_total k v es (to_T _ h))

pub tied : (o : Ordering) → is_eq o ≡ true → o ≡ Equal
tied Less e = cc
tied Equal e = refl
tied Greater e = cc

-- keys with the same bytes tie
pub key_ties : (k l : List ℕ) → pointwise nat_eq l k ≡ true → key_cmp k l ≡ Equal
key_ties k l e = tied _ (sym (texts_ties k l) ∙ nat_list_eq_equiv.symm k l ∙ e)

pub key_ties_back : (k l : List ℕ) → key_cmp k l ≡ Equal → pointwise nat_eq l k ≡ true
key_ties_back k l e = nat_list_eq_equiv.symm l k ∙ texts_ties k l ∙ ap is_eq e

-- what is written over the pair at the place, where its key is k
pub put_over : {X : Type 0} (k : List ℕ) (v : X) (es us ws : List (List ℕ × X)) (l m : List ℕ) (n : ℕ) (e : List ℕ × X) → us ≡ es → ws ≡ es → l ≡ k → m ≡ k → n ≡ keys_below l us
    → (IsTrue true → n < length ws) → ((d : List ℕ × X) → n < length ws → true ≡ pointwise nat_eq (get_or ws n d).0 m) → e ≡ get_or es n e → set es n (e.0, v) ≡ put k v es
put_over {X = X} k v es us ws l m n e u o q r p w t a =
    let at : n ≡ keys_below k es = p ∙ ap (λ z. keys_below z us) q ∙ ap (keys_below k) u in
    let h : keys_below k es < length es = subst (λ z. z < length es) at (subst (λ (z : List (List ℕ × X)). n < length z) o (w refl)) in
    let same : e ≡ get_or es (keys_below k es) e = a ∙ ap (λ z. get_or es z e) at in
    let key : pointwise nat_eq (get_or es (keys_below k es) e).0 k ≡ true =
    sym (t e (w refl) ∙ ap (λ z. pointwise nat_eq (get_or ws n e).0 z) r ∙ ap (λ (z : List (List ℕ × X)). pointwise nat_eq (get_or z n e).0 k) o ∙ ap (λ z. pointwise nat_eq (get_or es z e).0 k) at) in
    ap (λ z. set es z (e.0, v)) at ∙ ap (λ (z : List ℕ × X). set es (keys_below k es) (z.0, v)) same ∙ sym (put_there k v es e h (key_ties k _ key))

-- what is inserted at the place, where no pair there has the key k
pub put_beside : {X : Type 0} (k : List ℕ) (v : X) (es us ws : List (List ℕ × X)) (l m : List ℕ) (n : ℕ) (d : List ℕ × X) → us ≡ es → ws ≡ es → l ≡ k → m ≡ k → n ≡ keys_below l us
    → ((d : List ℕ × X) → n < length ws → false ≡ pointwise nat_eq (get_or ws n d).0 m) → insert es n (k, v) ≡ put k v es
put_beside {X = X} k v es us ws l m n d u o q r p t =
    let at : n ≡ keys_below k es = p ∙ ap (λ z. keys_below z us) q ∙ ap (keys_below k) u in
    let other : keys_below k es < length es → false ≡ pointwise nat_eq (get_or es (keys_below k es) d).0 k =
    λ h. t d (subst (λ (z : List (List ℕ × X)). n < length z) (sym o) (subst (λ z. z < length es) (sym at) h))
    ∙ ap (λ z. pointwise nat_eq (get_or ws n d).0 z) r ∙ ap (λ (z : List (List ℕ × X)). pointwise nat_eq (get_or z n d).0 k) o ∙ ap (λ z. pointwise nat_eq (get_or es z d).0 k) at in
    ap (λ z. insert es z (k, v)) at ∙ sym (put_new k v es d (λ h e. apart_bool (other h ∙ key_ties_back k _ e)))

pub lookup_mapped : (k : List ℕ) (es : List (List ℕ × AMQPValue)) → option_map data_of (lookup k es) ≡ lookup k (map to_pair es)
lookup_mapped k [] = refl
lookup_mapped k (x ∷ es) =
    elim (pointwise nat_eq x.0 k) as (λ b. option_map data_of (cond b (Some x.1) (lookup k es)) ≡ cond b (Some (data_of x.1)) (lookup k (map to_pair es))) [
      | true ↦ refl
      | false ↦ lookup_mapped k es
    ]

pub option_map_twice : {A B C : Type 0} (f : B → C) (g : A → B) (o : Option A) → option_map (λ x. f (g x)) o ≡ option_map f (option_map g o)
option_map_twice f g None = refl
option_map_twice f g (Some x) = refl

pub put_or_not : (b : Bool) (k : List ℕ) (v : AMQPValue) (es fs : List (List ℕ × AMQPValue)) (xs : List (List ℕ × Data)) → fs ≡ cond b (put k v es) es → map to_pair es ≡ xs → map to_pair fs ≡ cond b (put k (data_of v) xs) xs
put_or_not true k v es fs xs p q = ap (map to_pair) p ∙ put_mapped k v es ∙ ap (put k (data_of v)) q
put_or_not false k v es fs xs p q = ap (map to_pair) p ∙ q

pub rising_or_not : {V : Type 0} (b : Bool) (k : List ℕ) (v : V) (xs : List (List ℕ × V)) → IsRising xs → IsRising (cond b (put k v xs) xs)
rising_or_not true k v xs h = put_rising k v xs h
rising_or_not false k v xs h = h
