-- Tables whose keys rise, and one more pair behind them.
use Rattle.std.proofs.Common.{◌≡◌, ℕ, zero, suc, List, [], ◌∷◌, ◌++◌, length, Some, None, refl, sym, ap, subst, ◌∙◌, arith, Bool, true, false}
use Rattle.std.specs.Prelude.{◌&&◌}
use Rattle.std.specs.List.{slice_get}
use Rattle.std.specs.Ordering.{is_lt, ordering_reverse}
use Rattle.std.specs.Cmp.Lexicographic.{nat_list_cmp_total}
use Rattle.std.specs.declared.cmp.Ordering.{Ordering}
use Rattle.std.specs.declared.cmp.Ordering.TheVariants.{Less, Equal, Greater}
use Rattle.std.specs.FinMap.Entries.{is_sorted, below_all, by_order, put}
use Rattle.lapin_values.specs.Data.{Data}
use Rattle.lapin_values.specs.Table.{key_cmp}
use Rattle.std.proofs.lemmas.Bool.{and_parts, and_from}

abbrev Pair : Type 0
Pair = List ℕ × Data

less : (o : Ordering) → is_lt o ≡ true → o ≡ Less
less Less e = refl
less Equal e = absurd cc
less Greater e = absurd cc

below_last : (x : List ℕ) (ps : List Pair) (p : Pair) → below_all key_cmp x (ps ++ p ∷ []) ≡ true → is_lt (key_cmp x p.0) ≡ true
below_last x [] p e = (and_parts (is_lt (key_cmp x p.0)) true e).0
below_last x (q ∷ ps) p e = below_last x ps p (and_parts (is_lt (key_cmp x q.0)) (below_all key_cmp x (ps ++ p ∷ [])) e).1

below_front : (x : List ℕ) (ps qs : List Pair) → below_all key_cmp x (ps ++ qs) ≡ true → below_all key_cmp x ps ≡ true
below_front x [] qs e = refl
below_front x (p ∷ ps) qs e =
    let b = and_parts (is_lt (key_cmp x p.0)) (below_all key_cmp x (ps ++ qs)) e in
    and_from (is_lt (key_cmp x p.0)) (below_all key_cmp x ps) b.0 (below_front x ps qs b.1)

-- the front of what rises
pub rising_front : (ps qs : List Pair) → is_sorted key_cmp (ps ++ qs) ≡ true → is_sorted key_cmp ps ≡ true
rising_front [] qs e = refl
rising_front (p ∷ ps) qs e =
    let b = and_parts (below_all key_cmp p.0 (ps ++ qs)) (is_sorted key_cmp (ps ++ qs)) e in
    and_from (below_all key_cmp p.0 ps) (is_sorted key_cmp ps) (below_front p.0 ps qs b.0) (rising_front ps qs b.1)

-- a pair whose key is above all stands last
pub put_last : (k : List ℕ) (v : Data) (ps : List Pair) → is_sorted key_cmp (ps ++ (k, v) ∷ []) ≡ true → put key_cmp k v ps ≡ ps ++ (k, v) ∷ []
put_last k v [] e = refl
put_last k v (p ∷ ps) e =
    let b = and_parts (below_all key_cmp p.0 (ps ++ (k, v) ∷ [])) (is_sorted key_cmp (ps ++ (k, v) ∷ [])) e in
    let above : key_cmp k p.0 ≡ Greater = nat_list_cmp_total.antisymm k p.0 ∙ ap ordering_reverse (less (key_cmp p.0 k) (below_last p.0 ps (k, v) b.0)) in
    ap (λ (o : Ordering). by_order o ((k, v) ∷ p ∷ ps) ((p.0, v) ∷ ps) (p ∷ put key_cmp k v ps)) above ∙ ap (λ (r : List Pair). p ∷ r) (put_last k v ps b.1)

below_more : (x k : List ℕ) (v : Data) (ps : List Pair) → below_all key_cmp x ps ≡ true → is_lt (key_cmp x k) ≡ true → below_all key_cmp x (ps ++ (k, v) ∷ []) ≡ true
below_more x k v [] e lt = and_from (is_lt (key_cmp x k)) true lt refl
below_more x k v (p ∷ ps) e lt =
    let b = and_parts (is_lt (key_cmp x p.0)) (below_all key_cmp x ps) e in
    and_from (is_lt (key_cmp x p.0)) (below_all key_cmp x (ps ++ (k, v) ∷ [])) b.0 (below_more x k v ps b.1 lt)

last_is_in : (x : List ℕ) (ps : List Pair) (i : ℕ) (p : Pair) → slice_get ps i ≡ Some p → below_all key_cmp x ps ≡ true → is_lt (key_cmp x p.0) ≡ true
last_is_in x [] i p g e = absurd cc
last_is_in x (q ∷ ps) zero p g e = let same : q ≡ p = cc in subst (λ (r : Pair). is_lt (key_cmp x r.0) ≡ true) same (and_parts (is_lt (key_cmp x q.0)) (below_all key_cmp x ps) e).0
last_is_in x (q ∷ ps) (suc i) p g e = last_is_in x ps i p g (and_parts (is_lt (key_cmp x q.0)) (below_all key_cmp x ps) e).1

is_less : (o : Ordering) → o ≡ Less → is_lt o ≡ true
is_less o e = ap is_lt e

-- a key above the last one is above all
pub rising_on : (ps : List Pair) (k : List ℕ) (v : Data) (i : ℕ) (p : Pair) → length ps ≡ suc i → slice_get ps i ≡ Some p → is_sorted key_cmp ps ≡ true → is_lt (key_cmp p.0 k) ≡ true → is_sorted key_cmp (ps ++ (k, v) ∷ []) ≡ true
rising_on [] k v i p len g e lt = absurd cc
rising_on (q ∷ []) k v zero p len g e lt =
    let same : q ≡ p = cc in
    and_from (is_lt (key_cmp q.0 k) && true) true (and_from (is_lt (key_cmp q.0 k)) true (subst (λ (r : Pair). is_lt (key_cmp r.0 k) ≡ true) (sym same) lt) refl) refl
rising_on (q ∷ []) k v (suc i) p len g e lt = absurd (omega arith)
rising_on (q ∷ r ∷ ps) k v zero p len g e lt = absurd (omega arith)
rising_on (q ∷ r ∷ ps) k v (suc i) p len g e lt =
    let b = and_parts (below_all key_cmp q.0 (r ∷ ps)) (is_sorted key_cmp (r ∷ ps)) e in
    let before = less (key_cmp q.0 p.0) (last_is_in q.0 (r ∷ ps) i p g b.0) in
    let below = is_less (key_cmp q.0 k) (nat_list_cmp_total.trans q.0 p.0 k before (less (key_cmp p.0 k) lt)) in
    and_from (below_all key_cmp q.0 ((r ∷ ps) ++ (k, v) ∷ [])) (is_sorted key_cmp ((r ∷ ps) ++ (k, v) ∷ []))
    (below_more q.0 k v (r ∷ ps) b.0 below) (rising_on (r ∷ ps) k v i p (omega arith) g b.1 lt)

-- the last key is below another that may stand behind it
pub last_below : (ps : List Pair) (k : List ℕ) (v : Data) (i : ℕ) (p : Pair) → slice_get ps i ≡ Some p → is_sorted key_cmp (ps ++ (k, v) ∷ []) ≡ true → is_lt (key_cmp p.0 k) ≡ true
last_below [] k v i p g e = absurd cc
last_below (q ∷ ps) k v zero p g e =
    let same : q ≡ p = cc in
    let b = and_parts (below_all key_cmp q.0 (ps ++ (k, v) ∷ [])) (is_sorted key_cmp (ps ++ (k, v) ∷ [])) e in
    subst (λ (r : Pair). is_lt (key_cmp r.0 k) ≡ true) same (below_last q.0 ps (k, v) b.0)
last_below (q ∷ ps) k v (suc i) p g e = last_below ps k v i p g (and_parts (below_all key_cmp q.0 (ps ++ (k, v) ∷ [])) (is_sorted key_cmp (ps ++ (k, v) ∷ [])) e).1

both_say : (s t : Bool) → (s ≡ true → t ≡ true) → (t ≡ true → s ≡ true) → s ≡ t
both_say true t f g = sym (f refl)
both_say false true f g = g refl
both_say false false f g = refl

pub rises_as : (ps : List Pair) (k : List ℕ) (v : Data) (i : ℕ) (p : Pair) → length ps ≡ suc i → slice_get ps i ≡ Some p → is_sorted key_cmp ps ≡ true → is_lt (key_cmp p.0 k) ≡ is_sorted key_cmp (ps ++ (k, v) ∷ [])
rises_as ps k v i p len g e = both_say _ _ (rising_on ps k v i p len g e) (last_below ps k v i p g)

pub some_last : (ps : List Pair) (i : ℕ) → length ps ≡ suc i → slice_get ps i ≡ None → ⊥
some_last [] i len none = absurd cc
some_last (p ∷ ps) zero len none = absurd cc
some_last (p ∷ ps) (suc i) len none = some_last ps i (omega arith) none
