-- A pair whose key is above all others is put last.
use Rattle.std.proofs.Common.{◌≡◌, ℕ, List, [], ◌∷◌, ◌++◌, refl, ap, ◌∙◌, true}
use Rattle.std.specs.Ordering.{is_lt, ordering_reverse}
use Rattle.std.specs.Cmp.Lexicographic.{nat_list_cmp_total}
use Rattle.std.specs.declared.cmp.Ordering.{Ordering}
use Rattle.std.specs.declared.cmp.Ordering.TheVariants.{Less, Equal, Greater}
use Rattle.std.specs.FinMap.Entries.{is_sorted, below_all, by_order, put}
use Rattle.lapin_values.specs.Data.{Data}
use Rattle.lapin_values.specs.Table.{key_cmp}
use Rattle.std.proofs.lemmas.Bool.{and_parts, and_from}

abbrev Pair : Type 0
Pair = List ℕ × Data

less : (o : Ordering) → is_lt o ≡ true → o ≡ Less
less Less e = refl
less Equal e = cc
less Greater e = cc

below_last : (x : List ℕ) (ps : List Pair) (p : Pair) → below_all key_cmp x (ps ++ p ∷ []) ≡ true → is_lt (key_cmp x p.0) ≡ true
below_last x [] p e = (and_parts (is_lt (key_cmp x p.0)) true e).0
below_last x (q ∷ ps) p e = below_last x ps p (and_parts (is_lt (key_cmp x q.0)) (below_all key_cmp x (ps ++ p ∷ [])) e).1

below_front : (x : List ℕ) (ps qs : List Pair) → below_all key_cmp x (ps ++ qs) ≡ true → below_all key_cmp x ps ≡ true
below_front x [] qs e = refl
below_front x (p ∷ ps) qs e =
    let b = and_parts (is_lt (key_cmp x p.0)) (below_all key_cmp x (ps ++ qs)) e in
    and_from (is_lt (key_cmp x p.0)) (below_all key_cmp x ps) b.0 (below_front x ps qs b.1)

-- the front of what rises
pub rising_front : (ps qs : List Pair) → is_sorted key_cmp (ps ++ qs) ≡ true → is_sorted key_cmp ps ≡ true
rising_front [] qs e = refl
rising_front (p ∷ ps) qs e =
    let b = and_parts (below_all key_cmp p.0 (ps ++ qs)) (is_sorted key_cmp (ps ++ qs)) e in
    and_from (below_all key_cmp p.0 ps) (is_sorted key_cmp ps) (below_front p.0 ps qs b.0) (rising_front ps qs b.1)

pub put_last : (k : List ℕ) (v : Data) (ps : List Pair) → is_sorted key_cmp (ps ++ (k, v) ∷ []) ≡ true → put key_cmp k v ps ≡ ps ++ (k, v) ∷ []
put_last k v [] e = refl
put_last k v (p ∷ ps) e =
    let b = and_parts (below_all key_cmp p.0 (ps ++ (k, v) ∷ [])) (is_sorted key_cmp (ps ++ (k, v) ∷ [])) e in
    let above : key_cmp k p.0 ≡ Greater = nat_list_cmp_total.antisymm k p.0 ∙ ap ordering_reverse (less (key_cmp p.0 k) (below_last p.0 ps (k, v) b.0)) in
    ap (λ (o : Ordering). by_order o ((k, v) ∷ p ∷ ps) ((p.0, v) ∷ ps) (p ∷ put key_cmp k v ps)) above ∙ ap (λ (r : List Pair). p ∷ r) (put_last k v ps b.1)
