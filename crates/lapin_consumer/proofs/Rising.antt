-- The places of a channel rise, and those of its registered consumers are among them.
use Rattle.std.proofs.Common.{◌≡◌, ℕ, zero, suc, ◌<◌, ◌≤◌, ◌==◌, ◌&&◌, Bool, true, false, nat_lt, cond, List, [], ◌∷◌, ◌++◌, length, map, Option, Some, None, refl, sym, ◌∙◌, ap, subst, arith, slice_get, inl, inr, ne_eqb, eq-eqb}
use Rattle.std.specs.Option.{option_map}
use Rattle.std.specs.List.{filter}
use Rattle.std.proofs.lemmas.Bool.{eqb-true, ltb-true, ltb-false}
use Rattle.std.proofs.lemmas.Bool.Decides.{eqb_tells}
use Rattle.std.proofs.lemmas.List.{length-append}
use Rattle.std.proofs.lemmas.List.Folds.{list_any-append}
use Rattle.std.proofs.lemmas.Map.Views.{any-filter_same}
use Rattle.lapin_consumer.specs.Words.{map_at, places_at, on_place}
use Rattle.lapin_consumer.specs.Indexed.{Lists, RiseBetween, is_among, stays_on}
use Rattle.lapin_consumer.specs.Subscriptions.{Consumer, is_on, newcomer}
use Rattle.lapin_consumer.proofs.Places.{tested, length-map_at, get-map_at}
use Rattle.lapin_consumer.proofs.Leaving.{Ends, stood, suc_eqb, length-on, get-pushed, get-last, unlisted}
use Rattle.lapin_tables.proofs.Bools.{or_true}

-- ---- places that rise

rise-lower : (n k m : ℕ) (ps : List ℕ) → n ≤ k → RiseBetween k m ps → RiseBetween n m ps
rise-lower n k m [] le h = omega (arith, h)
rise-lower n k m (p ∷ ps) le h = (omega (arith, h.0), h.1)

rise-more : (n m : ℕ) (ps : List ℕ) → RiseBetween n m ps → RiseBetween n (suc m) ps
rise-more n m [] h = omega (arith, h)
rise-more n m (p ∷ ps) h = (h.0, rise-more (suc p) m ps h.1)

rise-push : (n m : ℕ) (ps : List ℕ) → RiseBetween n m ps → RiseBetween n (suc m) (ps ++ m ∷ [])
rise-push n m [] h = (h, omega arith)
rise-push n m (p ∷ ps) h = (h.0, rise-push (suc p) m ps h.1)

rise-suc : (n m : ℕ) (ps : List ℕ) → RiseBetween n m ps → RiseBetween (suc n) (suc m) (map suc ps)
rise-suc n m [] h = omega (arith, h)
rise-suc n m (p ∷ ps) h = (omega (arith, h.0), rise-suc (suc p) m ps h.1)

rise-filter : (test : ℕ → Bool) (n m : ℕ) (ps : List ℕ) → RiseBetween n m ps → RiseBetween n m (filter test ps)
rise-filter test n m [] h = h
rise-filter test n m (p ∷ ps) h =
    let rest : RiseBetween (suc p) m (filter test ps) = rise-filter test (suc p) m ps h.1 in
    tested (test p) (λ on. rw on (h.0, rest)) (λ off. rw off (rise-lower n (suc p) m (filter test ps) (omega (arith, h.0)) rest))

among-above : (n m k : ℕ) (ps : List ℕ) → RiseBetween n m ps → k < n → is_among k ps ≡ false
among-above n m k [] h lt = refl
among-above n m k (p ∷ ps) h lt =
    let apart : (p == k) ≡ false = ne_eqb p k (λ e. absurd (omega (arith, h.0))) in
    rw apart (among-above (suc p) m k ps h.1 (omega (arith, h.0)))

-- rising places are known by which they are
module _ (m : ℕ) where
  behind : (p q : ℕ) (ps qs : List ℕ) → RiseBetween (suc q) m qs → ((k : ℕ) → is_among k (p ∷ ps) ≡ is_among k (q ∷ qs)) → (q == p) ≡ false → q < p
  behind p q ps qs i same apart =
      let first : is_among p (p ∷ ps) ≡ true = rw (eq-eqb p p refl) refl in
      let later : is_among p (q ∷ qs) ≡ is_among p qs = rw apart refl in
      tested (nat_lt q p)
      (λ lower. ltb-true q p lower)
      (λ higher. let le : p ≤ q = ltb-false q p higher in let no : false ≡ true = sym (among-above (suc q) m p qs i (omega arith)) ∙ sym later ∙ sym (same p) ∙ first in cc)

  tails : (p : ℕ) (ps qs : List ℕ) → RiseBetween (suc p) m ps → RiseBetween (suc p) m qs → ((k : ℕ) → is_among k (p ∷ ps) ≡ is_among k (p ∷ qs)) → (k : ℕ) → is_among k ps ≡ is_among k qs
  tails p ps qs h i same k = elim (eqb_tells p k) [
    | inl one ↦ among-above (suc p) m k ps h (omega (arith, one.1)) ∙ sym (among-above (suc p) m k qs i (omega (arith, one.1)))
    | inr apart ↦
        let left : is_among k (p ∷ ps) ≡ is_among k ps = rw apart.0 refl in
        let right : is_among k (p ∷ qs) ≡ is_among k qs = rw apart.0 refl in
        sym left ∙ same k ∙ right
  ]

  rise-same : (n : ℕ) (ps qs : List ℕ) → RiseBetween n m ps → RiseBetween n m qs → ((k : ℕ) → is_among k ps ≡ is_among k qs) → ps ≡ qs
  rise-same n [] [] h i same = refl
  rise-same n [] (q ∷ qs) h i same = let no : false ≡ true = same q ∙ rw (eq-eqb q q refl) refl in cc
  rise-same n (p ∷ ps) [] h i same = let no : false ≡ true = sym (same p) ∙ rw (eq-eqb p p refl) refl in cc
  rise-same n (p ∷ ps) (q ∷ qs) h i same = elim (eqb_tells p q) [
    | inl one ↦
        let later : RiseBetween (suc p) m qs = subst (λ k. RiseBetween (suc k) m qs) (sym one.1) i.1 in
        let alike : (k : ℕ) → is_among k (p ∷ ps) ≡ is_among k (p ∷ qs) = subst (λ j. (k : ℕ) → is_among k (p ∷ ps) ≡ is_among k (j ∷ qs)) (sym one.1) same in
        subst (λ j. p ∷ ps ≡ j ∷ qs) one.1 (ap (λ rs. p ∷ rs) (rise-same (suc p) ps qs h.1 later (tails p ps qs h.1 later alike)))
    | inr apart ↦
        let one : q < p = behind p q ps qs i.1 same (ne_eqb q p (λ e. apart.1 (sym e))) in
        let other : p < q = behind q p qs ps h.1 (λ k. sym (same k)) apart.0 in
        absurd (omega arith)
  ]

-- ---- the places of those that pass

module _ {X : Type 0} (q : X → Bool) where
  -- the places of those that pass
  abbrev those : List X → List ℕ
  those xs = places_at (λ _ x. q x) xs

  those_rise : (xs : List X) → RiseBetween 0 (length xs) (those xs)
  those_rise [] = omega arith
  those_rise (x ∷ xs) =
      let later : RiseBetween 1 (suc (length xs)) (map suc (those xs)) = rise-suc 0 (length xs) (those xs) (those_rise xs) in
      tested (q x)
      (λ on. rw on (omega arith, later))
      (λ off. rw off (rise-lower 0 1 (suc (length xs)) (map suc (those xs)) (omega arith) later))

  zero-none : (ps : List ℕ) → is_among 0 (map suc ps) ≡ false
  zero-none [] = refl
  zero-none (k ∷ ps) = let apart : (suc k == 0) ≡ false = ne_eqb (suc k) 0 (λ e. absurd (omega arith)) in rw apart (zero-none ps)

  among-suc : (p : ℕ) (ps : List ℕ) → is_among (suc p) (map suc ps) ≡ is_among p ps
  among-suc p [] = refl
  among-suc p (k ∷ ps) = rw (suc_eqb k p, among-suc p ps) refl

  -- whether a place is among them
  abbrev passes_at : Option X → Bool
  passes_at None = false
  passes_at (Some x) = q x

  among-those : (p : ℕ) (xs : List X) → is_among p (those xs) ≡ passes_at (slice_get xs p)
  among-those p [] = refl
  among-those zero (x ∷ xs) = tested (q x) (λ on. rw on refl) (λ off. rw off (zero-none (those xs)))
  among-those (suc p) (x ∷ xs) =
      let later : is_among (suc p) (map suc (those xs)) ≡ passes_at (slice_get xs p) = among-suc p (those xs) ∙ among-those p xs in
      let apart : (0 == suc p) ≡ false = ne_eqb 0 (suc p) (λ e. absurd (omega arith)) in
      tested (q x) (λ on. rw (on, apart) later) (λ off. rw off later)

  pub those_all : (p : ℕ) (x : X) (xs : List X) → slice_get xs p ≡ Some x → q x ≡ true → is_among p (those xs) ≡ true
  those_all p x xs there on = among-those p xs ∙ ap passes_at there ∙ on

-- ---- the places of a channel

-- once those of consumers that left are dropped
module _ (c : ℕ) (xs : List Consumer) where
  pub swept : (ps : List ℕ) → Lists c xs ps → filter (λ p. stays_on c (slice_get xs p)) ps ≡ places_at (λ _ x. is_on c x) xs
  swept ps lists = rise-same (length xs) 0 (filter stays ps) (places_at (λ _ x. is_on c x) xs) (rise-filter stays 0 (length xs) ps lists.rise) (those_rise (is_on c) xs) (λ k. any-filter_same (λ j. j == k) stays (stays k) (λ j here. ap stays (eqb-true j k here)) ps ∙ found k (slice_get xs k) refl ∙ sym (among-those (is_on c) k xs))
    where
      stays : ℕ → Bool
      stays p = stays_on c (slice_get xs p)

      found : (k : ℕ) (o : Option Consumer) → slice_get xs k ≡ o → stays_on c o && is_among k ps ≡ passes_at (is_on c) o
      found k None at = refl
      found k (Some x) at = tested (is_on c x) (λ on. rw (on, lists.all k x at on) refl) (λ off. rw off refl)

  pub exact_lists : (ps : List ℕ) → ps ≡ places_at (λ _ x. is_on c x) xs → Lists c xs ps
  exact_lists ps is = subst (Lists c xs) (sym is) (record { rise = those_rise (is_on c) xs; all = λ p x there on. those_all (is_on c) p x xs there on })

  pub unlisted_none : Lists c xs [] → places_at (λ _ x. is_on c x) xs ≡ []
  unlisted_none lists = sym (swept [] lists)

-- as consumers change, and none of them comes to the channel
pub lists_moved : (f : ℕ → Consumer → Consumer) (c : ℕ) (xs : List Consumer) (ps : List ℕ) → ((i : ℕ) (x : Consumer) → is_on c (f i x) ≡ true → is_on c x ≡ true) → Lists c xs ps → Lists c (map_at f xs) ps
lists_moved f c xs ps stay lists = record {
  rise = subst (λ n. RiseBetween 0 n ps) (sym (length-map_at f xs)) lists.rise;
  all = λ p y there on. before p (slice_get xs p) y refl (sym (get-map_at f p xs) ∙ there) on;
}
  where
    before : (p : ℕ) (o : Option Consumer) (y : Consumer) → slice_get xs p ≡ o → option_map (f p) o ≡ Some y → is_on c y ≡ true → is_among p ps ≡ true
    before p None y at is on = cc
    before p (Some x) y at is on = let e : f p x ≡ y = cc in lists.all p x at (stay p x (ap (is_on c) e ∙ on))

-- as one leaves
pub lists_left : (f : Consumer → Consumer) (c p : ℕ) (xs : List Consumer) (ps : List ℕ) → Ends f → Lists c xs ps → Lists c (on_place f p xs) ps
lists_left f c p xs ps ends lists = record {
  rise = subst (λ n. RiseBetween 0 n ps) (sym (length-on f p xs)) lists.rise;
  all = λ i y there on.
      let s = stood f p i y xs there in
      tested (i == p)
      (λ here. let no : false ≡ true = sym (unlisted c (f s.before) (ends.off s.before)) ∙ ap (λ b. is_on c (cond b (f s.before) s.before)) (sym here) ∙ ap (is_on c) (sym s.became) ∙ on in cc)
      (λ away. lists.all i s.before s.there (ap (λ b. is_on c (cond b (f s.before) s.before)) (sym away) ∙ ap (is_on c) (sym s.became) ∙ on));
}

-- as one joins it, and as one joins another
module _ (c d : ℕ) (t q : List ℕ) (ys : List Consumer) (ps : List ℕ) (lists : Lists d ys ps) where
  longer : length (ys ++ newcomer c t q ∷ []) ≡ suc (length ys)
  longer = length-append ys (newcomer c t q ∷ []) ∙ omega arith

  pub lists_joined : Lists d (ys ++ newcomer c t q ∷ []) (ps ++ length ys ∷ [])
  lists_joined = record {
    rise = subst (λ n. RiseBetween 0 n (ps ++ length ys ∷ [])) (sym longer) (rise-push 0 (length ys) ps lists.rise);
    all = λ p x there on.
        list_any-append (λ k. k == p) ps (length ys ∷ [])
        ∙ elim (eqb_tells p (length ys)) [
          | inl last ↦ rw (eq-eqb (length ys) p (sym last.1)) (or_true (is_among p ps))
          | inr other ↦ rw (lists.all p x (get-pushed ys (newcomer c t q) p x there other.1) on) refl
        ];
  }

  pub lists_beside : (c == d) ≡ false → Lists d (ys ++ newcomer c t q ∷ []) ps
  lists_beside apart = record {
    rise = subst (λ n. RiseBetween 0 n ps) (sym longer) (rise-more 0 (length ys) ps lists.rise);
    all = λ p x there on. elim (eqb_tells p (length ys)) [
      | inl last ↦ let no : false ≡ true = sym apart ∙ ap (is_on d) (get-last ys (newcomer c t q) p x there last.1) ∙ on in cc
      | inr other ↦ lists.all p x (get-pushed ys (newcomer c t q) p x there other.1) on
    ];
  }
