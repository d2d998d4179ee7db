-- The edits of lists by name keep the order.
use Rattle.std.proofs.Common.{◌≡◌, ℕ, Bool, true, false, cond, List, [], ◌∷◌, get_or, set, zero, suc, Result, Ok, Err, OnOk, OnErr, refl, sym, ap, subst, ◌∙◌}
use Rattle.std.specs.Prelude.{◌&&◌}
use Rattle.std.specs.Cmp.Lexicographic.{nat_list_cmp_total}
use Rattle.std.specs.Ordering.{is_lt}
use Rattle.std.specs.declared.cmp.Ordering.TheVariants.{Less, Equal, Greater}
use Rattle.std.specs.FinMap.Entries as entries
use Rattle.lapin_registry.specs.ByName.{name_cmp, is_named, amended, changed, without, all_above, rises}
use Rattle.lapin_registry.proofs.Names.{is_less, turned}
use Rattle.std.proofs.lemmas.Bool.{and_from, and_parts}

module _ {X : Type 0} (name_of : X → List ℕ) where
  -- what is below n is below all that is above n
  pub all_above_lower : (m n : List ℕ) (xs : List X) → name_cmp m n ≡ Less → all_above name_of n xs ≡ true → all_above name_of m xs ≡ true
  all_above_lower m n [] p h = refl
  all_above_lower m n (x ∷ xs) p h =
      let parts = and_parts _ _ h in
      and_from _ _ (ap is_lt (nat_list_cmp_total.trans m n (name_of x) p (is_less _ parts.0))) (all_above_lower m n xs p parts.1)

  module _ (n : List ℕ) (fresh : X) (f : X → X) (named : name_of (f fresh) ≡ n) (keeps : (x : X) → name_of (f x) ≡ name_of x) where
    above_amended : (m : List ℕ) (xs : List X) → name_cmp m n ≡ Less → all_above name_of m xs ≡ true → all_above name_of m (amended name_of n fresh f xs) ≡ true
    above_amended m [] p h = and_from _ _ (ap (λ l. is_lt (name_cmp m l)) named ∙ ap is_lt p) refl
    above_amended m (x ∷ xs) p h =
        let parts = and_parts _ _ h in
        elim (name_cmp n (name_of x)) as (λ o. all_above name_of m (entries.by_order o (f fresh ∷ x ∷ xs) (f x ∷ xs) (x ∷ amended name_of n fresh f xs)) ≡ true) [
          | Less ↦ and_from _ _ (ap (λ l. is_lt (name_cmp m l)) named ∙ ap is_lt p) h
          | Equal ↦ and_from _ _ (ap (λ l. is_lt (name_cmp m l)) (keeps x) ∙ parts.0) parts.1
          | Greater ↦ and_from _ _ parts.0 (above_amended m xs p parts.1)
        ]

    pub rises_amended : (xs : List X) → rises name_of xs ≡ true → rises name_of (amended name_of n fresh f xs) ≡ true
    rises_amended [] h = refl
    rises_amended (x ∷ xs) h =
        let parts = and_parts _ _ h in
        elim (name_cmp n (name_of x)) as (λ o. name_cmp n (name_of x) ≡ o → rises name_of (entries.by_order o (f fresh ∷ x ∷ xs) (f x ∷ xs) (x ∷ amended name_of n fresh f xs)) ≡ true) [
          | Less ↦ λ p. and_from _ _ (subst (λ l. all_above name_of l (x ∷ xs) ≡ true) (sym named) (and_from _ _ (ap is_lt p) (all_above_lower n (name_of x) xs p parts.0))) h
          | Equal ↦ λ p. and_from _ _ (subst (λ l. all_above name_of l xs ≡ true) (sym (keeps x)) parts.0) parts.1
          | Greater ↦ λ p. and_from _ _ (above_amended (name_of x) xs (turned (name_of x) n Greater p) parts.0) (rises_amended xs parts.1)
        ] refl

    pub rises_as_amended : (xs ys : List X) → rises name_of xs ≡ true → ys ≡ amended name_of n fresh f xs → rises name_of ys ≡ true
    rises_as_amended xs ys h e = ap (rises name_of) e ∙ rises_amended xs h

  module _ (n : List ℕ) (f : X → X) (keeps : (x : X) → name_of (f x) ≡ name_of x) where
    kept_name : (b : Bool) (x : X) → name_of (cond b (f x) x) ≡ name_of x
    kept_name true x = keeps x
    kept_name false x = refl

    above_changed : (m : List ℕ) (xs : List X) → all_above name_of m (changed name_of n f xs) ≡ all_above name_of m xs
    above_changed m [] = refl
    above_changed m (x ∷ xs) =
        ap (λ l. is_lt (name_cmp m l) && all_above name_of m (changed name_of n f xs)) (kept_name (is_named name_of n x) x)
        ∙ ap (λ b. is_lt (name_cmp m (name_of x)) && b) (above_changed m xs)

    pub rises_changed : (xs : List X) → rises name_of (changed name_of n f xs) ≡ rises name_of xs
    rises_changed [] = refl
    rises_changed (x ∷ xs) =
        ap (λ l. all_above name_of l (changed name_of n f xs) && rises name_of (changed name_of n f xs)) (kept_name (is_named name_of n x) x)
        ∙ ap (λ b. b && rises name_of (changed name_of n f xs)) (above_changed (name_of x) xs)
        ∙ ap (λ b. all_above name_of (name_of x) xs && b) (rises_changed xs)

  module _ (n : List ℕ) where
    above_without : (m : List ℕ) (xs : List X) → all_above name_of m xs ≡ true → all_above name_of m (without name_of n xs) ≡ true
    above_without m [] h = refl
    above_without m (x ∷ xs) h =
        let parts = and_parts _ _ h in
        elim (is_named name_of n x) as (λ b. all_above name_of m (cond b (without name_of n xs) (x ∷ without name_of n xs)) ≡ true) [
          | true ↦ above_without m xs parts.1
          | false ↦ and_from _ _ parts.0 (above_without m xs parts.1)
        ]

    pub rises_without : (xs : List X) → rises name_of xs ≡ true → rises name_of (without name_of n xs) ≡ true
    rises_without [] h = refl
    rises_without (x ∷ xs) h =
        let parts = and_parts _ _ h in
        elim (is_named name_of n x) as (λ b. rises name_of (cond b (without name_of n xs) (x ∷ without name_of n xs)) ≡ true) [
          | true ↦ rises_without xs parts.1
          | false ↦ and_from _ _ (above_without (name_of x) xs parts.0) (rises_without xs parts.1)
        ]

  -- one in the place of another of its name
  above_set : (m : List ℕ) (xs : List X) (i : ℕ) (x y : X) → x ≡ get_or xs i x → name_of y ≡ name_of x → all_above name_of m (set xs i y) ≡ all_above name_of m xs
  above_set m [] i x y is e = refl
  above_set m (z ∷ xs) zero x y is e = ap (λ l. is_lt (name_cmp m l) && all_above name_of m xs) (e ∙ ap name_of is)
  above_set m (z ∷ xs) (suc i) x y is e = ap (λ b. is_lt (name_cmp m (name_of z)) && b) (above_set m xs i x y is e)

  same_rising : (xs : List X) (i : ℕ) (x y : X) → x ≡ get_or xs i x → name_of y ≡ name_of x → rises name_of (set xs i y) ≡ rises name_of xs
  same_rising [] i x y is e = refl
  same_rising (z ∷ xs) zero x y is e = ap (λ l. all_above name_of l xs && rises name_of xs) (e ∙ ap name_of is)
  same_rising (z ∷ xs) (suc i) x y is e =
      ap (λ b. b && rises name_of (set xs i y)) (above_set (name_of z) xs i x y is e)
      ∙ ap (λ b. all_above name_of (name_of z) xs && b) (same_rising xs i x y is e)

  pub rises_set : (xs : List X) (i : ℕ) (x y : X) → rises name_of xs ≡ true → x ≡ get_or xs i x → name_of y ≡ name_of x → rises name_of (set xs i y) ≡ true
  rises_set xs i x y h is e = same_rising xs i x y is e ∙ h

  -- what was tried leaves the name, whether it was done or not
  pub name_stays : {A E : Type 0} (r : Result A E) (x y z : X) → OnOk r (y ≡ z) → OnErr r (y ≡ x) → name_of z ≡ name_of x → name_of y ≡ name_of x
  name_stays (Ok a) x y z ok err e = ap name_of ok ∙ e
  name_stays (Err b) x y z ok err e = ap name_of err

pub on_ok : {A E : Type 0} {P Q : Type 0} (r : Result A E) → (P → Q) → OnOk r P → OnOk r Q
on_ok (Ok a) f p = f p
on_ok (Err b) f p = tt
