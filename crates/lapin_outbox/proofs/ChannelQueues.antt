-- Entries under numbers, as a line sees them: what the number of a key's first entry, and of the first entry, tells of
-- the list of entries.
use Rattle.std.proofs.Common.{◌≡◌, ℕ, suc, ◌<◌, Bool, true, false, not, List, [], ◌∷◌, ◌++◌, drop, Option, Some, None, refl, sym, ◌∙◌, ap, subst, arith, slice_get, inl, inr}
use Rattle.std.specs.Prelude.{is_some}
use Rattle.std.specs.Option.{option_map}
use Rattle.lapin_rules.specs.Frames.{is_empty}
use Rattle.std.specs.List.{find}
use Rattle.std.proofs.lemmas.Bool.Decides.{eqb_tells}
use Rattle.lapin_tables.specs.Numbered.{under, with_under, first_kept}
use Rattle.lapin_rules.specs.Words.{without_first}
use Rattle.lapin_rules.specs.Drops.{is_on}
use Rattle.lapin_outbox.specs.Order.{first_on, without_number}
use Rattle.lapin_outbox.specs.ChannelQueue.{kept, keys_by}
use Rattle.lapin_outbox.proofs.Chains.{under-behind, with-behind, map-with}
use Rattle.lapin_tables.proofs.Channels.{nowhere-later}

pub next-number : (n : ℕ) (o : Option ℕ) → option_map suc o ≡ Some n → (q : ℕ) × (o ≡ Some q) × (suc q ≡ n)
next-number n None h = cc
next-number n (Some q) h = (q, refl, cc)

pub not-other : (a b : Bool) → a ≡ not b → b ≡ not a
not-other a true h = sym (ap not h)
not-other a false h = sym (ap not h)

none-next : (o : Option ℕ) → not (is_some (option_map suc o)) ≡ not (is_some o)
none-next None = refl
none-next (Some q) = refl

positive-next : (n : ℕ) (o : Option ℕ) → option_map suc o ≡ Some n → 0 < n
positive-next n None h = cc
positive-next n (Some q) h = let next : suc q ≡ n = cc in omega arith

first-positive : (c n : ℕ) (cs : List (Option ℕ)) → first_on c cs ≡ Some n → 0 < n
first-positive c n [] h = cc
first-positive c n (None ∷ cs) h = positive-next n (first_on c cs) h
first-positive c n (Some d ∷ cs) h = elim (eqb_tells d c) [
  | inl same ↦ let one : Some 1 ≡ Some n = rw same.0 at h in let is : 1 ≡ n = cc in omega arith
  | inr other ↦ let later : option_map suc (first_on c cs) ≡ Some n = rw other.0 at h in positive-next n (first_on c cs) later
]

module _ {X : Type 0} where
  kept-positive : (n : ℕ) (os : List (Option X)) → first_kept os ≡ Some n → 0 < n
  kept-positive n [] h = cc
  kept-positive n (None ∷ os) h = positive-next n (first_kept os) h
  kept-positive n (Some x ∷ os) h = let is : 1 ≡ n = cc in omega arith

  pub first-entry : (n : ℕ) (os : List (Option X)) → first_kept os ≡ Some n → under n os ≡ slice_get (kept os) 0
  first-entry n [] h = cc
  first-entry n (None ∷ os) h =
      let next = next-number n (first_kept os) h in
      let P : ℕ → Type 0 = λ m. under m (None ∷ os) ≡ slice_get (kept os) 0 in
      subst P next.2 (under-behind next.0 None os (kept-positive next.0 os next.1) ∙ first-entry next.0 os next.1)
  first-entry n (Some x ∷ os) h =
      let is : 1 ≡ n = cc in
      let P : ℕ → Type 0 = λ m. under m (Some x ∷ os) ≡ Some x in
      subst P is refl

  pub first-left : (n : ℕ) (os : List (Option X)) → first_kept os ≡ Some n → kept (with_under n None os) ≡ drop 1 (kept os)
  first-left n [] h = cc
  first-left n (None ∷ os) h =
      let next = next-number n (first_kept os) h in
      let P : ℕ → Type 0 = λ m. kept (with_under m None (None ∷ os)) ≡ drop 1 (kept os) in
      subst P next.2 (ap kept (with-behind next.0 None None os (kept-positive next.0 os next.1)) ∙ first-left next.0 os next.1)
  first-left n (Some x ∷ os) h =
      let is : 1 ≡ n = cc in
      let P : ℕ → Type 0 = λ m. kept (with_under m None (Some x ∷ os)) ≡ kept os in
      subst P is refl

  pub kept-none : (os : List (Option X)) → first_kept os ≡ None → kept os ≡ []
  kept-none [] h = refl
  kept-none (None ∷ os) h = kept-none os (nowhere-later (first_kept os) h)
  kept-none (Some x ∷ os) h = cc

  pub none-kept : (os : List (Option X)) → not (is_some (first_kept os)) ≡ is_empty (kept os)
  none-kept [] = refl
  none-kept (None ∷ os) = none-next (first_kept os) ∙ none-kept os
  none-kept (Some x ∷ os) = refl

  pub kept-push : (x : X) (os : List (Option X)) → kept (os ++ Some x ∷ []) ≡ kept os ++ x ∷ []
  kept-push x [] = refl
  kept-push x (None ∷ os) = kept-push x os
  kept-push x (Some y ∷ os) = ap (λ xs. y ∷ xs) (kept-push x os)

module _ {X : Type 0} (f : X → ℕ) where
  -- ---- a key's first

  pub found-of : (c n : ℕ) (os : List (Option X)) → first_on c (keys_by f os) ≡ Some n → under n os ≡ find (is_on f c) (kept os)
  found-of c n [] h = cc
  found-of c n (None ∷ os) h =
      let next = next-number n (first_on c (keys_by f os)) h in
      let P : ℕ → Type 0 = λ m. under m (None ∷ os) ≡ find (is_on f c) (kept os) in
      subst P next.2 (under-behind next.0 None os (first-positive c next.0 (keys_by f os) next.1) ∙ found-of c next.0 os next.1)
  found-of c n (Some x ∷ os) h = elim (eqb_tells (f x) c) [
    | inl same ↦
        let one : Some 1 ≡ Some n = rw same.0 at h in
        let is : 1 ≡ n = cc in
        let P : ℕ → Type 0 = λ m. under m (Some x ∷ os) ≡ find (is_on f c) (x ∷ kept os) in
        subst P is (rw same.0 refl)
    | inr other ↦
        let later : option_map suc (first_on c (keys_by f os)) ≡ Some n = rw other.0 at h in
        let next = next-number n (first_on c (keys_by f os)) later in
        let P : ℕ → Type 0 = λ m. under m (Some x ∷ os) ≡ find (is_on f c) (x ∷ kept os) in
        subst P next.2 (under-behind next.0 (Some x) os (first-positive c next.0 (keys_by f os) next.1) ∙ rw other.0 (found-of c next.0 os next.1))
  ]

  pub left-of : (c n : ℕ) (os : List (Option X)) → first_on c (keys_by f os) ≡ Some n → kept (with_under n None os) ≡ without_first (is_on f c) (kept os)
  left-of c n [] h = cc
  left-of c n (None ∷ os) h =
      let next = next-number n (first_on c (keys_by f os)) h in
      let P : ℕ → Type 0 = λ m. kept (with_under m None (None ∷ os)) ≡ without_first (is_on f c) (kept os) in
      subst P next.2 (ap kept (with-behind next.0 None None os (first-positive c next.0 (keys_by f os) next.1)) ∙ left-of c next.0 os next.1)
  left-of c n (Some x ∷ os) h = elim (eqb_tells (f x) c) [
    | inl same ↦
        let one : Some 1 ≡ Some n = rw same.0 at h in
        let is : 1 ≡ n = cc in
        let P : ℕ → Type 0 = λ m. kept (with_under m None (Some x ∷ os)) ≡ without_first (is_on f c) (x ∷ kept os) in
        subst P is (rw same.0 refl)
    | inr other ↦
        let later : option_map suc (first_on c (keys_by f os)) ≡ Some n = rw other.0 at h in
        let next = next-number n (first_on c (keys_by f os)) later in
        let P : ℕ → Type 0 = λ m. kept (with_under m None (Some x ∷ os)) ≡ without_first (is_on f c) (x ∷ kept os) in
        subst P next.2 (ap kept (with-behind next.0 None (Some x) os (first-positive c next.0 (keys_by f os) next.1)) ∙ rw other.0 (ap (λ xs. x ∷ xs) (left-of c next.0 os next.1)))
  ]

  pub none-of : (c : ℕ) (os : List (Option X)) → first_on c (keys_by f os) ≡ None → (find (is_on f c) (kept os) ≡ None) × (without_first (is_on f c) (kept os) ≡ kept os)
  none-of c [] h = (refl, refl)
  none-of c (None ∷ os) h = none-of c os (nowhere-later (first_on c (keys_by f os)) h)
  none-of c (Some x ∷ os) h = elim (eqb_tells (f x) c) [
    | inl same ↦ let no : ◌≡◌ {A = Option ℕ} (Some 1) None = rw same.0 at h in cc
    | inr other ↦
        let later : option_map suc (first_on c (keys_by f os)) ≡ None = rw other.0 at h in
        let rest = none-of c os (nowhere-later (first_on c (keys_by f os)) later) in
        (rw other.0 rest.0, rw other.0 (ap (λ xs. x ∷ xs) rest.1))
  ]

  -- ---- the first of all

  pub first-key : (n : ℕ) (x : X) (os : List (Option X)) → first_kept os ≡ Some n → under n os ≡ Some x → first_on (f x) (keys_by f os) ≡ Some n
  first-key n x [] h at = cc
  first-key n x (None ∷ os) h at =
      let next = next-number n (first_kept os) h in
      let P : ℕ → Type 0 = λ m. under m (None ∷ os) ≡ Some x in
      let there : under next.0 os ≡ Some x = sym (under-behind next.0 None os (kept-positive next.0 os next.1)) ∙ subst P (sym next.2) at in
      ap (option_map suc) (first-key next.0 x os next.1 there) ∙ ap Some next.2
  first-key n x (Some y ∷ os) h at =
      let is : 1 ≡ n = cc in
      let P : ℕ → Type 0 = λ m. under m (Some y ∷ os) ≡ Some x in
      let first : Some y ≡ Some x = subst P (sym is) at in
      let same : y ≡ x = cc in
      elim (eqb_tells (f y) (f x)) [
        | inl test ↦ rw test.0 (ap Some is)
        | inr other ↦ absurd (other.1 (ap f same))
      ]

  -- ---- the keys under the numbers

  pub keys-left : (n : ℕ) (os ps : List (Option X)) (cs ds : List (Option ℕ)) (r : Option ℕ) → keys_by f os ≡ cs → ps ≡ with_under n None os → r ≡ Some n → ds ≡ without_number r cs → keys_by f ps ≡ ds
  keys-left n os ps cs ds r same left is taken = ap (keys_by f) left ∙ map-with f n None os ∙ ap (with_under n None) same ∙ sym (taken ∙ ap (λ o. without_number o cs) is)
