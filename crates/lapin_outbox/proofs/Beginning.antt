-- Which publish begins, where some channels may not.
use Rattle.std.proofs.Common.{◌≡◌, ℕ, Bool, true, false, List, [], ◌∷◌, ◌++◌, Some, None, All, refl, sym, ◌∙◌, ap, subst, inl, inr}
use Rattle.std.specs.List.{find}
use Rattle.std.proofs.lemmas.Bool.{true≢false, eq-eqb, cases_Bool}
use Rattle.std.proofs.lemmas.Bool.Decides.{eqb_tells}
use Rattle.std.proofs.lemmas.List.Elements.{All-nil, All-cons}
use Rattle.lapin_rules.specs.Words.{without_first}
use Rattle.lapin_types.specs.declared.leaving.Publish.{Publish}
use Rattle.lapin_rules.specs.Drops.{is_on, publish_channel}
use Rattle.lapin_rules.specs.Flow.{unless_full}
use Rattle.lapin_rules.specs.Leaving.{may_begin}
use Rattle.lapin_outbox.specs.Passing.{of_key}

module _ {X : Type 0} (f : X → ℕ) where
  -- none may
  pub none-begins : (xs : List X) → (find (of_key f (λ _. false)) xs ≡ None) × (without_first (of_key f (λ _. false)) xs ≡ xs)
  none-begins [] = (refl, refl)
  none-begins (x ∷ xs) = let rest = none-begins xs in (rest.0, ap (λ ys. x ∷ ys) rest.1)

  module _ (t : ℕ → Bool) where
    taken-here : (x y : X) (xs : List X) → t (f y) ≡ true → find (of_key f t) (y ∷ xs) ≡ Some x → y ≡ x
    taken-here x y xs may h = let here : find (of_key f t) (y ∷ xs) ≡ Some y = rw may refl in let same : Some y ≡ Some x = sym here ∙ h in cc

    taken-later : (x y : X) (xs : List X) → t (f y) ≡ false → find (of_key f t) (y ∷ xs) ≡ Some x → find (of_key f t) xs ≡ Some x
    taken-later x y xs not h = let later : find (of_key f t) (y ∷ xs) ≡ find (of_key f t) xs = rw not refl in sym later ∙ h

    pub may-begin : (x : X) (xs : List X) → find (of_key f t) xs ≡ Some x → t (f x) ≡ true
    may-begin x [] h = cc
    may-begin x (y ∷ xs) h = elim (cases_Bool (t (f y))) [
      | inl may ↦ subst (λ (z : X). t (f z) ≡ true) (taken-here x y xs may h) may
      | inr not ↦ may-begin x xs (taken-later x y xs not h)
    ]

    -- it is the first of its channel
    pub first-of-channel : (x : X) (xs : List X) → find (of_key f t) xs ≡ Some x → find (is_on f (f x)) xs ≡ Some x
    first-of-channel x [] h = cc
    first-of-channel x (y ∷ xs) h = elim (cases_Bool (t (f y))) [
      | inl may ↦
          let same : y ≡ x = taken-here x y xs may h in
          let on : is_on f (f x) y ≡ true = eq-eqb (f y) (f x) (ap f same) in
          let here : find (is_on f (f x)) (y ∷ xs) ≡ Some y = rw on refl in
          here ∙ ap Some same
      | inr not ↦
          let rest = taken-later x y xs not h in
          elim (eqb_tells (f y) (f x)) [
            | inl same ↦ absurd (true≢false (sym (may-begin x xs rest) ∙ ap t (sym same.1) ∙ not))
            | inr other ↦ let later : find (is_on f (f x)) (y ∷ xs) ≡ find (is_on f (f x)) xs = rw other.0 refl in later ∙ first-of-channel x xs rest
          ]
    ]

    -- what stands in front of it and behind it
    pub front-of : (x : X) (xs : List X) → find (of_key f t) xs ≡ Some x → (front : List X) × (behind : List X) × (xs ≡ front ++ x ∷ behind) × All (λ y. t (f y) ≡ false) front × (without_first (of_key f t) xs ≡ front ++ behind)
    front-of x [] h = cc
    front-of x (y ∷ xs) h = elim (cases_Bool (t (f y))) [
      | inl may ↦
          let left : without_first (of_key f t) (y ∷ xs) ≡ xs = rw may refl in
          ([], xs, ap (λ z. z ∷ xs) (taken-here x y xs may h), All-nil (λ y. t (f y) ≡ false), left)
      | inr not ↦
          let rest = front-of x xs (taken-later x y xs not h) in
          let left : without_first (of_key f t) (y ∷ xs) ≡ y ∷ without_first (of_key f t) xs = rw not refl in
          (y ∷ rest.0, rest.1, ap (λ zs. y ∷ zs) rest.2, All-cons (λ y. t (f y) ≡ false) y rest.0 not rest.3, left ∙ ap (λ zs. y ∷ zs) rest.4)
    ]

-- ---- publishes, by the flow of content and the full channels

-- without flow none begins
pub none-flows : (flow : Bool) (full : ℕ → Bool) (ps : List Publish) → flow ≡ false → (None ≡ find (may_begin (unless_full flow full)) ps) × (ps ≡ without_first (may_begin (unless_full flow full)) ps)
none-flows true full ps h = cc
none-flows false full ps h = let none = none-begins publish_channel ps in (sym none.0, sym none.1)
