-- How many of a list pass a test, as the list changes a little.
use Rattle.std.proofs.Common.{◌≡◌, ℕ, ◌+◌, ◌≤◌, Bool, true, false, cond, ◌||◌, List, [], ◌∷◌, ◌++◌, map, refl, sym, ◌∙◌, ap, arith, zero-add}
use Rattle.std.specs.List.{list_any, count_by}
use Rattle.std.proofs.lemmas.List.Sums.{sum_by-cons, sum_by-append}

module _ {X : Type 0} (p : X → Bool) where
  pub count-cons : (x : X) (xs : List X) → count_by p (x ∷ xs) ≡ cond (p x) 1 0 + count_by p xs
  count-cons x xs = sum_by-cons (λ (y : X). cond (p y) 1 0) x xs

  pub count-push : (xs : List X) (y : X) → count_by p (xs ++ y ∷ []) ≡ count_by p xs + cond (p y) 1 0
  count-push xs y = sum_by-append (λ (z : X). cond (p z) 1 0) xs (y ∷ []) ∙ ap (λ n. count_by p xs + n) (zero-add (cond (p y) 1 0))

  pub count-here : (x : X) (xs : List X) → p x ≡ true → 1 ≤ count_by p (x ∷ xs)
  count-here x xs passes = let one : ◌≡◌ {A = ℕ} (cond (p x) 1 0) 1 = ap (λ b. cond b 1 0) passes in omega (arith, count-cons x xs, one)

  -- another first element
  pub count-head : (a b : X) (xs : List X) → count_by p (a ∷ xs) + cond (p b) 1 0 ≡ count_by p (b ∷ xs) + cond (p a) 1 0
  count-head a b xs = omega (arith, count-cons a xs, count-cons b xs)

  -- another rest
  pub count-tail : (a : X) (xs ys : List X) (m n : ℕ) → count_by p ys + m ≡ count_by p xs + n → count_by p (a ∷ ys) + m ≡ count_by p (a ∷ xs) + n
  count-tail a xs ys m n rest = omega (arith, count-cons a xs, count-cons a ys)

  pub count-none : (xs : List X) → list_any p xs ≡ false → count_by p xs ≡ 0
  count-none [] none = refl
  count-none (x ∷ xs) none = count-cons x xs ∙ elim (p x) as (λ b. (b || list_any p xs) ≡ false → cond b 1 0 + count_by p xs ≡ 0) [
    | true ↦ λ none. cc
    | false ↦ λ none. let rest : count_by p xs ≡ 0 = count-none xs none in omega arith
  ] none

-- a function that keeps the answer of the test
pub count-map : {X : Type 0} (p : X → Bool) (f : X → X) (xs : List X) → ((x : X) → p (f x) ≡ p x) → count_by p (map f xs) ≡ count_by p xs
count-map p f [] same = refl
count-map p f (x ∷ xs) same =
    let rest : count_by p (map f xs) ≡ count_by p xs = count-map p f xs same in
    count-cons p (f x) (map f xs) ∙ rw (same x, rest) (sym (count-cons p x xs))
