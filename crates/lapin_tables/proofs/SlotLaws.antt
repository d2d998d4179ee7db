-- Laws of values that are numbered from 1, for crates above.
use Rattle.std.proofs.Common.{◌≡◌, ◌≢◌, ℕ, zero, suc, ◌+◌, ◌≤◌, Bool, true, cond, List, [], ◌∷◌, ◌++◌, map, length, Option, Some, None, refl, sym, ap, subst, arith, ◌⊎◌, inl, inr}
use Rattle.std.specs.Prelude.{count_by}
use Rattle.std.specs.Option.{option_map, IsSome}
use Rattle.lapin_tables.proofs.Counts.{count-cons, count-here, count-head, count-tail}
use Rattle.lapin_tables.specs.Numbered.{under, with_under, first_kept}
use Rattle.lapin_tables.proofs.Channels.{nowhere-later}

predecessor : (n : ℕ) (o : Option ℕ) → option_map suc o ≡ Some n → (q : ℕ) × (o ≡ Some q) × (n ≡ suc q)
predecessor n None h = cc
predecessor n (Some q) h = (q, refl, cc)

module _ {T : Type 0} where
  -- what is found has a number that was given
  pub given : (n : ℕ) (x : T) (xs : List (Option T)) → under n xs ≡ Some x → n ≤ length xs
  given zero x xs h = cc
  given (suc k) x [] h = cc
  given (suc zero) x (o ∷ xs) h = omega arith
  given (suc (suc k)) x (o ∷ xs) h = let rest : suc k ≤ length xs = given (suc k) x xs h in omega arith

  pub under-same : (n : ℕ) (o : Option T) (x : T) (xs : List (Option T)) → under n xs ≡ Some x → under n (with_under n o xs) ≡ o
  under-same zero o x xs h = cc
  under-same (suc k) o x [] h = cc
  under-same (suc zero) o x (p ∷ xs) h = refl
  under-same (suc (suc k)) o x (p ∷ xs) h = under-same (suc k) o x xs h

  pub under-other : (m n : ℕ) (o : Option T) (xs : List (Option T)) → m ≢ n → under m (with_under n o xs) ≡ under m xs
  under-other zero n o xs apart = refl
  under-other (suc j) zero o xs apart = refl
  under-other (suc j) (suc k) o [] apart = refl
  under-other (suc zero) (suc zero) o (p ∷ xs) apart = absurd (apart refl)
  under-other (suc zero) (suc (suc k)) o (p ∷ xs) apart = refl
  under-other (suc (suc j)) (suc zero) o (p ∷ xs) apart = refl
  under-other (suc (suc j)) (suc (suc k)) o (p ∷ xs) apart = under-other (suc j) (suc k) o xs (λ e. apart (ap suc e))

  pub length-with : (n : ℕ) (o : Option T) (xs : List (Option T)) → length (with_under n o xs) ≡ length xs
  length-with zero o xs = refl
  length-with (suc k) o [] = refl
  length-with (suc zero) o (p ∷ xs) = refl
  length-with (suc (suc k)) o (p ∷ xs) = ap suc (length-with (suc k) o xs)

  -- how many slots pass, as one changes
  pub count-with : (p : Option T → Bool) (n : ℕ) (o : Option T) (x : T) (xs : List (Option T)) → under n xs ≡ Some x → count_by p (with_under n o xs) + cond (p (Some x)) 1 0 ≡ count_by p xs + cond (p o) 1 0
  count-with p zero o x xs h = cc
  count-with p (suc k) o x [] h = cc
  count-with p (suc zero) o x (q ∷ xs) h = let P : Option T → Type 0 = λ r. count_by p (o ∷ xs) + cond (p (Some x)) 1 0 ≡ count_by p (r ∷ xs) + cond (p o) 1 0 in subst P (sym h) (count-head p o (Some x) xs)
  count-with p (suc (suc k)) o x (q ∷ xs) h = count-tail p q xs (with_under (suc k) o xs) (cond (p (Some x)) 1 0) (cond (p o) 1 0) (count-with p (suc k) o x xs h)

  -- a slot that passes is counted
  pub counted : (p : Option T → Bool) (n : ℕ) (x : T) (xs : List (Option T)) → under n xs ≡ Some x → p (Some x) ≡ true → 1 ≤ count_by p xs
  counted p zero x xs h passes = cc
  counted p (suc k) x [] h passes = cc
  counted p (suc zero) x (q ∷ xs) h passes = let P : Option T → Type 0 = λ r. 1 ≤ count_by p (r ∷ xs) in subst P (sym h) (count-here p (Some x) xs passes)
  counted p (suc (suc k)) x (q ∷ xs) h passes = omega (arith, count-cons p q xs, counted p (suc k) x xs h passes)

  pub under-push : (n : ℕ) (o : Option T) (x : T) (xs : List (Option T)) → under n xs ≡ Some x → under n (xs ++ o ∷ []) ≡ Some x
  under-push zero o x xs h = cc
  under-push (suc k) o x [] h = cc
  under-push (suc zero) o x (p ∷ xs) h = h
  under-push (suc (suc k)) o x (p ∷ xs) h = under-push (suc k) o x xs h

  pub under-last : (n : ℕ) (o : Option T) (xs : List (Option T)) → n ≡ length xs + 1 → under n (xs ++ o ∷ []) ≡ o
  under-last zero o xs h = absurd (omega arith)
  under-last (suc zero) o [] h = refl
  under-last (suc (suc k)) o [] h = absurd (omega arith)
  under-last (suc zero) o (p ∷ xs) h = absurd (omega arith)
  under-last (suc (suc k)) o (p ∷ xs) h = under-last (suc k) o xs (omega arith)

  -- what is found in a longer list was there, or is the last
  pub under-pushed : (n : ℕ) (o : Option T) (x : T) (xs : List (Option T)) → under n (xs ++ o ∷ []) ≡ Some x → (under n xs ≡ Some x) ⊎ ((n ≡ length xs + 1) × (o ≡ Some x))
  under-pushed zero o x xs h = cc
  under-pushed (suc zero) o x [] h = inr (refl, h)
  under-pushed (suc (suc k)) o x [] h = cc
  under-pushed (suc zero) o x (p ∷ xs) h = inl h
  under-pushed (suc (suc k)) o x (p ∷ xs) h =
      elim (under-pushed (suc k) o x xs h) [
        | inl old ↦ inl old
        | inr new ↦ let last : suc k ≡ length xs + 1 = new.0 in inr (omega arith, new.1)
      ]

  -- two lists of slots with the same values are one
  pub same-slots : (xs ys : List (Option T)) → length xs ≡ length ys → ((k : ℕ) → under (suc k) xs ≡ under (suc k) ys) → xs ≡ ys
  same-slots [] [] h same = refl
  same-slots [] (y ∷ ys) h same = cc
  same-slots (x ∷ xs) [] h same = cc
  same-slots (x ∷ xs) (y ∷ ys) h same =
      let first : x ≡ y = same 0 in
      let rest : xs ≡ ys = same-slots xs ys (omega arith) (λ k. same (suc k)) in
      cc

  -- ---- the first number whose value is there

  under-next : (n : ℕ) (o : Option T) (xs : List (Option T)) → IsSome (under n xs) → IsSome (under (suc n) (o ∷ xs))
  under-next zero o xs h = cc
  under-next (suc k) o xs h = h

  pub first-there : (n : ℕ) (xs : List (Option T)) → first_kept xs ≡ Some n → IsSome (under n xs)
  first-there n [] h = cc
  first-there n (Some x ∷ xs) h = let one : 1 ≡ n = cc in let P : ℕ → Type 0 = λ m. IsSome (under m (Some x ∷ xs)) in subst P one refl
  first-there n (None ∷ xs) h =
      let before = predecessor n (first_kept xs) h in
      let P : ℕ → Type 0 = λ m. IsSome (under m (None ∷ xs)) in
      subst P (sym before.2) (under-next before.0 None xs (first-there before.0 xs before.1))

  -- no value is there below it
  pub first-least : (m n : ℕ) (x : T) (xs : List (Option T)) → first_kept xs ≡ Some n → under m xs ≡ Some x → n ≤ m
  first-least m n x [] h there = cc
  first-least zero n x (o ∷ xs) h there = cc
  first-least (suc j) n x (Some y ∷ xs) h there = let one : 1 ≡ n = cc in omega arith
  first-least (suc zero) n x (None ∷ xs) h there = cc
  first-least (suc (suc j)) n x (None ∷ xs) h there =
      let before = predecessor n (first_kept xs) h in
      let below : before.0 ≤ suc j = first-least (suc j) before.0 x xs before.1 there in
      let same : n ≡ suc before.0 = before.2 in
      omega arith

  pub first-none : (m : ℕ) (x : T) (xs : List (Option T)) → first_kept xs ≡ None → under m xs ≡ Some x → ⊥
  first-none zero x xs h there = cc
  first-none (suc k) x [] h there = cc
  first-none (suc k) x (Some y ∷ xs) h there = cc
  first-none (suc zero) x (None ∷ xs) h there = cc
  first-none (suc (suc k)) x (None ∷ xs) h there = first-none (suc k) x xs (nowhere-later (first_kept xs) h) there

-- ---- slots through a function

module _ {T U : Type 0} where
  pub under-map : (f : T → U) (n : ℕ) (xs : List (Option T)) → under n (map (option_map f) xs) ≡ option_map f (under n xs)
  under-map f zero xs = refl
  under-map f (suc k) [] = refl
  under-map f (suc zero) (o ∷ xs) = refl
  under-map f (suc (suc k)) (o ∷ xs) = under-map f (suc k) xs

  pub map-same : (f g : T → U) (xs : List (Option T)) → ((k : ℕ) (x : T) → under (suc k) xs ≡ Some x → f x ≡ g x) → map (option_map f) xs ≡ map (option_map g) xs
  map-same f g [] h = refl
  map-same f g (None ∷ xs) h = ap (λ ys. None ∷ ys) (map-same f g xs (λ k. h (suc k)))
  map-same f g (Some x ∷ xs) h =
      let here : f x ≡ g x = h 0 x refl in
      let rest : map (option_map f) xs ≡ map (option_map g) xs = map-same f g xs (λ k. h (suc k)) in
      cc

-- a function that leaves what is there
pub map-kept : {T : Type 0} (f : T → T) (xs : List (Option T)) → ((k : ℕ) (x : T) → under (suc k) xs ≡ Some x → f x ≡ x) → map (option_map f) xs ≡ xs
map-kept f [] h = refl
map-kept f (None ∷ xs) h = ap (λ ys. None ∷ ys) (map-kept f xs (λ k. h (suc k)))
map-kept f (Some x ∷ xs) h =
    let here : f x ≡ x = h 0 x refl in
    let rest : map (option_map f) xs ≡ xs = map-kept f xs (λ k. h (suc k)) in
    cc
