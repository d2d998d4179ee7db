-- Laws of the words on lists: what one more element at the end does to them.
use Rattle.std.proofs.Common.{◌≡◌, ℕ, zero, suc, ◌+◌, ◌<◌, Bool, true, false, cond, ◌||◌, List, [], ◌∷◌, ◌++◌, Some, None, refl, ◌∙◌, ap, arith}
use Rattle.std.specs.List.{list_any, find, count_by}
use Rattle.std.proofs.lemmas.List.Folds.{list_any-append}
use Rattle.std.proofs.lemmas.List.Sums.{sum_by_push}
use Rattle.std.proofs.Math.Bool.{or-true}
use Rattle.lapin_rules.specs.Words.{after, through, since, many, one_after, rest_after}

pub or_false : (b : Bool) → (b || false) ≡ b
or_false true = refl
or_false false = refl

-- any of a list with one more at its end
pub any-push : {X : Type 0} (p : X → Bool) (xs : List X) (y : X) → list_any p (xs ++ y ∷ []) ≡ (list_any p xs || p y)
any-push p xs y = list_any-append p xs (y ∷ []) ∙ ap (λ b. list_any p xs || b) (or_false (p y))

pub after-push : {X : Type 0} (p : X → Bool) (xs : List X) (y : X) → after p (xs ++ y ∷ []) ≡ cond (list_any p xs) (after p xs ++ y ∷ []) []
after-push {X = X} p [] y = elim (p y) as (λ b. ◌≡◌ {A = List X} (cond b [] []) []) [ true ↦ refl | false ↦ refl ]
after-push p (x ∷ xs) y =
    elim (p x) as (λ b. cond b (xs ++ y ∷ []) (after p (xs ++ y ∷ [])) ≡ cond (b || list_any p xs) (cond b xs (after p xs) ++ y ∷ []) [])
    [ true ↦ refl | false ↦ after-push p xs y ]

pub through-push : {X : Type 0} (p : X → Bool) (xs : List X) (y : X) → through p (xs ++ y ∷ []) ≡ cond (list_any p xs) (through p xs) (xs ++ y ∷ [])
through-push p [] y = elim (p y) as (λ b. cond b (y ∷ []) (y ∷ []) ≡ y ∷ []) [ true ↦ refl | false ↦ refl ]
through-push p (x ∷ xs) y =
    elim (p x) as (λ b. cond b (x ∷ []) (x ∷ through p (xs ++ y ∷ [])) ≡ cond (b || list_any p xs) (cond b (x ∷ []) (x ∷ through p xs)) (x ∷ (xs ++ y ∷ []))) [
      | true ↦ refl
      | false ↦ ap (λ ys. x ∷ ys) (through-push p xs y) ∙ elim (list_any p xs) as (λ b. x ∷ cond b (through p xs) (xs ++ y ∷ []) ≡ cond b (x ∷ through p xs) (x ∷ (xs ++ y ∷ []))) [ true ↦ refl | false ↦ refl ]
    ]

-- nothing stands after what isn't there
pub after_none : {X : Type 0} (p : X → Bool) (xs : List X) → list_any p xs ≡ false → after p xs ≡ []
after_none p [] h = refl
after_none p (x ∷ xs) h =
    elim (p x) as (λ b. (b || list_any p xs) ≡ false → cond b xs (after p xs) ≡ [])
    [ true ↦ λ h. cc | false ↦ λ h. after_none p xs h ] h

pub find_none : {X : Type 0} (p : X → Bool) (xs : List X) → list_any p xs ≡ false → find p xs ≡ None
find_none p [] h = refl
find_none p (x ∷ xs) h =
    elim (p x) as (λ b. (b || list_any p xs) ≡ false → cond b (Some x) (find p xs) ≡ None)
    [ true ↦ λ h. cc | false ↦ λ h. find_none p xs h ] h

-- an element that is there is found in the longer list too
pub find_kept : {X : Type 0} (p : X → Bool) (xs : List X) (y : X) → list_any p xs ≡ true → find p (xs ++ y ∷ []) ≡ find p xs
find_kept p [] y h = cc
find_kept p (x ∷ xs) y h =
    elim (p x) as (λ b. (b || list_any p xs) ≡ true → cond b (Some x) (find p (xs ++ y ∷ [])) ≡ cond b (Some x) (find p xs))
    [ true ↦ λ h. refl | false ↦ λ h. find_kept p xs y h ] h

pub find_new : {X : Type 0} (p : X → Bool) (xs : List X) (y : X) → list_any p xs ≡ false → p y ≡ true → find p (xs ++ y ∷ []) ≡ Some y
find_new p [] y h e = rw e refl
find_new p (x ∷ xs) y h e =
    elim (p x) as (λ b. (b || list_any p xs) ≡ false → cond b (Some x) (find p (xs ++ y ∷ [])) ≡ Some y)
    [ true ↦ λ h. cc | false ↦ λ h. find_new p xs y h e ] h

one_more : (b : Bool) (n : ℕ) → n + cond b 1 0 ≡ cond b (n + 1) n
one_more true n = refl
one_more false n = omega arith

pub count-push : {X : Type 0} (p : X → Bool) (xs : List X) (y : X) → count_by p (xs ++ y ∷ []) ≡ cond (p y) (count_by p xs + 1) (count_by p xs)
count-push p xs y = rw (sum_by_push (λ x. cond (p x) 1 0) xs y) (one_more (p y) (count_by p xs))

pub since_none : {X : Type 0} (p : X → Bool) (xs : List X) → list_any p xs ≡ false → since p xs ≡ []
since_none p [] h = refl
since_none {X = X} p (x ∷ xs) h =
    elim (p x) as (λ b. (b || list_any p xs) ≡ false → cond (list_any p xs) (since p xs) (cond b xs []) ≡ [])
    [ true ↦ λ h. cc | false ↦ λ h. rw h refl ] h

pub since-push : {X : Type 0} (p : X → Bool) (xs : List X) (y : X) → since p (xs ++ y ∷ []) ≡ cond (p y) [] (cond (list_any p xs) (since p xs ++ y ∷ []) [])
since-push {X = X} p [] y = elim (p y) as (λ b. ◌≡◌ {A = List X} (cond b [] []) (cond b [] [])) [ true ↦ refl | false ↦ refl ]
since-push {X = X} p (x ∷ xs) y =
    rw (any-push p xs y, since-push p xs y)
    (elim (p y) as (λ b. cond (list_any p xs || b) (cond b [] (cond (list_any p xs) (since p xs ++ y ∷ []) [])) (cond (p x) (xs ++ y ∷ []) []) ≡ cond b [] (cond (p x || list_any p xs) (cond (list_any p xs) (since p xs) (cond (p x) xs []) ++ y ∷ []) [])) [
      | true ↦ rw (or-true (list_any p xs)) refl
      | false ↦ elim (list_any p xs) as (λ a. cond (a || false) (cond a (since p xs ++ y ∷ []) []) (cond (p x) (xs ++ y ∷ []) []) ≡ cond (p x || a) (cond a (since p xs) (cond (p x) xs []) ++ y ∷ []) []) [
        | true ↦ rw (or-true (p x)) refl
        | false ↦ elim (p x) as (λ b. cond b (xs ++ y ∷ []) [] ≡ cond (b || false) (cond b xs [] ++ y ∷ []) []) [ true ↦ refl | false ↦ refl ]
      ]
    ])

-- ---- the elements that pass, by their numbers

pub many-push : {X : Type 0} (p : X → Bool) (xs : List X) (y : X) → many p (xs ++ y ∷ []) ≡ cond (p y) (many p xs + 1) (many p xs)
many-push p [] y = refl
many-push p (x ∷ xs) y = rw (many-push p xs y) (elim (p x) as (λ a. cond a (cond (p y) (many p xs + 1) (many p xs) + 1) (cond (p y) (many p xs + 1) (many p xs)) ≡ cond (p y) (cond a (many p xs + 1) (many p xs) + 1) (cond a (many p xs + 1) (many p xs))) [
  | true ↦ elim (p y) as (λ b. cond b (many p xs + 1) (many p xs) + 1 ≡ cond b (many p xs + 1 + 1) (many p xs + 1)) [ true ↦ refl | false ↦ refl ]
  | false ↦ refl
])

pub one-push : {X : Type 0} (p : X → Bool) (k : ℕ) (xs : List X) (y : X) → k < many p xs → one_after p k (xs ++ y ∷ []) ≡ one_after p k xs
one-push p k [] y lt = absurd (omega arith)
one-push p zero (x ∷ xs) y lt =
    elim (p x) as (λ a. 0 < cond a (many p xs + 1) (many p xs) → cond a (Some x) (one_after p 0 (xs ++ y ∷ [])) ≡ cond a (Some x) (one_after p 0 xs))
    [ true ↦ λ lt. refl | false ↦ λ lt. one-push p 0 xs y lt ] lt
one-push p (suc k) (x ∷ xs) y lt =
    elim (p x) as (λ a. suc k < cond a (many p xs + 1) (many p xs) → cond a (one_after p k (xs ++ y ∷ [])) (one_after p (suc k) (xs ++ y ∷ [])) ≡ cond a (one_after p k xs) (one_after p (suc k) xs))
    [ true ↦ λ lt. one-push p k xs y (omega arith) | false ↦ λ lt. one-push p (suc k) xs y lt ] lt

pub rest-push : {X : Type 0} (p : X → Bool) (k : ℕ) (xs : List X) (y : X) → k < many p xs → rest_after p k (xs ++ y ∷ []) ≡ rest_after p k xs ++ y ∷ []
rest-push p k [] y lt = absurd (omega arith)
rest-push p zero (x ∷ xs) y lt =
    elim (p x) as (λ a. 0 < cond a (many p xs + 1) (many p xs) → cond a (xs ++ y ∷ []) (rest_after p 0 (xs ++ y ∷ [])) ≡ cond a xs (rest_after p 0 xs) ++ y ∷ [])
    [ true ↦ λ lt. refl | false ↦ λ lt. rest-push p 0 xs y lt ] lt
rest-push p (suc k) (x ∷ xs) y lt =
    elim (p x) as (λ a. suc k < cond a (many p xs + 1) (many p xs) → cond a (rest_after p k (xs ++ y ∷ [])) (rest_after p (suc k) (xs ++ y ∷ [])) ≡ cond a (rest_after p k xs) (rest_after p (suc k) xs) ++ y ∷ [])
    [ true ↦ λ lt. rest-push p k xs y (omega arith) | false ↦ λ lt. rest-push p (suc k) xs y lt ] lt

-- the last one
pub one_new : {X : Type 0} (p : X → Bool) (k : ℕ) (xs : List X) (y : X) → p y ≡ true → k ≡ many p xs → one_after p k (xs ++ y ∷ []) ≡ Some y
one_new p zero [] y new e = rw new refl
one_new p (suc k) [] y new e = absurd (omega arith)
one_new p zero (x ∷ xs) y new e =
    elim (p x) as (λ a. 0 ≡ cond a (many p xs + 1) (many p xs) → cond a (Some x) (one_after p 0 (xs ++ y ∷ [])) ≡ Some y)
    [ true ↦ λ e. absurd (omega arith) | false ↦ λ e. one_new p 0 xs y new e ] e
one_new p (suc k) (x ∷ xs) y new e =
    elim (p x) as (λ a. suc k ≡ cond a (many p xs + 1) (many p xs) → cond a (one_after p k (xs ++ y ∷ [])) (one_after p (suc k) (xs ++ y ∷ [])) ≡ Some y)
    [ true ↦ λ e. one_new p k xs y new (omega arith) | false ↦ λ e. one_new p (suc k) xs y new e ] e

pub rest_new : {X : Type 0} (p : X → Bool) (k : ℕ) (xs : List X) (y : X) → p y ≡ true → k ≡ many p xs → rest_after p k (xs ++ y ∷ []) ≡ []
rest_new p zero [] y new e = rw new refl
rest_new p (suc k) [] y new e = absurd (omega arith)
rest_new p zero (x ∷ xs) y new e =
    elim (p x) as (λ a. 0 ≡ cond a (many p xs + 1) (many p xs) → cond a (xs ++ y ∷ []) (rest_after p 0 (xs ++ y ∷ [])) ≡ [])
    [ true ↦ λ e. absurd (omega arith) | false ↦ λ e. rest_new p 0 xs y new e ] e
rest_new p (suc k) (x ∷ xs) y new e =
    elim (p x) as (λ a. suc k ≡ cond a (many p xs + 1) (many p xs) → cond a (rest_after p k (xs ++ y ∷ [])) (rest_after p (suc k) (xs ++ y ∷ [])) ≡ [])
    [ true ↦ λ e. rest_new p k xs y new (omega arith) | false ↦ λ e. rest_new p (suc k) xs y new e ] e

pub many-none : {X : Type 0} (p : X → Bool) (ys : List X) → list_any p ys ≡ false → many p ys ≡ 0
many-none p [] h = refl
many-none p (y ∷ ys) h = elim (p y) as (λ v. (v || list_any p ys) ≡ false → cond v (many p ys + 1) (many p ys) ≡ 0) [ true ↦ λ e. absurd cc | false ↦ λ e. many-none p ys e ] h
