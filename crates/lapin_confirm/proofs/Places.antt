-- Where the message of a confirm stands among those that were taken.
use Rattle.std.proofs.Common.{◌≡◌, ℕ, zero, suc, ◌<◌, ◌==◌, true, false, cond, List, [], ◌∷◌, length, Option, Some, None, is_some, option_map, refl, ◌∙◌, ap, arith, slice_get, slice_index_or}
use Rattle.std.specs.List.{remove}
use Rattle.lapin_types.specs.declared.message.BasicReturnMessage.{BasicReturnMessage}
use Rattle.lapin_rules.specs.ReturnLists.{message_at, without}
use Rattle.lapin_confirm.specs.ReturnedMessages.{place_in, is_of}
use Rattle.lapin_tables.proofs.Channels.{nowhere-later}

pub found : (n p : ℕ) (xs : List (ℕ × BasicReturnMessage)) → ((k : ℕ) → k < p → is_of n (slice_get xs k) ≡ false) → is_of n (slice_get xs p) ≡ true → place_in n xs ≡ Some p
found n p [] before here = cc
found n zero (x ∷ xs) before here = rw here refl
found n (suc p) (x ∷ xs) before here =
    let first : (x.0 == n) ≡ false = before 0 (omega arith) in
    rw first (ap (option_map suc) (found n p xs (λ k lt. before (suc k) (omega arith)) here))

pub nowhere : (n : ℕ) (xs : List (ℕ × BasicReturnMessage)) → ((k : ℕ) → k < length xs → is_of n (slice_get xs k) ≡ false) → place_in n xs ≡ None
nowhere n [] none = refl
nowhere n (x ∷ xs) none =
    let first : (x.0 == n) ≡ false = none 0 (omega arith) in
    rw first (ap (option_map suc) (nowhere n xs (λ k lt. none (suc k) (omega arith))))

pub place-none : (n : ℕ) (xs : List (ℕ × BasicReturnMessage)) → place_in n xs ≡ None → (message_at n xs ≡ None) × (without n xs ≡ xs)
place-none n [] h = (refl, refl)
place-none n (x ∷ xs) h =
    elim (x.0 == n) as (λ b. cond b (Some 0) (option_map suc (place_in n xs)) ≡ None → (cond b (Some x.1) (message_at n xs) ≡ None) × (cond b xs (x ∷ without n xs) ≡ x ∷ xs)) [
      | true ↦ λ h. cc
      | false ↦ λ h. let rest = place-none n xs (nowhere-later (place_in n xs) h) in (rest.0, ap (λ ys. x ∷ ys) rest.1)
    ] h

-- there is a place exactly where there is a message
pub place-held : (n : ℕ) (xs : List (ℕ × BasicReturnMessage)) → is_some (place_in n xs) ≡ is_some (message_at n xs)
place-held n [] = refl
place-held n (x ∷ xs) =
    elim (x.0 == n) as (λ b. is_some (cond b (Some 0) (option_map suc (place_in n xs))) ≡ is_some (cond b (Some x.1) (message_at n xs))) [
      | true ↦ refl
      | false ↦ some_later (place_in n xs) ∙ place-held n xs
    ]
  where
    some_later : (o : Option ℕ) → is_some (option_map suc o) ≡ is_some o
    some_later None = refl
    some_later (Some q) = refl

-- nothing goes where there is none
pub without-none : (n : ℕ) (xs : List (ℕ × BasicReturnMessage)) → is_some (message_at n xs) ≡ false → without n xs ≡ xs
without-none n [] none = refl
without-none n (x ∷ xs) none =
    elim (x.0 == n) as (λ b. is_some (cond b (Some x.1) (message_at n xs)) ≡ false → cond b xs (x ∷ without n xs) ≡ x ∷ xs) [
      | true ↦ λ none. cc
      | false ↦ λ none. ap (λ ys. x ∷ ys) (without-none n xs none)
    ] none

pub record StandsAt (n p : ℕ) (xs : List (ℕ × BasicReturnMessage)) : Type 0 where
  pub within : p < length xs
  pub message : (d : ℕ × BasicReturnMessage) → message_at n xs ≡ Some (slice_index_or xs p d).1
  pub without : without n xs ≡ remove xs p

abbrev Later : ℕ → List (ℕ × BasicReturnMessage) → Type 0
Later n xs = (q : ℕ) → place_in n xs ≡ Some q → StandsAt n q xs

stands_here : (n p : ℕ) (x : ℕ × BasicReturnMessage) (xs : List (ℕ × BasicReturnMessage)) → (x.0 == n) ≡ true → Some 0 ≡ Some p → StandsAt n p (x ∷ xs)
stands_here n zero x xs is h = record { within = omega arith; message = λ d. rw is refl; without = rw is refl }
stands_here n (suc p) x xs is h = cc

stands_later : (n p : ℕ) (x : ℕ × BasicReturnMessage) (xs : List (ℕ × BasicReturnMessage)) (o : Option ℕ) → place_in n xs ≡ o → Later n xs → (x.0 == n) ≡ false → option_map suc o ≡ Some p → StandsAt n p (x ∷ xs)
stands_later n p x xs None known rest is h = cc
stands_later n zero x xs (Some q) known rest is h = cc
stands_later n (suc p) x xs (Some q) known rest is h =
    let same : Some q ≡ Some p = cc in
    let there : StandsAt n p xs = rest p (known ∙ same) in
    let within : p < length xs = there.within in
    record { within = omega arith; message = λ d. rw is (there.message d); without = rw is (ap (λ ys. x ∷ ys) there.without) }

pub place-some : (n p : ℕ) (xs : List (ℕ × BasicReturnMessage)) → place_in n xs ≡ Some p → StandsAt n p xs
place-some n p [] h = cc
place-some n p (x ∷ xs) h =
    elim (x.0 == n) as (λ b. (x.0 == n) ≡ b → cond b (Some 0) (option_map suc (place_in n xs)) ≡ Some p → StandsAt n p (x ∷ xs)) [
      | true ↦ λ is h. stands_here n p x xs is h
      | false ↦ λ is h. stands_later n p x xs (place_in n xs) refl (λ q. place-some n q xs) is h
    ] refl h
