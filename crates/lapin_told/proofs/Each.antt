-- What holds of each element of a list, of each value of a table by channel, and of what is found there.
use Rattle.std.proofs.Common.{◌≡◌, ℕ, zero, suc, ◌+◌, ◌<◌, ◌≤◌, ◌==◌, Bool, true, false, cond, List, [], ◌∷◌, ◌++◌, length, slice_get, Option, Some, None, refl, arith}
use Rattle.std.specs.List.{AllByRecursion as Each, filter, find}
use Rattle.lapin_tables.specs.ByChannel.{at_channel, on_channel}
use Rattle.lapin_rules.specs.Words.{without_first, with_channel, is_some, many, one_after, rest_after}

-- P holds of the value, if there is one
abbrev pub Of : {X : Type 0} → (X → Type 0) → Option X → Type 0
Of P None = Unit {0}
Of P (Some x) = P x

pub chosen : {X : Type 0} (P : X → Type 0) (b : Bool) (x y : X) → P x → P y → P (cond b x y)
chosen P true x y h k = h
chosen P false x y h k = k

pub chosen_if : {X : Type 0} (P : X → Type 0) (b : Bool) (x y : X) → (b ≡ true → P x) → P y → P (cond b x y)
chosen_if P true x y h k = h refl
chosen_if P false x y h k = k

pub each_weaker : {X : Type 0} (P Q : X → Type 0) → ((x : X) → P x → Q x) → (xs : List X) → Each P xs → Each Q xs
each_weaker P Q f [] h = tt
each_weaker P Q f (x ∷ xs) h = (f x h.0, each_weaker P Q f xs h.1)

module _ {X : Type 0} (P : X → Type 0) where
  pub each_append : (xs ys : List X) → Each P xs → Each P ys → Each P (xs ++ ys)
  each_append [] ys h k = k
  each_append (x ∷ xs) ys h k = (h.0, each_append xs ys h.1 k)

  pub each_filter : (p : X → Bool) (xs : List X) → Each P xs → Each P (filter p xs)
  each_filter p [] h = tt
  each_filter p (x ∷ xs) h = chosen (Each P) (p x) (x ∷ filter p xs) (filter p xs) (h.0, each_filter p xs h.1) (each_filter p xs h.1)

  pub each_without : (p : X → Bool) (xs : List X) → Each P xs → Each P (without_first p xs)
  each_without p [] h = tt
  each_without p (x ∷ xs) h = chosen (Each P) (p x) xs (x ∷ without_first p xs) h.1 (h.0, each_without p xs h.1)

  pub each_found : (p : X → Bool) (xs : List X) → Each P xs → Of P (find p xs)
  each_found p [] h = tt
  each_found p (x ∷ xs) h = chosen (Of P) (p x) (Some x) (find p xs) h.0 (each_found p xs h.1)

  pub each_get : (xs : List X) (i : ℕ) → Each P xs → Of P (slice_get xs i)
  each_get [] i h = tt
  each_get (x ∷ xs) zero h = h.0
  each_get (x ∷ xs) (suc i) h = each_get xs i h.1

  pub each_rest : (p : X → Bool) (k : ℕ) (xs : List X) → Each P xs → Each P (rest_after p k xs)
  each_rest p zero [] h = tt
  each_rest p (suc k) [] h = tt
  each_rest p zero (x ∷ xs) h = chosen (Each P) (p x) xs (rest_after p zero xs) h.1 (each_rest p zero xs h.1)
  each_rest p (suc k) (x ∷ xs) h = chosen (Each P) (p x) (rest_after p k xs) (rest_after p (suc k) xs) (each_rest p k xs h.1) (each_rest p (suc k) xs h.1)

-- ---- tables by channel

module _ {T : Type 0} (P : T → Type 0) where
  abbrev pub AtEach : List (ℕ × T) → Type 0
  AtEach all = Each (λ x. P x.1) all

  pub on_each : (c : ℕ) (f : T → T) → ((t : T) → P t → P (f t)) → (all : List (ℕ × T)) → AtEach all → AtEach (on_channel c f all)
  on_each c f keeps [] h = tt
  on_each c f keeps (x ∷ xs) h = chosen AtEach (x.0 == c) ((x.0, f x.1) ∷ xs) (x ∷ on_channel c f xs) (keeps x.1 h.0, h.1) (h.0, on_each c f keeps xs h.1)

  pub at_each : (c : ℕ) (all : List (ℕ × T)) → AtEach all → Of P (at_channel c all)
  at_each c [] h = tt
  at_each c (x ∷ xs) h = chosen (Of P) (x.0 == c) (Some x.1) (at_channel c xs) h.0 (at_each c xs h.1)

  pub with_each : (c : ℕ) (t : T) (all : List (ℕ × T)) → P t → AtEach all → AtEach (with_channel c t all)
  with_each c t all new h = chosen AtEach (is_some (at_channel c all)) (on_channel c (λ _. t) all) (all ++ (c, t) ∷ []) (on_each c (λ _. t) (λ _ _. new) all h) (each_append (λ x. P x.1) all ((c, t) ∷ []) h (new, tt))

-- ---- the elements that pass, by their numbers

module _ {X : Type 0} (p : X → Bool) where
  pub many_append : (xs ys : List X) → many p (xs ++ ys) ≡ many p xs + many p ys
  many_append [] ys = omega arith
  many_append (x ∷ xs) ys = let h = many_append xs ys in elim (p x) as (λ b. cond b (many p (xs ++ ys) + 1) (many p (xs ++ ys)) ≡ cond b (many p xs + 1) (many p xs) + many p ys) [ true ↦ omega (arith, h) | false ↦ h ]

  pub many_at_most : (xs : List X) → many p xs ≤ length xs
  many_at_most [] = omega arith
  many_at_most (x ∷ xs) = let h = many_at_most xs in elim (p x) as (λ b. cond b (many p xs + 1) (many p xs) ≤ suc (length xs)) [ true ↦ omega (arith, h) | false ↦ omega (arith, h) ]

  pub one_within : (k : ℕ) (xs ys : List X) → k < many p xs → one_after p k (xs ++ ys) ≡ one_after p k xs
  one_within k [] ys h = absurd (omega (arith, h))
  one_within zero (x ∷ xs) ys h = elim (p x) as (λ b. zero < cond b (many p xs + 1) (many p xs) → cond b (Some x) (one_after p zero (xs ++ ys)) ≡ cond b (Some x) (one_after p zero xs)) [ true ↦ λ _. refl | false ↦ λ e. one_within zero xs ys e ] h
  one_within (suc k) (x ∷ xs) ys h = elim (p x) as (λ b. suc k < cond b (many p xs + 1) (many p xs) → cond b (one_after p k (xs ++ ys)) (one_after p (suc k) (xs ++ ys)) ≡ cond b (one_after p k xs) (one_after p (suc k) xs)) [ true ↦ λ e. one_within k xs ys (omega (arith, e)) | false ↦ λ e. one_within (suc k) xs ys e ] h

  pub one_beyond : (j k : ℕ) (xs ys : List X) → k ≡ many p xs + j → one_after p k (xs ++ ys) ≡ one_after p j ys
  one_beyond j k [] ys h = let e : k ≡ j = omega (arith, h) in rw e refl
  one_beyond j zero (x ∷ xs) ys h = elim (p x) as (λ b. zero ≡ cond b (many p xs + 1) (many p xs) + j → cond b (Some x) (one_after p zero (xs ++ ys)) ≡ one_after p j ys) [ true ↦ λ e. absurd (omega (arith, e)) | false ↦ λ e. one_beyond j zero xs ys e ] h
  one_beyond j (suc k) (x ∷ xs) ys h = elim (p x) as (λ b. suc k ≡ cond b (many p xs + 1) (many p xs) + j → cond b (one_after p k (xs ++ ys)) (one_after p (suc k) (xs ++ ys)) ≡ one_after p j ys) [ true ↦ λ e. one_beyond j k xs ys (omega (arith, e)) | false ↦ λ e. one_beyond j (suc k) xs ys e ] h

  pub one_missing : (k : ℕ) (xs : List X) → many p xs ≤ k → one_after p k xs ≡ None
  one_missing zero [] h = refl
  one_missing (suc k) [] h = refl
  one_missing zero (x ∷ xs) h = elim (p x) as (λ b. cond b (many p xs + 1) (many p xs) ≤ zero → cond b (Some x) (one_after p zero xs) ≡ None) [ true ↦ λ e. absurd (omega (arith, e)) | false ↦ λ e. one_missing zero xs e ] h
  one_missing (suc k) (x ∷ xs) h = elim (p x) as (λ b. cond b (many p xs + 1) (many p xs) ≤ suc k → cond b (one_after p k xs) (one_after p (suc k) xs) ≡ None) [ true ↦ λ e. one_missing k xs (omega (arith, e)) | false ↦ λ e. one_missing (suc k) xs e ] h
