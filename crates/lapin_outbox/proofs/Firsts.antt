-- The first element that passes a test: where it stands, what it is, and the list without it.
use Rattle.std.proofs.Common.{◌≡◌, ℕ, suc, ◌+◌, ◌≤◌, Bool, true, false, ◌<◌, cond, get_or, subst, Bor, List, [], ◌∷◌, length, take, drop, Option, Some, None, refl, sym, ◌∙◌, ap, arith, nat_lt, not, slice_get}
use Rattle.std.specs.Prelude.{IsSome, IfSome, OnSome}
use Rattle.std.specs.List.{find, position, position_or_len, prefix_len, remove}
use Rattle.std.proofs.lemmas.Bool.{ltb-false, ltb-true}
use Rattle.std.proofs.lemmas.List.{take_all, drop_all, append-nil}
use Rattle.std.proofs.lemmas.List.Folds.{find_at}
use Rattle.std.proofs.lemmas.Option.{cond_some, slice_get_past, slice_get-get_or, slice_get_read}
use Rattle.std.specs.Option.{option_copied}
use Rattle.lapin_rules.specs.Words.{without_first}

past-if : (k n : ℕ) (b : Bool) → nat_lt k n ≡ b → cond b (Some k) None ≡ None → n ≤ k
past-if k n true test none = cc
past-if k n false test none = ltb-false k n test

past : (k n : ℕ) → cond (nat_lt k n) (Some k) None ≡ None → n ≤ k
past k n none = past-if k n (nat_lt k n) refl none

module _ {X : Type 0} (p : X → Bool) where
  -- to take out what stands there is to take out the first
  remove-first : (xs : List X) → remove xs (position_or_len p xs) ≡ without_first p xs
  remove-first [] = refl
  remove-first (x ∷ xs) =
      let later : 1 + position_or_len p xs ≡ suc (position_or_len p xs) = omega arith in
      elim (p x) as (λ b. remove (x ∷ xs) (cond (not b) (1 + prefix_len (λ y. not (p y)) xs) 0) ≡ cond b xs (x ∷ without_first p xs)) [
        | true ↦ refl
        | false ↦ rw later (ap (λ ys. x ∷ ys) (remove-first xs))
      ]

  pub without-at : (xs : List X) (i : ℕ) → position p xs ≡ Some i → remove xs i ≡ without_first p xs
  without-at xs i at = ap (remove xs) (sym (cond_some (nat_lt (position_or_len p xs) (length xs)) (position_or_len p xs) i at).1) ∙ remove-first xs

  pub find-there : (xs : List X) (i : ℕ) → position p xs ≡ Some i → find p xs ≡ slice_get xs i
  find-there xs i at = find_at p xs ∙ ap (slice_get xs) (cond_some (nat_lt (position_or_len p xs) (length xs)) (position_or_len p xs) i at).1

  pub without-nowhere : (xs : List X) → position p xs ≡ None → xs ≡ without_first p xs
  without-nowhere xs none =
      let beyond : length xs ≤ position_or_len p xs = past (position_or_len p xs) (length xs) none in
      let all : take (position_or_len p xs) xs ≡ xs = take_all (position_or_len p xs) xs beyond in
      let over : length xs ≤ suc (position_or_len p xs) = omega arith in
      let gone : drop (suc (position_or_len p xs)) xs ≡ [] = drop_all (suc (position_or_len p xs)) xs over in
      sym (append-nil xs) ∙ sym (rw (all, gone) refl) ∙ remove-first xs

  pub find-nowhere : (xs : List X) → position p xs ≡ None → find p xs ≡ None
  find-nowhere xs none = find_at p xs ∙ slice_get_past xs (position_or_len p xs) (past (position_or_len p xs) (length xs) none)

-- where one passes, something stands
pub within : {X : Type 0} (p : X → Bool) (xs : List X) (i : ℕ) → position p xs ≡ Some i → i < length xs
within p xs i at =
    let there = cond_some (nat_lt (position_or_len p xs) (length xs)) (position_or_len p xs) i at in
    subst (λ k. k < length xs) there.1 (ltb-true (position_or_len p xs) (length xs) there.0)

-- what is taken from a place, or lent
pub taken-there : {X : Type 0} (xs : List X) (i : ℕ) (o : Option X) → i < length xs → IsSome o → ((d : X) → o ≡ Some (get_or xs i d)) → o ≡ slice_get xs i
taken-there xs i None lt some is = cc
taken-there xs i (Some x) lt some is = is x ∙ sym (slice_get-get_or xs i x lt)

pub lent-there : {X : Type 0} (xs : List X) (i : ℕ) (o : Option (Bor X)) → i < length xs → IsSome o → IfSome o (λ x. x.now ≡ get_or xs i x.now) → option_copied o ≡ slice_get xs i
lent-there xs i None lt some is = cc
lent-there xs i (Some x) lt some is = sym (slice_get_read xs (length xs) i x.now refl lt is)

pub on-some : {X P : Type 0} (o : Option X) → IsSome o → OnSome o P → P
on-some None some h = cc
on-some (Some x) some h = h
