-- The place of the first element that passes, by a look at one after the other.
use Rattle.std.proofs.Common.{◌≡◌, ◌<◌, ◌≤◌, ◌+◌, ◌∙◌, ap, ℕ, Bool, true, false, List, [], ◌∷◌, length, get_or, Some, None, arith}
use Rattle.std.specs.List.{position}
use Rattle.std.proofs.lemmas.Grind.{common_steps}
use Rattle.std.proofs.lemmas.List.{get_or_default}
use Rattle.std.proofs.lemmas.List.Sums.{position_or_len_is}
use borrow.Author.Count.{below_more}

-- the first one, with none before it
pub found : {X : Type 0} (p : X → Bool) (xs : List X) (i : ℕ) (d : X) → i < length xs → ((k : ℕ) (e : X) → k < i → p (get_or xs k e) ≡ false) → p (get_or xs i d) ≡ true → position p xs ≡ Some i
found p xs i d below before here = rw (position_or_len_is p xs i d (omega arith) (λ k. before k d) (λ _. here)) (grind (arith, common_steps))

-- none
pub missed : {X : Type 0} (p : X → Bool) (xs : List X) (n : ℕ) → length xs ≤ n → ((k : ℕ) (e : X) → k < n → p (get_or xs k e) ≡ false) → position p xs ≡ None
missed p [] n le before = grind (arith, common_steps)
missed p (x ∷ xs) n le before = rw (position_or_len_is p (x ∷ xs) (length (x ∷ xs)) x (omega arith) (λ k below. before k x (omega arith)) (λ h. absurd (omega arith))) (grind (arith, common_steps))

-- one more that doesn't pass
pub passed_over : {X : Type 0} (p : X → Bool) (xs : List X) (i : ℕ) (e : X) → i < length xs → p (get_or xs i e) ≡ false → ((k : ℕ) (d : X) → k < i → p (get_or xs k d) ≡ false) → (k : ℕ) (d : X) → k < i + 1 → p (get_or xs k d) ≡ false
passed_over {X} p xs i e within here before k d below = below_more (λ (j : ℕ). (x : X) → p (get_or xs j x) ≡ false) i (λ j lower x. before j x lower) (λ x. ap p (get_or_default xs i x e within) ∙ here) k below d
