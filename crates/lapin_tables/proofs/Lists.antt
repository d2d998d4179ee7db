-- What stands at a place of a list that is a little changed.
use Rattle.std.proofs.Common.{◌≡◌, ◌≢◌, ℕ, zero, suc, ◌<◌, List, [], ◌∷◌, length, Some, refl, ap, arith, slice_get, slice_set}

module _ {X : Type 0} where
  pub get-set_same : (xs : List X) (i : ℕ) (y : X) → i < length xs → slice_get (slice_set xs i y) i ≡ Some y
  get-set_same [] i y h = absurd (omega arith)
  get-set_same (x ∷ xs) zero y h = refl
  get-set_same (x ∷ xs) (suc i) y h = get-set_same xs i y (omega arith)

  pub get-set_other : (xs : List X) (i k : ℕ) (y : X) → i ≢ k → slice_get (slice_set xs i y) k ≡ slice_get xs k
  get-set_other [] i k y h = refl
  get-set_other (x ∷ xs) zero zero y h = absurd (h refl)
  get-set_other (x ∷ xs) zero (suc k) y h = refl
  get-set_other (x ∷ xs) (suc i) zero y h = refl
  get-set_other (x ∷ xs) (suc i) (suc k) y h = get-set_other xs i k y (λ e. h (ap (λ n. suc n) e))
