-- What calls at each element of a list answer together.
use Rattle.std.specs.Prelude.{◌≡◌, ℕ, ◌+◌, ◌-◌, ◌^◌, ◌||◌, min, Bool, false, List, [], ◌∷◌}
use Rattle.lapin_threads.specs.declared.tally.Tally.{Tally}

-- P holds of the elements of two lists one by one, with an answer each; n is the sum of their counts, s whether one was cut short
abbrev pub TalliedAll : {T : Type 0} → (T → Tally → T → Type 0) → List T → ℕ → Bool → List T → Type 0
TalliedAll P [] n s [] = (n ≡ 0) × (s ≡ false)
TalliedAll P [] n s (y ∷ ys) = ⊥
TalliedAll P (x ∷ xs) n s [] = ⊥
TalliedAll P (x ∷ xs) n s (y ∷ ys) =
    (r : Tally) × (m : ℕ) × (u : Bool) × P x r y × TalliedAll P xs m u ys × (n ≡ r.count + m) × (s ≡ (r.short || u))

-- the same, with the sum as a number of the machine, at most the greatest
pub record Tallied {T : Type 0} (P : T → Tally → T → Type 0) (olds : List T) (sum : Tally) (news : List T) : Type 0 where
  pub total : ℕ
  pub each : TalliedAll P olds total sum.short news
  pub count : sum.count ≡ min total (2 ^ 64 - 1)

-- the tally of two together: the sum of their counts, at most the greatest of 64 bits, and short where either was
abbrev pub both_of : Tally → Tally → Tally
both_of x y = record { count = min (x.count + y.count) (2 ^ 64 - 1); short = x.short || y.short }
