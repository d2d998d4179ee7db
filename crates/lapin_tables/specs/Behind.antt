-- How values are stored that were passed over. No public clause cites this module.
use Rattle.std.specs.Prelude.{◌≡◌, ℕ, zero, suc, ◌<◌, List, [], ◌∷◌, Option, None}
use Rattle.lapin_tables.specs.ByChannel.{at_channel}

module _ {T : Type 0} where
  -- the slots of so many numbers above i: each has the value that stands beside the number, if one does
  abbrev pub spread : ℕ → ℕ → List (ℕ × T) → List (Option T)
  spread i zero es = []
  spread i (suc g) es = at_channel (suc i) es ∷ spread (suc i) g es

  -- the numbers rise, and each is above i
  abbrev pub Rises : ℕ → List (ℕ × T) → Type 0
  Rises i [] = Unit {0}
  Rises i (e ∷ es) = (i < e.0) × Rises e.0 es

  -- no value stands beside a number above g
  abbrev pub EndsBy : ℕ → List (ℕ × T) → Type 0
  EndsBy g es = (n : ℕ) → g < n → at_channel n es ≡ None
