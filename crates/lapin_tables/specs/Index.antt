-- How a table by channel number finds an entry. No public clause cites this module.
use Rattle.std.specs.Prelude.{◌≡◌, ℕ, zero, suc, ◌+◌, ◌≤◌, ◌^◌, ◌==◌, if◌then◌else◌, List, [], ◌∷◌, Option, Some, None, length, slice_get}
use Rattle.std.specs.Option.{option_map}

-- 1 for a place, 0 for none
abbrev pub one_if : Option ℕ → ℕ
one_if None = 0
one_if (Some p) = 1

module _ {T : Type 0} where
  -- the place of the first pair with this number
  abbrev pub place_of : ℕ → List (ℕ × T) → Option ℕ
  place_of c [] = None
  place_of c (e ∷ es) = if e.0 == c then Some 0 else option_map suc (place_of c es)

  -- under each channel number that has an entry stands the entry's place
  abbrev pub IsIndex : List ℕ → List (ℕ × T) → Type 0
  IsIndex places es = (c p : ℕ) → place_of c es ≡ Some p → slice_get places c ≡ Some p

  -- how many of the numbers below n have an entry
  abbrev pub placed : ℕ → List (ℕ × T) → ℕ
  placed zero es = 0
  placed (suc n) es = one_if (place_of n es) + placed n es

  -- an index whose places all fit: each entry has a channel number of its own
  abbrev pub IsFitting : List ℕ → List (ℕ × T) → Type 0
  IsFitting places es = IsIndex places es × ((length es ≤ placed (length places) es) × (length places ≤ 2 ^ 16))
