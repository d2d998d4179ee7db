-- What a contract sees of numbers in order of joining, each of a key.
use Rattle.std.specs.Prelude.{ℕ, suc, ◌==◌, Bool, false, if◌then◌else◌, List, [], ◌∷◌, Option, Some, None}
use Rattle.std.specs.Option.{option_map}
use Rattle.lapin_tables.specs.Numbered.{with_under}

-- the key under each number, none where the number was taken, and for how many more there is room
pub record InOrder : Type 0 where
  pub keys : List (Option ℕ)
  pub spare : ℕ

-- whether the number was not taken and is of this key
abbrev pub waits_on : ℕ → Option ℕ → Bool
waits_on c None = false
waits_on c (Some d) = d == c

-- the first number of a key, counted from 1
abbrev pub first_on : ℕ → List (Option ℕ) → Option ℕ
first_on c [] = None
first_on c (o ∷ os) = if waits_on c o then Some 1 else option_map suc (first_on c os)

-- a number is taken, if there is one
abbrev pub without_number : {X : Type 0} → Option ℕ → List (Option X) → List (Option X)
without_number None xs = xs
without_number (Some n) xs = with_under n None xs
