-- What a contract sees of a line of entries, and how it is kept.
use Rattle.std.specs.Prelude.{ℕ, List, [], ◌∷◌, map, Option, Some, None}
use Rattle.std.specs.Option.{option_map}

-- the entries in order of joining, and for how many more there is room
pub record InQueue (X : Type 0) : Type 0 where
  pub entries : List X
  pub spare : ℕ

-- the entries that have not left, in order of their numbers
abbrev pub kept : {X : Type 0} → List (Option X) → List X
kept [] = []
kept (None ∷ os) = kept os
kept (Some x ∷ os) = x ∷ kept os

-- the key of the entry under each number, where f tells an entry's key
abbrev pub keys_by : {X : Type 0} → (X → ℕ) → List (Option X) → List (Option ℕ)
keys_by f os = map (option_map f) os
