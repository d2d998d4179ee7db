-- What is kept, what became of the others, and how many were handed over, after any number of steps.
use Rattle.std.specs.Prelude.{◌≡◌, ◌⊎◌, ℕ, zero, suc, ◌≤◌, ◌<◌, List, [], ◌∷◌, ◌++◌, map}
use Rattle.std.specs.List.{filter}
use Rattle.lapin_keeping.specs.declared.fate.Fate.{Fate}
use Rattle.lapin_keeping.specs.declared.kept.Kept.{Kept}
use Rattle.lapin_keeping.specs.declared.message.Message.{Message}
use Rattle.lapin_keeping.specs.Keepings.{new_kept, is_unsettled, fates}

-- the messages that are kept, each fate that became known, in order, and how many messages were handed over
pub record Account : Type 0 where
  pub kept : List Kept
  pub told : List (ℕ × Fate)
  pub handed : ℕ

abbrev pub new_account : Account
new_account = record { kept = []; told = []; handed = 0 }

abbrev pub number_of : Kept → ℕ
number_of k = k.number

abbrev pub number_told : ℕ × Fate → ℕ
number_told f = f.0

-- a message more is handed over
abbrev pub IsHanded : Account → Account → Type 0
IsHanded a b = (m : Message) × ((most : ℕ) × (b ≡ record { kept = a.kept ++ new_kept (suc a.handed) m most ∷ []; told = a.told; handed = suc a.handed }))

-- what has a fate is kept no more, and told
abbrev pub IsSettled : Account → Account → Type 0
IsSettled a b = b ≡ record { kept = filter is_unsettled a.kept; told = a.told ++ fates a.kept; handed = a.handed }

-- something becomes known of messages that are kept, or they are published: each keeps its number
abbrev pub IsChanged : Account → Account → Type 0
IsChanged a b = (map number_of b.kept ≡ map number_of a.kept) × ((b.told ≡ a.told) × (b.handed ≡ a.handed))

-- the second follows the first by one step
abbrev pub IsStep : Account → Account → Type 0
IsStep a b = IsHanded a b ⊎ (IsSettled a b ⊎ IsChanged a b)

-- it follows by so many
abbrev pub Reaches : ℕ → Account → Account → Type 0
Reaches zero a b = b ≡ a
Reaches (suc n) a b = (c : Account) × (IsStep a c × Reaches n c b)

-- the numbers from 1 to this one
abbrev pub from_one : ℕ → List ℕ
from_one zero = []
from_one (suc n) = from_one n ++ suc n ∷ []

-- the numbers of what is kept, and of what was told
abbrev pub all_numbers : Account → List ℕ
all_numbers a = map number_of a.kept ++ map number_told a.told

-- numbers that rise, above the first and up to the second
abbrev pub RiseWithin : ℕ → ℕ → List ℕ → Type 0
RiseWithin low high [] = low ≤ high
RiseWithin low high (n ∷ ns) = (low < n) × RiseWithin n high ns

-- the same message, under the same number
abbrev pub IsSameMessage : Kept → Kept → Type 0
IsSameMessage k l = (l.number ≡ k.number) × (l.message ≡ k.message)
