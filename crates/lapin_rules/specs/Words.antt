-- Words on lists, in which the rules are said: after the first, up to the first, since the last, the first of a channel.
use Rattle.std.specs.Prelude.{ℕ, zero, suc, ◌+◌, Bool, true, false, if◌then◌else◌, List, [], ◌∷◌, ◌++◌, Option, Some, None}
use Rattle.std.specs.List.{list_any}
use Rattle.lapin_tables.specs.ByChannel.{at_channel, on_channel}

-- what stands after the first element that passes
abbrev pub after : {X : Type 0} → (X → Bool) → List X → List X
after p [] = []
after p (x ∷ xs) = if p x then xs else after p xs

-- what stands up to the first element that passes, and it
abbrev pub through : {X : Type 0} → (X → Bool) → List X → List X
through p [] = []
through p (x ∷ xs) = if p x then x ∷ [] else x ∷ through p xs

-- what stands after the last element that passes
abbrev pub since : {X : Type 0} → (X → Bool) → List X → List X
since p [] = []
since p (x ∷ xs) = if list_any p xs then since p xs else (if p x then xs else [])

-- the list with f applied to the first element that passes
abbrev pub on_first : {X : Type 0} → (X → Bool) → (X → X) → List X → List X
on_first p f [] = []
on_first p f (x ∷ xs) = if p x then f x ∷ xs else x ∷ on_first p f xs

-- the list without the first element that passes
abbrev pub without_first : {X : Type 0} → (X → Bool) → List X → List X
without_first p [] = []
without_first p (x ∷ xs) = if p x then xs else x ∷ without_first p xs

-- there is a value
abbrev pub is_some : {X : Type 0} → Option X → Bool
is_some None = false
is_some (Some x) = true

-- the table with this at the channel, which joins at the back where it has no entry yet
abbrev pub with_channel : {X : Type 0} → ℕ → X → List (ℕ × X) → List (ℕ × X)
with_channel c x all = if is_some (at_channel c all) then on_channel c (λ _. x) all else all ++ (c, x) ∷ []

-- how many elements pass
abbrev pub many : {X : Type 0} → (X → Bool) → List X → ℕ
many p [] = 0
many p (x ∷ xs) = if p x then many p xs + 1 else many p xs

-- the element that passes after so many that do, and what stands after it
abbrev pub one_after : {X : Type 0} → (X → Bool) → ℕ → List X → Option X
one_after p k [] = None
one_after p zero (x ∷ xs) = if p x then Some x else one_after p zero xs
one_after p (suc k) (x ∷ xs) = if p x then one_after p k xs else one_after p (suc k) xs

-- what stands after the element that passes after so many that do, none where there is no such element
abbrev pub rest_after : {X : Type 0} → (X → Bool) → ℕ → List X → List X
rest_after p k [] = []
rest_after p zero (x ∷ xs) = if p x then xs else rest_after p zero xs
rest_after p (suc k) (x ∷ xs) = if p x then rest_after p k xs else rest_after p (suc k) xs

-- the n-th element that passes, counted from 1, and what stands after it
abbrev pub nth : {X : Type 0} → (X → Bool) → ℕ → List X → Option X
nth p zero xs = None
nth p (suc k) xs = one_after p k xs

-- what stands after the n-th element that passes, counted from 1, none where there is no such element
abbrev pub after_nth : {X : Type 0} → (X → Bool) → ℕ → List X → List X
after_nth p zero xs = []
after_nth p (suc k) xs = rest_after p k xs
