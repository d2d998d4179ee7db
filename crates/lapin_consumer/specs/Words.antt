-- Words on lists whose elements are named by their places.
use Rattle.std.specs.Prelude.{ℕ, zero, suc, Bool, if◌then◌else◌, List, [], ◌∷◌, ◌++◌, map, Option, Some, None}

module _ {X : Type 0} where
  -- each element through a function that is told its place
  abbrev pub map_at : (ℕ → X → X) → List X → List X
  map_at f [] = []
  map_at f (x ∷ xs) = f 0 x ∷ map_at (λ i. f (suc i)) xs

  -- the places whose elements pass, rising
  abbrev pub places_at : (ℕ → X → Bool) → List X → List ℕ
  places_at q [] = []
  places_at q (x ∷ xs) = if q 0 x then 0 ∷ map suc (places_at (λ i. q (suc i)) xs) else map suc (places_at (λ i. q (suc i)) xs)

-- what each element gives, in order of place
abbrev pub gather_at : {X Y : Type 0} → (ℕ → X → List Y) → List X → List Y
gather_at g [] = []
gather_at g (x ∷ xs) = g 0 x ++ gather_at (λ i. g (suc i)) xs

module _ {X : Type 0} where
  -- the element at a place through f
  abbrev pub on_place : (X → X) → ℕ → List X → List X
  on_place f p [] = []
  on_place f zero (x ∷ xs) = f x ∷ xs
  on_place f (suc p) (x ∷ xs) = x ∷ on_place f p xs

  -- the element at a place through f, if a place is named
  abbrev pub on_place_if : (X → X) → Option ℕ → List X → List X
  on_place_if f None xs = xs
  on_place_if f (Some p) xs = on_place f p xs

  -- the elements at some places through f, one place after another
  abbrev pub on_places : (X → X) → List ℕ → List X → List X
  on_places f [] xs = xs
  on_places f (p ∷ ps) xs = on_places f ps (on_place f p xs)

module _ {X Y : Type 0} where
  -- what the element at a place gives
  abbrev pub from_place : (X → List Y) → ℕ → List X → List Y
  from_place g p [] = []
  from_place g zero (x ∷ xs) = g x
  from_place g (suc p) (x ∷ xs) = from_place g p xs

  -- what the elements at some places give, one place after another, while each goes through f
  abbrev pub from_places : (X → X) → (ℕ → X → List Y) → List ℕ → List X → List Y
  from_places f g [] xs = []
  from_places f g (p ∷ ps) xs = from_place (g p) p xs ++ from_places f g ps (on_place f p xs)

-- the list without the first element that passes
abbrev pub without_first : {X : Type 0} → (X → Bool) → List X → List X
without_first p [] = []
without_first p (x ∷ xs) = if p x then xs else x ∷ without_first p xs
