-- Lists of things that have names, in rising order of the names' bytes, with one thing a name.
use Rattle.std.specs.Prelude.{◌≡◌, ℕ, ◌<◌, ◌≤◌, Bool, true, ◌&&◌, if◌then◌else◌, List, [], ◌∷◌, Option, Some, None, nat_eq, length, slice_index_or}
use Rattle.std.specs.Ordering.{nat_cmp, is_lt}
use Rattle.std.specs.Cmp.Lexicographic.{slice_cmp, pointwise}
use Rattle.std.specs.declared.cmp.Ordering.{Ordering}
use Rattle.std.specs.declared.cmp.Ordering.TheVariants.{Less, Greater}
use Rattle.std.specs.FinMap.Entries as entries

-- the order of names, by their bytes
abbrev pub name_cmp : List ℕ → List ℕ → Ordering
name_cmp = slice_cmp nat_cmp

module _ {X : Type 0} (name_of : X → List ℕ) where
  abbrev pub is_named : List ℕ → X → Bool
  is_named n x = pointwise nat_eq (name_of x) n

  -- the first that has the name
  abbrev pub named : List ℕ → List X → Option X
  named n [] = None
  named n (x ∷ xs) = if is_named n x then Some x else named n xs

  -- the one of the name through f; where there is none, what f makes of a fresh one takes its place in the order
  abbrev pub amended : List ℕ → X → (X → X) → List X → List X
  amended n fresh f [] = f fresh ∷ []
  amended n fresh f (x ∷ xs) = entries.by_order (name_cmp n (name_of x)) (f fresh ∷ x ∷ xs) (f x ∷ xs) (x ∷ amended n fresh f xs)

  -- the one of the name through f, if there is one
  abbrev pub changed : List ℕ → (X → X) → List X → List X
  changed n f [] = []
  changed n f (x ∷ xs) = (if is_named n x then f x else x) ∷ changed n f xs

  -- all but the one of the name
  abbrev pub without : List ℕ → List X → List X
  without n [] = []
  without n (x ∷ xs) = if is_named n x then without n xs else x ∷ without n xs

  -- every name is above n
  abbrev pub all_above : List ℕ → List X → Bool
  all_above n [] = true
  all_above n (x ∷ xs) = is_lt (name_cmp n (name_of x)) && all_above n xs

  -- the names rise strictly
  abbrev pub rises : List X → Bool
  rises [] = true
  rises (x ∷ xs) = all_above (name_of x) xs && rises xs

  -- what a search finds: the place of the one of the name
  pub record IsAt (n : List ℕ) (xs : List X) (i : ℕ) : Type 0 where
    pub in_range : i < length xs
    pub has_name : (d : X) → name_of (slice_index_or xs i d) ≡ n

  -- or where it would stand: lower names before the place, higher ones from it on
  pub record IsGapFor (n : List ℕ) (xs : List X) (i : ℕ) : Type 0 where
    pub in_range : i ≤ length xs
    pub lower_before : (k : ℕ) (d : X) → k < i → name_cmp (name_of (slice_index_or xs k d)) n ≡ Less
    pub higher_after : (k : ℕ) (d : X) → i ≤ k → k < length xs → name_cmp (name_of (slice_index_or xs k d)) n ≡ Greater
