-- What a contract sees of values that are numbered from 1.
use Rattle.std.specs.Prelude.{Bool, true, false, [], ◌∷◌, ℕ, zero, suc, List, Option, Some, None, slice_index_or, slice_set, refl}
use Rattle.std.specs.Option.{option_map}
use Rattle.std.specs.Coded.{Coded, code_by, coded×, coded_ℕ, coded_list, coded_option}

-- the values in order of their numbers, `None` where one was taken, and for how many more there is room
pub record Slots (T : Type 0) : Type 0 where
  pub slots : List (Option T)
  pub spare : ℕ

-- slots are stored as the pair of the fields
abbrev pub slots_code : {T : Type 0} → Coded T → Coded (Slots T)
slots_code {T} code =
    code_by
    (List (Option T) × ℕ)
    (coded× (coded_list (coded_option code)) coded_ℕ)
    (λ s. (s.slots, s.spare))
    (λ p. record { slots = p.0; spare = p.1 })
    (λ _. refl)

module _ {T : Type 0} where
  -- whether the value under the first number was taken
  abbrev pub starts_taken : List (Option T) → Bool
  starts_taken [] = false
  starts_taken (None ∷ xs) = true
  starts_taken (Some x ∷ xs) = false

  -- the least number whose value is there
  abbrev pub first_kept : List (Option T) → Option ℕ
  first_kept [] = None
  first_kept (None ∷ xs) = option_map suc (first_kept xs)
  first_kept (Some x ∷ xs) = Some 1

  -- the value under a number, counted from 1: none where the number was never given or its value was taken
  abbrev pub under : ℕ → List (Option T) → Option T
  under zero xs = None
  under (suc k) xs = slice_index_or xs k None

  -- with this under the number, where the number was given
  abbrev pub with_under : ℕ → Option T → List (Option T) → List (Option T)
  with_under zero o xs = xs
  with_under (suc k) o xs = slice_set xs k o
