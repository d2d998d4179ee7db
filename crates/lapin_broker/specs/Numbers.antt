-- The numbers that whole publishes took, and what a settlement does to them. (RabbitMQ's publisher confirms.)
-- One slot a number, 1, 2, ..: filled while it isn't settled.
use Rattle.std.specs.Prelude.{ℕ, zero, suc, Bool, ◌&&◌, if◌then◌else◌, List, [], ◌∷◌, Option, None, length, nat_lt, nat_le}
use Rattle.std.specs.Option.{is_some}
use Rattle.lapin_tables.specs.Numbered.{under, with_under}

module _ {T : Type 0} where
  -- every number up to this one is settled
  abbrev pub settled_through : ℕ → List (Option T) → List (Option T)
  settled_through zero xs = xs
  settled_through (suc k) [] = []
  settled_through (suc k) (x ∷ xs) = None ∷ settled_through k xs

  -- a single one may be sent of a number that was read and isn't settled, a multiple one of any number from 1 to the count
  abbrev pub may_settle : ℕ → Bool → List (Option T) → Bool
  may_settle n multiple xs = if multiple then nat_lt 0 n && nat_le n (length xs) else is_some (under n xs)

  -- what a settlement covers is settled
  abbrev pub after_settlement : ℕ → Bool → List (Option T) → List (Option T)
  after_settlement n multiple xs = if multiple then settled_through n xs else with_under n None xs
