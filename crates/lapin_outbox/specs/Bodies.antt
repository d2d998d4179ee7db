-- What is left of a payload that leaves body by body.
use Rattle.std.specs.Prelude.{ℕ, ◌≤◌, List, [], drop, length, Option, Some, None}
use Rattle.lapin_rules.specs.Frames.{cut}

-- the pieces of a payload behind the bytes that have left, each of at most room bytes; none once the payload is gone
abbrev pub pieces_left : ℕ → ℕ → Option (List ℕ) → List (List ℕ)
pieces_left room sent None = []
pieces_left room sent (Some bytes) = cut room (drop sent bytes)

-- no more has left of a payload than it has
abbrev pub IsWithin : ℕ → Option (List ℕ) → Type 0
IsWithin sent None = Unit {0}
IsWithin sent (Some bytes) = sent ≤ length bytes
