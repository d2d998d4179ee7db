-- What a contract sees of the first and the last number of each key.
use Rattle.std.specs.Prelude.{ℕ, List, nat_eq, Option, Some, None}
use Rattle.std.specs.Map.{lookup}
use Rattle.lapin_outbox.specs.declared.ends.Ends.{Ends}

-- each key that has any, with its ends, in no order, and for how many more keys there is room
pub record OfKeys : Type 0 where
  pub ends : List (ℕ × Ends)
  pub spare : ℕ

-- the ends of a key, if it has any
abbrev pub at : ℕ → OfKeys → Option Ends
at c o = lookup (nat_eq c) o.ends

-- the last number
abbrev pub last_of : Ends → ℕ
last_of e = e.last

-- the ends once this number is the last: it is the first too where there is none
abbrev pub with_last : ℕ → Option Ends → Ends
with_last n None = record { first = n; last = n }
with_last n (Some e) = record { first = e.first; last = n }
