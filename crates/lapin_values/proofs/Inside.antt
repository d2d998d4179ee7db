-- What stands in an array or a table is no deeper than it.
use Rattle.std.proofs.Common.{ℕ, zero, suc, ◌≤◌, List, [], ◌∷◌, Option, Some, None, option_map, arith}
use Rattle.std.specs.Prelude.{IfSome, slice_get}
use Rattle.lapin_values.specs.Data.{Data, data_depth, array_depth, table_depth}

weaker : (o : Option Data) (m n : ℕ) → m ≤ n → IfSome o (λ d. data_depth d ≤ m) → IfSome o (λ d. data_depth d ≤ n)
weaker None m n l h = h
weaker (Some d) m n l h = omega arith

weaker_pair : (o : Option (List ℕ × Data)) (m n : ℕ) → m ≤ n → IfSome o (λ p. data_depth p.1 ≤ m) → IfSome o (λ p. data_depth p.1 ≤ n)
weaker_pair None m n l h = h
weaker_pair (Some p) m n l h = omega arith

pub array_inside : (ds : List Data) (n : ℕ) → IfSome (slice_get ds n) (λ d. data_depth d ≤ array_depth ds)
array_inside [] n = tt
array_inside (d ∷ ds) zero = omega arith
array_inside (d ∷ ds) (suc n) = weaker (slice_get ds n) (array_depth ds) (array_depth (d ∷ ds)) (omega arith) (array_inside ds n)

pub table_inside : (ps : List (List ℕ × Data)) (n : ℕ) → IfSome (slice_get ps n) (λ p. data_depth p.1 ≤ table_depth ps)
table_inside [] n = tt
table_inside (p ∷ ps) zero = omega arith
table_inside (p ∷ ps) (suc n) = weaker_pair (slice_get ps n) (table_depth ps) (table_depth (p ∷ ps)) (omega arith) (table_inside ps n)

pub from_mapped : {A B : Type 0} (f : A → B) (P : B → Type 0) (o : Option A) → IfSome (option_map f o) P → IfSome o (λ x. P (f x))
from_mapped f P None h = h
from_mapped f P (Some x) h = h
