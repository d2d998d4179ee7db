-- What stands inside a table or an array is less deep than it, so that a value is finite.
use Rattle.std.specs.Prelude.{ℕ, ◌≤◌, max, List, [], ◌∷◌, map, Option, Some, None, Box, Vec, box_value, vec_items}
use Rattle.std.proofs.Common.{arith, Global}
use denote.Param.Weighed.{most}
use Rattle.lapin_values.specs.Data.{data_depth, items_depth, pairs_depth, items_of, pairs_of, table_depth}
use Rattle.lapin_values.specs.Table.{rows}
use Rattle.lapin_values.specs.DataOf.{data_of, to_pair}
use Rattle.lapin_values.specs.declared.value.AMQPValue.{AMQPValue}
use Rattle.lapin_values.specs.declared.value.AMQPValue.TheVariants as V
use Rattle.lapin_values.specs.declared.value.FieldArray.TheDeep.{deep-AMQPValue, deep-FieldTable}

-- a value is at most as deep as its tree nests
pub deep_le : (v : AMQPValue) → deep-AMQPValue v ≤ data_depth (data_of v)
deep_le (V.Boolean b) = omega arith
deep_le (V.ShortShortInt z) = omega arith
deep_le (V.ShortShortUInt n) = omega arith
deep_le (V.ShortInt z) = omega arith
deep_le (V.ShortUInt n) = omega arith
deep_le (V.LongInt z) = omega arith
deep_le (V.LongUInt n) = omega arith
deep_le (V.LongLongInt z) = omega arith
deep_le (V.Timestamp n) = omega arith
deep_le (V.LongString bytes) = omega arith
deep_le (V.ByteArray bytes) = omega arith
deep_le (V.FieldArray ds) = omega arith
deep_le (V.FieldTable ps) = omega arith
deep_le V.Void = omega arith

-- the values of an array are at most as deep as their trees nest
pub array_falls : (vs : List AMQPValue) → max (most deep-AMQPValue vs) 0 ≤ items_depth (items_of (map data_of vs))
array_falls [] = omega arith
array_falls (v ∷ vs) = omega (arith, deep_le v, array_falls vs)

-- where each entry weighs at most the depth of its value, the entries of a table weigh at most the depth of what it holds
pub table_falls : (μ : (List ℕ × AMQPValue) → ℕ) → ((e : List ℕ × AMQPValue) → μ e ≤ deep-AMQPValue e.1) → (es : List (List ℕ × AMQPValue)) → max (most μ es) 0 ≤ pairs_depth (pairs_of (map to_pair es))
table_falls μ h [] = omega arith
table_falls μ h (e ∷ es) = omega (arith, h e, deep_le e.1, table_falls μ h es)

-- a pair weighs no more than its value, as a key weighs nothing
pub pair_weight : (d : ℕ) → max 0 (max d 0) ≤ d
pair_weight d = omega arith

-- a table of boxed entries is at most as deep as what its rows hold
pub boxed_falls : (e : Option (Box (Vec (List ℕ × AMQPValue) Global) Global)) → deep-FieldTable (record { entries = e }) ≤ table_depth (map to_pair (rows e))
boxed_falls None = omega arith
boxed_falls (Some b) = omega (arith, table_falls (λ p. max 0 (max (deep-AMQPValue p.1) 0)) (λ p. omega arith) (vec_items (box_value b)))
