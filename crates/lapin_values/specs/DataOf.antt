-- The tree that a value stands for. A table or an array inside it is already a list here.
use Rattle.lapin_values.specs.Data.{Data, leaf, array, table, boolean, short_short_int, short_short_uint, short_int, short_uint, long_int, long_uint, long_long_int, timestamp, long_string, byte_array, void, items_of, pairs_of}
use Rattle.std.specs.Prelude.{ℕ, List}
use Rattle.lapin_values.specs.declared.value.AMQPValue.{AMQPValue}
use Rattle.lapin_values.specs.declared.value.AMQPValue.TheVariants as V

-- the tree of a value: a leaf of the same kind, or the array or the table of what it holds
abbrev pub data_of : AMQPValue → Data
data_of (V.Boolean b) = leaf (boolean b)
data_of (V.ShortShortInt z) = leaf (short_short_int z)
data_of (V.ShortShortUInt n) = leaf (short_short_uint n)
data_of (V.ShortInt z) = leaf (short_int z)
data_of (V.ShortUInt n) = leaf (short_uint n)
data_of (V.LongInt z) = leaf (long_int z)
data_of (V.LongUInt n) = leaf (long_uint n)
data_of (V.LongLongInt z) = leaf (long_long_int z)
data_of (V.Timestamp n) = leaf (timestamp n)
data_of (V.LongString bytes) = leaf (long_string bytes)
data_of (V.ByteArray bytes) = leaf (byte_array bytes)
data_of (V.FieldArray ds) = array (items_of ds)
data_of (V.FieldTable ps) = table (pairs_of ps)
data_of V.Void = leaf void

-- an entry as a pair of plain data
abbrev pub to_pair : List ℕ × AMQPValue → List ℕ × Data
to_pair p = (p.0, data_of p.1)
