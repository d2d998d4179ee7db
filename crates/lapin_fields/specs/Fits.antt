-- What a field has room for. All of this holds of every value of the types here, but for how deep values nest and how long they are: a
-- frame with a field that does not fit is not written.
use Rattle.std.specs.Prelude.{◌≡◌, ℕ, zero, suc, ◌^◌, ◌<◌, ◌≤◌, true, List, length, Option, Some, None, Result, Ok, Err}
use Rattle.std.specs.Int.{w8, w16, w32, w64}
use Rattle.std.specs.Int.RustNames.{FitsSigned}
use Rattle.std.specs.Str.{is_utf8}
use Rattle.lapin_values.specs.Data.{Leaf, boolean, short_short_int, short_short_uint, short_int, short_uint, long_int, long_uint, long_long_int, timestamp, long_string, byte_array, void, Data, leaf, array, table, Items, no_items, item, Pairs, no_pairs, pair, pairs_of}
use Rattle.lapin_values.specs.Table.{IsRising}
use Rattle.lapin_values.specs.ValueOf.{pairs_list}
use Rattle.lapin_fields.specs.declared.fault.WriteFault.{WriteFault}
use Rattle.lapin_fields.specs.declared.fault.WriteFault.TheVariants as faults
use Rattle.lapin_fields.specs.Values.{items_bytes, pairs_bytes}

-- a short text has at most 255 octets, which are UTF-8
pub record TextFits (t : List ℕ) : Type 0 where
  pub short : length t ≤ 255
  pub utf8 : is_utf8 t ≡ true

-- the length of a string stands in four octets
abbrev pub StringFits : List ℕ → Type 0
StringFits s = length s < 2 ^ 32

-- a number stands in its width
abbrev pub LeafFits : Leaf → Type 0
LeafFits (boolean b) = Unit {0}
LeafFits (short_short_int z) = FitsSigned w8 z
LeafFits (short_short_uint n) = n < 2 ^ 8
LeafFits (short_int z) = FitsSigned w16 z
LeafFits (short_uint n) = n < 2 ^ 16
LeafFits (long_int z) = FitsSigned w32 z
LeafFits (long_uint n) = n < 2 ^ 32
LeafFits (long_long_int z) = FitsSigned w64 z
LeafFits (timestamp n) = n < 2 ^ 64
LeafFits (long_string s) = StringFits s
LeafFits (byte_array s) = StringFits s
LeafFits void = Unit {0}

-- Arrays and tables nest at most as many levels as the first number says, their octets are no more than four octets count, and the keys
-- of a table rise strictly.
unfoldable mutual
  pub ValueFits : ℕ → Data → Type 0
  ValueFits level (leaf l) = LeafFits l
  ValueFits zero (array ds) = ⊥
  ValueFits (suc level) (array ds) = ItemsFit level ds × StringFits (items_bytes ds)
  ValueFits zero (table ps) = ⊥
  ValueFits (suc level) (table ps) = PairsFit level ps × IsRising (pairs_list ps) × StringFits (pairs_bytes ps)

  pub ItemsFit : ℕ → Items → Type 0
  ItemsFit level no_items = Unit {0}
  ItemsFit level (item d ds) = ValueFits level d × ItemsFit level ds

  pub PairsFit : ℕ → Pairs → Type 0
  PairsFit level no_pairs = Unit {0}
  PairsFit level (pair k d ps) = TextFits k × ValueFits level d × PairsFit level ps

-- a table that stands by itself, as the first of eight levels
abbrev pub TableFits : List (List ℕ × Data) → Type 0
TableFits ps = ValueFits 8 (table (pairs_of ps))

-- a value that holds no other has room; nothing is said of an array or a table
abbrev pub LeafPartFits : Data → Type 0
LeafPartFits (leaf l) = LeafFits l
LeafPartFits (array ds) = Unit {0}
LeafPartFits (table ps) = Unit {0}

-- a key and its value
abbrev pub PairFits : ℕ → List ℕ × Data → Type 0
PairFits level p = TextFits p.0 × ValueFits level p.1

-- a member, where there is one
abbrev pub MemberFits : {A : Type 0} → (A → Type 0) → Option A → Type 0
MemberFits P None = Unit {0}
MemberFits P (Some x) = P x

-- A writer refuses only what does not fit, unless memory ran out: with either cause, the fact does not hold.
abbrev pub Refused : Result (Unit {0}) WriteFault → Type 0 → Type 0
Refused (Ok u) P = Unit {0}
Refused (Err faults.TooLong) P = P → ⊥
Refused (Err faults.TooDeep) P = P → ⊥
Refused (Err faults.AboveLimit) P = ⊥
Refused (Err faults.NoMemory) P = Unit {0}
