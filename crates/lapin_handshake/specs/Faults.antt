-- Why this side doesn't say what an opening asks of it.
use Rattle.std.specs.Prelude.{ℕ, List}
use Rattle.lapin_fields.specs.declared.fault.WriteFault.{WriteFault}
use Rattle.lapin_fields.specs.declared.fault.WriteFault.TheVariants as faults
use Rattle.lapin_handshake.specs.declared.fault.Unsaid.{Unsaid}
use Rattle.lapin_handshake.specs.declared.fault.Unsaid.TheVariants as unsaid
use Rattle.lapin_handshake.specs.Callers.{AreUntellable}

-- what a fault of a writer is to an opening: without memory none was there, and else there was no room
abbrev pub unsaid_of : WriteFault → Unsaid
unsaid_of faults.NoMemory = unsaid.NoMemory
unsaid_of faults.TooLong = unsaid.TooLong
unsaid_of faults.TooDeep = unsaid.TooLong
unsaid_of faults.AboveLimit = unsaid.TooLong

-- why pairs aren't told: they can't be, unless memory ran out
abbrev pub Untellable : Unsaid → List ℕ → Type 0
Untellable unsaid.NotPairs pairs = AreUntellable pairs
Untellable unsaid.TooLong pairs = ⊥
Untellable unsaid.NoMemory pairs = Unit {0}
