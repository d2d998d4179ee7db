use Rattle.std.proofs.Common.{arith}
use Rattle.lapin_call.proofs.asking.decimal_of.Goals as goal

-- the longest number has 20 digits
pub literal-requires : goal.literal-requires
literal-requires c = omega (arith, c.format.ensures.short)
