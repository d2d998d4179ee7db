use Rattle.std.proofs.Common.{refl, arith}
use Rattle.lapin_scalars.specs.declared.hexadecimal.TheConstants.{VALUES}
use Rattle.lapin_scalars.proofs.HexLaws.{value_said}
use Rattle.lapin_scalars.proofs.hexadecimal.value_of.Goals as goal

pub returns-clause-digit : goal.returns-clause-digit
returns-clause-digit c = (value_said VALUES c.args.byte refl (omega arith)).0

pub returns-clause-other : goal.returns-clause-other
returns-clause-other c = (value_said VALUES c.args.byte refl (omega arith)).1
