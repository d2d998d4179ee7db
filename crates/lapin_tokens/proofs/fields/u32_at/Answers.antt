use Rattle.std.proofs.Common.{◌^◌, arith}
use Rattle.lapin_tokens.proofs.SaidLaws.{number_said, number_past}
use Rattle.lapin_tokens.proofs.fields.u32_at.Goals as goal

pub returns-in-Some : goal.returns-in-Some
returns-in-Some c =
    let said = c.in-Some.ensures.some in
    rw said.0 (number_said (2 ^ 32) c.in-Some.number _ (omega (arith, said.1)) said.1)

pub returns-in-Some-2 : goal.returns-in-Some-2
returns-in-Some-2 c =
    let said = c.in-Some.ensures.some in
    rw said.0 (number_past (2 ^ 32) c.in-Some.number _ (omega arith) said.1)
