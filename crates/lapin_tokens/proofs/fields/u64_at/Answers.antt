use Rattle.std.proofs.Common.{◌^◌, arith}
use Rattle.lapin_tokens.proofs.SaidLaws.{number_said}
use Rattle.lapin_tokens.proofs.fields.u64_at.Goals as goal

pub returns-in-Some : goal.returns-in-Some
returns-in-Some c =
    let said = c.in-Some.ensures.some in
    rw said.0 (number_said (2 ^ 64) c.in-Some.number _ (omega (arith, said.1)) said.1)
