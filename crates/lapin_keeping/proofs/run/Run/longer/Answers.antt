use Rattle.std.proofs.Common.{◌+◌, refl, arith}
use Rattle.lapin_keeping.specs.declared.run.Run.{Run}
use Rattle.lapin_keeping.proofs.Told.{longer_told}
use Rattle.lapin_keeping.proofs.run.Run.longer.Goals as goal

pub returns-then-self-lt18446744073709551615 : goal.returns-then-self-lt18446744073709551615
returns-then-self-lt18446744073709551615 c =
    let longer : Run = record { first = c.args.self.first; count = c.args.self.count + 1; fate = c.args.self.fate } in
    longer_told c.args.self longer c.args.number (omega (arith, c.if-self-number.true, c.if-number-self.true)) refl refl refl
