use Rattle.std.proofs.Common.{subst}
use Rattle.lapin_values.specs.Table.{IsRising, rows}
use Rattle.lapin_values.proofs.Search.{rising_mapped}
use Rattle.lapin_values.proofs.value.FieldTable.len.Goals as goal

pub returns-clause-rising : goal.returns-clause-rising
returns-clause-rising c = subst IsRising c.self.view_is (rising_mapped (rows c.self.inside.entries) c.self.invariant)
