use Rattle.std.proofs.Common.{◌≤◌, subst, sym}
use Rattle.std.specs.Prelude.{IfSome}
use Rattle.lapin_values.specs.Data.{data_depth, table_depth}
use Rattle.lapin_values.specs.DataOf.{data_of}
use Rattle.lapin_values.proofs.Inside.{table_inside, from_mapped}
use Rattle.lapin_values.proofs.value.FieldTable.at.Goals as goal

pub returns-clause-inside : goal.returns-clause-inside
returns-clause-inside c =
    from_mapped (λ p. (p.0.now, data_of p.1.now)) (λ p. data_depth p.1 ≤ table_depth c.args.self.now) c.entry_at.result
    (subst (λ o. IfSome o (λ p. data_depth p.1 ≤ table_depth c.args.self.now)) (sym c.entry_at.ensures) (table_inside c.args.self.now c.args.place))
