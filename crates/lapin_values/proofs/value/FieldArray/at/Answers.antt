use Rattle.std.proofs.Common.{◌≤◌, subst, sym}
use Rattle.std.specs.Prelude.{IfSome}
use Rattle.lapin_values.specs.Data.{data_depth, array_depth}
use Rattle.lapin_values.specs.DataOf.{data_of}
use Rattle.lapin_values.proofs.Inside.{array_inside, from_mapped}
use Rattle.lapin_values.proofs.value.FieldArray.at.Goals as goal

pub returns-clause-inside : goal.returns-clause-inside
returns-clause-inside c =
    from_mapped (λ v. data_of v.now) (λ d. data_depth d ≤ array_depth c.args.self.now) c.item_at.result
    (subst (λ o. IfSome o (λ d. data_depth d ≤ array_depth c.args.self.now)) (sym c.item_at.ensures) (array_inside c.args.self.now c.args.place))
