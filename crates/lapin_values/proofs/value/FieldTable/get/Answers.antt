use Rattle.std.proofs.Common.{ap, ◌∙◌, option_map}
use Rattle.lapin_values.specs.DataOf.{data_of}
use Rattle.lapin_values.specs.Table.{lookup, rows}
use Rattle.lapin_values.proofs.TableLemmas.{lookup_mapped, option_map_twice}
use Rattle.lapin_values.proofs.value.FieldTable.get.Goals as goal

pub returns : goal.returns
returns c =
    option_map_twice data_of (λ v. v.now) c.find.result
    ∙ ap (option_map data_of) (c.find.ensures ∙ ap (lookup c.args.key.now) c.rows_of.ensures)
    ∙ lookup_mapped c.args.key.now (rows c.self.inside.entries)
    ∙ ap (lookup c.args.key.now) c.self.view_is
