use Rattle.std.proofs.Common.{◌∙◌}
use Rattle.lapin_values.proofs.GatheredLemmas.{insert_entry_put}
use Rattle.lapin_values.proofs.value.gathered.put_sorted.Goals as goal

pub returns-in-Ok-clause-either : goal.returns-in-Ok-clause-either
returns-in-Ok-clause-either c = c.in-Ok.ensures.entries ∙ insert_entry_put c.args.key c.args.value c.args.tree.now.entries

pub returns-in-Ok-clause-ok : goal.returns-in-Ok-clause-ok
returns-in-Ok-clause-ok c = c.in-Ok.ensures.entries ∙ insert_entry_put c.args.key c.args.value c.args.tree.now.entries
