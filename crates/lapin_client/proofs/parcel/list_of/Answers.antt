use Rattle.lapin_client.proofs.Lists.{bare_list, no_list}
use Rattle.lapin_client.proofs.parcel.list_of.Goals as goal

pub returns-then-is_bare : goal.returns-then-is_bare
returns-then-is_bare c = bare_list c.args.properties.now c.is_bare.result c.in-None.ensures c.is_bare.ensures c.if-is_bare.true

pub returns-else-is_bare : goal.returns-else-is_bare
returns-else-is_bare c = no_list c.args.properties.now c.is_bare.result c.in-None.ensures c.is_bare.ensures c.if-is_bare.false
