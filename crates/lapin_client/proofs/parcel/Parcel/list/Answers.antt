use Rattle.std.proofs.Common.{sym}
use Rattle.lapin_client.proofs.Lists.{list_told}
use Rattle.lapin_client.proofs.parcel.Parcel.list.Goals as goal

pub returns-clause-value : goal.returns-clause-value
returns-clause-value c = list_told c.args.self.now.delivery.properties c.in-Some.list.now (sym c.in-Some.ensures)
