use Rattle.lapin_confirm.proofs.Closed.{end-closes}
use Rattle.lapin_confirm.proofs.laws.an_end_leaves_nothing_open.Goals as goal

pub returns : goal.returns
returns c = end-closes
