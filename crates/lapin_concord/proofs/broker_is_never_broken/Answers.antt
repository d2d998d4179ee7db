use Rattle.lapin_concord.proofs.Laws.{whole_broker}
use Rattle.lapin_concord.proofs.broker_is_never_broken.Goals as goal

pub returns : goal.returns
returns c n ts r = whole_broker n ts r
