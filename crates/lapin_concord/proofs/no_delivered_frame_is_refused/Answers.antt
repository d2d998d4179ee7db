use Rattle.lapin_concord.proofs.Laws.{none_refused}
use Rattle.lapin_concord.proofs.no_delivered_frame_is_refused.Goals as goal

pub returns : goal.returns
returns c n ts r = none_refused n ts r
