use Rattle.lapin_acker.proofs.Following.{follows-push}
use Rattle.lapin_acker.proofs.laws.machine_follows.Goals as goal

pub returns : goal.returns
returns c = follows-push
