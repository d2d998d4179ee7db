use Rattle.lapin_confirm.proofs.Following.{follows-push}
use Rattle.lapin_confirm.proofs.laws.machine_follows.Goals as goal

pub returns : goal.returns
returns c = follows-push
