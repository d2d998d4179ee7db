use Rattle.lapin_content.proofs.Following.{follows-push}
use Rattle.lapin_content.proofs.laws.machine_follows.Goals as goal

pub returns : goal.returns
returns c = follows-push
