use Rattle.lapin_ticket.proofs.Following.{follows-push}
use Rattle.lapin_ticket.proofs.follows_history.Goals as goal

pub returns : goal.returns
returns c = follows-push
