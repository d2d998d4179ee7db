use Rattle.lapin_publisher.proofs.Out.{due_is_out}
use Rattle.lapin_publisher.proofs.laws.what_is_due_is_out.Goals as goal

pub returns : goal.returns
returns c = due_is_out
