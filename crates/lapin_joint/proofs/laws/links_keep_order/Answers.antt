use Rattle.lapin_joint.proofs.Ordered.{up_ordered, down_ordered}
use Rattle.lapin_joint.proofs.laws.links_keep_order.Goals as goal

pub returns-clause-up : goal.returns-clause-up
returns-clause-up c = up_ordered

pub returns-clause-down : goal.returns-clause-down
returns-clause-down c = down_ordered
