use Rattle.std.proofs.Common.{rules}
use Rattle.lapin_joint.proofs.Steps.{new_stands}
use Rattle.lapin_joint.proofs.joined.Joined.new.Goals as goal

pub returns-clause-stands : goal.returns-clause-stands
returns-clause-stands c = new_stands c.args.frame_max _ (search rules)
