use Rattle.lapin_joint_text.proofs.StepLaws.{same_step}
use Rattle.lapin_joint_text.proofs.laws.one_step_line.Goals as goal

pub returns : goal.returns
returns c = same_step
