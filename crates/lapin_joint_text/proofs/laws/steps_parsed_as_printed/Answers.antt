use Rattle.lapin_text.proofs.InputLaws.{input_again}
use Rattle.lapin_joint_text.specs.Steps.{step_line, HasLine}
use Rattle.lapin_joint_text.proofs.StepLaws.{same_step, step_plain}
use Rattle.lapin_joint_text.proofs.laws.steps_parsed_as_printed.Goals as goal

pub returns : goal.returns
returns c = input_again step_line HasLine same_step step_plain
