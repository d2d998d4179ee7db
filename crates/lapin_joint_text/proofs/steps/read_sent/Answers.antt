use Rattle.lapin_joint_text.proofs.StepLaws.{sent_found, sent_none}
use Rattle.lapin_joint_text.proofs.steps.read_sent.Goals as goal

pub returns-clause-found : goal.returns-clause-found
returns-clause-found c = sent_found c.read_frame.result c.args.line.now c.args.rest.now c.requires c.read_frame.ensures.found

pub returns-clause-none : goal.returns-clause-none
returns-clause-none c = sent_none c.read_frame.result c.args.line.now c.args.rest.now c.requires c.read_frame.ensures.none
