use Rattle.lapin_machine.proofs.Standing.{stands_result, again_result, unretried_result}
use Rattle.lapin_machine.proofs.session.Session.step.Goals as goal

pub returns-clause-stands : goal.returns-clause-stands
returns-clause-stands c = stands_result c.step_machine.result c.args.self.now c.step_machine.new.self c.args.event c.step_machine.ensures.told c.step_machine.ensures.ok

pub returns-clause-again : goal.returns-clause-again
returns-clause-again c = again_result c.step_machine.result c.args.self.now c.step_machine.new.self c.args.event c.step_machine.ensures.told c.step_machine.ensures.ok

pub returns-clause-retrying : goal.returns-clause-retrying
returns-clause-retrying c = unretried_result c.step_machine.result c.args.self.now c.step_machine.new.self c.args.event c.step_machine.ensures.ok c.step_machine.ensures.err
