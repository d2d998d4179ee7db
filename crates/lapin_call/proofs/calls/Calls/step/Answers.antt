use Rattle.lapin_call.proofs.Steps.{stands-next, stays}
use Rattle.lapin_call.proofs.calls.Calls.step.Goals as goal

pub returns-clause-stands : goal.returns-clause-stands
returns-clause-stands c =
    stands-next c.step_machine.result c.args.step c.args.self.now c.step_machine.new.self c.step_machine.ensures.told c.step_machine.ensures.ok c.step_machine.ensures.running c.step_machine.ensures.unreturned

pub returns-clause-stays : goal.returns-clause-stays
returns-clause-stays c = stays c.step_machine.result c.args.self.now c.step_machine.new.self c.step_machine.ensures.err
