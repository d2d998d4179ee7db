use Rattle.lapin_machine.proofs.Handed.{next_handed}
use Rattle.lapin_machine.proofs.session.Session.hand_next.Goals as goal

pub returns-clause-ok : goal.returns-clause-ok
returns-clause-ok c = next_handed c.hand_out.result c.hand_out.new.self c.args.self.now c.args.flow _ c.flows-flowing.ensures c.hand_out.ensures.ok
