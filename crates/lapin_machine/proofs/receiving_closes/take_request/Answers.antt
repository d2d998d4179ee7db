use Rattle.lapin_outstanding.proofs.Channels.{taken_is}
use Rattle.lapin_machine.proofs.receiving_closes.take_request.Goals as goal

pub returns-clause-waiting : goal.returns-clause-waiting
returns-clause-waiting c = taken_is c.args.channel c.args.kind c.args.replies.now.what c.take_first.new.self.what c.take_first.result c.take_first.ensures.taken c.take_first.ensures.ok c.take_first.ensures.none
