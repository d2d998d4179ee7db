use Rattle.lapin_outbox.proofs.Beginning.{none-flows}
use Rattle.lapin_outbox.proofs.queues.next_publish.Goals as goal

pub returns-else-flow-clause-taken : goal.returns-else-flow-clause-taken
returns-else-flow-clause-taken g c = (none-flows c.args.flow (g.F.FullChannels.full c.args.full.now) c.args.publishes.now.entries c.if-flow.false).0

pub returns-else-flow-clause-others : goal.returns-else-flow-clause-others
returns-else-flow-clause-others g c = (none-flows c.args.flow (g.F.FullChannels.full c.args.full.now) c.args.publishes.now.entries c.if-flow.false).1
