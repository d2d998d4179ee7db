use Rattle.std.proofs.Common.{ap, is_some}
use Rattle.lapin_outbox.proofs.Beginning.{none-flows}
use Rattle.lapin_outbox.proofs.queues.may_one_begin.Goals as goal

pub returns-else-flow-clause-told : goal.returns-else-flow-clause-told
returns-else-flow-clause-told g c = ap is_some (none-flows c.args.flow (g.F.FullChannels.full c.args.full.now) c.args.publishes.now.entries c.if-flow.false).0
