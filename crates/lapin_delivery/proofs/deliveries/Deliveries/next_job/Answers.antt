use Rattle.lapin_delivery.proofs.Asking.{asked-none}
use Rattle.lapin_delivery.proofs.deliveries.Deliveries.next_job.Goals as goal

pub returns-clause-none : goal.returns-clause-none
returns-clause-none c = asked-none c.next_job.result c.args.self.now.consumers.subscriptions c.next_job.new.self.subscriptions c.args.self.now.switches.switches c.args.self.now.topologies.entries c.next_job.ensures.job c.next_job.ensures.rest
