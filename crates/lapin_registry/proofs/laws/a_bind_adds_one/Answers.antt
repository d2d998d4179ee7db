use Rattle.lapin_registry.proofs.Histories.{exchange_adds, queue_adds}
use Rattle.lapin_registry.proofs.laws.a_bind_adds_one.Goals as goal

pub returns-clause-exchange : goal.returns-clause-exchange
returns-clause-exchange c = exchange_adds

pub returns-clause-queue : goal.returns-clause-queue
returns-clause-queue c = queue_adds
