use Rattle.lapin_registry.proofs.Histories.{exchange_loses, queue_loses}
use Rattle.lapin_registry.proofs.laws.an_unbind_removes_every_equal_one.Goals as goal

pub returns-clause-exchange : goal.returns-clause-exchange
returns-clause-exchange c = exchange_loses

pub returns-clause-queue : goal.returns-clause-queue
returns-clause-queue c = queue_loses
