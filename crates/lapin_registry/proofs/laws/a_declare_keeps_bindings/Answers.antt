use Rattle.lapin_registry.proofs.Histories.{exchange_keeps, queue_keeps}
use Rattle.lapin_registry.proofs.laws.a_declare_keeps_bindings.Goals as goal

pub returns-clause-exchange : goal.returns-clause-exchange
returns-clause-exchange c = exchange_keeps

pub returns-clause-queue : goal.returns-clause-queue
returns-clause-queue c = queue_keeps
