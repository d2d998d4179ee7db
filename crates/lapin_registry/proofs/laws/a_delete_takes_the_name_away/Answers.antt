use Rattle.lapin_registry.specs.Topology.{exchange_name, queue_name}
use Rattle.lapin_registry.proofs.Named.{named_without}
use Rattle.lapin_registry.proofs.laws.a_delete_takes_the_name_away.Goals as goal

pub returns-clause-exchange : goal.returns-clause-exchange
returns-clause-exchange c = λ d n. named_without exchange_name n d.exchanges

pub returns-clause-queue : goal.returns-clause-queue
returns-clause-queue c = λ d n. named_without queue_name n d.queues
