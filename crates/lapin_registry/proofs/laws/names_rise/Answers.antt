use Rattle.std.proofs.Common.{refl}
use Rattle.lapin_registry.specs.Topology.{empty_definition}
use Rattle.lapin_registry.proofs.Histories.{all_exchanges_rise, all_queues_rise}
use Rattle.lapin_registry.proofs.laws.names_rise.Goals as goal

pub returns-clause-exchanges : goal.returns-clause-exchanges
returns-clause-exchanges c = λ ms. all_exchanges_rise empty_definition ms refl

pub returns-clause-queues : goal.returns-clause-queues
returns-clause-queues c = λ ms. all_queues_rise empty_definition ms refl
