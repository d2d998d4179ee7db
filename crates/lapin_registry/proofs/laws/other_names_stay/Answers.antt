use Rattle.lapin_registry.proofs.Others.{exchanges_stay, queues_stay}
use Rattle.lapin_registry.proofs.laws.other_names_stay.Goals as goal

pub returns-clause-exchanges : goal.returns-clause-exchanges
returns-clause-exchanges c = λ d m n other. exchanges_stay m n d.exchanges other

pub returns-clause-queues : goal.returns-clause-queues
returns-clause-queues c = λ d m n other. queues_stay m n d.queues other
