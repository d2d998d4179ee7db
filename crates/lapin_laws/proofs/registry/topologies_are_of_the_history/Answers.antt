use Rattle.lapin_laws.proofs.Topologies.{topology_after}
use Rattle.lapin_laws.proofs.registry.topologies_are_of_the_history.Goals as goal

pub returns : goal.returns
returns c = topology_after
