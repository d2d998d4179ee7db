use Rattle.lapin_consumer.proofs.Arrivals.{joins}
use Rattle.lapin_consumer.proofs.laws.arrivals_join.Goals as goal

pub returns : goal.returns
returns c = joins
