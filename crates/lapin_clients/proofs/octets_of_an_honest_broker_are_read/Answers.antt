use Rattle.lapin_clients.proofs.Formed.{all_read}
use Rattle.lapin_clients.proofs.octets_of_an_honest_broker_are_read.Goals as goal

pub returns : goal.returns
returns c = λ n acts. all_read n acts
