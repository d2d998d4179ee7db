use Rattle.lapin_clients.proofs.Honest.{all_heard}
use Rattle.lapin_clients.proofs.no_frame_of_an_honest_broker_is_refused.Goals as goal

pub returns : goal.returns
returns c = all_heard
