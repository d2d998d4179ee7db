use Rattle.lapin_clients.proofs.Openings.{run_follows}
use Rattle.lapin_clients.proofs.a_run_follows_its_opening.Goals as goal

pub returns : goal.returns
returns c = λ who acts run. run_follows who acts run
