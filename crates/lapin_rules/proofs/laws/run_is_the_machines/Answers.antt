use Rattle.lapin_rules.proofs.Runs.{machines-run}
use Rattle.lapin_rules.proofs.laws.run_is_the_machines.Goals as goal

pub returns : goal.returns
returns c = machines-run
