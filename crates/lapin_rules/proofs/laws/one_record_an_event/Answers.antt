use Rattle.lapin_rules.proofs.Runs.{length-run}
use Rattle.lapin_rules.proofs.laws.one_record_an_event.Goals as goal

pub returns : goal.returns
returns c = length-run
