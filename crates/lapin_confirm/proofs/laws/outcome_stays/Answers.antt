use Rattle.lapin_confirm.proofs.Outcomes.{outcome-stays}
use Rattle.lapin_confirm.proofs.laws.outcome_stays.Goals as goal

pub returns : goal.returns
returns c = outcome-stays
