use Rattle.lapin_confirm.proofs.Tags.{resolved-by}
use Rattle.lapin_confirm.proofs.laws.resolved_by_its_settlement.Goals as goal

pub returns : goal.returns
returns c = resolved-by
