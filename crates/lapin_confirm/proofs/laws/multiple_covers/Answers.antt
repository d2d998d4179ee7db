use Rattle.lapin_confirm.proofs.PublishStates.{up_to}
use Rattle.lapin_confirm.proofs.laws.multiple_covers.Goals as goal

pub returns-clause-up_to : goal.returns-clause-up_to
returns-clause-up_to c = up_to
