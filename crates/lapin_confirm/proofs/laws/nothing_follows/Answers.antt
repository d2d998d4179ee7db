use Rattle.lapin_confirm.proofs.PublishStates.{nothing}
use Rattle.lapin_confirm.proofs.laws.nothing_follows.Goals as goal

pub returns : goal.returns
returns c = nothing
