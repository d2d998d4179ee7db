use Rattle.lapin_shared.proofs.Apart.{fresh_apart}
use Rattle.lapin_shared.proofs.laws.fresh_callers_are_apart.Goals as goal

pub returns : goal.returns
returns c = fresh_apart
