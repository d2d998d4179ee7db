use Rattle.lapin_shared.proofs.Ackers.{lawful_once}
use Rattle.lapin_shared.proofs.laws.ackers_are_used_once.Goals as goal

pub returns : goal.returns
returns c = lawful_once
