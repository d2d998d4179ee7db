use Rattle.lapin_laws.proofs.Once.{used_once}
use Rattle.lapin_laws.proofs.consuming.an_acker_is_used_once.Goals as goal

pub returns : goal.returns
returns c = used_once
