use Rattle.lapin_shared.proofs.Ackers.{lawful_once}
use Rattle.lapin_shared.proofs.client.closed.Goals as goal

pub returns-clause-used_once : goal.returns-clause-used_once
returns-clause-used_once g c = lawful_once _ _ c.taken.ensures.lawful
