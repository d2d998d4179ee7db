use Rattle.lapin_laws.proofs.Waits.{waits_after}
use Rattle.lapin_laws.proofs.waiting.waiting_publishes_are_queued.Goals as goal

pub returns : goal.returns
returns c = waits_after
