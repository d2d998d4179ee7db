use Rattle.lapin_send.proofs.Types.{event_sync}
use Rattle.lapin_send.proofs.laws.events_may_be_shared.Goals as goal

pub returns : goal.returns
returns c = event_sync
