use Rattle.lapin_effects.proofs.Events.{has_effect}
use Rattle.lapin_effects.proofs.every_other_event_has_an_effect.Goals as goal

pub returns : goal.returns
returns c b readings e apart = has_effect b readings e apart
