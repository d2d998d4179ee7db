use Rattle.lapin_call.proofs.Outcomes.{counted_once}
use Rattle.lapin_call.proofs.laws.a_delivery_is_counted_once.Goals as goal

pub returns : goal.returns
returns c = counted_once
