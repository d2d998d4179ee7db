use Rattle.lapin_call.proofs.Turns.{each_once}
use Rattle.lapin_call.proofs.laws.a_server_is_done_with_each_request_once.Goals as goal

pub returns : goal.returns
returns g c = each_once _
