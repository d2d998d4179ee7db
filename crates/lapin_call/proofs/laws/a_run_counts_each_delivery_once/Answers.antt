use Rattle.lapin_call.proofs.Heard.{all_counted}
use Rattle.lapin_call.proofs.laws.a_run_counts_each_delivery_once.Goals as goal

pub returns : goal.returns
returns c = all_counted
