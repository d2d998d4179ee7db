use Rattle.lapin_call.proofs.Heard.{first_reply}
use Rattle.lapin_call.proofs.laws.the_first_reply_of_a_run_answers.Goals as goal

pub returns : goal.returns
returns c = first_reply
