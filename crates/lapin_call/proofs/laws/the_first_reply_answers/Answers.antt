use Rattle.lapin_call.proofs.Outcomes.{first_answers}
use Rattle.lapin_call.proofs.laws.the_first_reply_answers.Goals as goal

pub returns : goal.returns
returns c = first_answers
