use Rattle.lapin_answers.proofs.Told.{answers_own}
use Rattle.lapin_answers.proofs.replies.an_answer_is_the_reply_to_its_call.Goals as goal

pub returns : goal.returns
returns c frame_max big steps = answers_own frame_max big steps
