use Rattle.lapin_answers.proofs.GetAnswer.{got_message_is}
use Rattle.lapin_answers.proofs.replies.a_get_carries_what_was_sent_after_its_answer.Goals as goal

pub returns : goal.returns
returns c frame_max big steps n message was now = got_message_is frame_max big n steps message was now
