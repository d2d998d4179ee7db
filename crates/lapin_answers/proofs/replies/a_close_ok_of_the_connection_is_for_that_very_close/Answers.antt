use Rattle.lapin_answers.proofs.Ended.{ended}
use Rattle.lapin_answers.proofs.replies.a_close_ok_of_the_connection_is_for_that_very_close.Goals as goal

pub returns : goal.returns
returns c frame_max big steps n a reply way down ok was now = ended frame_max big steps n a reply way down ok was now
