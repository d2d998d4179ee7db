use Rattle.lapin_answers.proofs.Closed.{closed}
use Rattle.lapin_answers.proofs.replies.a_close_ok_is_for_that_very_close.Goals as goal

pub returns : goal.returns
returns c frame_max big steps n a reply way down ok was now = closed frame_max big steps n a reply way down ok was now
