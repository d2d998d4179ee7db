use Rattle.lapin_answers.proofs.OpenOks.{opened}
use Rattle.lapin_answers.proofs.replies.an_open_ok_is_for_that_very_open.Goals as goal

pub returns : goal.returns
returns c frame_max big steps n a reply way down ok was now = opened frame_max big steps n a reply way down ok was now
