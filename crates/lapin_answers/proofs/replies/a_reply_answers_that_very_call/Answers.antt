use Rattle.std.proofs.Common.{Ok}
use Rattle.lapin_answers.proofs.Replying.{replied}
use Rattle.lapin_answers.proofs.replies.a_reply_answers_that_very_call.Goals as goal

pub returns : goal.returns
returns c frame_max big steps n a reply way down is was now = replied frame_max big n steps reply way (Ok a) down is was now
