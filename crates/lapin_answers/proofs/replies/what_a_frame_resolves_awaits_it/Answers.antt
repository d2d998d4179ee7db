use Rattle.lapin_answers.proofs.Causes.{resolved}
use Rattle.lapin_answers.proofs.replies.what_a_frame_resolves_awaits_it.Goals as goal

pub returns : goal.returns
returns c frame_max big steps n a frame way down was now = resolved frame_max big n a steps frame way down was now
