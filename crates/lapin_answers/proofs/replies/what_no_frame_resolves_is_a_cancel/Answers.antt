use Rattle.lapin_answers.proofs.Awaited.{awaited}
use Rattle.lapin_answers.proofs.replies.what_no_frame_resolves_is_a_cancel.Goals as goal

pub returns : goal.returns
returns c frame_max big steps = awaited frame_max steps
