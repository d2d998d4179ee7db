use Rattle.lapin_answers.proofs.OneCause.{unwaited}
use Rattle.lapin_answers.proofs.replies.no_reply_resolves_a_call_without_wait.Goals as goal

pub returns : goal.returns
returns c frame_max big steps = unwaited frame_max big steps
