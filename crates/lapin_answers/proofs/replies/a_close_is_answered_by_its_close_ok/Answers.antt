use Rattle.lapin_answers.proofs.OneCause.{closes_by_ok, ends_by_ok}
use Rattle.lapin_answers.proofs.replies.a_close_is_answered_by_its_close_ok.Goals as goal

pub returns-clause-channel : goal.returns-clause-channel
returns-clause-channel c frame_max big steps = closes_by_ok frame_max big steps

pub returns-clause-connection : goal.returns-clause-connection
returns-clause-connection c frame_max big steps = ends_by_ok frame_max big steps
