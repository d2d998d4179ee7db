use Rattle.lapin_answers.proofs.Whole.{all_true}
use Rattle.lapin_answers.proofs.truth.a_session_and_an_honest_broker.Goals as goal

pub returns : goal.returns
returns c frame_max big steps = all_true frame_max big steps
