use Rattle.lapin_commands.proofs.Runs.{session_begins}
use Rattle.lapin_commands.proofs.session.OfSessionRun.begin.Goals as goal

pub returns-clause-prints : goal.returns-clause-prints
returns-clause-prints c = session_begins c.new.result c.args.frame_max c.new.ensures.value
