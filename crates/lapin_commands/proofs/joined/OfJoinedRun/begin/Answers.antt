use Rattle.lapin_commands.proofs.JoinedRuns.{joined_begins, joined_takes}
use Rattle.lapin_commands.proofs.joined.OfJoinedRun.begin.Goals as goal

pub returns-clause-prints : goal.returns-clause-prints
returns-clause-prints c = joined_begins c.new.result c.args.frame_max c.new.ensures

pub returns-clause-takes : goal.returns-clause-takes
returns-clause-takes c = joined_takes c.new.result c.args.frame_max c.new.ensures
