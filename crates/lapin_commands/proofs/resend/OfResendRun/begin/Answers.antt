use Rattle.lapin_commands.proofs.ResendRuns.{resend_begins, resend_takes}
use Rattle.lapin_commands.proofs.resend.OfResendRun.begin.Goals as goal

pub returns-clause-prints : goal.returns-clause-prints
returns-clause-prints c = resend_begins c.new.result c.args.frame_max c.new.ensures

pub returns-clause-takes : goal.returns-clause-takes
returns-clause-takes c = resend_takes c.new.result c.args.frame_max c.new.ensures
