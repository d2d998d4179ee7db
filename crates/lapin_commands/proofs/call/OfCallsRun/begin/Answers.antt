use Rattle.lapin_commands.proofs.CallRuns.{calls_begin}
use Rattle.lapin_commands.proofs.call.OfCallsRun.begin.Goals as goal

pub returns-clause-prints : goal.returns-clause-prints
returns-clause-prints c = calls_begin c.new-2.result c.args.frame_max c.in-Ok.queue c.args.argument.now c.in-Ok.ensures.ok c.new-2.ensures.made
