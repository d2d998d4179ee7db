use Rattle.std.proofs.Common.{rules}
use Rattle.lapin_call.proofs.Steps.{new_stands}
use Rattle.lapin_call.proofs.calls.Calls.new.Goals as goal

pub returns-clause-stands : goal.returns-clause-stands
returns-clause-stands c = new_stands c.args.frame_max c.args.queue _ (search rules)
