use Rattle.std.proofs.Common.{◌∙◌}
use Rattle.lapin_acker.proofs.Numbers.{ended-is}
use Rattle.lapin_acker.proofs.switches.Switches.end.Goals as goal

pub returns-clause-ended : goal.returns-clause-ended
returns-clause-ended c = c.turn_over.ensures.over ∙ ended-is 0 c.args.channel c.args.self.now.switches
