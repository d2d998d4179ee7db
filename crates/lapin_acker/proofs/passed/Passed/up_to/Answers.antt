use Rattle.lapin_acker.proofs.Front.{all-used}
use Rattle.lapin_acker.proofs.passed.Passed.up_to.Goals as goal

pub returns-clause-used : goal.returns-clause-used
returns-clause-used c = rw (← c.self.view_is) (all-used c.self.inside.runs.items c.self.inside.count c.self.inside.channel)
