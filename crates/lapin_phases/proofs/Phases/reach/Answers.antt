use Rattle.lapin_rules.proofs.EndLaws.{live-all}
use Rattle.lapin_phases.proofs.Phases.reach.Goals as goal

pub returns : goal.returns
returns c = rw (← c.self.view_is) (live-all c.reach.result c.self.inside.table.entries c.reach.ensures)
