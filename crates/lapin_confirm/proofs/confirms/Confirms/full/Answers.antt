use Rattle.std.proofs.Common.{◌∙◌}
use Rattle.lapin_confirm.proofs.ShownFull.{full-as-shown}
use Rattle.lapin_confirm.proofs.confirms.Confirms.full.Goals as goal

pub returns : goal.returns
returns c = rw (← c.self.view_is) (c.contains.ensures ∙ full-as-shown c.args.channel c.self.inside.full c.self.inside.confirm_modes.entries c.self.inside.cells.slots c.self.invariant.full c.self.invariant.tied)
