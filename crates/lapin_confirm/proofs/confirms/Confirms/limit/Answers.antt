use Rattle.std.proofs.Common.{sym, ap}
use Rattle.lapin_confirm.specs.PublishStates.{limit_in}
use Rattle.lapin_confirm.proofs.ConfirmModes.{mode-at}
use Rattle.lapin_confirm.proofs.confirms.Confirms.limit.Goals as goal

pub returns-in-Some : goal.returns-in-Some
returns-in-Some c = rw (← c.self.view_is) (ap limit_in (sym (mode-at c.args.channel c.self.inside.confirm_modes.entries _ (sym c.in-Some.ensures))))

pub returns-in-None : goal.returns-in-None
returns-in-None c = rw (← c.self.view_is) (ap limit_in (sym (mode-at c.args.channel c.self.inside.confirm_modes.entries _ (sym c.in-None.ensures))))
