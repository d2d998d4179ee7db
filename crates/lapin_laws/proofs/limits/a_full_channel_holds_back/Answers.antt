use Rattle.lapin_laws.specs.Runs.{world_after}
use Rattle.lapin_laws.proofs.Kept.{unreturned_after}
use Rattle.lapin_laws.proofs.Within.{full_begins_none, full_shown, begins_free, stays_free}
use Rattle.lapin_laws.proofs.limits.a_full_channel_holds_back.Goals as goal

pub returns-clause-held : goal.returns-clause-held
returns-clause-held c = full_begins_none

pub returns-clause-shown : goal.returns-clause-shown
returns-clause-shown c = full_shown

pub returns-clause-begins : goal.returns-clause-begins
returns-clause-begins c = λ n es p rest methods flowing first. begins_free (world_after n es) p rest methods flowing first (unreturned_after n es)

pub returns-clause-stay : goal.returns-clause-stay
returns-clause-stay c = λ n es p rest methods flowing first. stays_free (world_after n es) p rest methods flowing first (unreturned_after n es)
