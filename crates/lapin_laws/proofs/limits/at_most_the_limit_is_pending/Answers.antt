use Rattle.lapin_laws.proofs.Within.{within_after, shown_after}
use Rattle.lapin_laws.proofs.limits.at_most_the_limit_is_pending.Goals as goal

pub returns-clause-kept : goal.returns-clause-kept
returns-clause-kept c = within_after

pub returns-clause-shown : goal.returns-clause-shown
returns-clause-shown c = shown_after
