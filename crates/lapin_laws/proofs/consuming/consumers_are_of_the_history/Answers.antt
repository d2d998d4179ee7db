use Rattle.lapin_laws.proofs.Subscriptions.{consumers_after, jobs_after, ackers_after}
use Rattle.lapin_laws.proofs.consuming.consumers_are_of_the_history.Goals as goal

pub returns-clause-consumers : goal.returns-clause-consumers
returns-clause-consumers c = consumers_after

pub returns-clause-ackers : goal.returns-clause-ackers
returns-clause-ackers c = ackers_after

pub returns-clause-jobs : goal.returns-clause-jobs
returns-clause-jobs c = jobs_after
