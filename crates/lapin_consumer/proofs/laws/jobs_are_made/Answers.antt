use Rattle.lapin_consumer.proofs.Jobs.{jobs}
use Rattle.lapin_consumer.proofs.laws.jobs_are_made.Goals as goal

pub returns : goal.returns
returns c = jobs
