use Rattle.lapin_laws.specs.Runs.{world_after}
use Rattle.lapin_laws.proofs.Kept.{run_sound, unbegun_live, rest_live}
use Rattle.lapin_laws.proofs.Settled.{settled_after}
use Rattle.lapin_laws.proofs.waiting.only_live_openings_wait.Goals as goal

pub returns-clause-publishes : goal.returns-clause-publishes
returns-clause-publishes c = λ n es. unbegun_live n (world_after n es) (run_sound n es)

pub returns-clause-rest : goal.returns-clause-rest
returns-clause-rest c = λ n es. rest_live n (world_after n es) (run_sound n es)

pub returns-clause-requests : goal.returns-clause-requests
returns-clause-requests c = settled_after
