use Rattle.lapin_laws.specs.Runs.{world_after}
use Rattle.lapin_laws.proofs.Losing.{answered_after}
use Rattle.lapin_laws.proofs.Kept.{run_kept, run_sound, unreturned_after, stays_down, stays_lost, no_rest, no_publishes, nothing, gives, gives_none, leaves}
use Rattle.lapin_laws.proofs.down.down_for_good.Goals as goal

pub returns-clause-stays : goal.returns-clause-stays
returns-clause-stays c = stays_down

pub returns-clause-stays_lost : goal.returns-clause-stays_lost
returns-clause-stays_lost c = λ n es. stays_lost (world_after n es)

pub returns-clause-rest : goal.returns-clause-rest
returns-clause-rest c = λ n es. no_rest n (world_after n es) (run_sound n es)

pub returns-clause-contents : goal.returns-clause-contents
returns-clause-contents c = λ n es. (run_sound n es).contents

pub returns-clause-publishes : goal.returns-clause-publishes
returns-clause-publishes c = λ n es. no_publishes n (world_after n es) (run_sound n es)

pub returns-clause-lost : goal.returns-clause-lost
returns-clause-lost c = λ n es. nothing n (world_after n es) (run_sound n es)

pub returns-clause-given : goal.returns-clause-given
returns-clause-given c = λ n es. gives n (world_after n es) (run_sound n es) (unreturned_after n es)

pub returns-clause-none : goal.returns-clause-none
returns-clause-none c = λ n es. gives_none n (world_after n es) (run_sound n es) (unreturned_after n es)

pub returns-clause-left : goal.returns-clause-left
returns-clause-left c = λ n es. leaves n (world_after n es) (run_sound n es) (unreturned_after n es)

pub returns-clause-phases : goal.returns-clause-phases
returns-clause-phases c = λ n es. (run_kept n es).shut

pub returns-clause-answered : goal.returns-clause-answered
returns-clause-answered c = answered_after
