use Rattle.lapin_reached.proofs.Guarded.{guarded_new, guarded_next, guarded_set, guarded_bound}
use Rattle.lapin_reached.proofs.a_careful_caller_is_guarded.Goals as goal

pub returns-clause-new : goal.returns-clause-new
returns-clause-new c = λ frame_max most ch. guarded_new most ch frame_max

pub returns-clause-next : goal.returns-clause-next
returns-clause-next c = guarded_next

pub returns-clause-set : goal.returns-clause-set
returns-clause-set c = guarded_set

pub returns-clause-bound : goal.returns-clause-bound
returns-clause-bound c = guarded_bound
