use Rattle.lapin_laws.proofs.Traces.{stands_told, stands_next, stands_new, stands_after, told_machines}
use Rattle.lapin_laws.proofs.standing.a_session_stands.Goals as goal

pub returns-clause-new : goal.returns-clause-new
returns-clause-new c = stands_new

pub returns-clause-told : goal.returns-clause-told
returns-clause-told c = stands_told

pub returns-clause-next : goal.returns-clause-next
returns-clause-next c = stands_next

pub returns-clause-run : goal.returns-clause-run
returns-clause-run c = stands_after

pub returns-clause-trace : goal.returns-clause-trace
returns-clause-trace c = told_machines
