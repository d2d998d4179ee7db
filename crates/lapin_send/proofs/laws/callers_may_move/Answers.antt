use denote.Param.{param}
use Rattle.lapin_send.proofs.Callers.{caller_send}
use Rattle.lapin_send.proofs.laws.callers_may_move.Goals as goal

pub returns : goal.returns
returns g c = caller_send (param 0 g.row.L) g.L.Ledger
