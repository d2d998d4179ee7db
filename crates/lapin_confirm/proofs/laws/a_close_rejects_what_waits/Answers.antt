use Rattle.lapin_confirm.proofs.Closed.{close-rejects}
use Rattle.lapin_confirm.proofs.laws.a_close_rejects_what_waits.Goals as goal

pub returns : goal.returns
returns c = close-rejects
