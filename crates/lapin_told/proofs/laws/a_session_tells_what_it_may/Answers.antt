use Rattle.lapin_told.proofs.Runs.{told_fits}
use Rattle.lapin_told.proofs.laws.a_session_tells_what_it_may.Goals as goal

pub returns : goal.returns
returns c = told_fits
