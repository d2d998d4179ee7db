use Rattle.lapin_laws.proofs.Kept.{run_sound}
use Rattle.lapin_laws.proofs.waiting.closes_wait_until_they_leave.Goals as goal

pub returns : goal.returns
returns c = λ n es channel up. (run_sound n es).closes up channel
