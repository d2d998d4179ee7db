use Rattle.lapin_confirm.proofs.Closing.{all-ended}
use Rattle.lapin_confirm.proofs.laws.end_takes_rejected.Goals as goal

pub returns : goal.returns
returns a = λ c n e p was. all-ended c n e p was
