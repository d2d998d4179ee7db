use Rattle.lapin_confirm.proofs.Closing.{all-end}
use Rattle.lapin_confirm.proofs.laws.end_takes_close.Goals as goal

pub returns : goal.returns
returns a = λ c e p. all-end c e p
