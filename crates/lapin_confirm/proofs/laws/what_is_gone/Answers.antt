use Rattle.lapin_confirm.proofs.Facts.{facts}
use Rattle.lapin_confirm.proofs.laws.what_is_gone.Goals as goal

pub returns : goal.returns
returns a = record { finished = λ n ms p f h. (facts ms f.came).gone n h; done = λ n ms p f h. (facts ms f.came).done n h }
