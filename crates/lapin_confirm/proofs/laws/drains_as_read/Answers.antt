use Rattle.lapin_confirm.proofs.ReturnFollowing.{drained-read}
use Rattle.lapin_confirm.proofs.laws.drains_as_read.Goals as goal

pub returns : goal.returns
returns a = λ c ms p f. drained-read c ms p f
