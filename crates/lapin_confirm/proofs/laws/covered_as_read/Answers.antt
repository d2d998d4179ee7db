use Rattle.lapin_confirm.proofs.Reading.{covered-read}
use Rattle.lapin_confirm.proofs.laws.covered_as_read.Goals as goal

pub returns : goal.returns
returns a = λ c s ms p f. covered-read c s ms p f
