use Rattle.lapin_confirm.proofs.Reading.{full-read}
use Rattle.lapin_confirm.proofs.laws.full_as_read.Goals as goal

pub returns : goal.returns
returns a = λ c ms p f. full-read c ms p f
