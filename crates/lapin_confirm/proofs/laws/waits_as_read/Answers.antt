use Rattle.lapin_confirm.proofs.Reading.{waits-read}
use Rattle.lapin_confirm.proofs.laws.waits_as_read.Goals as goal

pub returns : goal.returns
returns a = λ c ms p f. waits-read c ms p f
