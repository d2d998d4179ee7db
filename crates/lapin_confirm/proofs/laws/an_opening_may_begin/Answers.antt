use Rattle.lapin_confirm.proofs.Reading.{may-begin}
use Rattle.lapin_confirm.proofs.laws.an_opening_may_begin.Goals as goal

pub returns : goal.returns
returns a = λ c ms p f none. may-begin c ms p f none
