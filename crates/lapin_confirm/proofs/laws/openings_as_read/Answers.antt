use Rattle.lapin_confirm.proofs.Reading.{opening-read}
use Rattle.lapin_confirm.proofs.laws.openings_as_read.Goals as goal

pub returns : goal.returns
returns a = record { confirm_modes = opening-read; return_lists = λ c ms p f. f.returned_by_channel c }
