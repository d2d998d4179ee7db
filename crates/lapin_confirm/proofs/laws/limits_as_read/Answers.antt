use Rattle.lapin_confirm.proofs.Reading.{at-limit-read, limit-read}
use Rattle.lapin_confirm.proofs.laws.limits_as_read.Goals as goal

pub returns : goal.returns
returns a = record { at = at-limit-read; limit = limit-read }
