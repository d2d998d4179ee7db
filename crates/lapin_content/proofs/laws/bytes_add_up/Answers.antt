use Rattle.lapin_content.proofs.Messages.{fits-at, sum-at}
use Rattle.lapin_content.proofs.laws.bytes_add_up.Goals as goal

pub returns-clause-fits : goal.returns-clause-fits
returns-clause-fits c = fits-at

pub returns-clause-sum : goal.returns-clause-sum
returns-clause-sum c = sum-at
