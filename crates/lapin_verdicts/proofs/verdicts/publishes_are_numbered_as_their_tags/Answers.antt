use Rattle.lapin_verdicts.proofs.Numbered.{numbers_hold}
use Rattle.lapin_verdicts.proofs.verdicts.publishes_are_numbered_as_their_tags.Goals as goal

pub returns : goal.returns
returns c = numbers_hold
