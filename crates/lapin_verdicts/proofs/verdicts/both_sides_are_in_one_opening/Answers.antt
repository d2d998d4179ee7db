use Rattle.lapin_verdicts.proofs.Together.{in_step}
use Rattle.lapin_verdicts.proofs.verdicts.both_sides_are_in_one_opening.Goals as goal

pub returns : goal.returns
returns c = in_step
