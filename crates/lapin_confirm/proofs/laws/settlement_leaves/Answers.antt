use Rattle.lapin_rules.specs.ConfirmReadings.{covers, outcome_of}
use Rattle.lapin_confirm.proofs.PublishStates.{any-stays}
use Rattle.lapin_confirm.proofs.laws.settlement_leaves.Goals as goal

pub returns : goal.returns
returns a = λ c t s b. any-stays c t (covers s) (outcome_of s) b.cells
