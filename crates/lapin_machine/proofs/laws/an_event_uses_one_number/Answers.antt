use Rattle.lapin_machine.proofs.Counting.{standing_numbers}
use Rattle.lapin_machine.proofs.laws.an_event_uses_one_number.Goals as goal

pub returns : goal.returns
returns c = λ n more h w s few. standing_numbers n more h w s few
