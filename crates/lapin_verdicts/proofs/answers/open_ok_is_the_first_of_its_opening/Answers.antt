use Rattle.lapin_verdicts.proofs.First.{first_in, first_comes}
use Rattle.lapin_verdicts.proofs.answers.open_ok_is_the_first_of_its_opening.Goals as goal

pub returns-clause-sent : goal.returns-clause-sent
returns-clause-sent c = first_in

pub returns-clause-received : goal.returns-clause-received
returns-clause-received c = first_comes
