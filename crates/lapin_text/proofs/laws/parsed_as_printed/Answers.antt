use Rattle.lapin_text.proofs.InputLaws.{events_again}
use Rattle.lapin_text.proofs.laws.parsed_as_printed.Goals as goal

pub returns : goal.returns
returns c = events_again
