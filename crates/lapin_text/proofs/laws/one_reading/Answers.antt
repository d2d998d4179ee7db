use Rattle.lapin_text.proofs.InputLaws.{parsed_once}
use Rattle.lapin_text.proofs.laws.one_reading.Goals as goal

pub returns : goal.returns
returns c = parsed_once
