use Rattle.lapin_text.proofs.LineLaws.{same_line}
use Rattle.lapin_text.proofs.laws.one_line.Goals as goal

pub returns : goal.returns
returns c = same_line
