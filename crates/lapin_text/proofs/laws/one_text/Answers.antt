use Rattle.lapin_text.proofs.LineLaws.{same_text}
use Rattle.lapin_text.proofs.laws.one_text.Goals as goal

pub returns : goal.returns
returns c = same_text
