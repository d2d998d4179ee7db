use Rattle.lapin_confirm.proofs.Tags.{tag-kept}
use Rattle.lapin_confirm.proofs.laws.tag_stays.Goals as goal

pub returns : goal.returns
returns c = tag-kept
