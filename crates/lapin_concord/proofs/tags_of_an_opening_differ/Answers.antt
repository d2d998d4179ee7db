use Rattle.lapin_concord.proofs.Laws.{tags_in}
use Rattle.lapin_concord.proofs.tags_of_an_opening_differ.Goals as goal

pub returns : goal.returns
returns c n ts k l t = tags_in n ts k l t
