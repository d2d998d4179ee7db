use Rattle.std.proofs.Common.{refl}
use Rattle.lapin_content.proofs.laws.nothing_follows.Goals as goal

pub returns : goal.returns
returns c = λ _. refl
