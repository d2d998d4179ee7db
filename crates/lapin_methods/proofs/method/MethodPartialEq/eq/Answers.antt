use Rattle.lapin_values.specs.Same.{same_by-is}
use Rattle.lapin_methods.proofs.method.MethodPartialEq.eq.Goals as goal

pub returns : goal.returns
returns c = same_by-is _ _ _ _ c.same.ensures
