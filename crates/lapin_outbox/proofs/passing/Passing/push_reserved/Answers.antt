use Rattle.std.proofs.Common.{sym, subst}
use Rattle.lapin_outbox.specs.Passing.{AreHeld}
use Rattle.lapin_outbox.proofs.PassedOver.{held-pushed}
use Rattle.lapin_outbox.proofs.passing.Passing.push_reserved.Goals as goal

pub invariant_of-self : goal.invariant_of-self
invariant_of-self c = subst (AreHeld _ _) (sym c.push_reserved.ensures.keys) (held-pushed _ _ _ _ c.self.invariant)
