use Rattle.std.proofs.Common.{sym, subst}
use Rattle.lapin_outbox.specs.Passing.{AreHeld}
use Rattle.lapin_outbox.proofs.PassedOver.{held-taken}
use Rattle.lapin_outbox.proofs.passing.Passing.take_first.Goals as goal

pub invariant_of-self : goal.invariant_of-self
invariant_of-self c = subst (AreHeld _ _) (sym c.take_first.ensures.keys) (held-taken _ _ _ _ c.self.invariant)
