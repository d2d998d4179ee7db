use Rattle.std.proofs.Common.{refl, ap}
use Rattle.lapin_confirm.specs.ConfirmState.{ConfirmState}
use Rattle.lapin_machine.proofs.Keeping.{tied_given, kept_by}
use Rattle.lapin_machine.proofs.session.Session.poll_confirm.Goals as goal

pub invariant_of-self : goal.invariant_of-self
invariant_of-self c = kept_by _ _ _ _ _ _ _ _ refl refl refl (ap (λ (p : ConfirmState). p.publish_states) c.take.ensures.what) (tied_given c.args.number _ _ _ c.self.inside.confirms.what c.self.invariant.tied) c.self.invariant.unpoisoned
