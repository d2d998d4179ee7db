use Rattle.std.proofs.Common.{refl, ap, true}
use Rattle.lapin_confirm.specs.ConfirmState.{ConfirmState}
use Rattle.lapin_machine.proofs.Keeping.{tied_settled, kept_by}
use Rattle.lapin_machine.proofs.session.Session.settle_many.Goals as goal

pub invariant_of-self : goal.invariant_of-self
invariant_of-self c = kept_by _ _ _ _ _ _ _ _ refl refl refl (ap (λ (p : ConfirmState). p.publish_states) c.settle_all.ensures.what) (tied_settled c.self.inside.link c.args.channel (record { kind = c.args.kind; tag = 0; multiple = true }) _ _ _ c.self.invariant.tied) c.self.invariant.unpoisoned

pub invariant_of-self-else-tag-eq0 : goal.invariant_of-self-else-tag-eq0
invariant_of-self-else-tag-eq0 c = kept_by _ _ _ _ _ _ _ _ refl refl refl (ap (λ (p : ConfirmState). p.publish_states) c.settle_up_to.ensures.what) (tied_settled c.self.inside.link c.args.channel (record { kind = c.args.kind; tag = c.args.tag; multiple = true }) _ _ _ c.self.invariant.tied) c.self.invariant.unpoisoned
