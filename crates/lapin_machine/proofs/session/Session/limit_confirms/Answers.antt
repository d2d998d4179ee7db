use Rattle.std.proofs.Common.{refl, ap}
use Rattle.lapin_outbox.specs.Outgoing.{Outgoing}
use Rattle.lapin_confirm.specs.ConfirmState.{ConfirmState}
use Rattle.lapin_machine.proofs.Keeping.{tied_limited, kept_by}
use Rattle.lapin_machine.proofs.session.Session.limit_confirms.Goals as goal

pub invariant_of-self-2 : goal.invariant_of-self-2
invariant_of-self-2 c =
    kept_by _ _ _ _ _ _ _ _ refl refl (ap (λ (o : Outgoing). o.what) c.done.ensures.outbox) (ap (λ (p : ConfirmState). p.publish_states) c.set_limit.ensures.what)
    (tied_limited c.self.inside.link c.args.channel c.args.limit _ _ c.self.inside.confirms.what.publish_states c.self.invariant.tied) c.self.invariant.unpoisoned
