use Rattle.std.proofs.Common.{◌∙◌, ap, refl}
use Rattle.lapin_rules.specs.Reply.{receives_reply}
use Rattle.lapin_outbox.specs.Outgoing.{Outgoing}
use Rattle.lapin_machine.specs.World.{World}
use Rattle.lapin_machine.proofs.Keeping.{kept_by}
use Rattle.lapin_machine.proofs.Openings.{tied_replied, replied_opening}
use Rattle.lapin_machine.proofs.session.Session.take_reply.Goals as goal

pub phase_replied-requires : goal.phase_replied-requires
phase_replied-requires c =
    let received = ap (λ (w : World). receives_reply c.args.channel c.args.kind w.wire) c.self.view_is ∙ c.requires in
    (replied_opening c.self.inside.link c.args.channel c.args.kind c.self.inside.phases.entries _ received).some

pub invariant_of-self-2 : goal.invariant_of-self-2
invariant_of-self-2 c =
    let received = ap (λ (w : World). receives_reply c.args.channel c.args.kind w.wire) c.self.view_is ∙ c.requires in
    kept_by _ _ _ _ _ _ _ _ refl c.phase_replied.ensures (ap (λ (o : Outgoing). o.what) c.answer_first.ensures.outbox) refl
    (tied_replied c.self.inside.link c.args.channel c.args.kind _ _ _ (replied_opening c.self.inside.link c.args.channel c.args.kind c.self.inside.phases.entries _ received) c.self.invariant.tied)
    c.self.invariant.unpoisoned
