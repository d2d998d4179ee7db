use Rattle.std.proofs.Common.{◌∙◌, refl, ap}
use Rattle.lapin_rules.specs.ChannelClose.{close_ok_end}
use Rattle.lapin_rules.specs.ChannelClose.{receives_close_ok}
use Rattle.lapin_rules.specs.Wire.{state_of, phase_of}
use Rattle.lapin_outbox.specs.Outgoing.{Outgoing}
use Rattle.lapin_machine.specs.World.{World}
use Rattle.lapin_machine.proofs.Keeping.{tied_closed, kept_by}
use Rattle.lapin_machine.proofs.Openings.{close_ok_some, crossed_over}
use Rattle.lapin_machine.proofs.session.Session.end_crossed.Goals as goal

pub invariant_of-self : goal.invariant_of-self
invariant_of-self c =
    let received = ap (λ (w : World). receives_close_ok (state_of c.args.channel w.wire)) c.self.view_is ∙ c.requires.received in
    let over = ap (λ (w : World). close_ok_end (phase_of c.args.channel w.wire)) c.self.view_is ∙ c.requires.end in
    let here = close_ok_some c.self.inside.link c.args.channel c.self.inside.phases.entries received in
    kept_by _ _ _ _ _ _ _ _ refl c.go.ensures (ap (λ (o : Outgoing). o.what) c.done.ensures.outbox) refl
    (tied_closed c.self.inside.link c.args.channel c.self.inside.phases.entries _ _ here.0 (crossed_over c.self.inside.link c.args.channel c.self.inside.phases.entries over received) here.1 c.self.invariant.tied)
    c.self.invariant.unpoisoned
