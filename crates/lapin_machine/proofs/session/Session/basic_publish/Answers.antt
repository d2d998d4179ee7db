use Rattle.std.proofs.Common.{◌∙◌, sym, ap, refl}
use Rattle.lapin_types.specs.declared.leaving.Publish.{Publish}
use Rattle.lapin_rules.specs.Wire.{is_open, state_of}
use Rattle.lapin_outbox.specs.Outgoing.{OutboxState, with_publish, with_lists}
use Rattle.lapin_confirm.specs.ConfirmState.{ConfirmState}
use Rattle.lapin_machine.specs.World.{World}
use Rattle.lapin_machine.proofs.Keeping.{tied_publish, kept_by, clean}
use Rattle.lapin_machine.proofs.Openings.{open_opening}
use Rattle.lapin_machine.proofs.Seen.{publish_queued}
use Rattle.lapin_machine.proofs.session.Session.basic_publish.Goals as goal

pub invariant_of-self-2 : goal.invariant_of-self-2
invariant_of-self-2 c =
    let p : Publish = record { confirm = c.in_ok-confirm.confirm; ticket = c.give-ticket.result; channel = c.args.channel; exchange = c.args.exchange; routing_key = c.args.routing_key; options = c.args.options; payload = c.args.payload; properties = c.args.properties } in
    let open_ = ap (λ (w : World). is_open (state_of c.args.channel w.wire)) c.self.view_is ∙ sym (ap is_open c.channel_state-state.ensures) ∙ sym c.is_open.ensures ∙ c.if-not-is_open.false in
    let pushed = c.push_publish_reserved-queued.ensures.what in
    let queued = pushed ∙ publish_queued p c.reserve.new.self.outbox.what (clean c.args.channel _ _ c.reserve.ensures.same.outbox c.self.invariant.unpoisoned) ∙ ap (λ (o : OutboxState). with_lists (with_publish p o.lists) o) c.reserve.ensures.same.outbox in
    kept_by _ _ _ _ _ _ _ _ refl refl queued (ap (λ (p : ConfirmState). p.publish_states) c.in_ok-confirm.ensures.ok)
    (tied_publish c.self.inside.link c.args.channel c.self.inside.phases.entries _ _ p (open_opening c.self.inside.link c.args.channel c.self.inside.phases.entries open_).live c.in_ok-confirm.ensures.number refl c.self.invariant.tied)
    c.self.invariant.unpoisoned
