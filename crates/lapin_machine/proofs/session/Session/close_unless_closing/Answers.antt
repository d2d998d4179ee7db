use Rattle.std.proofs.Common.{◌∙◌, refl, sym, ap, subst, None}
use Rattle.lapin_delivery.specs.WithRoom.{what}
use Rattle.lapin_types.specs.declared.record.Record.TheVariants as record_
use Rattle.lapin_types.specs.Types.{Method}
use Rattle.lapin_types.specs.Types.error
use Rattle.lapin_ticket.specs.Room.{Issued}
use Rattle.lapin_rules.specs.declared.broker_frames.Incoming.TheVariants as incoming
use Rattle.lapin_rules.specs.declared.phases.Closer.TheVariants as closer
use Rattle.lapin_rules.specs.Frames.{MethodEntry}
use Rattle.lapin_rules.specs.ChannelClose.{failed_at_close}
use Rattle.lapin_rules.specs.Wire.{is_open, state_of}
use Rattle.lapin_outbox.specs.Open.{OpenRequests}
use Rattle.lapin_outbox.specs.Outgoing.{OutboxState}
use Rattle.lapin_rules.specs.ConfirmMarks as confirm
use Rattle.lapin_confirm.specs.PublishStates.{single_of}
use Rattle.lapin_confirm.specs.ConfirmState.{ConfirmState}
use Rattle.lapin_confirm.specs.Machine as confirm_state
use Rattle.lapin_outstanding.specs.Queued.{AreQueued}
use Rattle.lapin_machine.specs.World.{World, receiving}
use Rattle.lapin_machine.proofs.Keeping.{tied_closing, kept_by}
use Rattle.lapin_machine.proofs.Openings.{open_opening}
use Rattle.lapin_machine.proofs.Seen.{with_entry, without_unbegun, seen_is}
use Rattle.lapin_machine.proofs.Worlds.{failed_seen}
use Rattle.lapin_machine.proofs.session.Session.close_unless_closing.Goals as goal

pub invariant_of-self-2 : goal.invariant_of-self-2
invariant_of-self-2 c =
    let open_ = ap (λ (w : World). is_open (state_of c.args.channel w.wire)) c.self.view_is ∙ sym (ap is_open c.channel_state.ensures) ∙ sym c.is_open.ensures ∙ c.if-not-is_open.false in
    let here = open_opening c.self.inside.link c.args.channel c.self.inside.phases.entries open_ in
    let entry : MethodEntry = record { channel = c.args.channel; method = c.in_ok-method.method; ticket = None } in
    let taken = c.begin_close.ensures.outbox ∙ ap (without_unbegun c.args.channel) c.reserve.ensures.same in
    let Q : ConfirmState → Type 0 = λ p. AreQueued p.publish_states.cells c.begin_close.new.outstanding.outbox.what.lists.publishes in
    let R : OutboxState → Type 0 = λ o. AreQueued (confirm_state.after_mark c.self.inside.confirms.what (confirm.ClosedHere c.args.channel (failed_at_close closer.Session))).publish_states.cells o.lists.publishes in
    kept_by _ _ _ _ _ _ _ _ refl c.begin_close.ensures.phases (c.queue_own.ensures.outbox ∙ ap (with_entry entry) taken) (ap (λ (p : ConfirmState). p.publish_states) c.begin_close.ensures.confirms)
    (tied_closing c.self.inside.link c.args.channel closer.Session (failed_at_close closer.Session) c.self.inside.phases.entries _ _ c.self.inside.confirms.what.publish_states here.up here.some
    (subst R taken (subst Q c.begin_close.ensures.confirms c.begin_close.ensures.queued)) c.self.invariant.tied)
    c.self.invariant.unpoisoned

pub returns-clause-ok : goal.returns-clause-ok
returns-clause-ok c = λ tag current.
    let open_ = ap (λ (w : World). is_open (state_of c.args.channel w.wire)) c.self.view_is ∙ sym (ap is_open c.channel_state.ensures) ∙ sym c.is_open.ensures ∙ c.if-not-is_open.false in
    let entry : Method → MethodEntry = λ k. record { channel = c.args.channel; method = k; ticket = None } in
    let outbox = c.queue_own.ensures.outbox
    ∙ ap (with_entry (entry c.in_ok-method.method)) (c.begin_close.ensures.outbox ∙ ap (without_unbegun c.args.channel) c.reserve.ensures.same)
    ∙ ap (λ (k : Method). with_entry (entry k) (without_unbegun c.args.channel c.self.inside.outstanding.outbox.what)) c.in_ok-method.ensures in
    seen_is _ _ _ _ c.queue_own.new.self.outbox.what _ _ _ _ _ _ _ _ _ _ _ refl refl refl (ap (λ (r : OpenRequests). r.what) (c.queue_own.ensures.replies ∙ c.begin_close.ensures.requests)) refl refl refl refl
    ∙ failed_seen c.self.inside.link c.self.inside.phases.entries c.self.inside.outstanding.outbox.what c.self.inside.outstanding.replies.what c.self.inside.contents (what c.self.inside.deliveries) c.self.inside.outstanding.tickets.slots c.self.inside.confirms.what c.args.channel (single_of c.args.kind tag) tag current _ _ _ _
    open_
    c.begin_close.ensures.phases
    outbox
    (ap (λ (t : Issued). t.slots) c.queue_own.ensures.tickets ∙ c.begin_close.ensures.slots)
    c.begin_close.ensures.confirms
    ∙ ap (λ (w : World). receiving (incoming.Settlement c.args.channel (single_of c.args.kind tag)) (record_.Refused (error.PreconditionFailed tag current)) w) c.self.view_is
