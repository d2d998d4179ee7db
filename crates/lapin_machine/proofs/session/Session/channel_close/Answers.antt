use Rattle.std.proofs.Common.{◌∙◌, refl, sym, ap, subst, length, ℕ, ◌+◌, List, Option, Some}
use Rattle.lapin_delivery.specs.WithRoom.{what}
use Rattle.lapin_types.specs.declared.call.Call.TheVariants as call
use Rattle.lapin_types.specs.declared.event.Event.TheVariants as event
use Rattle.lapin_types.specs.declared.request.Reply.TheVariants as reply
use Rattle.lapin_types.specs.Types.method
use Rattle.lapin_types.specs.Types.channel
use Rattle.lapin_rules.specs.declared.phases.Closer.TheVariants as closer
use Rattle.lapin_rules.specs.Frames.{MethodEntry}
use Rattle.lapin_rules.specs.ChannelClose.{failed_at_close}
use Rattle.lapin_rules.specs.TicketReadings as mark
use Rattle.lapin_rules.specs.Wire.{is_open, state_of, requests_with}
use Rattle.lapin_outbox.specs.Open.{OpenRequests}
use Rattle.lapin_outbox.specs.Outgoing.{OutboxState}
use Rattle.lapin_ticket.specs.declared.Slot.{Slot}
use Rattle.lapin_ticket.specs.Slots.{after_mark}
use Rattle.lapin_rules.specs.ConfirmMarks as confirm
use Rattle.lapin_confirm.specs.ConfirmState.{ConfirmState}
use Rattle.lapin_confirm.specs.Machine as confirm_state
use Rattle.lapin_outstanding.specs.Queued.{AreQueued}
use Rattle.lapin_machine.specs.World.{World, next}
use Rattle.lapin_machine.proofs.Keeping.{tied_closing, kept_by}
use Rattle.lapin_machine.proofs.Openings.{open_opening}
use Rattle.lapin_machine.proofs.Seen.{with_entry, without_unbegun}
use Rattle.lapin_machine.proofs.Worlds.{channel_close_seen}
use Rattle.lapin_machine.proofs.session.Session.channel_close.Goals as goal

pub invariant_of-self-2 : goal.invariant_of-self-2
invariant_of-self-2 c =
    let open_ = ap (λ (w : World). is_open (state_of c.args.channel w.wire)) c.self.view_is ∙ sym (ap is_open c.channel_state-state.ensures) ∙ sym c.is_open.ensures ∙ c.if-not-is_open.false in
    let here = open_opening c.self.inside.link c.args.channel c.self.inside.phases.entries open_ in
    let entry : MethodEntry = record { channel = c.args.channel; method = method.Channel (channel.Close c.args.reply_code c.args.reply_text 0 0); ticket = Some (length c.begin_close.new.outstanding.tickets.slots + 1) } in
    let taken = c.begin_close.ensures.outbox ∙ ap (without_unbegun c.args.channel) c.reserve.ensures.same.outbox in
    let Q : ConfirmState → Type 0 = λ p. AreQueued p.publish_states.cells c.begin_close.new.outstanding.outbox.what.lists.publishes in
    let R : OutboxState → Type 0 = λ o. AreQueued (confirm_state.after_mark c.self.inside.confirms.what (confirm.ClosedHere c.args.channel (failed_at_close closer.Application))).publish_states.cells o.lists.publishes in
    kept_by _ _ _ _ _ _ _ _ refl c.begin_close.ensures.phases (c.queue_awaiting-number.ensures.outbox ∙ ap (with_entry entry) taken) (ap (λ (p : ConfirmState). p.publish_states) c.begin_close.ensures.confirms)
    (tied_closing c.self.inside.link c.args.channel closer.Application (failed_at_close closer.Application) c.self.inside.phases.entries _ _ c.self.inside.confirms.what.publish_states here.up here.some
    (subst R taken (subst Q c.begin_close.ensures.confirms c.begin_close.ensures.queued)) c.self.invariant.tied)
    c.self.invariant.unpoisoned

pub returns-clause-ok : goal.returns-clause-ok
returns-clause-ok c =
    let open_ = ap (λ (w : World). is_open (state_of c.args.channel w.wire)) c.self.view_is ∙ sym (ap is_open c.channel_state-state.ensures) ∙ sym c.is_open.ensures ∙ c.if-not-is_open.false in
    let number : ℕ = length c.begin_close.new.outstanding.tickets.slots + 1 in
    let entry : MethodEntry = record { channel = c.args.channel; method = method.Channel (channel.Close c.args.reply_code c.args.reply_text 0 0); ticket = Some number } in
    channel_close_seen c.self.inside.link c.self.inside.phases.entries c.self.inside.outstanding.outbox.what c.self.inside.outstanding.replies.what c.self.inside.contents (what c.self.inside.deliveries) c.self.inside.outstanding.tickets.slots c.self.inside.confirms.what c.args.channel c.args.reply_code c.args.reply_text _ _ _ _ c.begin_close.new.outstanding.tickets.slots _ _
    open_
    c.begin_close.ensures.phases
    (c.begin_close.ensures.slots ∙ ap (λ (y : List (Option Slot)). after_mark y (mark.ClosedHere c.args.channel (failed_at_close closer.Application))) c.reserve.ensures.same.slots)
    (c.queue_awaiting-number.ensures.outbox ∙ ap (with_entry entry) (c.begin_close.ensures.outbox ∙ ap (without_unbegun c.args.channel) c.reserve.ensures.same.outbox))
    (c.queue_awaiting-number.ensures.requests ∙ ap (requests_with c.args.channel number (Some reply.ChannelCloseOk)) (ap (λ (r : OpenRequests). r.what) c.begin_close.ensures.requests ∙ c.reserve.ensures.same.requests))
    c.queue_awaiting-number.ensures.slots
    c.begin_close.ensures.confirms
    c.ask_close.ensures
    ∙ ap (λ (w : World). next w (event.Call c.args.channel (call.ChannelClose c.args.reply_code c.args.reply_text))) c.self.view_is
