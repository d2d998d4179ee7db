use Rattle.std.proofs.Common.{◌∙◌, ℕ, refl, sym, ap, subst, List, Option, None, Ok, [], ◌∷◌, ◌++◌}
use Rattle.std.specs.List.{fold}
use Rattle.lapin_delivery.specs.WithRoom.{what}
use Rattle.lapin_types.specs.declared.answer.Answer.TheVariants as answer
use Rattle.lapin_types.specs.declared.record.Record.TheVariants as record_
use Rattle.lapin_types.specs.declared.request.ReplyKind.TheVariants as reply_kind
use Rattle.lapin_tables.specs.ByChannel.{on_channel}
use Rattle.lapin_rules.specs.declared.phases.ChannelPhase.TheVariants as phase
use Rattle.lapin_rules.specs.declared.broker_frames.Incoming.TheVariants as incoming
use Rattle.lapin_rules.specs.Requests.{without_kind, no_requests, ticket_of}
use Rattle.lapin_rules.specs.ChannelClose.{close_ok_end}
use Rattle.lapin_rules.specs.TicketReadings as mark
use Rattle.lapin_rules.specs.Requests.{resolved_with}
use Rattle.lapin_rules.specs.ChannelClose.{receives_close_ok}
use Rattle.lapin_rules.specs.Wire.{state_of, phase_of}
use Rattle.lapin_outbox.specs.Open.{OpenRequests}
use Rattle.lapin_outbox.specs.Outgoing.{Outgoing, OutboxState}
use Rattle.lapin_ticket.specs.declared.Slot.{Slot}
use Rattle.lapin_ticket.specs.Slots.{after_mark}
use Rattle.lapin_rules.specs.ConfirmMarks as confirm
use Rattle.lapin_confirm.specs.ConfirmState.{ConfirmState}
use Rattle.lapin_confirm.specs.Machine as confirm_state
use Rattle.lapin_outstanding.specs.Queued.{AreQueued}
use Rattle.lapin_outstanding.specs.Ended.{ended_outbox}
use Rattle.lapin_machine.specs.World.{World, receiving}
use Rattle.lapin_outstanding.proofs.Channels.{on_twice}
use Rattle.lapin_machine.proofs.Keeping.{tied_ended, kept_by}
use Rattle.lapin_machine.proofs.Openings.{close_ok_some}
use Rattle.lapin_rules.specs.Ends.{cancels_at}
use Rattle.lapin_types.specs.declared.request.Request.{Request}
use Rattle.lapin_rules.specs.TicketReadings.{TicketMark}
use Rattle.lapin_rules.specs.ChannelClose.{consumers_end}
use Rattle.lapin_types.specs.Types.{Error}
use Rattle.lapin_delivery.specs.Deliveries as deliveries
use Rattle.lapin_delivery.specs.Marks as delivery_mark
use Rattle.lapin_machine.proofs.Worlds.{closing_answered}
use Rattle.lapin_machine.proofs.session.Session.end_closing.Goals as goal

pub invariant_of-self-2 : goal.invariant_of-self-2
invariant_of-self-2 c =
    let received = ap (λ (w : World). receives_close_ok (state_of c.args.channel w.wire)) c.self.view_is ∙ c.requires.received in
    let here = close_ok_some c.self.inside.link c.args.channel c.self.inside.phases.entries received in
    let outbox = c.end_opening.ensures.outbox ∙ ap (λ (o : Outgoing). ended_outbox c.args.channel o.what) c.done.ensures.outbox in
    let Q : ConfirmState → Type 0 = λ p. AreQueued p.publish_states.cells c.end_opening.new.self.outbox.what.lists.publishes in
    let R : OutboxState → Type 0 = λ o. AreQueued (confirm_state.after_mark c.self.inside.confirms.what (confirm.Ended c.args.channel c.args.error)).publish_states.cells o.lists.publishes in
    kept_by _ _ _ _ _ _ _ _ refl c.go.ensures outbox (ap (λ (p : ConfirmState). p.publish_states) c.end_opening.ensures.confirms)
    (tied_ended c.self.inside.link c.args.channel phase.Closed c.args.error c.self.inside.phases.entries _ _ c.self.inside.confirms.what.publish_states here.0 here.1 (subst R outbox (subst Q c.end_opening.ensures.confirms c.end_opening.ensures.queued)) c.self.invariant.tied)
    c.self.invariant.unpoisoned

pub returns-clause-ok : goal.returns-clause-ok
returns-clause-ok c =
    let waiting = ap (λ (r : OpenRequests). r.what) c.done.ensures.replies ∙ c.take_close-close.ensures.waiting in
    closing_answered c.self.inside.link c.self.inside.phases.entries c.self.inside.outstanding.outbox.what c.self.inside.outstanding.replies.what c.self.inside.contents (what c.self.inside.deliveries) c.self.inside.outstanding.tickets.slots c.self.inside.confirms.what c.args.channel c.args.error _ _ _ _ _ _ _
    (ap (λ (w : World). close_ok_end (phase_of c.args.channel w.wire)) c.self.view_is ∙ c.requires.end)
    c.go.ensures
    (c.end_opening.ensures.outbox ∙ ap (λ (o : Outgoing). ended_outbox c.args.channel o.what) c.done.ensures.outbox)
    (c.end_opening.ensures.requests ∙ ap (on_channel c.args.channel no_requests) waiting ∙ on_twice c.args.channel (without_kind reply_kind.ChannelCloseOk) no_requests c.self.inside.outstanding.replies.what)
    c.drop_channel.ensures
    (c.end_opening.ensures.slots
    ∙ ap (λ (rs : List (ℕ × List Request)). fold after_mark c.done.new.self.tickets.slots (cancels_at c.args.channel rs ++ mark.OpeningFailed c.args.channel None c.args.error ∷ [])) (ap (λ (r : OpenRequests). r.what) c.done.ensures.replies)
    ∙ ap (λ (ms : List TicketMark). fold after_mark c.done.new.self.tickets.slots (ms ++ mark.OpeningFailed c.args.channel None c.args.error ∷ [])) c.take_close-close.ensures.cancels
    ∙ ap (λ (y : List (Option Slot)). fold after_mark y (cancels_at c.args.channel c.self.inside.outstanding.replies.what ++ mark.OpeningFailed c.args.channel None c.args.error ∷ []))
    (c.done.ensures.slots ∙ ap (λ (t : Option ℕ). fold after_mark c.self.inside.outstanding.tickets.slots (resolved_with (Ok answer.Done) t)) (c.into_ticket.ensures ∙ ap ticket_of c.take_close-close.ensures.taken)))
    c.end_opening.ensures.confirms
    (c.in_ok-end_channel.ensures.ok ∙ ap (λ (e : Option Error). deliveries.after_mark (what c.self.inside.deliveries) (delivery_mark.Ended c.args.channel e)) (c.consumers_end-due.ensures ∙ ap consumers_end (c.phase.ensures ∙ sym (ap (λ (w : World). phase_of c.args.channel w.wire) c.self.view_is))))
    ∙ ap (λ (w : World). receiving (incoming.ChannelCloseOk c.args.channel) record_.Received w) c.self.view_is
