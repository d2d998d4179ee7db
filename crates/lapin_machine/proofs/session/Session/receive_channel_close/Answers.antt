use Rattle.std.proofs.Common.{◌≡◌, ◌∙◌, ℕ, refl, sym, ap, subst, List, Option, None, [], ◌∷◌, ◌++◌}
use Rattle.lapin_delivery.specs.WithRoom.{what}
use Rattle.lapin_types.specs.declared.record.Record.TheVariants as record_
use Rattle.lapin_types.specs.declared.request.Request.{Request}
use Rattle.lapin_types.specs.Types.error
use Rattle.lapin_types.specs.Types.method
use Rattle.lapin_types.specs.Types.channel
use Rattle.lapin_tables.specs.ByChannel.{at_channel, on_channel}
use Rattle.lapin_ticket.specs.Room.{Issued}
use Rattle.lapin_rules.specs.declared.phases.ChannelPhase.{ChannelPhase}
use Rattle.lapin_rules.specs.declared.broker_frames.Incoming.TheVariants as incoming
use Rattle.lapin_rules.specs.Frames.{MethodEntry}
use Rattle.lapin_rules.specs.Phases.{phase_in}
use Rattle.lapin_rules.specs.ChannelClose.{after_broker_close, has_sent_close}
use Rattle.lapin_rules.specs.Requests.{no_requests, ticket_of}
use Rattle.lapin_rules.specs.TicketReadings as mark
use Rattle.lapin_rules.specs.ChannelClose.{receives_close}
use Rattle.lapin_rules.specs.Wire.{state_of, phase_of}
use Rattle.lapin_outbox.specs.Open.{OpenRequests, requests_at}
use Rattle.lapin_outbox.specs.Outgoing.{OutboxState}
use Rattle.lapin_ticket.specs.Slots.{after_mark}
use Rattle.lapin_rules.specs.ConfirmMarks as confirm
use Rattle.lapin_confirm.specs.ConfirmState.{ConfirmState}
use Rattle.lapin_confirm.specs.Machine as confirm_state
use Rattle.lapin_outstanding.specs.Queued.{AreQueued}
use Rattle.lapin_outstanding.specs.Ended.{ended_outbox}
use Rattle.lapin_machine.specs.Kept.{kept_request, with_kept}
use Rattle.lapin_machine.specs.World.{World, receiving}
use Rattle.lapin_machine.proofs.Keeping.{tied_ended, kept_by}
use Rattle.lapin_machine.proofs.Openings.{receives_opening}
use Rattle.std.specs.List.{fold}
use Rattle.lapin_rules.specs.Ends.{cancels_at}
use Rattle.lapin_rules.specs.TicketReadings.{TicketMark}
use Rattle.lapin_machine.proofs.Seen.{with_entry}
use Rattle.lapin_machine.proofs.Worlds.{channel_close_incoming}
use Rattle.lapin_machine.proofs.session.Session.receive_channel_close.Goals as goal

pub invariant_of-self-2 : goal.invariant_of-self-2
invariant_of-self-2 c =
    let received = ap (λ (w : World). receives_close (state_of c.args.channel w.wire)) c.self.view_is ∙ c.requires in
    let here = receives_opening c.self.inside.link c.args.channel c.self.inside.phases.entries received in
    let entry : MethodEntry = record { channel = c.args.channel; method = method.Channel channel.CloseOk; ticket = None } in
    let taken = c.end_opening.ensures.outbox ∙ ap (ended_outbox c.args.channel) c.reserve.ensures.same in
    let Q : ConfirmState → Type 0 = λ p. AreQueued p.publish_states.cells c.end_opening.new.self.outbox.what.lists.publishes in
    let R : OutboxState → Type 0 = λ o. AreQueued (confirm_state.after_mark c.self.inside.confirms.what (confirm.Ended c.args.channel (error.ProtocolError c.args.code))).publish_states.cells o.lists.publishes in
    kept_by _ _ _ _ _ _ _ _ refl c.go.ensures (c.queue_own.ensures.outbox ∙ ap (with_entry entry) taken) (ap (λ (p : ConfirmState). p.publish_states) c.end_opening.ensures.confirms)
    (tied_ended c.self.inside.link c.args.channel (after_broker_close (phase_in (at_channel c.args.channel c.self.inside.phases.entries))) (error.ProtocolError c.args.code) c.self.inside.phases.entries _ _ c.self.inside.confirms.what.publish_states here.up here.some (subst R taken (subst Q c.end_opening.ensures.confirms c.end_opening.ensures.queued)) c.self.invariant.tied)
    c.self.invariant.unpoisoned

pub returns-clause-ok : goal.returns-clause-ok
returns-clause-ok c =
    let old : ChannelPhase = phase_in (at_channel c.args.channel c.self.inside.phases.entries) in
    let stood : c.phase-phase.result ≡ old = c.phase-phase.ensures ∙ sym (ap (λ (w : World). phase_of c.args.channel w.wire) c.self.view_is) in
    let close : c.kept_close-close.result ≡ kept_request (has_sent_close old) (requests_at c.args.channel c.self.inside.outstanding.replies.what) =
    c.kept_close-close.ensures.close
    ∙ ap (λ (q : ChannelPhase). kept_request (has_sent_close q) (requests_at c.args.channel c.reserve-2.new.self.what)) stood
    ∙ ap (λ (rs : List (ℕ × List Request)). kept_request (has_sent_close old) (requests_at c.args.channel rs)) c.reserve-2.ensures.same in
    let left : c.end_opening.new.self.replies.what ≡ on_channel c.args.channel no_requests c.self.inside.outstanding.replies.what =
    c.end_opening.ensures.requests ∙ c.kept_close-close.ensures.emptied ∙ ap (on_channel c.args.channel no_requests) c.reserve-2.ensures.same in
    let cancels : cancels_at c.args.channel c.kept_close-close.new.replies.what ≡ cancels_at c.args.channel c.self.inside.outstanding.replies.what =
    c.kept_close-close.ensures.cancels ∙ ap (cancels_at c.args.channel) c.reserve-2.ensures.same in
    let entry : MethodEntry = record { channel = c.args.channel; method = method.Channel channel.CloseOk; ticket = None } in
    channel_close_incoming c.self.inside.link c.self.inside.phases.entries c.self.inside.outstanding.outbox.what c.self.inside.outstanding.replies.what c.self.inside.contents (what c.self.inside.deliveries) c.self.inside.outstanding.tickets.slots c.self.inside.confirms.what c.args.channel c.args.code _ _ _ _ _ _ _
    c.go.ensures
    (c.queue_own.ensures.outbox ∙ ap (with_entry entry) (c.end_opening.ensures.outbox ∙ ap (ended_outbox c.args.channel) c.reserve.ensures.same))
    (ap (λ (r : OpenRequests). r.what) c.queue_own.ensures.replies ∙ c.keep.ensures
    ∙ ap (λ (o : Option Request). with_kept c.args.channel o c.end_opening.new.self.replies.what) close
    ∙ ap (with_kept c.args.channel (kept_request (has_sent_close old) (requests_at c.args.channel c.self.inside.outstanding.replies.what))) left)
    c.drop_channel.ensures
    (ap (λ (t : Issued). t.slots) c.queue_own.ensures.tickets ∙ c.end_opening.ensures.slots
    ∙ ap (λ (ms : List TicketMark). fold after_mark c.self.inside.outstanding.tickets.slots (ms ++ mark.OpeningFailed c.args.channel c.ticket_of-kept.result (error.ProtocolError c.args.code) ∷ [])) cancels
    ∙ ap (λ (k : Option ℕ). fold after_mark c.self.inside.outstanding.tickets.slots (cancels_at c.args.channel c.self.inside.outstanding.replies.what ++ mark.OpeningFailed c.args.channel k (error.ProtocolError c.args.code) ∷ [])) (c.ticket_of-kept.ensures ∙ ap ticket_of close))
    c.end_opening.ensures.confirms
    c.in_ok-end_channel.ensures.ok
    ∙ ap (λ (w : World). receiving (incoming.ChannelClose c.args.channel c.args.code) record_.Received w) c.self.view_is
