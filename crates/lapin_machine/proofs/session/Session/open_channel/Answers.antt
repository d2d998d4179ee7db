use Rattle.std.proofs.Common.{◌≡◌, ◌∙◌, ℕ, sym, ap, refl, List, Option, Some, length, ◌+◌}
use Rattle.lapin_delivery.specs.WithRoom.{what}
use Rattle.lapin_delivery.specs.Deliveries.{Deliveries, after_mark as after_deliveries_mark}
use Rattle.lapin_delivery.specs.Marks as delivery_mark
use Rattle.lapin_types.specs.declared.request.Reply.TheVariants as reply
use Rattle.lapin_rules.specs.declared.phases.ChannelPhase.TheVariants as phase
use Rattle.lapin_rules.specs.Words.{with_channel}
use Rattle.lapin_types.specs.Types.method
use Rattle.lapin_types.specs.Types.channel
use Rattle.lapin_rules.specs.Frames.{MethodEntry}
use Rattle.lapin_rules.specs.declared.calls.Asked.TheVariants as ask
use Rattle.lapin_rules.specs.declared.marks.AtLeaving.TheVariants as leaving
use Rattle.lapin_rules.specs.TicketReadings as mark
use Rattle.lapin_rules.specs.Wire.{is_closed, state_of, requests_with}
use Rattle.lapin_ticket.specs.declared.Slot.{Slot}
use Rattle.lapin_ticket.specs.Slots.{after_mark}
use Rattle.lapin_confirm.specs.ConfirmState.{ConfirmState}
use Rattle.lapin_machine.specs.World.{World, asking}
use Rattle.lapin_machine.proofs.Keeping.{tied_opened, kept_by}
use Rattle.lapin_machine.proofs.Openings.{closed_over}
use Rattle.lapin_machine.proofs.Seen.{with_entry}
use Rattle.lapin_machine.proofs.Beginnings.{open_seen}
use Rattle.lapin_machine.proofs.session.Session.open_channel.Goals as goal

pub begin-requires : goal.begin-requires
begin-requires c =
    let closed = ap (λ (w : World). is_closed (state_of c.args.channel w.wire)) c.self.view_is ∙ sym (ap is_closed c.channel_state-state.ensures) ∙ sym c.is_closed.ensures ∙ c.if-not-is_closed.false in
    c.self.invariant.tied.done c.args.channel (closed_over c.self.inside.link c.args.channel c.self.inside.phases.entries closed).1

pub invariant_of-self-2 : goal.invariant_of-self-2
invariant_of-self-2 c =
    let closed = ap (λ (w : World). is_closed (state_of c.args.channel w.wire)) c.self.view_is ∙ sym (ap is_closed c.channel_state-state.ensures) ∙ sym c.is_closed.ensures ∙ c.if-not-is_closed.false in
    let entry : MethodEntry = record { channel = c.args.channel; method = method.Channel channel.Open; ticket = Some (length c.reserve-2.new.self.tickets.slots + 1) } in
    kept_by _ _ _ _ _ _ _ _ refl
    (c.go.ensures ∙ ap (with_channel c.args.channel phase.Opening) c.reserve.ensures.same)
    (c.queue_awaiting-number.ensures.outbox ∙ ap (with_entry entry) c.reserve-2.ensures.same.outbox)
    (ap (λ (p : ConfirmState). p.publish_states) c.in_ok-begin.ensures.ok)
    (tied_opened c.self.inside.link c.args.channel _ _ c.self.inside.confirms.what (closed_over c.self.inside.link c.args.channel c.self.inside.phases.entries closed).0 c.self.invariant.tied)
    c.self.invariant.unpoisoned

pub returns-clause-ok : goal.returns-clause-ok
returns-clause-ok c =
    let closed = ap (λ (w : World). is_closed (state_of c.args.channel w.wire)) c.self.view_is ∙ sym (ap is_closed c.channel_state-state.ensures) ∙ sym c.is_closed.ensures ∙ c.if-not-is_closed.false in
    let entry : ℕ → MethodEntry = λ n. record { channel = c.args.channel; method = method.Channel channel.Open; ticket = Some (n + 1) } in
    let slots : c.reserve-2.new.self.tickets.slots ≡ c.self.inside.outstanding.tickets.slots = c.reserve-2.ensures.same.slots in
    let count : length c.reserve-2.new.self.tickets.slots ≡ length c.self.inside.outstanding.tickets.slots = ap length slots in
    open_seen c.self.inside.link c.self.inside.phases.entries c.self.inside.outstanding.outbox.what c.self.inside.outstanding.replies.what c.self.inside.contents (what c.self.inside.deliveries) c.self.inside.outstanding.tickets.slots c.self.inside.confirms.what c.args.channel _ _ _ _ _ _
    closed
    (c.go.ensures ∙ ap (with_channel c.args.channel phase.Opening) c.reserve.ensures.same)
    (c.queue_awaiting-number.ensures.outbox ∙ ap (λ n. with_entry (entry n) c.reserve-2.new.self.outbox.what) count ∙ ap (with_entry (entry (length c.self.inside.outstanding.tickets.slots))) c.reserve-2.ensures.same.outbox)
    (c.queue_awaiting-number.ensures.requests
    ∙ ap (λ n. requests_with c.args.channel (n + 1) (Some reply.ChannelOpenOk) c.reserve-2.new.self.replies.what) count
    ∙ ap (requests_with c.args.channel (length c.self.inside.outstanding.tickets.slots + 1) (Some reply.ChannelOpenOk)) c.reserve-2.ensures.same.requests)
    (c.queue_awaiting-number.ensures.slots ∙ ap (λ (y : List (Option Slot)). after_mark y (mark.Given c.args.channel leaving.Nothing)) slots)
    c.in_ok-begin.ensures.ok
    (c.begin-2.ensures ∙ ap (λ (i : Deliveries). after_deliveries_mark i (delivery_mark.Opened c.args.channel)) c.reserve_opening.ensures.same)
    ∙ ap (λ (w : World). asking c.args.channel ask.Open w) c.self.view_is
