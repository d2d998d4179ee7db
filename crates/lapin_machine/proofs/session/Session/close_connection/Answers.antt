use Rattle.std.proofs.Common.{◌∙◌, refl, sym, ap, length, ℕ, ◌+◌, List, Option, Some, [], ◌∷◌, ◌++◌}
use Rattle.lapin_delivery.specs.WithRoom.{what}
use Rattle.lapin_types.specs.declared.call.Call.TheVariants as call
use Rattle.lapin_types.specs.declared.event.Event.TheVariants as event
use Rattle.lapin_types.specs.declared.request.Reply.TheVariants as reply
use Rattle.lapin_types.specs.Types.method
use Rattle.lapin_types.specs.Types.connection
use Rattle.lapin_rules.specs.Frames.{MethodEntry}
use Rattle.lapin_rules.specs.ConnectionClose.{failed_at_connection_close}
use Rattle.lapin_rules.specs.Wire.{is_base, state_of, requests_with}
use Rattle.lapin_rules.specs.TicketReadings as mark
use Rattle.lapin_ticket.specs.declared.Slot.{Slot}
use Rattle.lapin_ticket.specs.Slots.{after_mark}
use Rattle.lapin_outbox.specs.Open.{OpenRequests}
use Rattle.lapin_outstanding.specs.Ended.{emptied_outbox}
use Rattle.lapin_confirm.specs.ConfirmState.{ConfirmState}
use Rattle.lapin_machine.specs.World.{World, next}
use Rattle.lapin_machine.proofs.Keeping.{tied_down, kept_by}
use Rattle.std.specs.List.{fold}
use Rattle.lapin_rules.specs.Ends.{deliveries_ends}
use Rattle.lapin_rules.specs.Ends.{cancels_on}
use Rattle.lapin_rules.specs.Ends.{live_channels}
use Rattle.lapin_types.specs.declared.request.Request.{Request}
use Rattle.lapin_rules.specs.TicketReadings.{TicketMark}
use Rattle.lapin_delivery.specs.Deliveries.{Deliveries}
use Rattle.lapin_delivery.specs.Deliveries as deliveries
use Rattle.lapin_machine.proofs.Seen.{with_entry}
use Rattle.lapin_machine.proofs.Worlds.{connection_close_seen}
use Rattle.lapin_machine.proofs.session.Session.close_connection.Goals as goal

pub invariant_of-self-2 : goal.invariant_of-self-2
invariant_of-self-2 c =
    let entry : MethodEntry = record { channel = c.args.channel; method = method.Connection (connection.Close c.args.reply_code c.args.reply_text 0 0); ticket = Some (length c.go_down.new.outstanding.tickets.slots + 1) } in
    let outbox = c.queue_awaiting-number.ensures.outbox ∙ ap (with_entry entry) (c.go_down.ensures.outbox ∙ ap emptied_outbox c.reserve-2.ensures.same.outbox) in
    kept_by _ _ _ _ _ _ _ _ refl c.go_down.ensures.phases outbox (ap (λ (p : ConfirmState). p.publish_states) c.go_down.ensures.confirms)
    (tied_down c.self.inside.link c.go_down.new.link failed_at_connection_close _ _ c.self.inside.confirms.what c.self.invariant.tied) c.self.invariant.unpoisoned

pub returns-clause-ok : goal.returns-clause-ok
returns-clause-ok c =
    let base_ = ap (λ (w : World). is_base (state_of c.args.channel w.wire)) c.self.view_is ∙ sym (ap is_base c.channel_state-state.ensures) ∙ sym c.is_base.ensures ∙ c.if-not-is_base.false in
    let failed : List (ℕ × List Request) → List TicketMark = λ r. cancels_on (live_channels c.self.inside.phases.entries) r ++ mark.AllFailed failed_at_connection_close ∷ [] in
    let number : ℕ = length c.go_down.new.outstanding.tickets.slots + 1 in
    let entry : MethodEntry = record { channel = c.args.channel; method = method.Connection (connection.Close c.args.reply_code c.args.reply_text 0 0); ticket = Some number } in
    connection_close_seen c.self.inside.link c.self.inside.phases.entries c.self.inside.outstanding.outbox.what c.self.inside.outstanding.replies.what c.self.inside.contents (what c.self.inside.deliveries) c.self.inside.outstanding.tickets.slots c.self.inside.confirms.what c.args.channel c.args.reply_code c.args.reply_text _ _ _ _ _ _ c.go_down.new.outstanding.tickets.slots _ _
    base_
    (c.go_down.ensures.link ∙ c.after-to.ensures)
    c.go_down.ensures.phases
    (c.go_down.ensures.slots
    ∙ ap (λ (y : List (Option Slot)). fold after_mark y (failed c.reserve-2.new.self.replies.what)) c.reserve-2.ensures.same.slots
    ∙ ap (λ (r : List (ℕ × List Request)). fold after_mark c.self.inside.outstanding.tickets.slots (failed r)) c.reserve-2.ensures.same.requests)
    (c.queue_awaiting-number.ensures.outbox ∙ ap (with_entry entry) (c.go_down.ensures.outbox ∙ ap emptied_outbox c.reserve-2.ensures.same.outbox))
    (c.queue_awaiting-number.ensures.requests ∙ ap (requests_with c.args.channel number (Some reply.ConnectionCloseOk)) (ap (λ (r : OpenRequests). r.what) c.go_down.ensures.requests ∙ c.reserve.ensures.same ∙ c.in_ok-replies.ensures.made))
    c.go_down.ensures.contents
    c.queue_awaiting-number.ensures.slots
    c.go_down.ensures.confirms
    (c.go_down.ensures.deliveries ∙ ap (λ (x : Deliveries). fold deliveries.after_mark x (deliveries_ends failed_at_connection_close (live_channels c.self.inside.phases.entries))) c.reserve_ends.ensures.same)
    ∙ ap (λ (w : World). next w (event.Call c.args.channel (call.ConnectionClose c.args.reply_code c.args.reply_text))) c.self.view_is
