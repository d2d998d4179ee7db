use Rattle.std.proofs.Common.{◌∙◌, refl, sym, ap, None}
use Rattle.lapin_delivery.specs.WithRoom.{what}
use Rattle.lapin_types.specs.declared.record.Record.TheVariants as record_
use Rattle.lapin_types.specs.Types.error
use Rattle.lapin_types.specs.Types.method
use Rattle.lapin_types.specs.Types.connection
use Rattle.lapin_ticket.specs.Room.{Issued}
use Rattle.lapin_rules.specs.declared.broker_frames.Incoming.TheVariants as incoming
use Rattle.lapin_rules.specs.Frames.{MethodEntry}
use Rattle.lapin_outbox.specs.Open.{OpenRequests}
use Rattle.lapin_outstanding.specs.Ended.{emptied_outbox}
use Rattle.lapin_confirm.specs.ConfirmState.{ConfirmState}
use Rattle.lapin_machine.specs.World.{World, receiving}
use Rattle.lapin_machine.proofs.Keeping.{tied_down, tied_further, kept_by}
use Rattle.lapin_machine.proofs.Openings.{sent_down, crossed_by, closed_by}
use Rattle.std.specs.List.{fold}
use Rattle.lapin_rules.specs.Ends.{deliveries_ends}
use Rattle.lapin_rules.specs.Ends.{live_channels}
use Rattle.lapin_delivery.specs.Deliveries.{Deliveries}
use Rattle.lapin_delivery.specs.Deliveries as deliveries
use Rattle.lapin_machine.proofs.Seen.{with_entry, seen_is}
use Rattle.lapin_machine.proofs.Worlds.{connection_close_crossed, connection_close_incoming}
use Rattle.lapin_machine.proofs.session.Session.receive_connection_close.Goals as goal

pub invariant_of-self-then-is_close_sent : goal.invariant_of-self-then-is_close_sent
invariant_of-self-then-is_close_sent c =
    let entry : MethodEntry = record { channel = 0; method = method.Connection connection.CloseOk; ticket = None } in
    kept_by _ _ _ _ _ _ _ _ refl refl (c.queue_own.ensures.outbox ∙ ap (with_entry entry) c.reserve.ensures.same) refl
    (tied_further c.self.inside.link _ _ _ _ (sent_down c.self.inside.link (sym c.is_close_sent.ensures ∙ c.if-is_close_sent.true)) c.self.invariant.tied)
    c.self.invariant.unpoisoned

pub invariant_of-self-2 : goal.invariant_of-self-2
invariant_of-self-2 c =
    let entry : MethodEntry = record { channel = 0; method = method.Connection connection.CloseOk; ticket = None } in
    kept_by _ _ _ _ _ _ _ _ refl c.go_down.ensures.phases (c.queue_own-2.ensures.outbox ∙ ap (with_entry entry) (c.go_down.ensures.outbox ∙ ap emptied_outbox c.reserve.ensures.same)) (ap (λ (p : ConfirmState). p.publish_states) c.go_down.ensures.confirms)
    (tied_down c.self.inside.link c.go_down.new.link (error.ProtocolError c.args.code) _ _ c.self.inside.confirms.what c.self.invariant.tied)
    c.self.invariant.unpoisoned

pub returns-then-is_close_sent-clause-ok : goal.returns-then-is_close_sent-clause-ok
returns-then-is_close_sent-clause-ok c =
    let sent = sym c.is_close_sent.ensures ∙ c.if-is_close_sent.true in
    let entry : MethodEntry = record { channel = 0; method = method.Connection connection.CloseOk; ticket = None } in
    seen_is _ _ _ _ c.queue_own.new.self.outbox.what _ _ _ _ _ _ _ _ _ _ _ refl refl refl (ap (λ (r : OpenRequests). r.what) c.queue_own.ensures.replies) refl refl (ap (λ (t : Issued). t.slots) c.queue_own.ensures.tickets) refl
    ∙ connection_close_crossed c.self.inside.link c.self.inside.phases.entries c.self.inside.outstanding.outbox.what c.self.inside.outstanding.replies.what c.self.inside.contents (what c.self.inside.deliveries) c.self.inside.outstanding.tickets.slots c.self.inside.confirms.what c.args.code _ _
    sent
    (c.self.invariant.tied.down (sent_down c.self.inside.link sent))
    (c.after-self-inside.ensures ∙ crossed_by c.self.inside.link sent)
    (c.queue_own.ensures.outbox ∙ ap (with_entry entry) c.reserve.ensures.same)
    ∙ ap (λ (w : World). receiving (incoming.ConnectionClose c.args.code) record_.Received w) c.self.view_is

pub returns-clause-ok : goal.returns-clause-ok
returns-clause-ok c =
    let entry : MethodEntry = record { channel = 0; method = method.Connection connection.CloseOk; ticket = None } in
    connection_close_incoming c.self.inside.link c.self.inside.phases.entries c.self.inside.outstanding.outbox.what c.self.inside.outstanding.replies.what c.self.inside.contents (what c.self.inside.deliveries) c.self.inside.outstanding.tickets.slots c.self.inside.confirms.what c.args.code _ _ _ _ _ _ _ _
    (sym c.is_close_sent.ensures ∙ c.if-is_close_sent.false)
    (c.go_down.ensures.link ∙ c.after-to.ensures ∙ closed_by c.self.inside.link (sym c.is_close_sent.ensures ∙ c.if-is_close_sent.false))
    c.go_down.ensures.phases
    (c.queue_own-2.ensures.outbox ∙ ap (with_entry entry) (c.go_down.ensures.outbox ∙ ap emptied_outbox c.reserve.ensures.same))
    (ap (λ (r : OpenRequests). r.what) (c.queue_own-2.ensures.replies ∙ c.go_down.ensures.requests) ∙ c.in_ok-replies.ensures.made)
    c.go_down.ensures.contents
    (ap (λ (t : Issued). t.slots) c.queue_own-2.ensures.tickets ∙ c.go_down.ensures.slots)
    c.go_down.ensures.confirms
    (c.go_down.ensures.deliveries ∙ ap (λ (x : Deliveries). fold deliveries.after_mark x (deliveries_ends (error.ProtocolError c.args.code) (live_channels c.self.inside.phases.entries))) c.reserve_ends.ensures.same)
    ∙ ap (λ (w : World). receiving (incoming.ConnectionClose c.args.code) record_.Received w) c.self.view_is
