use Rattle.std.proofs.Common.{◌∙◌, refl, ap, None}
use Rattle.lapin_delivery.specs.WithRoom.{what}
use Rattle.lapin_types.specs.Types.{Method}
use Rattle.lapin_types.specs.Types.error
use Rattle.lapin_ticket.specs.Room.{Issued}
use Rattle.lapin_rules.specs.Frames.{MethodEntry}
use Rattle.lapin_rules.specs.Unexpected.{refused}
use Rattle.lapin_outbox.specs.Open.{OpenRequests}
use Rattle.lapin_outstanding.specs.Ended.{emptied_outbox}
use Rattle.lapin_confirm.specs.ConfirmState.{ConfirmState}
use Rattle.lapin_machine.specs.World.{World, receiving}
use Rattle.lapin_machine.proofs.Keeping.{tied_down, kept_by}
use Rattle.std.specs.List.{fold}
use Rattle.lapin_rules.specs.Ends.{deliveries_ends}
use Rattle.lapin_rules.specs.Ends.{live_channels}
use Rattle.lapin_delivery.specs.Deliveries.{Deliveries}
use Rattle.lapin_delivery.specs.Deliveries as deliveries
use Rattle.lapin_machine.proofs.Seen.{with_entry}
use Rattle.lapin_machine.proofs.Worlds.{unexpected_seen}
use Rattle.lapin_machine.proofs.session.Session.refuse.Goals as goal

pub invariant_of-self-2 : goal.invariant_of-self-2
invariant_of-self-2 c =
    let entry : MethodEntry = record { channel = 0; method = c.in_ok-method.method; ticket = None } in
    let outbox = c.queue_own.ensures.outbox ∙ ap (with_entry entry) (c.go_down.ensures.outbox ∙ ap emptied_outbox c.reserve.ensures.same) in
    kept_by _ _ _ _ _ _ _ _ refl c.go_down.ensures.phases outbox (ap (λ (p : ConfirmState). p.publish_states) c.go_down.ensures.confirms)
    (tied_down c.self.inside.link c.go_down.new.link (error.ProtocolError 505) _ _ c.self.inside.confirms.what c.self.invariant.tied) c.self.invariant.unpoisoned

pub returns-clause-ok : goal.returns-clause-ok
returns-clause-ok c = λ i.
    let entry : Method → MethodEntry = λ k. record { channel = 0; method = k; ticket = None } in
    let outbox = c.queue_own.ensures.outbox ∙ ap (with_entry (entry c.in_ok-method.method)) (c.go_down.ensures.outbox ∙ ap emptied_outbox c.reserve.ensures.same) ∙ ap (λ (k : Method). with_entry (entry k) (emptied_outbox c.self.inside.outstanding.outbox.what)) c.in_ok-method.ensures in
    unexpected_seen c.self.inside.link c.self.inside.phases.entries c.self.inside.outstanding.outbox.what c.self.inside.outstanding.replies.what c.self.inside.contents (what c.self.inside.deliveries) c.self.inside.outstanding.tickets.slots c.self.inside.confirms.what i c.args.class c.args.number _ _ _ _ _ _ _ _
    (c.go_down.ensures.link ∙ c.after-to.ensures)
    c.go_down.ensures.phases
    outbox
    (ap (λ (r : OpenRequests). r.what) (c.queue_own.ensures.replies ∙ c.go_down.ensures.requests) ∙ c.no_replies-replies.ensures)
    c.go_down.ensures.contents
    (ap (λ (t : Issued). t.slots) c.queue_own.ensures.tickets ∙ c.go_down.ensures.slots)
    c.go_down.ensures.confirms
    (c.go_down.ensures.deliveries ∙ ap (λ (x : Deliveries). fold deliveries.after_mark x (deliveries_ends (error.ProtocolError 505) (live_channels c.self.inside.phases.entries))) c.reserve_ends.ensures.same)
    ∙ ap (λ (w : World). receiving i (refused c.args.class c.args.number) w) c.self.view_is
