use Rattle.std.proofs.Common.{refl, sym, ◌∙◌, ap}
use Rattle.std.specs.List.{fold}
use Rattle.lapin_rules.specs.Leaving.{Lists}
use Rattle.lapin_rules.specs.Ends.{cancels_at}
use Rattle.lapin_rules.specs.TicketReadings as mark
use Rattle.lapin_outbox.specs.Open.{OpenRequests}
use Rattle.lapin_outbox.specs.Outgoing.{Outgoing, OutboxState, with_lists}
use Rattle.lapin_outbox.specs.Returned.{with_returned, returned_off}
use Rattle.lapin_outbox.proofs.DropTickets.{publishes-before}
use Rattle.lapin_ticket.specs.Room.{Issued}
use Rattle.lapin_ticket.specs.Slots.{after_mark}
use Rattle.lapin_outstanding.specs.Ended.{ended_outbox}
use Rattle.lapin_outstanding.proofs.Waiting.{queue-same}
use Rattle.lapin_outstanding.proofs.Cancels.{cancels-then}
use Rattle.lapin_outstanding.proofs.outstanding.Outstanding.end_opening.Goals as goal

pub returns-clause-outbox : goal.returns-clause-outbox
returns-clause-outbox c =
    let old = c.args.self.now.outbox.what in
    ap (λ (o : Outgoing). o.what) c.end_requests.ensures.outbox
    ∙ c.drop_entries.ensures.outbox
    ∙ ap (ended_outbox c.args.channel) c.end_publishes.ensures.outbox
    ∙ ap (λ (l : Lists). with_lists l (with_returned (returned_off c.args.channel old.returned) old)) (publishes-before c.args.channel old.lists)

pub returns-clause-slots : goal.returns-clause-slots
returns-clause-slots c =
    let old = c.args.self.now in
    let before = c.drop_entries.ensures.tickets ∙ c.end_publishes.ensures.tickets in
    let waiting = c.drop_entries.ensures.requests ∙ c.end_publishes.ensures.requests in
    cancels-then old.tickets.slots c.end_requests.new.self.tickets.slots _ (cancels_at c.args.channel old.replies.what) (mark.OpeningFailed c.args.channel c.args.spared c.args.error)
    (c.end_requests.ensures.slots
    ∙ ap (λ (t : Issued). fold after_mark t.slots (cancels_at c.args.channel c.drop_entries.new.self.replies.what)) before
    ∙ ap (λ (r : OpenRequests). fold after_mark old.tickets.slots (cancels_at c.args.channel r.what)) waiting)
    c.end.ensures.slots

pub returns-clause-queued : goal.returns-clause-queued
returns-clause-queued c =
    let old = c.args.self.now.outbox.what in
    queue-same c.end_publishes.new.confirms.what.publish_states.cells _ c.end_publishes.new.self.outbox.what.lists.publishes _ refl
    (ap (λ (o : Outgoing). o.what.lists.publishes) c.end_requests.ensures.outbox
    ∙ ap (λ (o : OutboxState). o.lists.publishes) (c.drop_entries.ensures.outbox ∙ ap (ended_outbox c.args.channel) c.end_publishes.ensures.outbox)
    ∙ ap (λ (l : Lists). l.publishes) (publishes-before c.args.channel old.lists)
    ∙ sym (ap (λ (o : OutboxState). o.lists.publishes) c.end_publishes.ensures.outbox))
    c.end_publishes.ensures.queued
