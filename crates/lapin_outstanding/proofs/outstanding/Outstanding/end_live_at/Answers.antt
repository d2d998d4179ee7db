use Rattle.std.proofs.Common.{◌∙◌, ap}
use Rattle.std.specs.List.{fold}
use Rattle.lapin_tables.specs.ByChannel.{on_channel}
use Rattle.lapin_rules.specs.Requests.{no_requests}
use Rattle.lapin_rules.specs.Ends.{cancels_at}
use Rattle.lapin_outbox.specs.Open.{OpenRequests}
use Rattle.lapin_ticket.specs.Room.{Issued}
use Rattle.lapin_ticket.specs.Slots.{after_mark}
use Rattle.lapin_outstanding.proofs.Ends.{found-live, none-live}
use Rattle.lapin_outstanding.proofs.Cancels.{found-others, found-cancels, none-cancels}
use Rattle.lapin_outstanding.proofs.outstanding.Outstanding.end_live_at.Goals as goal

pub returns-clause-confirms : goal.returns-clause-confirms
returns-clause-confirms c = c.end_publishes.ensures.confirms ∙ found-live c.args.error c.args.number c.in-Some.channel c.args.phases.now.entries c.args.confirms.now.what c.in-Some.ensures

pub returns-in_default-clause-confirms : goal.returns-in_default-clause-confirms
returns-in_default-clause-confirms c = none-live c.args.error c.args.number c.args.phases.now.entries c.args.confirms.now.what c.in_default.ensures

pub returns-clause-slots : goal.returns-clause-slots
returns-clause-slots c =
    let old = c.args.self.now in
    c.end_requests.ensures.slots
    ∙ ap (λ (t : Issued). fold after_mark t.slots (cancels_at c.in-Some.channel c.end_publishes.new.self.replies.what)) c.end_publishes.ensures.tickets
    ∙ ap (λ (r : OpenRequests). fold after_mark old.tickets.slots (cancels_at c.in-Some.channel r.what)) c.end_publishes.ensures.requests
    ∙ found-cancels c.args.number c.in-Some.channel c.args.phases.now.entries old.replies.what old.tickets.slots c.in-Some.ensures

pub returns-in_default-clause-slots : goal.returns-in_default-clause-slots
returns-in_default-clause-slots c = none-cancels c.args.number c.args.phases.now.entries c.args.self.now.replies.what c.args.self.now.tickets.slots c.in_default.ensures

pub returns-clause-others : goal.returns-clause-others
returns-clause-others c =
    let now = c.args.self.now.replies.what in
    found-others c.args.number c.in-Some.channel c.args.phases.now.entries now _ c.in-Some.ensures
    (c.end_requests.ensures.requests ∙ ap (λ (r : OpenRequests). on_channel c.in-Some.channel no_requests r.what) c.end_publishes.ensures.requests)
