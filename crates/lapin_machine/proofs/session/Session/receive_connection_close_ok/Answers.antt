use Rattle.std.proofs.Common.{◌∙◌, ℕ, refl, ap, Option, Ok}
use Rattle.std.specs.List.{fold}
use Rattle.lapin_delivery.specs.WithRoom.{what}
use Rattle.lapin_types.specs.declared.answer.Answer.TheVariants as answer
use Rattle.lapin_types.specs.declared.record.Record.TheVariants as record_
use Rattle.lapin_ticket.specs.Room.{Issued}
use Rattle.lapin_rules.specs.declared.broker_frames.Incoming.TheVariants as incoming
use Rattle.lapin_rules.specs.Phases.{is_up}
use Rattle.lapin_types.specs.declared.request.ReplyKind.TheVariants as reply_kind
use Rattle.lapin_rules.specs.Requests.{first_request, ticket_of}
use Rattle.lapin_rules.specs.Requests.{resolved_with}
use Rattle.lapin_rules.specs.ConnectionClose.{has_sent}
use Rattle.lapin_outbox.specs.Open.{OpenRequests, requests_at}
use Rattle.lapin_outbox.specs.Outgoing.{Outgoing}
use Rattle.lapin_ticket.specs.Slots as answers
use Rattle.lapin_machine.specs.World.{World, receiving}
use Rattle.lapin_machine.proofs.Keeping.{kept_by}
use Rattle.lapin_machine.proofs.Openings.{tied_unsent, clean_unsent}
use Rattle.lapin_machine.proofs.Worlds.{connection_answered}
use Rattle.lapin_machine.proofs.session.Session.receive_connection_close_ok.Goals as goal

pub invariant_of-self : goal.invariant_of-self
invariant_of-self c =
    let down = ap (λ (w : World). is_up w.wire.link) c.self.view_is ∙ c.requires in
    let outbox = ap (λ (o : Outgoing). o.what) c.done.ensures.outbox ∙ c.drop_unsent.ensures.outbox in
    kept_by _ _ _ _ _ _ _ _ refl refl outbox refl
    (tied_unsent (has_sent c.self.inside.link) c.self.inside.outstanding.outbox.what c.self.inside.link _ _ _ down c.self.invariant.tied)
    (clean_unsent (has_sent c.self.inside.link) c.self.inside.outstanding.outbox.what c.self.invariant.unpoisoned)

pub returns : goal.returns
returns c =
    connection_answered c.self.inside.link c.self.inside.phases.entries c.self.inside.outstanding.outbox.what c.self.inside.outstanding.replies.what c.self.inside.contents (what c.self.inside.deliveries) c.self.inside.outstanding.tickets.slots c.self.inside.confirms.what _ _ _ _
    c.after-self-inside.ensures
    (ap (λ (o : Outgoing). o.what) c.done.ensures.outbox ∙ c.drop_unsent.ensures.outbox)
    (ap (λ (r : OpenRequests). r.what) (c.done.ensures.replies ∙ c.drop_unsent.ensures.requests) ∙ c.take_request-close.ensures.waiting)
    (c.done.ensures.slots
    ∙ ap (λ (t : Option ℕ). fold answers.after_mark c.drop_unsent.new.outstanding.tickets.slots (resolved_with (Ok answer.Done) t)) (c.into_ticket.ensures ∙ ap ticket_of c.take_request-close.ensures.taken)
    ∙ ap (λ (y : Issued). fold answers.after_mark y.slots (resolved_with (Ok answer.Done) (ticket_of (first_request reply_kind.ConnectionCloseOk (requests_at 0 c.self.inside.outstanding.replies.what))))) c.drop_unsent.ensures.tickets)
    ∙ ap (λ (w : World). receiving incoming.ConnectionCloseOk record_.Received w) c.self.view_is
