use Rattle.std.proofs.Common.{◌∙◌, Some, refl, sym, ap}
use Rattle.std.specs.List.{fold}
use Rattle.lapin_delivery.specs.WithRoom.{what}
use Rattle.lapin_types.specs.declared.record.Record.TheVariants as record_
use Rattle.lapin_content.specs.Channels.{expected_on}
use Rattle.lapin_rules.specs.declared.broker_frames.Incoming.TheVariants as incoming
use Rattle.lapin_rules.specs.Content.{next_acker, whole_deliveries, whole_marks, whole_tickets}
use Rattle.lapin_delivery.specs.Deliveries.{Deliveries}
use Rattle.lapin_delivery.specs.Deliveries as deliveries
use Rattle.lapin_ticket.specs.Slots as answers
use Rattle.lapin_outbox.specs.Open.{OpenRequests}
use Rattle.lapin_outbox.specs.Outgoing.{Outgoing}
use Rattle.lapin_confirm.specs.Machine as confirm_state
use Rattle.lapin_confirm.specs.ConfirmState.{ConfirmState}
use Rattle.lapin_machine.specs.Whole.{ended_by}
use Rattle.lapin_machine.specs.World.{World, receiving}
use Rattle.lapin_machine.proofs.Causes.{room_heard}
use Rattle.lapin_machine.proofs.Keeping.{kept_by}
use Rattle.lapin_machine.proofs.Parts.{part_seen, whole_publish_states}
use Rattle.lapin_machine.proofs.Seen.{seen_is}
use Rattle.lapin_machine.proofs.session.Session.receive_bytes.Goals as goal

-- ---- there is no room

pub invariant_of-self : goal.invariant_of-self
invariant_of-self c = kept_by _ _ _ _ _ _ _ _ refl refl refl (ap (λ (p : ConfirmState). p.publish_states) c.make_room-made.ensures.same.0) c.self.invariant.tied c.self.invariant.unpoisoned

pub returns-in-Err-clause-ok : goal.returns-in-Err-clause-ok
returns-in-Err-clause-ok c = room_heard c.in-Err.error (ended_by c.args.part (expected_on c.args.channel c.self.inside.contents)) (what c.self.inside.deliveries) _ _ c.in-Err.ensures.cause (seen_is _ _ _ _ c.self.inside.outstanding.outbox.what _ _ _ _ _ _ _ _ _ _ _ refl refl refl refl refl c.make_room-made.ensures.same.1 refl c.make_room-made.ensures.same.0 ∙ c.self.view_is)

-- ---- the content at the front is whole

pub invariant_of-self-in-Ok-Some : goal.invariant_of-self-in-Ok-Some
invariant_of-self-in-Ok-Some c =
    kept_by _ _ _ _ _ _ _ _ refl refl (ap (λ (o : Outgoing). o.what) c.complete.ensures.outbox)
    (whole_publish_states c.args.channel (Some c.in-Ok-Some.whole) c.self.inside.confirms.what c.complete.new.confirms.what
    (c.complete.ensures.confirms ∙ ap (λ (p : ConfirmState). fold confirm_state.after_mark p (whole_marks c.args.channel (Some c.in-Ok-Some.whole))) c.make_room-made.ensures.same.0))
    c.self.invariant.tied c.self.invariant.unpoisoned

pub returns-in-Ok-Some-clause-ok : goal.returns-in-Ok-Some-clause-ok
returns-in-Ok-Some-clause-ok c =
    part_seen c.self.inside.link c.self.inside.phases.entries c.self.inside.outstanding.outbox.what c.self.inside.outstanding.replies.what c.self.inside.contents (what c.self.inside.deliveries) c.self.inside.outstanding.tickets.slots c.self.inside.confirms.what c.args.channel c.args.part (Some c.in-Ok-Some.whole) _ _ _ _ _ _
    (sym c.in-Ok-Some.ensures.told ∙ c.in-Ok-Some.field-0-is)
    (c.in-Ok-Some.ensures.after _ refl)
    (ap (λ (o : Outgoing). o.what) c.complete.ensures.outbox)
    (ap (λ (r : OpenRequests). r.what) c.complete.ensures.replies)
    (c.complete.ensures.deliveries ∙ ap (λ (x : Deliveries). fold deliveries.after_mark x (whole_deliveries c.args.channel x (Some c.in-Ok-Some.whole))) c.make_room-made.ensures.same.1)
    (c.complete.ensures.slots ∙ ap (λ (x : Deliveries). fold answers.after_mark c.self.inside.outstanding.tickets.slots (whole_tickets c.args.channel (next_acker x) (Some c.in-Ok-Some.whole))) c.make_room-made.ensures.same.1)
    (c.complete.ensures.confirms ∙ ap (λ (p : ConfirmState). fold confirm_state.after_mark p (whole_marks c.args.channel (Some c.in-Ok-Some.whole))) c.make_room-made.ensures.same.0)
    ∙ ap (λ (w : World). receiving (incoming.Content c.args.channel c.args.part) record_.Received w) c.self.view_is

-- ---- it lacks bytes still

pub invariant_of-self-in-Ok-None : goal.invariant_of-self-in-Ok-None
invariant_of-self-in-Ok-None c = kept_by _ _ _ _ _ _ _ _ refl refl refl (ap (λ (p : ConfirmState). p.publish_states) c.make_room-made.ensures.same.0) c.self.invariant.tied c.self.invariant.unpoisoned
