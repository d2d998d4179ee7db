use Rattle.std.proofs.Common.{◌≡◌, ◌∙◌, ℕ, ◌+◌, refl, sym, ap, length, List, Option, Some}
use Rattle.std.specs.List.{fold}
use Rattle.lapin_delivery.specs.WithRoom.{what}
use Rattle.lapin_rules.specs.declared.calls.Asked.TheVariants as ask
use Rattle.lapin_rules.specs.Frames.{MethodEntry}
use Rattle.lapin_rules.specs.TicketReadings as mark
use Rattle.lapin_rules.specs.Asking.{made_marks}
use Rattle.lapin_rules.specs.Wire.{is_open, state_of, requests_with}
use Rattle.lapin_ticket.specs.declared.Slot.{Slot}
use Rattle.lapin_ticket.specs.Slots.{after_mark}
use Rattle.lapin_confirm.specs.ConfirmState.{ConfirmState}
use Rattle.lapin_machine.specs.World.{World, asking}
use Rattle.lapin_machine.proofs.Keeping.{tied_called, kept_by}
use Rattle.lapin_rules.specs.Calls.{awaited_by}
use Rattle.lapin_rules.specs.Calls.{made_by}
use Rattle.lapin_rules.specs.Calls.{leaving_by}
use Rattle.lapin_machine.proofs.Seen.{with_entry}
use Rattle.lapin_machine.proofs.Worlds.{row_seen}
use Rattle.lapin_machine.proofs.session.Session.queue_row.Goals as goal

pub invariant_of-self-2 : goal.invariant_of-self-2
invariant_of-self-2 c =
    let entry : MethodEntry = record { channel = c.args.channel; method = c.args.row.method; ticket = Some (length c.reserve.new.self.tickets.slots + 1) } in
    kept_by _ _ _ _ _ _ _ _ refl refl (c.queue_line-number.ensures.outbox ∙ ap (with_entry entry) c.reserve.ensures.same.outbox) (ap (λ (p : ConfirmState). p.publish_states) c.confirms_called.ensures)
    (tied_called c.self.inside.link c.args.channel c.args.row.method _ _ c.self.inside.confirms.what c.self.invariant.tied) c.self.invariant.unpoisoned

pub returns-clause-ok : goal.returns-clause-ok
returns-clause-ok c =
    let open_ = ap (λ (w : World). is_open (state_of c.args.channel w.wire)) c.self.view_is ∙ sym (ap is_open c.channel_state-state.ensures) ∙ sym c.is_open.ensures ∙ c.if-not-is_open.false in
    let entry : ℕ → MethodEntry = λ n. record { channel = c.args.channel; method = c.args.row.method; ticket = Some (n + 1) } in
    let count : length c.reserve.new.self.tickets.slots ≡ length c.self.inside.outstanding.tickets.slots = ap length c.reserve.ensures.same.slots in
    row_seen c.self.inside.link c.self.inside.phases.entries c.self.inside.outstanding.outbox.what c.self.inside.outstanding.replies.what c.self.inside.contents (what c.self.inside.deliveries) c.self.inside.outstanding.tickets.slots c.self.inside.confirms.what c.args.channel c.args.row _ _ _ _ _
    open_
    (c.queue_line-number.ensures.outbox ∙ ap (λ n. with_entry (entry n) c.reserve.new.self.outbox.what) count ∙ ap (with_entry (entry (length c.self.inside.outstanding.tickets.slots))) c.reserve.ensures.same.outbox)
    (c.queue_line-number.ensures.requests
    ∙ ap (λ n. requests_with c.args.channel (n + 1) (awaited_by c.args.row.answered) c.reserve.new.self.replies.what) count
    ∙ ap (requests_with c.args.channel (length c.self.inside.outstanding.tickets.slots + 1) (awaited_by c.args.row.answered)) c.reserve.ensures.same.requests)
    (c.queue_line-number.ensures.slots ∙ ap (λ (y : List (Option Slot)). fold after_mark (after_mark y (mark.Given c.args.channel (leaving_by c.args.row.answered))) (made_marks (length y + 1) (made_by c.args.row.answered))) c.reserve.ensures.same.slots)
    c.confirms_called.ensures
    c.in_default-line_called.ensures.ok
    ∙ ap (λ (w : World). asking c.args.channel (ask.Method c.args.row) w) c.self.view_is
