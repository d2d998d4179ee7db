use Rattle.std.proofs.Common.{subst, sym, ◌∙◌, ap}
use Rattle.std.specs.Prelude.{◌≡◌, ℕ}
use Rattle.std.specs.List.{fold}
use Rattle.lapin_types.specs.declared.message.Delivery.{Delivery}
use Rattle.lapin_types.specs.declared.message.BasicGetMessage.{BasicGetMessage}
use Rattle.lapin_content.specs.declared.start.Start.{Start}
use Rattle.lapin_delivery.specs.WithRoom.{what}
use Rattle.lapin_delivery.specs.Deliveries as deliveries
use Rattle.lapin_rules.specs.Content.{next_acker, delivered_message, start_deliveries}
use Rattle.lapin_rules.specs.ConfirmMarks as mark
use Rattle.lapin_confirm.specs.Machine as confirm_state
use Rattle.lapin_machine.specs.Whole.{Fits}
use Rattle.lapin_machine.proofs.Openings.{ok_then}
use Rattle.lapin_machine.proofs.Parts.{got_slots, got_deliveries, returned_marks}
use Rattle.lapin_machine.proofs.whole.complete.Goals as goal

pub returns-in-Get-clause-slots : goal.returns-in-Get-clause-slots
returns-in-Get-clause-slots c =
    let count : ℕ = c.in-Get.message_count in
    let made : Delivery → BasicGetMessage = λ d. record { delivery = d; message_count = count } in
    let delivery = c.delivered-delivery.ensures c.args.whole.start
    ∙ ap (λ n. delivered_message c.args.channel n c.in-Get.delivery_tag c.in-Get.exchange c.in-Get.routing_key c.in-Get.redelivered c.args.whole) c.got-number.ensures.number in
    got_slots c.args.channel (next_acker (what c.args.deliveries.now)) c.args.whole c.in-Get.ticket c.in-Get.delivery_tag c.in-Get.exchange c.in-Get.routing_key c.in-Get.redelivered count (made c.delivered-delivery.result) c.args.outstanding.now.tickets.slots c.resolve.new.self.tickets.slots
    c.in-Get.is (ap made delivery) c.resolve.ensures.slots

pub returns-in-Get-clause-deliveries : goal.returns-in-Get-clause-deliveries
returns-in-Get-clause-deliveries c =
    got_deliveries c.args.channel c.args.whole c.in-Get.ticket c.in-Get.delivery_tag c.in-Get.exchange c.in-Get.routing_key c.in-Get.redelivered c.in-Get.message_count (what c.args.deliveries.now) _
    c.in-Get.is c.got-number.ensures.got

pub returns-in-Return-clause-confirms : goal.returns-in-Return-clause-confirms
returns-in-Return-clause-confirms c =
    let Room : Start → Type 0 = λ s. Fits s c.args.channel c.args.deliveries.now c.args.confirms.now c.args.place in
    let arrived = ok_then c.arrived.result (c.arrived.new.self.what ≡ confirm_state.after_mark c.args.confirms.now.what (mark.Arrived c.args.channel c.returned-message.result)) (c.arrived.ensures.succeeds (subst Room c.in-Return.is c.requires)) c.arrived.ensures.ok in
    returned_marks c.args.channel c.args.whole c.in-Return.reply_code c.in-Return.reply_text c.in-Return.exchange c.in-Return.routing_key c.returned-message.result c.args.confirms.now.what c.arrived.new.self.what
    c.in-Return.is (c.returned-message.ensures c.args.whole.start) arrived

pub returns-in-Return-clause-deliveries : goal.returns-in-Return-clause-deliveries
returns-in-Return-clause-deliveries c = ap (λ (s : Start). fold deliveries.after_mark (what c.args.deliveries.now) (start_deliveries c.args.channel (what c.args.deliveries.now) s c.args.whole)) (sym c.in-Return.is)

pub returns-in-Deliver-clause-deliveries : goal.returns-in-Deliver-clause-deliveries
returns-in-Deliver-clause-deliveries c =
    c.arrive.ensures c.args.whole.start
    ∙ ap (λ (s : Start). fold deliveries.after_mark (what c.args.deliveries.now) (start_deliveries c.args.channel (what c.args.deliveries.now) s c.args.whole)) (sym c.in-Deliver.is)
