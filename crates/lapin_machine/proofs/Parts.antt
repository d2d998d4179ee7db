-- What a part of a content that is received makes of a session, by what the session's parts then hold.
use Rattle.std.proofs.Common.{◌≡◌, ℕ, Bool, true, false, List, [], ◌∷◌, length, Option, Some, None, Ok, refl, sym, ◌∙◌, ap}
use Rattle.std.specs.Prelude.{OnSome}
use Rattle.std.specs.List.{fold}
use Rattle.lapin_types.specs.declared.answer.Answer.TheVariants as answer
use Rattle.lapin_types.specs.declared.message.BasicGetMessage.{BasicGetMessage}
use Rattle.lapin_types.specs.declared.message.Delivery.{Delivery}
use Rattle.lapin_types.specs.declared.message.BasicReturnMessage.{BasicReturnMessage}
use Rattle.lapin_types.specs.declared.record.Record.TheVariants as record_
use Rattle.lapin_types.specs.declared.request.Request.{Request}
use Rattle.lapin_content.specs.declared.start.Start.{Start}
use Rattle.lapin_content.specs.declared.start.Start.TheVariants as start
use Rattle.lapin_content.specs.declared.start.Whole.{Whole}
use Rattle.lapin_content.specs.Channels.{Channels}
use Rattle.lapin_rules.specs.declared.broker_frames.ContentPart.{ContentPart}
use Rattle.lapin_rules.specs.declared.broker_frames.Incoming.TheVariants as incoming
use Rattle.lapin_rules.specs.declared.phases.ChannelPhase.{ChannelPhase}
use Rattle.lapin_rules.specs.declared.phases.ConnectionPhase.{ConnectionPhase}
use Rattle.lapin_rules.specs.ConfirmMarks as mark
use Rattle.lapin_rules.specs.Requests.{resolved_with}
use Rattle.lapin_rules.specs.Words.{is_some}
use Rattle.lapin_consumer.specs.Subscriptions.{is_registered}
use Rattle.lapin_delivery.specs.Deliveries.{Deliveries}
use Rattle.lapin_delivery.specs.Deliveries as deliveries
use Rattle.lapin_delivery.specs.Marks as delivery_mark
use Rattle.lapin_rules.specs.Wire.{with_deliveries}
use Rattle.lapin_rules.specs.Content.{whole_on, whole_marks, start_marks, whole_tickets, start_tickets, next_acker, arrival, start_deliveries, whole_deliveries, part_deliveries, delivered_message, got_message, returned_message, after_part}
use Rattle.lapin_outbox.specs.Outgoing.{OutboxState}
use Rattle.lapin_ticket.specs.declared.Slot.{Slot}
use Rattle.lapin_ticket.specs.Slots.{after_mark}
use Rattle.lapin_confirm.specs.PublishStates.{PublishStates}
use Rattle.lapin_confirm.specs.Machine as confirm_state
use Rattle.lapin_confirm.specs.ConfirmState.{ConfirmState}
use Rattle.lapin_machine.specs.World.{World, receiving}
use Rattle.lapin_machine.proofs.Counts.{resolved-count}
use Rattle.lapin_machine.proofs.Seen.{seen, base_is, world_is}

-- ---- a whole content changes no tag and no outcome, and gives no ticket

start-publish_states : (c : ℕ) (s : Start) (w : Whole) (p : ConfirmState) → (fold confirm_state.after_mark p (start_marks c s w)).publish_states ≡ p.publish_states
start-publish_states c (start.Return code text exchange key) w p = refl
start-publish_states c (start.Get ticket tag exchange key redelivered count) w p = refl
start-publish_states c (start.Deliver consumer tag exchange key redelivered) w p = refl

pub whole-publish_states : (c : ℕ) (w : Option Whole) (p : ConfirmState) → (fold confirm_state.after_mark p (whole_marks c w)).publish_states ≡ p.publish_states
whole-publish_states c None p = refl
whole-publish_states c (Some w) p = start-publish_states c w.start w p

-- the same of confirms that a whole content came to
pub whole_publish_states : (c : ℕ) (w : Option Whole) (p new : ConfirmState) → new ≡ fold confirm_state.after_mark p (whole_marks c w) → new.publish_states ≡ p.publish_states
whole_publish_states c w p new is = ap (λ (q : ConfirmState). q.publish_states) is ∙ whole-publish_states c w p

start-count : (c n : ℕ) (s : Start) (w : Whole) (slots : List (Option Slot)) → length (fold after_mark slots (start_tickets c n s w)) ≡ length slots
start-count c n (start.Return code text exchange key) w slots = refl
start-count c n (start.Get ticket tag exchange key redelivered count) w slots = resolved-count (Ok (answer.Got (Some (got_message c n tag exchange key redelivered count w)))) ticket slots
start-count c n (start.Deliver consumer tag exchange key redelivered) w slots = refl

whole-count : (c n : ℕ) (w : Option Whole) (slots : List (Option Slot)) → length (fold after_mark slots (whole_tickets c n w)) ≡ length slots
whole-count c n None slots = refl
whole-count c n (Some w) slots = start-count c n w.start w slots

-- ---- a whole content, by what began it

pub got_slots : (c n : ℕ) (w : Whole) (ticket : Option ℕ) (tag : ℕ) (exchange key : List ℕ) (redelivered : Bool) (count : ℕ) (m : BasicGetMessage) (slots new : List (Option Slot)) → w.start ≡ start.Get ticket tag exchange key redelivered count → m ≡ got_message c n tag exchange key redelivered count w → new ≡ fold after_mark slots (resolved_with (Ok (answer.Got (Some m))) ticket) → new ≡ fold after_mark slots (whole_tickets c n (Some w))
got_slots c n w ticket tag exchange key redelivered count m slots new is got resolved =
    resolved
    ∙ ap (λ (x : BasicGetMessage). fold after_mark slots (resolved_with (Ok (answer.Got (Some x))) ticket)) got
    ∙ ap (λ (x : Start). fold after_mark slots (start_tickets c n x w)) (sym is)

pub returned_marks : (c : ℕ) (w : Whole) (code : ℕ) (text exchange key : List ℕ) (m : BasicReturnMessage) (p new : ConfirmState) → w.start ≡ start.Return code text exchange key → m ≡ returned_message code text exchange key w → new ≡ confirm_state.after_mark p (mark.Arrived c m) → new ≡ fold confirm_state.after_mark p (whole_marks c (Some w))
returned_marks c w code text exchange key m p new is came arrived =
    arrived
    ∙ ap (λ (x : BasicReturnMessage). confirm_state.after_mark p (mark.Arrived c x)) came
    ∙ ap (λ (x : Start). fold confirm_state.after_mark p (start_marks c x w)) (sym is)

-- consumers and ackers: the message of a get takes an acker, and so does a delivery for a consumer that is registered
pub got_deliveries : (c : ℕ) (w : Whole) (ticket : Option ℕ) (tag : ℕ) (exchange key : List ℕ) (redelivered : Bool) (count : ℕ) (i new : Deliveries) → w.start ≡ start.Get ticket tag exchange key redelivered count → new ≡ deliveries.after_mark i (delivery_mark.Got c tag) → new ≡ fold deliveries.after_mark i (whole_deliveries c i (Some w))
got_deliveries c w ticket tag exchange key redelivered count i new is got = got ∙ ap (λ (x : Start). fold deliveries.after_mark i (start_deliveries c i x w)) (sym is)

pub delivered_deliveries : (c : ℕ) (w : Whole) (k tag : ℕ) (exchange key : List ℕ) (redelivered : Bool) (d : Delivery) (i new : Deliveries) → w.start ≡ start.Deliver (Some k) tag exchange key redelivered → is_registered k i.subscriptions ≡ true → d ≡ delivered_message c (next_acker i) tag exchange key redelivered w → new ≡ deliveries.after_mark i (delivery_mark.Delivered k d) → new ≡ fold deliveries.after_mark i (whole_deliveries c i (Some w))
delivered_deliveries c w k tag exchange key redelivered d i new is registered made came =
    let arrived : arrival k (delivered_message c (next_acker i) tag exchange key redelivered w) i ≡ delivery_mark.Delivered k (delivered_message c (next_acker i) tag exchange key redelivered w) ∷ [] = rw registered refl in
    came
    ∙ ap (λ (x : Delivery). deliveries.after_mark i (delivery_mark.Delivered k x)) made
    ∙ ap (fold deliveries.after_mark i) (sym arrived)
    ∙ ap (λ (x : Start). fold deliveries.after_mark i (start_deliveries c i x w)) (sym is)

pub missed_deliveries : (c : ℕ) (w : Whole) (k tag : ℕ) (exchange key : List ℕ) (redelivered : Bool) (i : Deliveries) → w.start ≡ start.Deliver (Some k) tag exchange key redelivered → is_registered k i.subscriptions ≡ false → i ≡ fold deliveries.after_mark i (whole_deliveries c i (Some w))
missed_deliveries c w k tag exchange key redelivered i is gone =
    let none : arrival k (delivered_message c (next_acker i) tag exchange key redelivered w) i ≡ [] = rw gone refl in
    ap (fold deliveries.after_mark i) (sym none) ∙ ap (λ (x : Start). fold deliveries.after_mark i (start_deliveries c i x w)) (sym is)

-- ---- a request that is open is found

pub found : (r : Option Request) (P : Type 0) → is_some r ≡ true → OnSome r P → P
found None P some h = cc
found (Some r) P some h = h

module _ (l : ConnectionPhase) (p : List (ℕ × ChannelPhase)) (o : OutboxState) (rs : List (ℕ × List Request)) (cs : Channels) (i : Deliveries) (s : List (Option Slot)) (b : ConfirmState) where
  abbrev old : World
  old = seen l p o rs cs i s b

  -- a header or a body, and the content that it makes whole, if it does
  pub part_seen : (c : ℕ) (q : ContentPart) (w : Option Whole) (O : OutboxState) (R : List (ℕ × List Request)) (C : Channels) (J : Deliveries) (S : List (Option Slot)) (B : ConfirmState)
      → whole_on c q old.wire ≡ w
      → after_part c q old.wire ≡ record old.wire { contents = C }
      → O ≡ o
      → R ≡ rs
      → J ≡ fold deliveries.after_mark i (whole_deliveries c i w)
      → S ≡ fold after_mark s (whole_tickets c (next_acker i) w)
      → B ≡ fold confirm_state.after_mark b (whole_marks c w)
      → seen l p O R C J S B ≡ receiving (incoming.Content c q) record_.Received old
  part_seen c q w O R C J S B whole after eO eR eI eS eB =
      world_is _ _
      (base_is _ (with_deliveries (part_deliveries c q old.wire) (record old.wire { contents = C }))
      (ap (λ (y : OutboxState). y.frame_max) eO) refl refl
      (ap (λ (y : OutboxState). y.lists.rest) eO) (ap (λ (y : OutboxState). y.lists.methods) eO) (ap (λ (y : OutboxState). y.lists.publishes) eO)
      eR refl
      (ap length eS ∙ whole-count c (next_acker i) w s)
      (ap (λ (y : PublishStates). length y.cells) (whole_publish_states c w b B eB))
      (eI ∙ ap (λ x. fold deliveries.after_mark i (whole_deliveries c i x)) (sym whole))
      ∙ ap (with_deliveries (part_deliveries c q old.wire)) (sym after))
      (eB ∙ ap (λ x. fold confirm_state.after_mark b (whole_marks c x)) (sym whole))
      (eS ∙ ap (λ x. fold after_mark s (whole_tickets c (next_acker i) x)) (sym whole))
      (ap (λ (y : OutboxState). y.returned) eO)
