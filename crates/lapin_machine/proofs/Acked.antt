-- An acker's call: what it answers and leaves, as the call that it makes.
use Rattle.std.proofs.Common.{◌≡◌, ℕ, Bool, true, false, cond, List, [], ◌∷◌, ◌++◌, Option, Some, None, refl, sym, ◌∙◌, ap}
use Rattle.std.specs.List.{fold}
use Rattle.std.proofs.lemmas.List.Sums.{fold-append}
use Rattle.lapin_types.specs.declared.acker_call.AckerCall.{AckerCall}
use Rattle.lapin_types.specs.declared.acker_call.AckerCall.TheVariants as acker_call
use Rattle.lapin_types.specs.declared.event.Event.TheVariants as event
use Rattle.lapin_types.specs.declared.record.Record.TheVariants as record_
use Rattle.lapin_delivery.specs.Deliveries.{Deliveries, after_mark}
use Rattle.lapin_delivery.specs.Marks.{DeliveryMark}
use Rattle.lapin_delivery.specs.Marks as deliveries
use Rattle.lapin_rules.specs.ConfirmMarks.{ConfirmMark}
use Rattle.lapin_rules.specs.Wire.{Wire, state_of, with_deliveries}
use Rattle.lapin_rules.specs.Asking.{is_allowed, call_record, asked_wire, asking_deliveries, asking_marks}
use Rattle.lapin_rules.specs.Ackers.{acker_asked, usable_at, acked_record, acked_wire, acked_deliveries, acked_tickets}
use Rattle.lapin_ticket.specs.Slots as answers
use Rattle.lapin_confirm.specs.Machine as confirm_state
use Rattle.lapin_machine.specs.World.{World, next, asking, spending, told_by}
use Rattle.lapin_machine.proofs.Seen.{world_is}

-- it asks for no confirms
choose_empty : (t : Bool) → ◌≡◌ {A = List ConfirmMark} (cond t [] []) []
choose_empty true = refl
choose_empty false = refl

no_marks : (c : ℕ) (k : AckerCall) (tag : ℕ) (b : Wire) → asking_marks c (acker_asked k tag) b ≡ []
no_marks c (acker_call.Ack o) tag b = choose_empty (is_allowed (acker_asked (acker_call.Ack o) tag) (state_of c b))
no_marks c (acker_call.Nack o) tag b = choose_empty (is_allowed (acker_asked (acker_call.Nack o) tag) (state_of c b))
no_marks c (acker_call.Reject o) tag b = choose_empty (is_allowed (acker_asked (acker_call.Reject o) tag) (state_of c b))

-- the acker is used up after the call
boxed_twice : (ms : List DeliveryMark) (m : DeliveryMark) (x : Wire) → with_deliveries (m ∷ []) (with_deliveries ms x) ≡ with_deliveries (ms ++ m ∷ []) x
boxed_twice ms m x = ap (λ (i : Deliveries). record x { deliveries = i }) (sym (fold-append after_mark x.deliveries ms (m ∷ [])))

module _ (n : ℕ) (k : AckerCall) (w : World) where
  abbrev b : Wire
  b = w.wire

  -- a usable one makes its call
  pub acked_told : (x : ℕ × ℕ) → usable_at n b ≡ Some x → told_by w (event.Acker n k) ≡ call_record x.0 (acker_asked k x.1) b
  acked_told x is = ap (λ (o : Option (ℕ × ℕ)). acked_record o k b) is

  pub acked_next : (x : ℕ × ℕ) → usable_at n b ≡ Some x → spending n (asking x.0 (acker_asked k x.1) w) ≡ next w (event.Acker n k)
  acked_next x is =
      let ms : List DeliveryMark = asking_deliveries x.0 (acker_asked k x.1) b in
      world_is _ _
      (boxed_twice ms (deliveries.Spent n) (asked_wire x.0 (acker_asked k x.1) b) ∙ ap (λ (o : Option (ℕ × ℕ)). with_deliveries (acked_deliveries n o k b) (acked_wire o k b)) (sym is))
      (ap (λ (xs : List ConfirmMark). fold confirm_state.after_mark w.confirm_state xs) (no_marks x.0 k x.1 b))
      (ap (λ (o : Option (ℕ × ℕ)). fold answers.after_mark w.slots (acked_tickets o k b)) (sym is))
      refl

  -- another says no
  pub unused_told : usable_at n b ≡ None → told_by w (event.Acker n k) ≡ record_.No
  unused_told is = ap (λ (o : Option (ℕ × ℕ)). acked_record o k b) is

  pub unused_next : usable_at n b ≡ None → w ≡ next w (event.Acker n k)
  unused_next is =
      world_is _ _
      (ap (λ (o : Option (ℕ × ℕ)). with_deliveries (acked_deliveries n o k b) (acked_wire o k b)) (sym is))
      refl
      (ap (λ (o : Option (ℕ × ℕ)). fold answers.after_mark w.slots (acked_tickets o k b)) (sym is))
      refl
