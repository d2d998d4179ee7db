-- What is asked of consumers, and what the broker says of them: what each leaves of a session, by what the session's parts then hold.
use Rattle.std.proofs.Common.{◌≡◌, ℕ, Bool, true, false, cond, not, ◌&&◌, List, [], ◌∷◌, length, Option, Some, None, Ok, refl, sym, ◌∙◌, ap}
use Rattle.std.specs.List.{fold}
use Rattle.lapin_types.specs.declared.answer.Answer.{Answer}
use Rattle.lapin_types.specs.declared.answer.Answer.TheVariants as answer
use Rattle.lapin_types.specs.declared.event.Event.TheVariants as event
use Rattle.lapin_types.specs.declared.job.Job.{Job}
use Rattle.lapin_types.specs.declared.record.Record.TheVariants as record_
use Rattle.lapin_types.specs.declared.request.Request.{Request}
use Rattle.lapin_types.specs.declared.request.Reply.TheVariants as reply
use Rattle.lapin_types.specs.declared.request.ReplyKind.{ReplyKind}
use Rattle.lapin_types.specs.declared.request.ReplyKind.TheVariants as reply_kind
use Rattle.lapin_types.specs.Types.error
use Rattle.lapin_types.specs.Types.method
use Rattle.lapin_types.specs.Types.basic
use Rattle.std.specs.Prelude.{slice_get}
use Rattle.lapin_consumer.specs.Subscriptions.{Consumer, consumer_at, is_idle, let_go_answer}
use Rattle.lapin_content.specs.Channels.{Channels}
use Rattle.lapin_delivery.specs.Deliveries.{Deliveries}
use Rattle.lapin_delivery.specs.Deliveries as deliveries
use Rattle.lapin_delivery.specs.Marks.{DeliveryMark}
use Rattle.lapin_delivery.specs.Marks as delivery_mark
use Rattle.lapin_rules.specs.declared.broker_frames.ConsumerPart.{ConsumerPart}
use Rattle.lapin_rules.specs.declared.broker_frames.ConsumerPart.TheVariants as part
use Rattle.lapin_rules.specs.declared.broker_frames.Incoming.TheVariants as incoming
use Rattle.lapin_rules.specs.declared.phases.ChannelPhase.{ChannelPhase}
use Rattle.lapin_rules.specs.declared.phases.ConnectionPhase.{ConnectionPhase}
use Rattle.lapin_rules.specs.Requests.{first_request, with_request, without_request, ticket_of}
use Rattle.lapin_rules.specs.Wire.{Wire, state_of, is_open, noted, with_deliveries}
use Rattle.lapin_rules.specs.Reply.{reply_marks}
use Rattle.lapin_rules.specs.Consumers.{next_consumer, queue_asked, after_consumer, after_cancel, consumer_tickets, consumer_deliveries, delegate_record, delegate_marks, job_marks, lets_go_of, let_go_cancel, cancel_noted, drop_record, after_let_go, let_go_marks}
use Rattle.lapin_outbox.specs.Open.{requests_at}
use Rattle.lapin_outbox.specs.Outgoing.{OutboxState}
use Rattle.lapin_ticket.specs.declared.Slot.{Slot}
use Rattle.lapin_ticket.specs.Slots.{after_mark}
use Rattle.lapin_confirm.specs.ConfirmState.{ConfirmState}
use Rattle.lapin_machine.specs.Consumers.{let_go_on}
use Rattle.lapin_machine.specs.World.{World, next, receiving, told_by}
use Rattle.lapin_machine.proofs.Counts.{resolved-count}
use Rattle.lapin_machine.proofs.Seen.{seen, base_is, world_is, with_entry}

-- ---- a consumer that is let go

-- it is active and registered, and its channel is open
pub record Goes (o : Option Consumer) (b : Wire) (c : ℕ) : Type 0 where
  pub consumer : Consumer
  pub is : o ≡ Some consumer
  pub on : consumer.channel ≡ c
  pub goes : lets_go_of consumer b ≡ true

pub it_goes : (o : Option Consumer) (b : Wire) (c : ℕ) → let_go_answer o ≡ Ok true → let_go_on o b ≡ Some c → Goes o b c
it_goes None b c idle on = cc
it_goes (Some x) b c idle on =
    let free : is_idle x ≡ true = cc in
    elim (is_open (state_of x.channel b)) as (λ t. is_open (state_of x.channel b) ≡ t → cond t (Some x.channel) None ≡ Some c → Goes (Some x) b c) [
      | true ↦ λ open_ here. record { consumer = x; is = refl; on = cc; goes = rw (free, open_) refl }
      | false ↦ λ open_ here. cc
    ] refl on

-- it stays where it is not idle, or its channel is not open
pub it_stays : (x : Consumer) (b : Wire) → (is_idle x ≡ false) → lets_go_of x b ≡ false
it_stays x b busy = rw busy refl

pub it_stays_on : (x : Consumer) (b : Wire) → let_go_on (Some x) b ≡ None → lets_go_of x b ≡ false
it_stays_on x b = elim (is_open (state_of x.channel b)) as (λ t. cond t (Some x.channel) None ≡ None → (is_idle x && t) ≡ false) [
  | true ↦ λ here. cc
  | false ↦ λ here. elim (is_idle x) as (λ t. (t && false) ≡ false) [ true ↦ refl | false ↦ refl ]
]

-- ---- what changes nothing, and what changes consumers alone

module _ (n : ℕ) (w : World) where
  pub unknown_drop : consumer_at n w.wire.deliveries.subscriptions ≡ None → w ≡ next w (event.DropConsumer n)
  unknown_drop is = world_is _ _ (ap (λ (o : Option Consumer). with_deliveries (let_go_marks n o w.wire) (after_let_go o w.wire)) (sym is)) refl refl refl

  pub kept_drop : (x : Consumer) → consumer_at n w.wire.deliveries.subscriptions ≡ Some x → lets_go_of x w.wire ≡ false → w ≡ next w (event.DropConsumer n)
  kept_drop x is stays =
      let same : w.wire ≡ with_deliveries (let_go_marks n (Some x) w.wire) (after_let_go (Some x) w.wire) = rw stays refl in
      world_is _ _ (same ∙ ap (λ (o : Option Consumer). with_deliveries (let_go_marks n o w.wire) (after_let_go o w.wire)) (sym is)) refl refl refl

  pub drop_told : (x : Consumer) → consumer_at n w.wire.deliveries.subscriptions ≡ Some x → told_by w (event.DropConsumer n) ≡ record_.Dropped (lets_go_of x w.wire)
  drop_told x is = ap (λ (o : Option Consumer). drop_record o w.wire) is

  pub drop_unknown : consumer_at n w.wire.deliveries.subscriptions ≡ None → told_by w (event.DropConsumer n) ≡ record_.Refused error.UnknownTicket
  drop_unknown is = ap (λ (o : Option Consumer). drop_record o w.wire) is

  pub delegate_told : (x : Consumer) → consumer_at n w.wire.deliveries.subscriptions ≡ Some x → told_by w (event.Delegate n) ≡ record_.Delegated
  delegate_told x is = ap delegate_record is

  pub delegate_unknown : consumer_at n w.wire.deliveries.subscriptions ≡ None → told_by w (event.Delegate n) ≡ record_.Refused error.UnknownTicket
  delegate_unknown is = ap delegate_record is

module _ (l : ConnectionPhase) (p : List (ℕ × ChannelPhase)) (o : OutboxState) (rs : List (ℕ × List Request)) (cs : Channels) (i : Deliveries) (s : List (Option Slot)) (b : ConfirmState) where
  abbrev old : World
  old = seen l p o rs cs i s b

  pub polled_seen : (n : ℕ) (J : Deliveries) → J ≡ deliveries.after_mark i (delivery_mark.Polled n) → seen l p o rs cs J s b ≡ next old (event.PollConsumer n)
  polled_seen n J eI = ap (λ (x : Deliveries). seen l p o rs cs x s b) eI

  pub delegated_seen : (n : ℕ) (x : Consumer) (J : Deliveries) → consumer_at n i.subscriptions ≡ Some x → J ≡ deliveries.after_mark i (delivery_mark.Delegated n) → seen l p o rs cs J s b ≡ next old (event.Delegate n)
  delegated_seen n x J is eI =
      ap (λ (x : Deliveries). seen l p o rs cs x s b) (eI ∙ ap (λ (y : Option Consumer). fold deliveries.after_mark i (delegate_marks n y)) (sym is))

  pub job_seen : (j : Job) (J : Deliveries) → slice_get i.subscriptions.jobs 0 ≡ Some j → J ≡ deliveries.after_mark i delivery_mark.JobAsked → seen l p o rs cs J s b ≡ next old event.NextJob
  job_seen j J is eI = ap (λ (x : Deliveries). seen l p o rs cs x s b) (eI ∙ ap (λ (y : Option Job). fold deliveries.after_mark i (job_marks y)) (sym is))

  pub no_job_seen : (J : Deliveries) → slice_get i.subscriptions.jobs 0 ≡ None → J ≡ i → seen l p o rs cs J s b ≡ next old event.NextJob
  no_job_seen J is eI = ap (λ (x : Deliveries). seen l p o rs cs x s b) (eI ∙ ap (λ (y : Option Job). fold deliveries.after_mark i (job_marks y)) (sym is))

  -- its cancel is queued, and a request is open for which nobody holds a ticket
  pub let_go_seen : (n c : ℕ) (g : Goes (consumer_at n i.subscriptions) old.wire c) (O : OutboxState) (R : List (ℕ × List Request)) (J : Deliveries)
      → O ≡ with_entry (record { channel = c; method = let_go_cancel g.consumer; ticket = None }) o
      → R ≡ with_request c (record { ticket = None; reply = reply.BasicCancelOk }) rs
      → J ≡ deliveries.after_mark i (delivery_mark.LetGo n)
      → seen l p O R cs J s b ≡ next old (event.DropConsumer n)
  let_go_seen n c g O R J eO eR eI =
      let x : Consumer = g.consumer in
      let after : with_deliveries (delivery_mark.LetGo n ∷ []) (cancel_noted x old.wire) ≡ with_deliveries (let_go_marks n (Some x) old.wire) (after_let_go (Some x) old.wire) = rw g.goes refl in
      world_is _ _
      (base_is _ (with_deliveries (delivery_mark.LetGo n ∷ []) (cancel_noted x old.wire)) (ap (λ (y : OutboxState). y.frame_max) eO) refl refl
      (ap (λ (y : OutboxState). y.lists.rest) eO)
      (ap (λ (y : OutboxState). y.lists.methods) (eO ∙ ap (λ d. with_entry (record { channel = d; method = let_go_cancel x; ticket = None }) o) (sym g.on)))
      (ap (λ (y : OutboxState). y.lists.publishes) eO)
      (eR ∙ ap (λ d. with_request d (record { ticket = None; reply = reply.BasicCancelOk }) rs) (sym g.on))
      refl refl refl eI
      ∙ after
      ∙ ap (λ (y : Option Consumer). with_deliveries (let_go_marks n y old.wire) (after_let_go y old.wire)) (sym g.is))
      refl refl
      (ap (λ (y : OutboxState). y.returned) eO)

  -- ---- replies: the oldest request of the kind is answered

  replied_seen : (c : ℕ) (q : ConsumerPart) (k : ReplyKind) (a : Answer) (m : DeliveryMark) (O : OutboxState) (R : List (ℕ × List Request)) (J : Deliveries) (S : List (Option Slot))
      → after_consumer c q old.wire ≡ record old.wire { requests = without_request c k rs }
      → consumer_deliveries c q old.wire ≡ m ∷ []
      → consumer_tickets c q old.wire ≡ reply_marks a (first_request k (requests_at c rs))
      → O ≡ o
      → R ≡ without_request c k rs
      → J ≡ deliveries.after_mark i m
      → S ≡ fold after_mark s (reply_marks a (first_request k (requests_at c rs)))
      → seen l p O R cs J S b ≡ receiving (incoming.Consumer c q) record_.Received old
  replied_seen c q k a m O R J S after marks tickets eO eR eI eS =
      world_is _ _
      (base_is _ (with_deliveries (m ∷ []) (record old.wire { requests = without_request c k rs })) (ap (λ (y : OutboxState). y.frame_max) eO) refl refl
      (ap (λ (y : OutboxState). y.lists.rest) eO) (ap (λ (y : OutboxState). y.lists.methods) eO) (ap (λ (y : OutboxState). y.lists.publishes) eO)
      eR refl
      (ap length eS ∙ resolved-count (Ok a) (ticket_of (first_request k (requests_at c rs))) s)
      refl eI
      ∙ ap (λ (ms : List DeliveryMark). with_deliveries ms (record old.wire { requests = without_request c k rs })) (sym marks)
      ∙ ap (with_deliveries (consumer_deliveries c q old.wire)) (sym after))
      refl
      (eS ∙ ap (fold after_mark s) (sym tickets))
      (ap (λ (y : OutboxState). y.returned) eO)

  pub consume_ok_seen : (c : ℕ) (tag : List ℕ) (O : OutboxState) (R : List (ℕ × List Request)) (J : Deliveries) (S : List (Option Slot))
      → O ≡ o
      → R ≡ without_request c reply_kind.BasicConsumeOk rs
      → J ≡ deliveries.after_mark i (delivery_mark.Consumed c tag (queue_asked c old.wire))
      → S ≡ fold after_mark s (reply_marks (answer.Consumer (next_consumer i)) (first_request reply_kind.BasicConsumeOk (requests_at c rs)))
      → seen l p O R cs J S b ≡ receiving (incoming.Consumer c (part.ConsumeOk tag)) record_.Received old
  consume_ok_seen c tag O R J S eO eR eI eS = replied_seen c (part.ConsumeOk tag) reply_kind.BasicConsumeOk (answer.Consumer (next_consumer i)) (delivery_mark.Consumed c tag (queue_asked c old.wire)) O R J S refl refl refl eO eR eI eS

  pub cancel_ok_seen : (c : ℕ) (tag : List ℕ) (O : OutboxState) (R : List (ℕ × List Request)) (J : Deliveries) (S : List (Option Slot))
      → O ≡ o
      → R ≡ without_request c reply_kind.BasicCancelOk rs
      → J ≡ deliveries.after_mark i (delivery_mark.Canceled c tag)
      → S ≡ fold after_mark s (reply_marks answer.Done (first_request reply_kind.BasicCancelOk (requests_at c rs)))
      → seen l p O R cs J S b ≡ receiving (incoming.Consumer c (part.CancelOk tag)) record_.Received old
  cancel_ok_seen c tag O R J S eO eR eI eS = replied_seen c (part.CancelOk tag) reply_kind.BasicCancelOk answer.Done (delivery_mark.Canceled c tag) O R J S refl refl refl eO eR eI eS

  pub recover_ok_seen : (c : ℕ) (O : OutboxState) (R : List (ℕ × List Request)) (J : Deliveries) (S : List (Option Slot))
      → O ≡ o
      → R ≡ without_request c reply_kind.BasicRecoverOk rs
      → J ≡ deliveries.after_mark i (delivery_mark.Discarded c)
      → S ≡ fold after_mark s (reply_marks answer.Done (first_request reply_kind.BasicRecoverOk (requests_at c rs)))
      → seen l p O R cs J S b ≡ receiving (incoming.Consumer c part.RecoverOk) record_.Received old
  recover_ok_seen c O R J S eO eR eI eS = replied_seen c part.RecoverOk reply_kind.BasicRecoverOk answer.Done (delivery_mark.Discarded c) O R J S refl refl refl eO eR eI eS

  -- ---- the broker's own cancel, which is answered on an open channel unless it asks for no answer

  pub cancel_seen : (c : ℕ) (tag : List ℕ) (nowait : Bool) (J : Deliveries)
      → (is_open (state_of c old.wire) && not nowait) ≡ false
      → J ≡ deliveries.after_mark i (delivery_mark.Canceled c tag)
      → seen l p o rs cs J s b ≡ receiving (incoming.Consumer c (part.Cancel tag nowait)) record_.Received old
  cancel_seen c tag nowait J still eI =
      let same : old.wire ≡ after_cancel c tag nowait old.wire = rw still refl in
      world_is _ _ (base_is _ (with_deliveries (delivery_mark.Canceled c tag ∷ []) old.wire) refl refl refl refl refl refl refl refl refl refl eI ∙ ap (with_deliveries (delivery_mark.Canceled c tag ∷ [])) same) refl refl refl

  pub cancel_answered : (c : ℕ) (tag : List ℕ) (O : OutboxState) (J : Deliveries)
      → is_open (state_of c old.wire) ≡ true
      → O ≡ with_entry (record { channel = c; method = method.Basic (basic.CancelOk tag); ticket = None }) o
      → J ≡ deliveries.after_mark i (delivery_mark.Canceled c tag)
      → seen l p O rs cs J s b ≡ receiving (incoming.Consumer c (part.Cancel tag false)) record_.Received old
  cancel_answered c tag O J open_ eO eI =
      let same : noted c (method.Basic (basic.CancelOk tag)) old.wire ≡ after_cancel c tag false old.wire = rw open_ refl in
      world_is _ _
      (base_is _ (with_deliveries (delivery_mark.Canceled c tag ∷ []) (noted c (method.Basic (basic.CancelOk tag)) old.wire)) (ap (λ (y : OutboxState). y.frame_max) eO) refl refl
      (ap (λ (y : OutboxState). y.lists.rest) eO) (ap (λ (y : OutboxState). y.lists.methods) eO) (ap (λ (y : OutboxState). y.lists.publishes) eO)
      refl refl refl refl eI
      ∙ ap (with_deliveries (delivery_mark.Canceled c tag ∷ [])) same)
      refl refl
      (ap (λ (y : OutboxState). y.returned) eO)
