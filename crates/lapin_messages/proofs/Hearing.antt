-- A consumer is registered on a channel that is heard; and a content comes on such a channel.
use Rattle.std.proofs.Common.{◌≡◌, ◌∙◌, ℕ, Bool, true, false, cond, List, [], ◌∷◌, Option, Some, None, refl, sym, ap, subst, slice_get}
use Rattle.std.proofs.lemmas.Bool.{and_parts, both_ways}
use Rattle.lapin_types.specs.declared.event.Event.{Event}
use Rattle.lapin_types.specs.declared.event.Event.TheVariants as event
use Rattle.lapin_types.specs.declared.record.Record.{Record}
use Rattle.lapin_types.specs.declared.record.Record.TheVariants as record_
use Rattle.lapin_types.specs.Types.error
use Rattle.lapin_content.specs.declared.start.Start.{Start}
use Rattle.lapin_content.specs.declared.start.Start.TheVariants as start
use Rattle.lapin_content.specs.declared.start.Whole.{Whole}
use Rattle.lapin_consumer.specs.Subscriptions.{consumer_at, is_registered}
use Rattle.lapin_delivery.specs.Deliveries.{Deliveries}
use Rattle.lapin_delivery.specs.Marks.{DeliveryMark}
use Rattle.lapin_delivery.specs.Marks as deliveries
use Rattle.lapin_rules.specs.declared.calls.Asked.{Asked}
use Rattle.lapin_rules.specs.declared.calls.Asked.TheVariants as ask
use Rattle.lapin_rules.specs.declared.phases.ChannelPhase.{ChannelPhase}
use Rattle.lapin_rules.specs.declared.phases.ChannelPhase.TheVariants as phase
use Rattle.lapin_rules.specs.declared.phases.ConnectionPhase.{ConnectionPhase}
use Rattle.lapin_rules.specs.declared.phases.ConnectionPhase.TheVariants as link
use Rattle.lapin_rules.specs.declared.broker_frames.ConsumerPart.TheVariants as consumer
use Rattle.lapin_rules.specs.declared.broker_frames.ContentPart.{ContentPart}
use Rattle.lapin_rules.specs.declared.broker_frames.ContentPart.TheVariants as part
use Rattle.lapin_rules.specs.declared.broker_frames.Incoming.{Incoming}
use Rattle.lapin_rules.specs.declared.broker_frames.Incoming.TheVariants as incoming
use Rattle.lapin_rules.specs.Phases.{is_up}
use Rattle.lapin_rules.specs.Requests.{first_request}
use Rattle.lapin_rules.specs.Wire.{Wire, state_of, phase_of, requests_of, is_open}
use Rattle.lapin_rules.specs.Asking.{is_allowed, asked_by, call_deliveries, asking_deliveries}
use Rattle.lapin_rules.specs.Ackers.{usable_at}
use Rattle.lapin_rules.specs.ChannelClose.{close_ok_deliveries_in}
use Rattle.lapin_rules.specs.Consumers.{queue_asked}
use Rattle.lapin_rules.specs.Content.{next_acker, delivered_message, start_deliveries, whole_deliveries, whole_on}
use Rattle.lapin_rules.specs.Events.{delivery_marks}
use Rattle.lapin_rules.specs.Incoming.{incoming_of}
use Rattle.lapin_rules.specs.Receiving.{incoming_deliveries}
use Rattle.lapin_types.specs.Types.{Frame, ChannelState}
use Rattle.lapin_types.specs.Types.channel_state as state
use Rattle.lapin_types.specs.declared.request.ReplyKind.TheVariants as reply_kind
use Rattle.lapin_rules.specs.Words.{is_some}
use Rattle.lapin_rules.specs.Wire.{receives_on}
use Rattle.lapin_rules.specs.Reply.{receives_reply}
use Rattle.lapin_rules.specs.Consumers.{receives_consumer}
use Rattle.lapin_rules.specs.Content.{receives_part}
use Rattle.lapin_rules.specs.Readings.{Readings}
use Rattle.lapin_rules.specs.Receiving.{incoming_up, incoming_record, when}
use Rattle.lapin_rules.specs.ConnectionClose.{receives_down}
use Rattle.lapin_rules.specs.Events.{record_of}
use Rattle.lapin_rules.specs.Incoming.{frame_class, frame_method}
use Rattle.lapin_rules.specs.Unexpected.{refused}
use Rattle.lapin_joint.specs.Joint.{is_lawful}
use Rattle.lapin_concord.specs.Refusals.{is_refusal}
use Rattle.lapin_effects.specs.Effects.{hears}
use Rattle.lapin_messages.proofs.Deals.{ArePlain, is_plain, all_plain, line_plain}
use Rattle.lapin_messages.proofs.Dealing.{is_content, acked_plain, delegate_plain, job_plain, let_go_plain, request_plain}

plain_not : (X : List DeliveryMark) → ArePlain X → (c : ℕ) (t q : List ℕ) → X ≡ deliveries.Consumed c t q ∷ [] → ⊥
plain_not [] p c t q h = cc
plain_not (x ∷ X) p c t q h = let e : x ≡ deliveries.Consumed c t q = cc in both_ways _ (ap is_plain e) p.0

-- ---- calls

call_hearing : (d : ℕ) (k : Asked) (b : Wire) (c : ℕ) (t q : List ℕ) → is_allowed k (state_of d b) ≡ true → call_deliveries d k b ≡ deliveries.Consumed c t q ∷ [] → hears c b ≡ true
call_hearing d ask.Open b c t q a h = absurd cc
call_hearing d (ask.CloseChannel code text) b c t q a h = absurd cc
call_hearing d (ask.CloseConnection code text) b c t q a h = absurd (plain_not _ (all_plain _ _) c t q h)
call_hearing d (ask.Publish exchange key o payload properties) b c t q a h = absurd cc
call_hearing d (ask.Method row) b c t q a h = absurd (plain_not _ (line_plain d row.method row.answered) c t q h)
call_hearing d (ask.Limit limit) b c t q a h = absurd cc
call_hearing d ask.Nothing b c t q a h = absurd cc
call_hearing d (ask.Consume m tag queue o) b c t q a h =
    let e : d ≡ c = cc in
    subst (λ v. hears v b ≡ true) e (open_receives (state_of d b) a)
  where
    open_receives : (s : ChannelState) → is_open s ≡ true → receives_on s ≡ true
    open_receives state.Open h = refl
    open_receives _ h = absurd cc

asking_hearing : (d : ℕ) (k : Asked) (b : Wire) (c : ℕ) (t q : List ℕ) → asking_deliveries d k b ≡ deliveries.Consumed c t q ∷ [] → hears c b ≡ true
asking_hearing d k b c t q h = elim (is_allowed k (state_of d b)) as (λ v. is_allowed k (state_of d b) ≡ v → cond v (call_deliveries d k b) [] ≡ deliveries.Consumed c t q ∷ [] → hears c b ≡ true) [
  | true ↦ λ a g. call_hearing d k b c t q a g
  | false ↦ λ a g. absurd cc
] refl h

pub client_hearing : (b : Wire) (e : Event) (r : Record) → is_lawful e ≡ true → (c : ℕ) (t q : List ℕ) → delivery_marks b e r ≡ deliveries.Consumed c t q ∷ [] → hears c b ≡ true
client_hearing b (event.Call d k) r l c t q h = asking_hearing d (asked_by k r) b c t q h
client_hearing b (event.Receive f) r l c t q h = absurd cc
client_hearing b event.Lost r l c t q h = absurd cc
client_hearing b (event.PollConsumer k) r l c t q h = absurd cc
client_hearing b (event.Acker k a) r l c t q h = absurd (plain_not _ (acked_plain k (usable_at k b) a b) c t q h)
client_hearing b (event.Delegate k) r l c t q h = absurd (plain_not _ (delegate_plain k (consumer_at k b.deliveries.subscriptions)) c t q h)
client_hearing b (event.DropConsumer k) r l c t q h = absurd (plain_not _ (let_go_plain k (consumer_at k b.deliveries.subscriptions) b) c t q h)
client_hearing b event.NextJob r l c t q h = absurd (plain_not _ (job_plain (slice_get b.deliveries.subscriptions.jobs 0)) c t q h)
client_hearing b _ r l c t q h = absurd cc

pub lost_hearing : (b : Wire) (r : Record) (c : ℕ) (t q : List ℕ) → delivery_marks b event.Lost r ≡ deliveries.Consumed c t q ∷ [] → hears c b ≡ true
lost_hearing b r c t q h = absurd (plain_not _ (all_plain error.ConnectionLost _) c t q h)

-- ---- frames of the broker

start_not : (d : ℕ) (i : Deliveries) (s : Start) (w : Whole) (c : ℕ) (t q : List ℕ) → start_deliveries d i s w ≡ deliveries.Consumed c t q ∷ [] → ⊥
start_not d i (start.Deliver (Some k) tag exchange key redelivered) w c t q h = by (is_registered k i.subscriptions) h
  where
    by : (v : Bool) → cond v (deliveries.Delivered k (delivered_message d (next_acker i) tag exchange key redelivered w) ∷ []) [] ≡ deliveries.Consumed c t q ∷ [] → ⊥
    by true h = cc
    by false h = cc
start_not d i (start.Deliver None tag exchange key redelivered) w c t q h = cc
start_not d i (start.Get ticket tag exchange key redelivered count) w c t q h = cc
start_not d i (start.Return code text exchange key) w c t q h = cc

whole_not : (d : ℕ) (i : Deliveries) (w : Option Whole) (c : ℕ) (t q : List ℕ) → whole_deliveries d i w ≡ deliveries.Consumed c t q ∷ [] → ⊥
whole_not d i None c t q h = cc
whole_not d i (Some w) c t q h = start_not d i w.start w c t q h

close_ok_not : (d : ℕ) (p : ChannelPhase) (c : ℕ) (t q : List ℕ) → close_ok_deliveries_in d p ≡ deliveries.Consumed c t q ∷ [] → ⊥
close_ok_not d (phase.Closing who sent) c t q h = cc
close_ok_not d phase.Closed c t q h = cc
close_ok_not d phase.Opening c t q h = cc
close_ok_not d (phase.Open paused) c t q h = cc
close_ok_not d phase.Crossed c t q h = cc

-- a part of a content registers nobody
pub no_registration : (i : Incoming) (b : Wire) → is_content i ≡ true → (c : ℕ) (t q : List ℕ) → incoming_deliveries i record_.Received b ≡ deliveries.Consumed c t q ∷ [] → ⊥
no_registration (incoming.Content d p) b h c t q e = whole_not d b.deliveries (whole_on d p b) c t q e
no_registration (incoming.Reply d k a) b h c t q e = cc
no_registration _ b h c t q e = cc

-- the frame is consume-ok on this channel, for this tag
abbrev pub IsOk : Incoming → ℕ → List ℕ → Type 0
IsOk i c t = i ≡ incoming.Consumer c (consumer.ConsumeOk t)

received_ok : (i : Incoming) (b : Wire) (c : ℕ) (t q : List ℕ) → incoming_deliveries i record_.Received b ≡ deliveries.Consumed c t q ∷ [] → IsOk i c t
received_ok (incoming.Reply d k a) b c t q h = absurd (plain_not _ (request_plain d a (first_request k (requests_of d b))) c t q h)
received_ok (incoming.Settlement d s) b c t q h = absurd cc
received_ok (incoming.Content d p) b c t q h = absurd (whole_not d b.deliveries (whole_on d p b) c t q h)
received_ok (incoming.Consumer d (consumer.ConsumeOk tag)) b c t q h =
    let m : deliveries.Consumed d tag (queue_asked d b) ≡ deliveries.Consumed c t q = cc in
    let e : d ≡ c = cc in
    let f : tag ≡ t = cc in
    rw (e, f) refl
received_ok (incoming.Consumer d (consumer.CancelOk tag)) b c t q h = absurd cc
received_ok (incoming.Consumer d consumer.RecoverOk) b c t q h = absurd cc
received_ok (incoming.Consumer d (consumer.Cancel tag nowait)) b c t q h = absurd cc
received_ok (incoming.Flow d active) b c t q h = absurd cc
received_ok (incoming.ChannelClose d code) b c t q h = absurd cc
received_ok (incoming.ChannelCloseOk d) b c t q h = absurd (close_ok_not d (phase_of d b) c t q h)
received_ok (incoming.ConnectionClose code) b c t q h = absurd (plain_not _ (all_plain _ _) c t q h)
received_ok incoming.ConnectionCloseOk b c t q h = absurd cc
received_ok incoming.Other b c t q h = absurd cc

pub consumed_ok : (i : Incoming) (r : Record) (b : Wire) (c : ℕ) (t q : List ℕ) → incoming_deliveries i r b ≡ deliveries.Consumed c t q ∷ [] → IsOk i c t × (r ≡ record_.Received)
consumed_ok i (record_.Refused (error.UnexpectedFrame class number)) b c t q h = absurd (plain_not _ (all_plain _ _) c t q h)
consumed_ok i (record_.Refused e) b c t q h = absurd cc
consumed_ok i record_.Received b c t q h = (received_ok i b c t q h, refl)
consumed_ok i r b c t q h = absurd cc

-- what is received by its condition
when_received : (v : Bool) (r : Record) → (r ≡ record_.Received → ⊥) → when v r ≡ record_.Received → v ≡ true
when_received true r n h = refl
when_received false r n h = absurd (n h)

reply_heard : (c : ℕ) (b : Wire) → receives_reply c reply_kind.BasicConsumeOk b ≡ true → hears c b ≡ true
reply_heard c b h = (and_parts (receives_on (state_of c b)) (is_some (first_request reply_kind.BasicConsumeOk (requests_of c b))) h).0

module _ (class number : ℕ) (b : Wire) (readings : Readings) where
  abbrev told : Incoming → Record
  told i = incoming_record b readings (refused class number) i

  ok_heard : (c : ℕ) (t : List ℕ) → told (incoming.Consumer c (consumer.ConsumeOk t)) ≡ record_.Received → hears c b ≡ true
  ok_heard c t h = by (is_up b.link) b.link refl h
    where
      by : (u : Bool) (l : ConnectionPhase) → b.link ≡ l → cond u (when (receives_consumer c (consumer.ConsumeOk t) b) (refused class number)) (cond (receives_down b.link (incoming.Consumer c (consumer.ConsumeOk t))) record_.Received record_.Passed) ≡ record_.Received → hears c b ≡ true
      by true l e g = reply_heard c b (when_received _ _ (λ z. cc) g)
      by false link.Open e g = absurd (let z : record_.Passed ≡ record_.Received = sym (ap (λ k. cond (receives_down k (incoming.Consumer c (consumer.ConsumeOk t))) record_.Received record_.Passed) e) ∙ g in cc)
      by false (link.Closing x) e g = absurd (let z : record_.Passed ≡ record_.Received = sym (ap (λ k. cond (receives_down k (incoming.Consumer c (consumer.ConsumeOk t))) record_.Received record_.Passed) e) ∙ g in cc)
      by false link.Closed e g = absurd (let z : record_.Passed ≡ record_.Received = sym (ap (λ k. cond (receives_down k (incoming.Consumer c (consumer.ConsumeOk t))) record_.Received record_.Passed) e) ∙ g in cc)
      by false link.Lost e g = absurd (let z : record_.Passed ≡ record_.Received = sym (ap (λ k. cond (receives_down k (incoming.Consumer c (consumer.ConsumeOk t))) record_.Received record_.Passed) e) ∙ g in cc)

pub receive_hearing : (b : Wire) (readings : Readings) (f : Frame) (c : ℕ) (t q : List ℕ) → delivery_marks b (event.Receive f) (record_of b readings (event.Receive f)) ≡ deliveries.Consumed c t q ∷ [] → (hears c b ≡ true) × IsOk (incoming_of f) c t
receive_hearing b readings f c t q h =
    let r : Record = record_of b readings (event.Receive f) in
    let both = consumed_ok (incoming_of f) r b c t q h in
    (ok_heard (frame_class f) (frame_method f) b readings c t (ap (λ i. incoming_record b readings (refused (frame_class f) (frame_method f)) i) (sym both.0) ∙ both.1), both.0)

-- ---- a part of a content is received where it isn't refused

pub part_on : (c : ℕ) (p : ContentPart) (b : Wire) → receives_part c p b ≡ true → hears c b ≡ true
part_on c (part.GetOk s) b h = (and_parts (receives_on (state_of c b)) _ h).0
part_on c (part.Return s) b h = h
part_on c (part.Deliver tag s) b h = h
part_on c (part.Header x) b h = (and_parts (receives_on (state_of c b)) _ h).0
part_on c (part.Body bytes) b h = (and_parts (receives_on (state_of c b)) _ h).0

pub part_received : (b : Wire) (readings : Readings) (f : Frame) (c : ℕ) (p : ContentPart) → incoming_of f ≡ incoming.Content c p → is_up b.link ≡ true → is_refusal (record_of b readings (event.Receive f)) ≡ false → (record_of b readings (event.Receive f) ≡ record_.Received) × (receives_part c p b ≡ true) × (hears c b ≡ true)
part_received b readings f c p e u n =
    let no_ : Record = refused (frame_class f) (frame_method f) in
    let is : record_of b readings (event.Receive f) ≡ when (receives_part c p b) no_ = ap (λ i. incoming_record b readings no_ i) e ∙ ap (λ v. cond v (when (receives_part c p b) no_) (cond (receives_down b.link (incoming.Content c p)) record_.Received record_.Passed)) u in
    elim (receives_part c p b) as (λ v. receives_part c p b ≡ v → (record_of b readings (event.Receive f) ≡ record_.Received) × (receives_part c p b ≡ true) × (hears c b ≡ true)) [
      | true ↦ λ h. (is ∙ ap (λ v. when v no_) h, h, part_on c p b h)
      | false ↦ λ h. absurd (both_ways _ n (ap is_refusal (is ∙ ap (λ v. when v no_) h)))
    ] refl

-- consume-ok is received where it isn't refused, and registers the consumer
pub ok_received : (b : Wire) (readings : Readings) (f : Frame) (c : ℕ) (t : List ℕ) → IsOk (incoming_of f) c t → is_up b.link ≡ true → is_refusal (record_of b readings (event.Receive f)) ≡ false → delivery_marks b (event.Receive f) (record_of b readings (event.Receive f)) ≡ deliveries.Consumed c t (queue_asked c b) ∷ []
ok_received b readings f c t e u n =
    let no_ : Record = refused (frame_class f) (frame_method f) in
    let i : Incoming = incoming.Consumer c (consumer.ConsumeOk t) in
    let is : record_of b readings (event.Receive f) ≡ when (receives_consumer c (consumer.ConsumeOk t) b) no_ = ap (λ x. incoming_record b readings no_ x) e ∙ ap (λ v. cond v (when (receives_consumer c (consumer.ConsumeOk t) b) no_) (cond (receives_down b.link i) record_.Received record_.Passed)) u in
    let got : record_of b readings (event.Receive f) ≡ record_.Received = is ∙ elim (receives_consumer c (consumer.ConsumeOk t) b) as (λ v. receives_consumer c (consumer.ConsumeOk t) b ≡ v → when v no_ ≡ record_.Received) [
      | true ↦ λ h. refl
      | false ↦ λ h. absurd (both_ways _ n (ap is_refusal (is ∙ ap (λ v. when v no_) h)))
    ] refl in
    ap (λ x. incoming_deliveries x (record_of b readings (event.Receive f)) b) e ∙ ap (λ r. incoming_deliveries i r b) got

-- a part of a content is passed over once the connection is open no more
pub passed_content : (b : Wire) (readings : Readings) (f : Frame) → is_content (incoming_of f) ≡ true → is_up b.link ≡ false → delivery_marks b (event.Receive f) (record_of b readings (event.Receive f)) ≡ []
passed_content b readings f h d =
    let no_ : Record = refused (frame_class f) (frame_method f) in
    let is : record_of b readings (event.Receive f) ≡ cond (receives_down b.link (incoming_of f)) record_.Received record_.Passed = ap (λ v. cond v (incoming_up b readings no_ (incoming_of f)) (cond (receives_down b.link (incoming_of f)) record_.Received record_.Passed)) d in
    ap (λ r. incoming_deliveries (incoming_of f) r b) (is ∙ by (incoming_of f) h b.link)
  where
    by : (i : Incoming) → is_content i ≡ true → (l : ConnectionPhase) → cond (receives_down l i) record_.Received record_.Passed ≡ record_.Passed
    by (incoming.Content c p) h link.Open = refl
    by (incoming.Content c p) h (link.Closing x) = refl
    by (incoming.Content c p) h link.Closed = refl
    by (incoming.Content c p) h link.Lost = refl
    by (incoming.Reply c k a) h l = absurd cc
    by _ h l = absurd cc
