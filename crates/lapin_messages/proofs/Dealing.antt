-- Every event but a frame request deals with consumers so.
use Rattle.std.proofs.Common.{◌≡◌, ◌∙◌, ℕ, ◌==◌, Bool, true, false, cond, not, ◌&&◌, ◌||◌, List, [], ◌∷◌, ◌++◌, Option, Some, None, refl, sym, ap, append-nil, slice_get, rules}
use Rattle.std.specs.List.{list_any}
use Rattle.lapin_types.specs.declared.acker_call.AckerCall.{AckerCall}
use Rattle.lapin_types.specs.declared.acker_call.AckerCall.TheVariants as acker_call
use Rattle.lapin_types.specs.declared.answer.Answer.{Answer}
use Rattle.lapin_types.specs.declared.call.Call.{Call}
use Rattle.lapin_types.specs.declared.call.Call.TheVariants as call
use Rattle.lapin_types.specs.declared.event.Event.{Event}
use Rattle.lapin_types.specs.declared.event.Event.TheVariants as event
use Rattle.lapin_types.specs.declared.job.Job.{Job}
use Rattle.lapin_types.specs.declared.record.Record.{Record}
use Rattle.lapin_types.specs.declared.record.Record.TheVariants as record_
use Rattle.lapin_types.specs.declared.request.Reply.TheVariants as reply
use Rattle.lapin_types.specs.declared.request.Request.{Request}
use Rattle.lapin_types.specs.Types.{Method, Error}
use Rattle.lapin_types.specs.Types.method
use Rattle.lapin_types.specs.Types.basic
use Rattle.lapin_types.specs.Types.channel
use Rattle.lapin_types.specs.Types.connection
use Rattle.lapin_types.specs.Types.error
use Rattle.lapin_content.specs.declared.start.Start.{Start}
use Rattle.lapin_content.specs.declared.start.Start.TheVariants as start
use Rattle.lapin_content.specs.declared.start.Whole.{Whole}
use Rattle.lapin_consumer.specs.Subscriptions.{Consumer, consumer_at, is_registered}
use Rattle.lapin_delivery.specs.Marks.{DeliveryMark}
use Rattle.lapin_delivery.specs.Marks as deliveries
use Rattle.lapin_rules.specs.declared.calls.Asked.TheVariants as ask
use Rattle.lapin_rules.specs.declared.phases.ChannelPhase.{ChannelPhase}
use Rattle.lapin_rules.specs.declared.phases.ChannelPhase.TheVariants as phase
use Rattle.lapin_rules.specs.declared.phases.Closer.TheVariants as closer
use Rattle.lapin_rules.specs.declared.phases.ConnectionPhase.{ConnectionPhase}
use Rattle.lapin_rules.specs.declared.phases.ConnectionPhase.TheVariants as link
use Rattle.lapin_rules.specs.declared.phases.CloseStage.TheVariants as stage
use Rattle.lapin_rules.specs.declared.broker_frames.ConsumerPart.{ConsumerPart}
use Rattle.lapin_rules.specs.declared.broker_frames.ConsumerPart.TheVariants as consumer
use Rattle.lapin_rules.specs.declared.broker_frames.ContentPart.{ContentPart}
use Rattle.lapin_rules.specs.declared.broker_frames.ContentPart.TheVariants as part
use Rattle.lapin_rules.specs.declared.broker_frames.Incoming.{Incoming}
use Rattle.lapin_rules.specs.declared.broker_frames.Incoming.TheVariants as incoming
use Rattle.lapin_rules.specs.ConfirmMarks.{ConfirmMark}
use Rattle.lapin_rules.specs.ConfirmMarks as mark
use Rattle.lapin_rules.specs.Words.{with_channel}
use Rattle.lapin_rules.specs.Frames.{MethodEntry}
use Rattle.lapin_rules.specs.Ends.{down, ends_all, deliveries_ends_all, end_with}
use Rattle.lapin_rules.specs.Phases.{is_lost}
use Rattle.lapin_rules.specs.Polls.{is_confirmed, is_returned, is_aside}
use Rattle.lapin_rules.specs.Requests.{first_request}
use Rattle.lapin_rules.specs.Wire.{Wire, state_of, phase_of, requests_of, is_open, with_deliveries, noted, queued, lists_of}
use Rattle.lapin_rules.specs.Calls.{asked, is_try, awaiting}
use Rattle.lapin_rules.specs.Asking.{asked_by, call_deliveries, asking_deliveries, is_outstanding}
use Rattle.lapin_rules.specs.Ackers.{acker_asked, acker_method, usable_at, acked_wire, acked_deliveries}
use Rattle.lapin_rules.specs.ChannelClose.{closing, after_close_ok, close_ok_deliveries_in, close_ok_end, close_marks}
use Rattle.lapin_rules.specs.ConnectionClose.{after_connection_close, unless_sent, has_sent}
use Rattle.lapin_rules.specs.Consumers.{queue_asked, consumer_deliveries, after_consumer, lets_go_of, cancel_noted, after_let_go, let_go_marks, delegate_marks, job_marks}
use Rattle.lapin_rules.specs.Content.{after_part, next_acker, delivered_message, start_deliveries, whole_deliveries, whole_on, whole_marks}
use Rattle.lapin_rules.specs.Events.{after_event, delivery_marks, confirm_marks}
use Rattle.lapin_rules.specs.Incoming.{incoming_of}
use Rattle.lapin_rules.specs.Loss.{after_lost}
use Rattle.lapin_rules.specs.Receiving.{incoming_wire, incoming_deliveries, incoming_marks}
use Rattle.lapin_rules.specs.Registry.{request_deliveries}
use Rattle.lapin_rules.specs.Settlement.{session_close}
use Rattle.lapin_rules.specs.Unexpected.{unexpected_close}
use Rattle.lapin_effects.specs.Effects.{is_next}
use Rattle.lapin_effects.specs.Effects.{moves}
use Rattle.lapin_messages.proofs.Tags.{names_consume}
use Rattle.lapin_messages.proofs.Deals.{Deals, ArePlain, Plain, Registers, Delivers, quiet, lone, falls, one_end, asking_deals, plain_push, same_waits, alone_waits, called_plain, IsLine, Waits, entry, waits_on}
use Rattle.lapin_rules.proofs.PhaseLaws.{lost_down}
use Rattle.lapin_effects.proofs.Comes.{whole_still}
use Rattle.lapin_effects.proofs.Events.{still_if}
use Rattle.std.proofs.lemmas.Bool.{both_ways}

-- ---- ackers, and consumers that are let go

-- the entry of a method that no call asked for
abbrev unasked : ℕ → Method → MethodEntry
unasked c m = record { channel = c; method = m; ticket = None }

acker_line : (tag : ℕ) (k : AckerCall) (t : List ℕ) → names_consume t (acker_method k tag) ≡ false
acker_line tag (acker_call.Ack o) t = refl
acker_line tag (acker_call.Nack o) t = refl
acker_line tag (acker_call.Reject o) t = refl

plain_push_back : (ms ns : List DeliveryMark) → ArePlain ms → ArePlain ns → ArePlain (ms ++ ns)
plain_push_back [] ns h k = k
plain_push_back (m ∷ ms) ns h k = (h.0, plain_push_back ms ns h.1 k)

acker_plain : (c : ℕ) (k : AckerCall) (tag : ℕ) (b : Wire) → ArePlain (asking_deliveries c (acker_asked k tag) b)
acker_plain c k tag b = elim (is_open (state_of c b)) as (λ v. ArePlain (cond v (call_deliveries c (acker_asked k tag) b) [])) [ true ↦ by k | false ↦ tt ]
  where
    by : (k : AckerCall) → ArePlain (call_deliveries c (acker_asked k tag) b)
    by (acker_call.Ack o) = called_plain c (basic.Ack tag o.multiple)
    by (acker_call.Nack o) = called_plain c (basic.Nack tag o.multiple o.requeue)
    by (acker_call.Reject o) = tt

pub acked_plain : (n : ℕ) (o : Option (ℕ × ℕ)) (k : AckerCall) (b : Wire) → ArePlain (acked_deliveries n o k b)
acked_plain n None k b = tt
acked_plain n (Some x) k b = plain_push_back (asking_deliveries x.0 (acker_asked k x.1) b) (deliveries.Spent n ∷ []) (acker_plain x.0 k x.1 b) (refl, tt)

acked_deals : (n : ℕ) (o : Option (ℕ × ℕ)) (k : AckerCall) (b : Wire) → Deals false b (acked_wire o k b) [] (acked_deliveries n o k b)
acked_deals n None k b = quiet refl tt (same_waits refl)
acked_deals n (Some x) k b = quiet refl (acked_plain n (Some x) k b) (elim (is_open (state_of x.0 b)) as (λ v. Waits b (cond v (queued x.0 (acker_method k x.1) None b) b) (acked_deliveries n (Some x) k b)) [
  | true ↦ plain_push (entry x.0 (acker_method k x.1) b) refl (acker_line x.1 k)
  | false ↦ same_waits refl
])

pub let_go_plain : (n : ℕ) (o : Option Consumer) (b : Wire) → ArePlain (let_go_marks n o b)
let_go_plain n None b = tt
let_go_plain n (Some x) b = elim (lets_go_of x b) as (λ v. ArePlain (cond v (deliveries.LetGo n ∷ []) [])) [ true ↦ (refl, tt) | false ↦ tt ]

let_go_deals : (n : ℕ) (o : Option Consumer) (b : Wire) → Deals false b (after_let_go o b) [] (let_go_marks n o b)
let_go_deals n None b = quiet refl tt (same_waits refl)
let_go_deals n (Some x) b = elim (lets_go_of x b) as (λ v. Deals false b (cond v (cancel_noted x b) b) [] (cond v (deliveries.LetGo n ∷ []) [])) [
  | true ↦ quiet refl (refl, tt) (plain_push (unasked x.channel (method.Basic (basic.Cancel x.tag false))) refl (λ t. refl))
  | false ↦ quiet refl tt (same_waits refl)
]

-- ---- frames of the broker

start_deals : (c : ℕ) (b b' : Wire) (xs : List ConfirmMark) (s : Start) (w : Whole) → b'.methods ≡ b.methods → list_any moves xs ≡ false → Deals true b b' xs (start_deliveries c b.deliveries s w)
start_deals c b b' xs (start.Deliver (Some k) tag exchange key redelivered) w e still = elim (is_registered k b.deliveries.subscriptions) as (λ v. Deals true b b' xs (cond v (deliveries.Delivered k (delivered_message c (next_acker b.deliveries) tag exchange key redelivered w) ∷ []) [])) [
  | true ↦ lone still (Delivers k (delivered_message c (next_acker b.deliveries) tag exchange key redelivered w) refl refl) (λ d. refl) (same_waits e)
  | false ↦ quiet still tt (same_waits e)
]
start_deals c b b' xs (start.Deliver None tag exchange key redelivered) w e still = quiet still tt (same_waits e)
start_deals c b b' xs (start.Get ticket tag exchange key redelivered count) w e still = quiet still (refl, tt) (same_waits e)
start_deals c b b' xs (start.Return code text exchange key) w e still = quiet still tt (same_waits e)

part_methods : (c : ℕ) (p : ContentPart) (b : Wire) → (after_part c p b).methods ≡ b.methods
part_methods c (part.GetOk s) b = refl
part_methods c (part.Return s) b = refl
part_methods c (part.Deliver tag s) b = refl
part_methods c (part.Header h) b = refl
part_methods c (part.Body bytes) b = refl

part_deals : (c : ℕ) (p : ContentPart) (b : Wire) → Deals true b (after_part c p b) (whole_marks c (whole_on c p b)) (whole_deliveries c b.deliveries (whole_on c p b))
part_deals c p b = by (whole_on c p b) (whole_still c (whole_on c p b))
  where
    by : (w : Option Whole) → list_any moves (whole_marks c w) ≡ false → Deals true b (after_part c p b) (whole_marks c w) (whole_deliveries c b.deliveries w)
    by None still = quiet refl tt (same_waits (part_methods c p b))
    by (Some w) still = start_deals c b (after_part c p b) (whole_marks c (Some w)) w.start w (part_methods c p b) still

consumer_deals : (c : ℕ) (p : ConsumerPart) (b : Wire) → Deals false b (after_consumer c p b) [] (consumer_deliveries c p b)
consumer_deals c (consumer.ConsumeOk tag) b = lone refl (Registers c tag (queue_asked c b) refl) (λ d. refl) (same_waits refl)
consumer_deals c (consumer.CancelOk tag) b = quiet refl (refl, tt) (same_waits refl)
consumer_deals c consumer.RecoverOk b = quiet refl (refl, tt) (same_waits refl)
consumer_deals c (consumer.Cancel tag nowait) b = elim (is_open (state_of c b) && not nowait) as (λ v. Deals false b (cond v (noted c (method.Basic (basic.CancelOk tag)) b) b) [] (deliveries.Canceled c tag ∷ [])) [
  | true ↦ quiet refl (refl, tt) (plain_push (unasked c (method.Basic (basic.CancelOk tag))) refl (λ t. refl))
  | false ↦ quiet refl (refl, tt) (same_waits refl)
]

close_ok_deals : (c : ℕ) (p : ChannelPhase) (b : Wire) → Deals false b (after_close_ok c p b) (end_with c (close_ok_end p)) (close_ok_deliveries_in c p)
close_ok_deals c (phase.Closing who sent) b = one_end b _ c _ _ [] (sym (append-nil _)) (λ d t. refl)
close_ok_deals c phase.Closed b = quiet refl tt (same_waits refl)
close_ok_deals c phase.Opening b = quiet refl tt (same_waits refl)
close_ok_deals c (phase.Open paused) b = quiet refl tt (same_waits refl)
close_ok_deals c phase.Crossed b = quiet refl tt (same_waits refl)

-- its close is answered
abbrev answer_entry : MethodEntry
answer_entry = unasked 0 (method.Connection connection.CloseOk)

connection_deals : (l : ConnectionPhase) (code : ℕ) (b : Wire) → Deals false b (after_connection_close l b) (ends_all (error.ProtocolError code) b) (deliveries_ends_all (error.ProtocolError code) b)
connection_deals (link.Closing stage.Queued) code b = falls b _ _ refl (alone_waits answer_entry refl (λ t. refl))
connection_deals (link.Closing s) code b = falls b _ _ refl (plain_push answer_entry refl (λ t. refl))
connection_deals link.Open code b = falls b _ _ refl (alone_waits answer_entry refl (λ t. refl))
connection_deals link.Closed code b = falls b _ _ refl (alone_waits answer_entry refl (λ t. refl))
connection_deals link.Lost code b = falls b _ _ refl (alone_waits answer_entry refl (λ t. refl))

none_waits : {b b' : Wire} {X : List DeliveryMark} → b'.methods ≡ [] → Waits b b' X
none_waits e = record { of = λ c t h. absurd (both_ways (waits_on c t []) refl (ap (waits_on c t) (sym e) ∙ h)) }

unsent_waits : (v : Bool) (b b' : Wire) → b'.methods ≡ (unless_sent v (lists_of b)).methods → Waits b b' []
unsent_waits true b b' e = same_waits e
unsent_waits false b b' e = none_waits e

pub request_plain : (c : ℕ) (a : Answer) (o : Option Request) → ArePlain (request_deliveries c a o)
request_plain c a None = tt
request_plain c a (Some r) = (refl, tt)

-- the frame is a part of a content
abbrev pub is_content : Incoming → Bool
is_content (incoming.Content c p) = true
is_content _ = false

received_deals : (i : Incoming) (b : Wire) → Deals (is_content i) b (incoming_wire i record_.Received b) (incoming_marks i record_.Received b) (incoming_deliveries i record_.Received b)
received_deals (incoming.Reply c k a) b = quiet refl (request_plain c a (first_request k (requests_of c b))) (same_waits refl)
received_deals (incoming.Settlement c s) b = quiet refl tt (same_waits refl)
received_deals (incoming.Content c p) b = part_deals c p b
received_deals (incoming.Consumer c p) b = consumer_deals c p b
received_deals (incoming.Flow c active) b = elim (is_open (state_of c b)) as (λ v. Deals false b (cond v (noted c (method.Channel (channel.FlowOk active)) (record b { phases = with_channel c (phase.Open (not active)) b.phases })) b) [] []) [
  | true ↦ quiet refl tt (plain_push (unasked c (method.Channel (channel.FlowOk active))) refl (λ t. refl))
  | false ↦ quiet refl tt (same_waits refl)
]
received_deals (incoming.ChannelClose c code) b = one_end b _ c _ _ (unasked c (method.Channel channel.CloseOk) ∷ []) refl (λ d t. none (c == d))
  where
    none : (v : Bool) → ((v && false) || false) ≡ false
    none true = refl
    none false = refl
received_deals (incoming.ChannelCloseOk c) b = close_ok_deals c (phase_of c b) b
received_deals (incoming.ConnectionClose code) b = connection_deals b.link code b
received_deals incoming.ConnectionCloseOk b = quiet refl tt (unsent_waits (has_sent b.link) b _ refl)
received_deals incoming.Other b = quiet refl tt (same_waits refl)

refused_deals : {v : Bool} (i : Incoming) (e : Error) (b : Wire) → Deals v b (incoming_wire i (record_.Refused e) b) (incoming_marks i (record_.Refused e) b) (incoming_deliveries i (record_.Refused e) b)
refused_deals i (error.UnexpectedFrame class number) b = falls b _ _ refl (alone_waits (unasked 0 (unexpected_close class number)) refl (λ t. refl))
refused_deals {v = w} (incoming.Settlement c s) (error.PreconditionFailed tag current) b = elim (is_open (state_of c b)) as (λ v. Deals w b (cond v (noted c (session_close s.kind) (closing c closer.Session b)) b) (cond v (close_marks c closer.Session) []) []) [
  | true ↦ record { shape = Plain tt; begun = λ d. refl; ended = λ d h. absurd cc; waits = plain_push (unasked c (session_close s.kind)) refl (λ t. refl); dropped = λ d t h. absurd cc }
  | false ↦ quiet refl tt (same_waits refl)
]
refused_deals i (error.PreconditionFailed tag current) b = quiet refl tt (same_waits refl)
refused_deals i e b = quiet refl tt (same_waits refl)

incoming_deals : (i : Incoming) (r : Record) (b : Wire) → Deals (is_content i) b (incoming_wire i r b) (incoming_marks i r b) (incoming_deliveries i r b)
incoming_deals i (record_.Refused e) b = refused_deals i e b
incoming_deals i record_.Received b = received_deals i b
incoming_deals i r b = quiet refl tt (same_waits refl)

-- a part of a content moves no opening
pub content_still : (i : Incoming) (b : Wire) → is_content i ≡ true → list_any moves (incoming_marks i record_.Received b) ≡ false
content_still (incoming.Content c p) b h = whole_still c (whole_on c p b)
content_still (incoming.Reply c k a) b h = absurd cc
content_still _ b h = absurd cc

-- ---- events

call_line : (k : Call) → IsLine (asked k)
call_line call.OpenChannel = tt
call_line (call.BasicConsume name tag o more) = consume_line o.nowait
  where
    with_ : Bool → Method
    with_ v = method.Basic (basic.Consume name tag o.no_local o.no_ack o.exclusive v more)

    consume_line : (v : Bool) → IsLine (cond v (ask.Consume (with_ v) tag name o) (awaiting (with_ v) (reply.BasicConsumeOk name o)))
    consume_line true = λ t h. h
    consume_line false = λ t. refl
call_line k = search rules

lost_deals : (b : Wire) → Deals false b (after_lost b) (ends_all error.ConnectionLost b) (deliveries_ends_all error.ConnectionLost b)
lost_deals b = elim (is_lost b.link) as (λ v. is_lost b.link ≡ v → Deals false b (cond v b (down link.Lost b)) (ends_all error.ConnectionLost b) (deliveries_ends_all error.ConnectionLost b)) [
  | true ↦ λ h. falls b b error.ConnectionLost (lost_down b.link h) (same_waits refl)
  | false ↦ λ h. falls b _ error.ConnectionLost refl (none_waits refl)
] refl

pub delegate_plain : (n : ℕ) (o : Option Consumer) → ArePlain (delegate_marks n o)
delegate_plain n None = tt
delegate_plain n (Some x) = (refl, tt)

pub job_plain : (o : Option Job) → ArePlain (job_marks o)
job_plain None = tt
job_plain (Some j) = (refl, tt)

-- with consumers and ackers as the marks say
inboxed : {v : Bool} (ns : List DeliveryMark) {b b' : Wire} {xs : List ConfirmMark} {X : List DeliveryMark} → Deals v b b' xs X → Deals v b (with_deliveries ns b') xs X
inboxed ns d = record { shape = d.shape; begun = d.begun; ended = d.ended; waits = record { of = d.waits.of }; dropped = d.dropped }

asked_line : (k : Call) (r : Record) → IsLine (asked_by k r)
asked_line k r = elim (is_try k && is_outstanding r) as (λ v. IsLine (cond v ask.Nothing (asked k))) [ true ↦ tt | false ↦ call_line k ]

-- the event brings a part of a content
abbrev pub brings : Event → Bool
brings (event.Receive f) = is_content (incoming_of f)
brings _ = false

pub event_deals : (b : Wire) (e : Event) (r : Record) → is_next e ≡ false → Deals (brings e) b (after_event b e r) (confirm_marks b e r) (delivery_marks b e r)
event_deals b (event.Call c k) r h = inboxed (asking_deliveries c (asked_by k r) b) (asking_deals c (asked_by k r) b (asked_line k r))
event_deals b (event.Next flow) r h = absurd cc
event_deals b (event.Receive f) r h = inboxed (incoming_deliveries (incoming_of f) r b) (incoming_deals (incoming_of f) r b)
event_deals b (event.PollTicket n) r h = quiet refl tt (same_waits refl)
event_deals b (event.PollConfirm n) r h = quiet (still_if (is_confirmed r) (mark.Taken n) refl) tt (same_waits refl)
event_deals b (event.PollConsumer n) r h = quiet refl (refl, tt) (same_waits refl)
event_deals b (event.PollWait c) r h = quiet (still_if (is_returned r) (mark.Drained c) refl) tt (same_waits refl)
event_deals b (event.AsideTicket n) r h = quiet refl tt (same_waits refl)
event_deals b (event.AsideConfirm n) r h = quiet (still_if (is_aside r) (mark.SetAside n) refl) tt (same_waits refl)
event_deals b (event.Acker n k) r h = inboxed (acked_deliveries n (usable_at n b) k b) (acked_deals n (usable_at n b) k b)
event_deals b (event.Delegate n) r h = quiet refl (delegate_plain n (consumer_at n b.deliveries.subscriptions)) (same_waits refl)
event_deals b (event.DropConsumer n) r h = inboxed (let_go_marks n (consumer_at n b.deliveries.subscriptions) b) (let_go_deals n (consumer_at n b.deliveries.subscriptions) b)
event_deals b event.NextJob r h = quiet refl (job_plain (slice_get b.deliveries.subscriptions.jobs 0)) (same_waits refl)
event_deals b (event.State c) r h = quiet refl tt (same_waits refl)
event_deals b event.Lost r h = inboxed (deliveries_ends_all error.ConnectionLost b) (lost_deals b)
