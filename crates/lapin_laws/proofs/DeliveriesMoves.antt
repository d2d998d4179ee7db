-- Consumers and ackers move by the marks of an event alone, and a job is asked for only where the event asks for one.
use Rattle.std.proofs.Common.{◌≡◌, ℕ, Bool, true, false, cond, ◌&&◌, ◌==◌, List, [], ◌∷◌, Option, Some, None, refl, ap, ◌++◌, sym, ◌∙◌, append-nil, append_assoc}
use Rattle.std.specs.List.{fold, list_any}
use Rattle.lapin_types.specs.declared.acker_call.AckerCall.{AckerCall}
use Rattle.lapin_types.specs.declared.answer.Answer.{Answer}
use Rattle.lapin_types.specs.declared.event.Event.{Event}
use Rattle.lapin_types.specs.declared.event.Event.TheVariants as event
use Rattle.lapin_types.specs.declared.record.Record.{Record}
use Rattle.lapin_types.specs.declared.record.Record.TheVariants as record_
use Rattle.lapin_types.specs.declared.leaving.Left.{Left}
use Rattle.lapin_types.specs.declared.request.Request.{Request}
use Rattle.lapin_types.specs.Types.{Method, BasicMethod, Error}
use Rattle.lapin_types.specs.Types.basic
use Rattle.lapin_types.specs.Types.error
use Rattle.lapin_types.specs.Types.method
use Rattle.lapin_content.specs.declared.start.Start.{Start}
use Rattle.lapin_content.specs.declared.start.Start.TheVariants as start
use Rattle.lapin_content.specs.declared.start.Whole.{Whole}
use Rattle.lapin_consumer.specs.Readings.{asks}
use Rattle.lapin_consumer.specs.Subscriptions.{Consumer, consumer_at, is_registered}
use Rattle.lapin_delivery.specs.Deliveries.{Deliveries, after_mark, all_consumer_marks, consumer_marks}
use Rattle.lapin_delivery.specs.Marks.{DeliveryMark}
use Rattle.lapin_delivery.specs.Marks as deliveries
use Rattle.lapin_rules.specs.declared.calls.Asked.{Asked}
use Rattle.lapin_rules.specs.declared.calls.Asked.TheVariants as ask
use Rattle.lapin_rules.specs.declared.calls.Answered.{Answered}
use Rattle.lapin_rules.specs.declared.calls.Answered.TheVariants as answered
use Rattle.lapin_rules.specs.declared.phases.ChannelPhase.{ChannelPhase}
use Rattle.lapin_rules.specs.declared.phases.ChannelPhase.TheVariants as phase
use Rattle.lapin_rules.specs.declared.phases.ConnectionPhase.TheVariants as link
use Rattle.lapin_rules.specs.declared.broker_frames.ConsumerPart.{ConsumerPart}
use Rattle.lapin_rules.specs.declared.broker_frames.ConsumerPart.TheVariants as consumer
use Rattle.lapin_rules.specs.declared.broker_frames.Incoming.{Incoming}
use Rattle.lapin_rules.specs.declared.broker_frames.Incoming.TheVariants as incoming
use Rattle.lapin_rules.specs.Ends.{down, live_channels, deliveries_ends}
use Rattle.lapin_rules.specs.Wire.{Wire, state_of, phase_of, requests_of}
use Rattle.lapin_rules.specs.Incoming.{incoming_of}
use Rattle.lapin_rules.specs.ChannelClose.{close_ok_deliveries_in}
use Rattle.lapin_rules.specs.Content.{start_deliveries, whole_deliveries, whole_on}
use Rattle.lapin_rules.specs.Consumers.{consumer_deliveries, all_deliveries, cancel_deliveries, called_deliveries, lets_go_of, let_go_marks, delegate_marks}
use Rattle.lapin_rules.specs.Registry.{line_deliveries, at_once_deliveries, request_deliveries}
use Rattle.lapin_rules.specs.Requests.{first_request}
use Rattle.lapin_rules.specs.Asking.{is_allowed, asked_by, call_deliveries, asking_deliveries}
use Rattle.lapin_rules.specs.Ackers.{acker_asked, usable_at, acked_deliveries}
use Rattle.lapin_rules.specs.Handing.{sent}
use Rattle.lapin_rules.specs.Receiving.{received_deliveries, refused_deliveries, incoming_deliveries}
use Rattle.lapin_rules.specs.Events.{delivery_marks}
use Rattle.lapin_machine.proofs.Deliveries.{call_box, asked_box, close_ok_box, connection_close_box, part_box, consumer_box, received_box, failed_box, refused_box, incoming_box, acked_box, let_go_box}

-- ---- what an event does beside its marks moves no consumer and no acker

either : (t : Bool) (x b : Wire) → x.deliveries ≡ b.deliveries → (cond t x b).deliveries ≡ b.deliveries
either true x b e = e
either false x b e = refl

lost_still : (t : Bool) (b : Wire) → (cond t b (down link.Lost b)).deliveries ≡ b.deliveries
lost_still true b = refl
lost_still false b = refl

sent_still : (o : Option Left) (b : Wire) → (sent o b).deliveries ≡ b.deliveries
sent_still None b = refl
sent_still (Some l) b = refl

by_marks : (ms : List DeliveryMark) (b' b : Wire) → b'.deliveries ≡ b.deliveries → fold after_mark b'.deliveries ms ≡ fold after_mark b.deliveries ms
by_marks ms b' b e = ap (λ i. fold after_mark i ms) e

-- ---- none of these marks asks for a job

abbrev pub AreSteady : List DeliveryMark → Type 0
AreSteady ms = list_any asks (all_consumer_marks ms) ≡ false

either_steady : (t : Bool) (ms ns : List DeliveryMark) → AreSteady ms → AreSteady ns → AreSteady (cond t ms ns)
either_steady true ms ns h k = h
either_steady false ms ns h k = k

ends_steady : (e : Error) (cs : List ℕ) → AreSteady (deliveries_ends e cs)
ends_steady e [] = refl
ends_steady e (c ∷ cs) = ends_steady e cs

all_steady : (c tag : ℕ) (multiple : Bool) → AreSteady (all_deliveries c tag multiple)
all_steady c tag multiple = either_steady (multiple && tag == 0) (deliveries.Discarded c ∷ []) [] refl refl

cancel_steady : (c : ℕ) (tag : List ℕ) (nowait : Bool) → AreSteady (cancel_deliveries c tag nowait)
cancel_steady c tag true = refl
cancel_steady c tag false = refl

called_steady : (c : ℕ) (m : BasicMethod) → AreSteady (called_deliveries c m)
called_steady c (basic.Cancel tag nowait) = cancel_steady c tag nowait
called_steady c (basic.Ack tag multiple) = all_steady c tag multiple
called_steady c (basic.Nack tag multiple requeue) = all_steady c tag multiple
called_steady c _ = refl

at_once_steady : (c : ℕ) (x : Answered) → AreSteady (at_once_deliveries c x)
at_once_steady c (answered.AtOnce r a) = refl
at_once_steady c _ = refl

line_steady : (c : ℕ) (m : Method) (x : Answered) → AreSteady (line_deliveries c m x)
line_steady c (method.Basic m) x = called_steady c m
line_steady c _ x = at_once_steady c x

request_steady : (c : ℕ) (a : Answer) (o : Option Request) → AreSteady (request_deliveries c a o)
request_steady c a None = refl
request_steady c a (Some r) = refl

call_steady : (c : ℕ) (k : Asked) (b : Wire) → AreSteady (call_deliveries c k b)
call_steady c (ask.CloseConnection code text) b = ends_steady _ (live_channels b.phases)
call_steady c (ask.Method row) b = line_steady c row.method row.answered
call_steady c _ b = refl

asking_steady : (c : ℕ) (k : Asked) (b : Wire) → AreSteady (asking_deliveries c k b)
asking_steady c k b = either_steady (is_allowed k (state_of c b)) (call_deliveries c k b) [] (call_steady c k b) refl

pub joined : (ms ns : List DeliveryMark) → all_consumer_marks (ms ++ ns) ≡ all_consumer_marks ms ++ all_consumer_marks ns
joined [] ns = refl
joined (m ∷ ms) ns = ap (λ xs. consumer_marks m ++ xs) (joined ms ns) ∙ sym (append_assoc (consumer_marks m) (all_consumer_marks ms) (all_consumer_marks ns))

-- an acker that is used up is nothing to consumers
spent_steady : (n : ℕ) (ms : List DeliveryMark) → AreSteady ms → AreSteady (ms ++ deliveries.Spent n ∷ [])
spent_steady n ms h = ap (list_any asks) (joined ms (deliveries.Spent n ∷ []) ∙ append-nil (all_consumer_marks ms)) ∙ h

acked_steady : (n : ℕ) (o : Option (ℕ × ℕ)) (k : AckerCall) (b : Wire) → AreSteady (acked_deliveries n o k b)
acked_steady n None k b = refl
acked_steady n (Some x) k b = spent_steady n (asking_deliveries x.0 (acker_asked k x.1) b) (asking_steady x.0 (acker_asked k x.1) b)

start_steady : (c : ℕ) (i : Deliveries) (s : Start) (w : Whole) → AreSteady (start_deliveries c i s w)
start_steady c i (start.Deliver (Some k) tag exchange key redelivered) w = either_steady (is_registered k i.subscriptions) (deliveries.Delivered k _ ∷ []) [] refl refl
start_steady c i _ w = refl

whole_steady : (c : ℕ) (i : Deliveries) (w : Option Whole) → AreSteady (whole_deliveries c i w)
whole_steady c i None = refl
whole_steady c i (Some w) = start_steady c i w.start w

consumer_steady : (c : ℕ) (p : ConsumerPart) (b : Wire) → AreSteady (consumer_deliveries c p b)
consumer_steady c (consumer.Cancel tag nowait) b = refl
consumer_steady c _ b = refl

close_ok_steady : (c : ℕ) (p : ChannelPhase) → AreSteady (close_ok_deliveries_in c p)
close_ok_steady c (phase.Closing who s) = refl
close_ok_steady c _ = refl

received_steady : (i : Incoming) (b : Wire) → AreSteady (received_deliveries i b)
received_steady (incoming.Reply c k a) b = request_steady c a (first_request k (requests_of c b))
received_steady (incoming.Content c p) b = whole_steady c b.deliveries (whole_on c p b)
received_steady (incoming.Consumer c p) b = consumer_steady c p b
received_steady (incoming.ChannelCloseOk c) b = close_ok_steady c (phase_of c b)
received_steady (incoming.ConnectionClose code) b = ends_steady _ (live_channels b.phases)
received_steady _ b = refl

refused_steady : (x : Error) (b : Wire) → AreSteady (refused_deliveries x b)
refused_steady (error.UnexpectedFrame class number) b = ends_steady _ (live_channels b.phases)
refused_steady _ b = refl

pub incoming_steady : (i : Incoming) (r : Record) (b : Wire) → AreSteady (incoming_deliveries i r b)
incoming_steady i (record_.Refused x) b = refused_steady x b
incoming_steady i record_.Received b = received_steady i b
incoming_steady i _ b = refl

let_go_steady : (n : ℕ) (o : Option Consumer) (b : Wire) → AreSteady (let_go_marks n o b)
let_go_steady n None b = refl
let_go_steady n (Some x) b = either_steady (lets_go_of x b) (deliveries.LetGo n ∷ []) [] refl refl

delegate_steady : (n : ℕ) (o : Option Consumer) → AreSteady (delegate_marks n o)
delegate_steady n None = refl
delegate_steady n (Some x) = refl

-- the event asks for a job
abbrev pub asks_job : Event → Bool
asks_job event.NextJob = true
asks_job _ = false

pub marks_steady : (b : Wire) (e : Event) (r : Record) → asks_job e ≡ false → AreSteady (delivery_marks b e r)
marks_steady b (event.Call c k) r h = asking_steady c (asked_by k r) b
marks_steady b (event.Receive f) r h = incoming_steady (incoming_of f) r b
marks_steady b (event.Acker n k) r h = acked_steady n (usable_at n b) k b
marks_steady b (event.Delegate n) r h = delegate_steady n (consumer_at n b.deliveries.subscriptions)
marks_steady b (event.DropConsumer n) r h = let_go_steady n (consumer_at n b.deliveries.subscriptions) b
marks_steady b event.NextJob r h = absurd cc
marks_steady b event.Lost r h = ends_steady _ (live_channels b.phases)
marks_steady b _ r h = refl
