-- What an event does to consumers and ackers is what its marks say, and it gives one number of each at most.
use Rattle.std.proofs.Common.{◌≡◌, ℕ, ◌+◌, ◌==◌, ◌≤◌, Bool, true, false, cond, not, ◌&&◌, List, [], ◌∷◌, ◌++◌, length, Option, Some, None, refl, sym, ◌∙◌, ap, subst, arith, length-append}
use Rattle.std.specs.List.{fold}
use Rattle.lapin_types.specs.declared.acker_call.AckerCall.{AckerCall}
use Rattle.lapin_types.specs.declared.answer.Answer.{Answer}
use Rattle.lapin_types.specs.declared.request.Request.{Request}
use Rattle.lapin_types.specs.declared.acker_call.AckerCall.TheVariants as acker_call
use Rattle.lapin_types.specs.declared.event.Event.{Event}
use Rattle.lapin_types.specs.declared.event.Event.TheVariants as event
use Rattle.lapin_types.specs.declared.job.Job.{Job}
use Rattle.lapin_types.specs.declared.leaving.Left.{Left}
use Rattle.lapin_types.specs.declared.record.Record.{Record}
use Rattle.lapin_types.specs.declared.record.Record.TheVariants as record_
use Rattle.lapin_types.specs.Types.{Error, Method, BasicMethod}
use Rattle.lapin_types.specs.Types.error
use Rattle.lapin_types.specs.Types.method
use Rattle.lapin_types.specs.Types.basic
use Rattle.lapin_acker.specs.declared.switch.Switch.{Switch}
use Rattle.lapin_acker.specs.declared.switch.Switch.TheVariants as switch
use Rattle.lapin_acker.specs.Marks as acker_mark
use Rattle.lapin_acker.specs.Switches.{map_numbered, moved as moved_switch}
use Rattle.lapin_consumer.specs.Marks as consumer_mark
use Rattle.lapin_consumer.specs.Subscriptions.{Consumer, consumer_at, newcomer, is_registered, moved}
use Rattle.lapin_consumer.specs.Ackers.{ackers_on}
use Rattle.lapin_consumer.specs.Words.{map_at}
use Rattle.lapin_consumer.proofs.Places.{length-map_at}
use Rattle.lapin_content.specs.declared.start.Start.{Start}
use Rattle.lapin_content.specs.declared.start.Start.TheVariants as start
use Rattle.lapin_content.specs.declared.start.Whole.{Whole}
use Rattle.lapin_delivery.specs.Deliveries.{Deliveries, after_mark}
use Rattle.lapin_delivery.specs.Marks.{DeliveryMark}
use Rattle.lapin_delivery.specs.Marks as deliveries
use Rattle.lapin_rules.specs.declared.calls.Asked.{Asked}
use Rattle.lapin_rules.specs.declared.calls.Asked.TheVariants as ask
use Rattle.lapin_rules.specs.declared.broker_frames.ConsumerPart.{ConsumerPart}
use Rattle.lapin_rules.specs.declared.broker_frames.ConsumerPart.TheVariants as consumer
use Rattle.lapin_rules.specs.declared.broker_frames.ContentPart.{ContentPart}
use Rattle.lapin_rules.specs.declared.broker_frames.ContentPart.TheVariants as part
use Rattle.lapin_rules.specs.declared.broker_frames.Incoming.{Incoming}
use Rattle.lapin_rules.specs.declared.broker_frames.Incoming.TheVariants as incoming
use Rattle.lapin_rules.specs.declared.phases.ChannelPhase.{ChannelPhase}
use Rattle.lapin_rules.specs.declared.phases.ChannelPhase.TheVariants as phase
use Rattle.lapin_rules.specs.declared.phases.ConnectionPhase.{ConnectionPhase}
use Rattle.lapin_rules.specs.declared.phases.ConnectionPhase.TheVariants as link
use Rattle.lapin_rules.specs.declared.phases.CloseStage.TheVariants as stage
use Rattle.lapin_rules.specs.Incoming.{incoming_of}
use Rattle.lapin_rules.specs.Phases.{is_lost}
use Rattle.lapin_rules.specs.Leaving.{left_lists}
use Rattle.lapin_rules.specs.Wire.{Wire, state_of, phase_of, requests_of, is_open, lists_of, with_lists, with_deliveries}
use Rattle.lapin_rules.specs.Ends.{deliveries_ends, live_channels}
use Rattle.lapin_rules.specs.ChannelClose.{after_close_ok, close_ok_deliveries_in}
use Rattle.lapin_rules.specs.ConnectionClose.{after_connection_close, failed_at_connection_close}
use Rattle.lapin_rules.specs.Content.{after_part, whole_on, start_deliveries, whole_deliveries}
use Rattle.lapin_rules.specs.Consumers.{all_deliveries, cancel_deliveries, called_deliveries, after_consumer, consumer_deliveries, delegate_marks, job_marks, lets_go_of, cancel_noted, after_let_go, let_go_marks}
use Rattle.lapin_rules.specs.declared.calls.Answered.{Answered}
use Rattle.lapin_rules.specs.declared.calls.Answered.TheVariants as answered
use Rattle.lapin_rules.specs.Requests.{first_request}
use Rattle.lapin_rules.specs.Registry.{line_deliveries, at_once_deliveries, request_deliveries}
use Rattle.lapin_rules.specs.Asking.{asked_by, is_allowed, after_call, asked_wire, call_deliveries, asking_deliveries}
use Rattle.lapin_rules.specs.Ackers.{acker_asked, usable_at, acked_wire, acked_deliveries}
use Rattle.lapin_rules.specs.Handing.{after_next, sent, handed_as, began_on}
use Rattle.lapin_rules.specs.Receiving.{after_received, after_failed, after_refused, incoming_wire, received_deliveries, refused_deliveries, incoming_deliveries}
use Rattle.lapin_rules.specs.Unexpected.{failed_at_unexpected}
use Rattle.lapin_rules.specs.Loss.{after_lost}
use Rattle.lapin_rules.specs.Events.{after_event, delivery_marks}
use Rattle.lapin_acker.proofs.Store.{length-numbered}

-- ---- the rules of the other parts leave consumers and ackers as they are

choose_box : (t : Bool) (x y b : Wire) → x.deliveries ≡ b.deliveries → y.deliveries ≡ b.deliveries → (cond t x y).deliveries ≡ b.deliveries
choose_box true x y b h k = h
choose_box false x y b h k = k

pub call_box : (c : ℕ) (k : Asked) (b : Wire) → (after_call c k b).deliveries ≡ b.deliveries
call_box c ask.Open b = refl
call_box c _ b = refl

pub asked_box : (c : ℕ) (k : Asked) (b : Wire) → (asked_wire c k b).deliveries ≡ b.deliveries
asked_box c k b = choose_box (is_allowed k (state_of c b)) (after_call c k b) b b (call_box c k b) refl

pub acked_box : (o : Option (ℕ × ℕ)) (k : AckerCall) (b : Wire) → (acked_wire o k b).deliveries ≡ b.deliveries
acked_box None k b = refl
acked_box (Some x) k b = asked_box x.0 (acker_asked k x.1) b

next_box : (r : Record) (b : Wire) → (after_next r b).deliveries ≡ b.deliveries
next_box r b = at (handed_as r b)
  where
    at : (o : Option Left) → (sent o (with_lists (left_lists b.frame_max (began_on r) (lists_of b)) b)).deliveries ≡ b.deliveries
    at None = refl
    at (Some l) = refl

pub close_ok_box : (c : ℕ) (p : ChannelPhase) (b : Wire) → (after_close_ok c p b).deliveries ≡ b.deliveries
close_ok_box c (phase.Closing who sent) b = refl
close_ok_box c _ b = refl

pub connection_close_box : (l : ConnectionPhase) (b : Wire) → (after_connection_close l b).deliveries ≡ b.deliveries
connection_close_box (link.Closing stage.Queued) b = refl
connection_close_box _ b = refl

pub part_box : (c : ℕ) (p : ContentPart) (b : Wire) → (after_part c p b).deliveries ≡ b.deliveries
part_box c (part.GetOk s) b = refl
part_box c _ b = refl

pub consumer_box : (c : ℕ) (p : ConsumerPart) (b : Wire) → (after_consumer c p b).deliveries ≡ b.deliveries
consumer_box c (consumer.Cancel tag nowait) b = choose_box (is_open (state_of c b) && not nowait) _ b b refl refl
consumer_box c _ b = refl

pub received_box : (i : Incoming) (b : Wire) → (after_received i b).deliveries ≡ b.deliveries
received_box (incoming.Content c p) b = part_box c p b
received_box (incoming.Consumer c p) b = consumer_box c p b
received_box (incoming.ChannelCloseOk c) b = close_ok_box c (phase_of c b) b
received_box (incoming.ConnectionClose code) b = connection_close_box b.link b
received_box (incoming.Flow c active) b = choose_box (is_open (state_of c b)) _ b b refl refl
received_box _ b = refl

pub failed_box : (i : Incoming) (b : Wire) → (after_failed i b).deliveries ≡ b.deliveries
failed_box (incoming.Settlement c s) b = choose_box (is_open (state_of c b)) _ b b refl refl
failed_box _ b = refl

pub refused_box : (i : Incoming) (e : Error) (b : Wire) → (after_refused i e b).deliveries ≡ b.deliveries
refused_box i (error.PreconditionFailed tag current) b = failed_box i b
refused_box i _ b = refl

pub incoming_box : (i : Incoming) (r : Record) (b : Wire) → (incoming_wire i r b).deliveries ≡ b.deliveries
incoming_box i (record_.Refused e) b = refused_box i e b
incoming_box i record_.Received b = received_box i b
incoming_box i _ b = refl

pub let_go_box : (o : Option Consumer) (b : Wire) → (after_let_go o b).deliveries ≡ b.deliveries
let_go_box None b = refl
let_go_box (Some x) b = choose_box (lets_go_of x b) (cancel_noted x b) b b refl refl

lost_box : (b : Wire) → (after_lost b).deliveries ≡ b.deliveries
lost_box b = choose_box (is_lost b.link) b _ b refl refl

-- so they go by the marks alone
boxed : (ms : List DeliveryMark) (x b : Wire) → x.deliveries ≡ b.deliveries → (with_deliveries ms x).deliveries ≡ fold after_mark b.deliveries ms
boxed ms x b same = ap (λ i. fold after_mark i ms) same

pub deliveries-next : (b : Wire) (e : Event) (r : Record) → (after_event b e r).deliveries ≡ fold after_mark b.deliveries (delivery_marks b e r)
deliveries-next b (event.Call c k) r = boxed (asking_deliveries c (asked_by k r) b) (asked_wire c (asked_by k r) b) b (asked_box c (asked_by k r) b)
deliveries-next b (event.Next flow) r = next_box r b
deliveries-next b (event.Receive f) r = boxed (incoming_deliveries (incoming_of f) r b) (incoming_wire (incoming_of f) r b) b (incoming_box (incoming_of f) r b)
deliveries-next b (event.Acker n k) r = boxed (acked_deliveries n (usable_at n b) k b) (acked_wire (usable_at n b) k b) b (acked_box (usable_at n b) k b)
deliveries-next b (event.DropConsumer n) r = boxed (let_go_marks n (consumer_at n b.deliveries.subscriptions) b) (after_let_go (consumer_at n b.deliveries.subscriptions) b) b (let_go_box (consumer_at n b.deliveries.subscriptions) b)
deliveries-next b event.Lost r = boxed (deliveries_ends error.ConnectionLost (live_channels b.phases)) (after_lost b) b (lost_box b)
deliveries-next b _ r = refl

-- ---- how many numbers a mark gives

-- it gives the next number of a consumer or of an acker
abbrev numbers : DeliveryMark → Bool
numbers (deliveries.Consumed c t q) = true
numbers (deliveries.Delivered k d) = true
numbers (deliveries.Got c t) = true
numbers _ = false

quiet_switches : (m : DeliveryMark) (i : Deliveries) → numbers m ≡ false → length (after_mark i m).switches ≡ length i.switches
quiet_switches (deliveries.Consumed c t q) i h = cc
quiet_switches (deliveries.Delivered k d) i h = cc
quiet_switches (deliveries.Got c t) i h = cc
quiet_switches (deliveries.Ended c e) i h = length-numbered (moved_switch (acker_mark.Ended c)) 0 i.switches
quiet_switches (deliveries.Discarded c) i h = length-numbered (moved_switch (acker_mark.Voided (ackers_on c i.subscriptions.consumers))) 0 i.switches
quiet_switches (deliveries.Spent n) i h = length-numbered (moved_switch (acker_mark.Spent n)) 0 i.switches
quiet_switches _ i h = refl

quiet_consumers : (m : DeliveryMark) (i : Deliveries) → numbers m ≡ false → length (after_mark i m).subscriptions.consumers ≡ length i.subscriptions.consumers
quiet_consumers (deliveries.Consumed c t q) i h = cc
quiet_consumers (deliveries.Delivered k d) i h = cc
quiet_consumers (deliveries.Got c t) i h = cc
quiet_consumers (deliveries.CancelAsked c t) i h = length-map_at (moved (consumer_mark.CancelAsked c t)) i.subscriptions.consumers
quiet_consumers (deliveries.CloseAsked c) i h = length-map_at (moved (consumer_mark.CloseAsked c)) i.subscriptions.consumers
quiet_consumers (deliveries.Canceled c t) i h = length-map_at (moved (consumer_mark.Canceled c t)) i.subscriptions.consumers
quiet_consumers (deliveries.Ended c e) i h = length-map_at (moved (consumer_mark.Ended c e)) i.subscriptions.consumers
quiet_consumers (deliveries.Discarded c) i h = length-map_at (moved (consumer_mark.Discarded c)) i.subscriptions.consumers
quiet_consumers (deliveries.Delegated k) i h = length-map_at (moved (consumer_mark.Delegated k)) i.subscriptions.consumers
quiet_consumers (deliveries.Polled k) i h = length-map_at (moved (consumer_mark.Polled k)) i.subscriptions.consumers
quiet_consumers (deliveries.LetGo k) i h = length-map_at (moved (consumer_mark.LetGo k)) i.subscriptions.consumers
quiet_consumers deliveries.JobAsked i h = length-map_at (moved consumer_mark.JobAsked) i.subscriptions.consumers
quiet_consumers (deliveries.Spent n) i h = refl
quiet_consumers (deliveries.Opened c) i h = refl
quiet_consumers (deliveries.Completed c r a) i h = refl

-- a switch joins
joined_switches : (f : ℕ → Switch → Switch) (ss : List Switch) (s : Switch) → length (map_numbered 0 f ss ++ s ∷ []) ≤ length ss + 1
joined_switches f ss s = let more = length-append (map_numbered 0 f ss) (s ∷ []) in let same = length-numbered f 0 ss in omega arith

one_switch : (m : DeliveryMark) (i : Deliveries) → length (after_mark i m).switches ≤ length i.switches + 1
one_switch (deliveries.Delivered k d) i = joined_switches (λ n s. s) i.switches (switch.Usable d.acker.channel_id d.acker.delivery_tag)
one_switch (deliveries.Got c t) i = joined_switches (λ n s. s) i.switches (switch.Usable c t)
one_switch (deliveries.Consumed c t q) i = omega arith
one_switch m i = let same = quiet_switches m i refl in omega (arith, same)

-- a consumer joins
joined_consumers : (f : ℕ → Consumer → Consumer) (xs : List Consumer) (x : Consumer) → length (map_at f xs ++ x ∷ []) ≤ length xs + 1
joined_consumers f xs x = let more = length-append (map_at f xs) (x ∷ []) in let same = length-map_at f xs in omega arith

one_consumer : (m : DeliveryMark) (i : Deliveries) → length (after_mark i m).subscriptions.consumers ≤ length i.subscriptions.consumers + 1
one_consumer (deliveries.Consumed c t q) i = joined_consumers (moved (consumer_mark.Registered c t q)) i.subscriptions.consumers (newcomer c t q)
one_consumer (deliveries.Delivered k d) i = let same = length-map_at (moved (consumer_mark.Completed k d)) i.subscriptions.consumers in omega arith
one_consumer (deliveries.Got c t) i = omega arith
one_consumer m i = let same = quiet_consumers m i refl in omega (arith, same)

-- ---- marks that give no number, and marks that give one at most: none of them does, or there is one alone

abbrev AreQuiet : List DeliveryMark → Type 0
AreQuiet [] = Unit {0}
AreQuiet (m ∷ ms) = (numbers m ≡ false) × AreQuiet ms

abbrev AreFew : List DeliveryMark → Type 0
AreFew (m ∷ []) = Unit {0}
AreFew ms = AreQuiet ms

all_switches : (ms : List DeliveryMark) (i : Deliveries) → AreQuiet ms → length (fold after_mark i ms).switches ≡ length i.switches
all_switches [] i h = refl
all_switches (m ∷ ms) i h = all_switches ms (after_mark i m) h.1 ∙ quiet_switches m i h.0

all_consumers : (ms : List DeliveryMark) (i : Deliveries) → AreQuiet ms → length (fold after_mark i ms).subscriptions.consumers ≡ length i.subscriptions.consumers
all_consumers [] i h = refl
all_consumers (m ∷ ms) i h = all_consumers ms (after_mark i m) h.1 ∙ quiet_consumers m i h.0

few_switches : (ms : List DeliveryMark) (i : Deliveries) → AreFew ms → length (fold after_mark i ms).switches ≤ length i.switches + 1
few_switches [] i h = omega arith
few_switches (m ∷ []) i h = one_switch m i
few_switches (m ∷ n ∷ ms) i h = let same = all_switches (m ∷ n ∷ ms) i h in omega (arith, same)

few_consumers : (ms : List DeliveryMark) (i : Deliveries) → AreFew ms → length (fold after_mark i ms).subscriptions.consumers ≤ length i.subscriptions.consumers + 1
few_consumers [] i h = omega arith
few_consumers (m ∷ []) i h = one_consumer m i
few_consumers (m ∷ n ∷ ms) i h = let same = all_consumers (m ∷ n ∷ ms) i h in omega (arith, same)

quiet_few : (ms : List DeliveryMark) → AreQuiet ms → AreFew ms
quiet_few [] h = tt
quiet_few (m ∷ []) h = tt
quiet_few (m ∷ n ∷ ms) h = h

choose_few : (t : Bool) (xs ys : List DeliveryMark) → AreFew xs → AreFew ys → AreFew (cond t xs ys)
choose_few true xs ys h k = h
choose_few false xs ys h k = k

-- ---- the marks of an event are such

ends_quiet : (e : Error) (cs : List ℕ) → AreQuiet (deliveries_ends e cs)
ends_quiet e [] = tt
ends_quiet e (c ∷ cs) = (refl, ends_quiet e cs)

ends_few : (e : Error) (cs : List ℕ) → AreFew (deliveries_ends e cs)
ends_few e cs = quiet_few (deliveries_ends e cs) (ends_quiet e cs)

all_few : (c tag : ℕ) (multiple : Bool) → AreFew (all_deliveries c tag multiple)
all_few c tag multiple = choose_few (multiple && tag == 0) (deliveries.Discarded c ∷ []) [] tt tt

cancel_few : (c : ℕ) (tag : List ℕ) (nowait : Bool) → AreFew (cancel_deliveries c tag nowait)
cancel_few c tag true = (refl, (refl, tt))
cancel_few c tag false = tt

called_few : (c : ℕ) (m : BasicMethod) → AreFew (called_deliveries c m)
called_few c (basic.Cancel tag nowait) = cancel_few c tag nowait
called_few c (basic.Ack tag multiple) = all_few c tag multiple
called_few c (basic.Nack tag multiple requeue) = all_few c tag multiple
called_few c (basic.RecoverAsync requeue) = tt
called_few c _ = tt

at_once_few : (c : ℕ) (x : Answered) → AreFew (at_once_deliveries c x)
at_once_few c (answered.AtOnce r a) = tt
at_once_few c _ = tt

line_few : (c : ℕ) (m : Method) (x : Answered) → AreFew (line_deliveries c m x)
line_few c (method.Basic m) x = called_few c m
line_few c _ x = at_once_few c x

request_few : (c : ℕ) (a : Answer) (o : Option Request) → AreFew (request_deliveries c a o)
request_few c a None = tt
request_few c a (Some r) = tt

call_few : (c : ℕ) (k : Asked) (b : Wire) → AreFew (call_deliveries c k b)
call_few c (ask.CloseConnection code text) b = ends_few failed_at_connection_close (live_channels b.phases)
call_few c (ask.Method row) b = line_few c row.method row.answered
call_few c _ b = tt

asking_few : (c : ℕ) (k : Asked) (b : Wire) → AreFew (asking_deliveries c k b)
asking_few c k b = choose_few (is_allowed k (state_of c b)) (call_deliveries c k b) [] (call_few c k b) tt

-- an acker's call gives none
choose_quiet : (t : Bool) (xs ys : List DeliveryMark) → AreQuiet xs → AreQuiet ys → AreQuiet (cond t xs ys)
choose_quiet true xs ys h k = h
choose_quiet false xs ys h k = k

all_quiet : (c tag : ℕ) (multiple : Bool) → AreQuiet (all_deliveries c tag multiple)
all_quiet c tag multiple = choose_quiet (multiple && tag == 0) (deliveries.Discarded c ∷ []) [] (refl, tt) tt

acker_quiet : (c : ℕ) (k : AckerCall) (tag : ℕ) (b : Wire) → AreQuiet (call_deliveries c (acker_asked k tag) b)
acker_quiet c (acker_call.Ack o) tag b = all_quiet c tag o.multiple
acker_quiet c (acker_call.Nack o) tag b = all_quiet c tag o.multiple
acker_quiet c (acker_call.Reject o) tag b = tt

join_quiet : (xs ys : List DeliveryMark) → AreQuiet xs → AreQuiet ys → AreQuiet (xs ++ ys)
join_quiet [] ys h k = k
join_quiet (x ∷ xs) ys h k = (h.0, join_quiet xs ys h.1 k)

acked_few : (n : ℕ) (o : Option (ℕ × ℕ)) (k : AckerCall) (b : Wire) → AreFew (acked_deliveries n o k b)
acked_few n None k b = tt
acked_few n (Some x) k b =
    let made : AreQuiet (asking_deliveries x.0 (acker_asked k x.1) b) = choose_quiet (is_allowed (acker_asked k x.1) (state_of x.0 b)) (call_deliveries x.0 (acker_asked k x.1) b) [] (acker_quiet x.0 k x.1 b) tt in
    quiet_few (acked_deliveries n (Some x) k b) (join_quiet (asking_deliveries x.0 (acker_asked k x.1) b) (deliveries.Spent n ∷ []) made (refl, tt))

start_few : (c : ℕ) (i : Deliveries) (s : Start) (w : Whole) → AreFew (start_deliveries c i s w)
start_few c i (start.Get ticket tag exchange key redelivered count) w = tt
start_few c i (start.Deliver (Some k) tag exchange key redelivered) w = choose_few (is_registered k i.subscriptions) (deliveries.Delivered k _ ∷ []) [] tt tt
start_few c i _ w = tt

whole_few : (c : ℕ) (i : Deliveries) (w : Option Whole) → AreFew (whole_deliveries c i w)
whole_few c i None = tt
whole_few c i (Some w) = start_few c i w.start w

consumer_few : (c : ℕ) (p : ConsumerPart) (b : Wire) → AreFew (consumer_deliveries c p b)
consumer_few c (consumer.ConsumeOk tag) b = tt
consumer_few c _ b = tt

close_ok_few : (c : ℕ) (p : ChannelPhase) → AreFew (close_ok_deliveries_in c p)
close_ok_few c (phase.Closing who sent) = tt
close_ok_few c _ = tt

received_few : (i : Incoming) (b : Wire) → AreFew (received_deliveries i b)
received_few (incoming.Reply c k a) b = request_few c a (first_request k (requests_of c b))
received_few (incoming.Content c p) b = whole_few c b.deliveries (whole_on c p b)
received_few (incoming.Consumer c p) b = consumer_few c p b
received_few (incoming.ChannelCloseOk c) b = close_ok_few c (phase_of c b)
received_few (incoming.ConnectionClose code) b = ends_few (error.ProtocolError code) (live_channels b.phases)
received_few _ b = tt

refused_few : (e : Error) (b : Wire) → AreFew (refused_deliveries e b)
refused_few (error.UnexpectedFrame class number) b = ends_few failed_at_unexpected (live_channels b.phases)
refused_few _ b = tt

incoming_few : (i : Incoming) (r : Record) (b : Wire) → AreFew (incoming_deliveries i r b)
incoming_few i (record_.Refused e) b = refused_few e b
incoming_few i record_.Received b = received_few i b
incoming_few i _ b = tt

delegate_few : (n : ℕ) (o : Option Consumer) → AreFew (delegate_marks n o)
delegate_few n None = tt
delegate_few n (Some x) = tt

let_go_few : (n : ℕ) (o : Option Consumer) (b : Wire) → AreFew (let_go_marks n o b)
let_go_few n None b = tt
let_go_few n (Some x) b = choose_few (lets_go_of x b) (deliveries.LetGo n ∷ []) [] tt tt

job_few : (o : Option Job) → AreFew (job_marks o)
job_few None = tt
job_few (Some j) = tt

event_few : (b : Wire) (e : Event) (r : Record) → AreFew (delivery_marks b e r)
event_few b (event.Call c k) r = asking_few c (asked_by k r) b
event_few b (event.Receive f) r = incoming_few (incoming_of f) r b
event_few b (event.Acker n k) r = acked_few n (usable_at n b) k b
event_few b (event.Delegate n) r = delegate_few n (consumer_at n b.deliveries.subscriptions)
event_few b (event.DropConsumer n) r = let_go_few n (consumer_at n b.deliveries.subscriptions) b
event_few b event.NextJob r = job_few _
event_few b event.Lost r = ends_few error.ConnectionLost (live_channels b.phases)
event_few b _ r = tt

-- ---- an event gives one number of each at most

pub switches-next : (b : Wire) (e : Event) (r : Record) → length (after_event b e r).deliveries.switches ≤ length b.deliveries.switches + 1
switches-next b e r =
    let P : Deliveries → Type 0 = λ i. length i.switches ≤ length b.deliveries.switches + 1 in
    subst P (sym (deliveries-next b e r)) (few_switches (delivery_marks b e r) b.deliveries (event_few b e r))

pub consumers-next : (b : Wire) (e : Event) (r : Record) → length (after_event b e r).deliveries.subscriptions.consumers ≤ length b.deliveries.subscriptions.consumers + 1
consumers-next b e r =
    let P : Deliveries → Type 0 = λ i. length i.subscriptions.consumers ≤ length b.deliveries.subscriptions.consumers + 1 in
    subst P (sym (deliveries-next b e r)) (few_consumers (delivery_marks b e r) b.deliveries (event_few b e r))
