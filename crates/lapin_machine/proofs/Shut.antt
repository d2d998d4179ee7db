-- No channel stands open once the connection does not: kept by every event.
use Rattle.std.proofs.Common.{◌≡◌, ℕ, Bool, true, false, cond, not, ◌||◌, ◌&&◌, subst, [], Option, Some, None, refl, sym, ◌∙◌, ap, inl, inr}
use Rattle.lapin_rules.specs.declared.calls.Asked.{Asked}
use Rattle.lapin_rules.specs.declared.calls.Asked.TheVariants as ask
use Rattle.lapin_types.specs.declared.event.Event.{Event}
use Rattle.lapin_types.specs.declared.event.Event.TheVariants as event
use Rattle.lapin_types.specs.declared.record.Record.{Record}
use Rattle.lapin_types.specs.declared.record.Record.TheVariants as record_
use Rattle.lapin_types.specs.declared.acker_call.AckerCall.{AckerCall}
use Rattle.lapin_types.specs.declared.leaving.Left.{Left}
use Rattle.lapin_types.specs.Types.{Frame}
use Rattle.lapin_types.specs.Types.error
use Rattle.lapin_types.specs.Types.frame
use Rattle.lapin_types.specs.Types.method
use Rattle.lapin_types.specs.Types.connection
use Rattle.lapin_types.specs.Types.channel
use Rattle.lapin_types.specs.Types.basic
use Rattle.lapin_rules.specs.declared.broker_frames.Incoming.{Incoming}
use Rattle.lapin_rules.specs.declared.broker_frames.Incoming.TheVariants as incoming
use Rattle.lapin_rules.specs.declared.phases.ChannelPhase.{ChannelPhase}
use Rattle.lapin_rules.specs.declared.phases.ChannelPhase.TheVariants as phase
use Rattle.lapin_rules.specs.declared.phases.ConnectionPhase.{ConnectionPhase}
use Rattle.lapin_rules.specs.declared.phases.ConnectionPhase.TheVariants as link
use Rattle.lapin_rules.specs.declared.phases.CloseStage.TheVariants as stage
use Rattle.lapin_rules.specs.Incoming.{incoming_of, frame_class, frame_method}
use Rattle.lapin_rules.specs.Phases.{is_up, is_lost}
use Rattle.lapin_rules.specs.ConnectionClose.{link_sent, after_connection_close}
use Rattle.lapin_rules.specs.Readings.{Readings}
use Rattle.lapin_rules.specs.Unexpected.{refused}
use Rattle.lapin_rules.specs.declared.marks.Settlement.{Settlement}
use Rattle.lapin_rules.specs.Settlement.{settlement_record, session_close, after_failed_on}
use Rattle.lapin_rules.specs.declared.phases.Closer.TheVariants as closer
use Rattle.lapin_rules.specs.Words.{with_channel}
use Rattle.lapin_rules.specs.Leaving.{left_lists}
use Rattle.lapin_rules.specs.Ends.{down}
use Rattle.lapin_rules.specs.Flow.{after_flow}
use Rattle.lapin_rules.specs.Reply.{receives_reply, after_reply}
use Rattle.lapin_rules.specs.Wire.{Wire, state_of, phase_of, is_open, receives_on, noted, lists_of, with_lists}
use Rattle.lapin_rules.specs.Asking.{call_told, asked_by, is_allowed, after_call}
use Rattle.lapin_rules.specs.Receiving.{incoming_up, incoming_record, after_incoming}
use Rattle.lapin_rules.specs.ChannelClose.{receives_close, receives_close_ok, phases_sent, closing, after_channel_close, after_close_ok}
use Rattle.lapin_rules.specs.Handing.{sent, handed_as, began_on}
use Rattle.lapin_rules.specs.Events.{record_of, after_event}
use Rattle.lapin_rules.specs.declared.broker_frames.ContentPart.{ContentPart}
use Rattle.lapin_rules.specs.declared.broker_frames.ContentPart.TheVariants as part
use Rattle.lapin_rules.specs.Content.{receives_part, after_part}
use Rattle.lapin_rules.specs.declared.broker_frames.ConsumerPart.{ConsumerPart}
use Rattle.lapin_rules.specs.declared.broker_frames.ConsumerPart.TheVariants as consumer
use Rattle.lapin_consumer.specs.Subscriptions.{Consumer, consumer_at}
use Rattle.lapin_rules.specs.Consumers.{receives_consumer, after_consumer, lets_go_of, cancel_noted, after_let_go}
use Rattle.lapin_rules.specs.Ackers.{acker_asked, acked_wire, usable_at}
use Rattle.lapin_machine.specs.Stands.{IsShut}
use Rattle.lapin_machine.proofs.Alone.{down_refuses}
use Rattle.lapin_rules.proofs.PhaseLaws.{close_leaves_up}

-- the connection is open, or no channel stands open
up_shut : (d : Wire) → d.link ≡ link.Open → IsShut d
up_shut d e h = let up : is_up d.link ≡ true = ap is_up e in cc

choose_shut : (t : Bool) (x y : Wire) → IsShut x → IsShut y → IsShut (cond t x y)
choose_shut true x y h k = h
choose_shut false x y h k = k

-- ---- calls

call_up : (c : ℕ) (k : Asked) (b : Wire) → b.link ≡ link.Open → IsShut (after_call c k b)
call_up c ask.Open b e = up_shut (after_call c ask.Open b) e
call_up c (ask.CloseChannel code text) b e = up_shut (after_call c (ask.CloseChannel code text) b) e
call_up c (ask.CloseConnection code text) b e = λ _. refl
call_up c (ask.Method row) b e = up_shut (after_call c (ask.Method row) b) e
call_up c (ask.Consume m tag queue o) b e = up_shut (after_call c (ask.Consume m tag queue o) b) e
call_up c (ask.Limit limit) b e = up_shut (after_call c (ask.Limit limit) b) e
call_up c ask.Nothing b e = up_shut (after_call c ask.Nothing b) e
call_up c (ask.Publish exchange key o payload properties) b e = up_shut (after_call c (ask.Publish exchange key o payload properties) b) e

call_shut : (c : ℕ) (k : Asked) (b : Wire) → IsShut b → IsShut (cond (is_allowed k (state_of c b)) (after_call c k b) b)
call_shut c k b h = elim (down_refuses b.link c k b refl) [
  | inl up ↦ choose_shut (is_allowed k (state_of c b)) (after_call c k b) b (call_up c k b up) h
  | inr shut ↦ rw shut h
]

-- ---- frames that leave

pub frame_left : (f : Frame) (l : ConnectionPhase) → is_up (link_sent f l) ≡ is_up l
frame_left (frame.Method c (method.Connection (connection.Close code text class number))) l = close_leaves_up l
frame_left _ l = refl

none_left : (f : Frame) → phases_sent f [] ≡ []
none_left (frame.Method c (method.Channel (channel.Close code text class number))) = refl
none_left _ = refl

sent_shut : (o : Option Left) (b : Wire) → IsShut b → IsShut (sent o b)
sent_shut None b h = h
sent_shut (Some x) b h = λ d. ap (phases_sent x.frame) (h (sym (frame_left x.frame b.link) ∙ d)) ∙ none_left x.frame

-- ---- frames of the broker

close_ok_up : (c : ℕ) (p : ChannelPhase) (b : Wire) → b.link ≡ link.Open → IsShut (after_close_ok c p b)
close_ok_up c phase.Closed b e = up_shut (after_close_ok c phase.Closed b) e
close_ok_up c phase.Opening b e = up_shut (after_close_ok c phase.Opening b) e
close_ok_up c (phase.Open paused) b e = up_shut (after_close_ok c (phase.Open paused) b) e
close_ok_up c (phase.Closing who sent) b e = up_shut (after_close_ok c (phase.Closing who sent) b) e
close_ok_up c phase.Crossed b e = up_shut (after_close_ok c phase.Crossed b) e

connection_close_shut : (l : ConnectionPhase) (b : Wire) → IsShut b → b.link ≡ l → IsShut (after_connection_close l b)
connection_close_shut link.Open b h e = λ _. refl
connection_close_shut (link.Closing stage.Queued) b h e = λ _. refl
connection_close_shut (link.Closing s) b h e = λ _. h (ap is_up e)
connection_close_shut link.Closed b h e = λ _. refl
connection_close_shut link.Lost b h e = λ _. refl

choose_record : (t : Bool) (i : Incoming) (x y : Record) (b : Wire) → IsShut (after_incoming i x b) → IsShut (after_incoming i y b) → IsShut (after_incoming i (cond t x y) b)
choose_record true i x y b h k = h
choose_record false i x y b h k = k

failed_up : (c : ℕ) (s : Settlement) (b : Wire) → b.link ≡ link.Open → IsShut b → IsShut (after_failed_on c s b)
failed_up c s b e h = let d : Wire = noted c (session_close s.kind) (closing c closer.Session b) in choose_shut (is_open (state_of c b)) d b (up_shut d e) h

flow_up : (c : ℕ) (active : Bool) (b : Wire) → b.link ≡ link.Open → IsShut b → IsShut (after_flow c active b)
flow_up c active b e h = let d : Wire = noted c (method.Channel (channel.FlowOk active)) (record b { phases = with_channel c (phase.Open (not active)) b.phases }) in choose_shut (is_open (state_of c b)) d b (up_shut d e) h

part_up : (c : ℕ) (p : ContentPart) (b : Wire) → b.link ≡ link.Open → IsShut (after_part c p b)
part_up c (part.GetOk s) b e = up_shut (after_part c (part.GetOk s) b) e
part_up c (part.Return s) b e = up_shut (after_part c (part.Return s) b) e
part_up c (part.Deliver tag s) b e = up_shut (after_part c (part.Deliver tag s) b) e
part_up c (part.Header h) b e = up_shut (after_part c (part.Header h) b) e
part_up c (part.Body bytes) b e = up_shut (after_part c (part.Body bytes) b) e

consumer_up : (c : ℕ) (p : ConsumerPart) (b : Wire) → b.link ≡ link.Open → IsShut b → IsShut (after_consumer c p b)
consumer_up c (consumer.ConsumeOk tag) b e h = up_shut (after_consumer c (consumer.ConsumeOk tag) b) e
consumer_up c (consumer.CancelOk tag) b e h = up_shut (after_consumer c (consumer.CancelOk tag) b) e
consumer_up c consumer.RecoverOk b e h = up_shut (after_consumer c consumer.RecoverOk b) e
consumer_up c (consumer.Cancel tag nowait) b e h = choose_shut (is_open (state_of c b) && not nowait) (noted c (method.Basic (basic.CancelOk tag)) b) b h h

-- while the connection is open
incoming_open : (readings : Readings) (class number : ℕ) (i : Incoming) (b : Wire) → b.link ≡ link.Open → IsShut b → IsShut (after_incoming i (incoming_up b readings (refused class number) i) b)
incoming_open readings class number (incoming.Reply c k a) b e h = choose_record (receives_reply c k b) (incoming.Reply c k a) record_.Received (refused class number) b (up_shut (after_reply c k b) e) (λ _. refl)
incoming_open readings class number (incoming.Settlement c s) b e h =
    choose_record (receives_on (state_of c b)) (incoming.Settlement c s) (settlement_record readings c s) (refused class number) b
    (choose_record (readings.selected c) (incoming.Settlement c s) (cond (s.multiple || readings.pending c s.tag) record_.Received (record_.Refused (error.PreconditionFailed s.tag (readings.last c)))) record_.Passed b
    (choose_record (s.multiple || readings.pending c s.tag) (incoming.Settlement c s) record_.Received (record_.Refused (error.PreconditionFailed s.tag (readings.last c))) b h (failed_up c s b e h))
    h)
    (λ _. refl)
incoming_open readings class number (incoming.Content c p) b e h = choose_record (receives_part c p b) (incoming.Content c p) record_.Received (refused class number) b (part_up c p b e) (λ _. refl)
incoming_open readings class number (incoming.Consumer c p) b e h = choose_record (receives_consumer c p b) (incoming.Consumer c p) record_.Received (refused class number) b (consumer_up c p b e h) (λ _. refl)
incoming_open readings class number (incoming.Flow c active) b e h = choose_record (receives_on (state_of c b)) (incoming.Flow c active) record_.Received (refused class number) b (flow_up c active b e h) (λ _. refl)
incoming_open readings class number (incoming.ChannelClose c code) b e h = choose_record (receives_close (state_of c b)) (incoming.ChannelClose c code) record_.Received (refused class number) b (up_shut (after_channel_close c (phase_of c b) b) e) (λ _. refl)
incoming_open readings class number (incoming.ChannelCloseOk c) b e h = choose_record (receives_close_ok (state_of c b)) (incoming.ChannelCloseOk c) record_.Received (refused class number) b (close_ok_up c (phase_of c b) b e) (λ _. refl)
incoming_open readings class number (incoming.ConnectionClose code) b e h = connection_close_shut b.link b h refl
incoming_open readings class number incoming.ConnectionCloseOk b e h = λ _. refl
incoming_open readings class number incoming.Other b e h = λ _. refl

incoming_shut : (l : ConnectionPhase) (readings : Readings) (class number : ℕ) (i : Incoming) (b : Wire) → b.link ≡ l → IsShut b → IsShut (after_incoming i (incoming_record b readings (refused class number) i) b)
incoming_shut link.Open readings class number i b e h =
    let up : is_up b.link ≡ true = ap is_up e in
    let same : incoming_record b readings (refused class number) i ≡ incoming_up b readings (refused class number) i = rw up refl in
    let P : Record → Type 0 = λ r. IsShut (after_incoming i r b) in
    subst P (sym same) (incoming_open readings class number i b e h)
incoming_shut link.Closed readings class number i b e h = let none : b.phases ≡ [] = h (ap is_up e) in rw e (λ _. none)
incoming_shut link.Lost readings class number i b e h = let none : b.phases ≡ [] = h (ap is_up e) in rw e (λ _. none)
incoming_shut (link.Closing s) readings class number incoming.ConnectionCloseOk b e h = let none : b.phases ≡ [] = h (ap is_up e) in rw e (λ _. none)
incoming_shut (link.Closing stage.Queued) readings class number (incoming.ConnectionClose code) b e h = rw e (λ _. refl)
incoming_shut (link.Closing s) readings class number (incoming.ConnectionClose code) b e h = let none : b.phases ≡ [] = h (ap is_up e) in rw e (λ _. none)
incoming_shut (link.Closing s) readings class number (incoming.Reply c k a) b e h = let none : b.phases ≡ [] = h (ap is_up e) in rw e (λ _. none)
incoming_shut (link.Closing s) readings class number (incoming.Settlement c x) b e h = let none : b.phases ≡ [] = h (ap is_up e) in rw e (λ _. none)
incoming_shut (link.Closing s) readings class number (incoming.Content c p) b e h = let none : b.phases ≡ [] = h (ap is_up e) in rw e (λ _. none)
incoming_shut (link.Closing s) readings class number (incoming.Consumer c p) b e h = let none : b.phases ≡ [] = h (ap is_up e) in rw e (λ _. none)
incoming_shut (link.Closing s) readings class number (incoming.ChannelClose c code) b e h = let none : b.phases ≡ [] = h (ap is_up e) in rw e (λ _. none)
incoming_shut (link.Closing s) readings class number (incoming.ChannelCloseOk c) b e h = let none : b.phases ≡ [] = h (ap is_up e) in rw e (λ _. none)
incoming_shut (link.Closing s) readings class number (incoming.Flow c active) b e h = let none : b.phases ≡ [] = h (ap is_up e) in rw e (λ _. none)
incoming_shut (link.Closing s) readings class number incoming.Other b e h = let none : b.phases ≡ [] = h (ap is_up e) in rw e (λ _. none)

-- ---- ackers, and consumers that are let go

acked_shut : (o : Option (ℕ × ℕ)) (k : AckerCall) (b : Wire) → IsShut b → IsShut (acked_wire o k b)
acked_shut None k b h = h
acked_shut (Some x) k b h = call_shut x.0 (acker_asked k x.1) b h

let_go_shut : (o : Option Consumer) (b : Wire) → IsShut b → IsShut (after_let_go o b)
let_go_shut None b h = h
let_go_shut (Some x) b h = choose_shut (lets_go_of x b) (cancel_noted x b) b h h

-- ---- every event

pub shut-next : (b : Wire) (readings : Readings) (e : Event) → IsShut b → IsShut (after_event b e (record_of b readings e))
shut-next b readings (event.Call c k) h = call_shut c (asked_by k (call_told c k b readings)) b h
shut-next b readings (event.Next flow) h =
    let r : Record = record_of b readings (event.Next flow) in
    sent_shut (handed_as r b) (with_lists (left_lists b.frame_max (began_on r) (lists_of b)) b) h
shut-next b readings (event.Receive f) h = incoming_shut b.link readings (frame_class f) (frame_method f) (incoming_of f) b refl h
shut-next b readings (event.PollTicket n) h = h
shut-next b readings (event.PollConfirm n) h = h
shut-next b readings (event.PollConsumer n) h = h
shut-next b readings (event.PollWait c) h = h
shut-next b readings (event.AsideTicket n) h = h
shut-next b readings (event.AsideConfirm n) h = h
shut-next b readings (event.Acker n k) h = acked_shut (usable_at n b) k b h
shut-next b readings (event.Delegate n) h = h
shut-next b readings (event.DropConsumer n) h = let_go_shut (consumer_at n b.deliveries.subscriptions) b h
shut-next b readings event.NextJob h = h
shut-next b readings (event.State c) h = h
shut-next b readings event.Lost h = choose_shut (is_lost b.link) b (down link.Lost b) h (λ _. refl)
