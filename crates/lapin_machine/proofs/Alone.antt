-- An unsent `connection.close` of this side waits alone: kept by every event.
use Rattle.std.proofs.Common.{◌≡◌, ℕ, Bool, true, false, cond, ◌&&◌, not, List, [], ◌∷◌, Option, Some, None, refl, ◌⊎◌, inl, inr}
use Rattle.std.specs.List.{fold}
use Rattle.lapin_rules.specs.declared.calls.Asked.{Asked}
use Rattle.lapin_rules.specs.declared.calls.Asked.TheVariants as ask
use Rattle.lapin_types.specs.declared.event.Event.{Event}
use Rattle.lapin_types.specs.declared.event.Event.TheVariants as event
use Rattle.lapin_types.specs.declared.record.Record.{Record}
use Rattle.lapin_types.specs.declared.record.Record.TheVariants as record_
use Rattle.lapin_types.specs.declared.acker_call.AckerCall.{AckerCall}
use Rattle.lapin_types.specs.declared.leaving.Left.{Left}
use Rattle.lapin_types.specs.declared.leaving.Publish.{Publish}
use Rattle.lapin_types.specs.Types.{Error, Method}
use Rattle.lapin_types.specs.Types.error
use Rattle.lapin_types.specs.Types.frame
use Rattle.lapin_types.specs.Types.method
use Rattle.lapin_types.specs.Types.connection
use Rattle.lapin_rules.specs.declared.broker_frames.Incoming.{Incoming}
use Rattle.lapin_rules.specs.declared.broker_frames.Incoming.TheVariants as incoming
use Rattle.lapin_rules.specs.declared.phases.ChannelPhase.{ChannelPhase}
use Rattle.lapin_rules.specs.declared.phases.ChannelPhase.TheVariants as phase
use Rattle.lapin_rules.specs.declared.phases.ConnectionPhase.{ConnectionPhase}
use Rattle.lapin_rules.specs.declared.phases.ConnectionPhase.TheVariants as link
use Rattle.lapin_rules.specs.declared.phases.CloseStage.TheVariants as stage
use Rattle.lapin_rules.specs.Incoming.{incoming_of, frame_class, frame_method}
use Rattle.lapin_rules.specs.Phases.{is_lost}
use Rattle.lapin_rules.specs.ConnectionClose.{link_close_sent}
use Rattle.lapin_rules.specs.Frames.{MethodEntry, RestEntry}
use Rattle.lapin_rules.specs.Leaving.{Lists, handed_of}
use Rattle.lapin_rules.specs.Drops.{no_lists}
use Rattle.lapin_rules.specs.Readings.{Readings}
use Rattle.lapin_rules.specs.Unexpected.{refused}
use Rattle.lapin_rules.specs.Receiving.{incoming_record}
use Rattle.lapin_rules.specs.Wire.{Wire, state_of, phase_of, is_open, lists_of}
use Rattle.lapin_rules.specs.Asking.{asked_by, is_allowed, after_call}
use Rattle.lapin_rules.specs.Receiving.{after_incoming, after_received, after_failed, after_refused}
use Rattle.lapin_rules.specs.ChannelClose.{after_close_ok}
use Rattle.lapin_rules.specs.Handing.{after_next, sent, handed_as, began_on}
use Rattle.lapin_rules.specs.ConnectionClose.{link_sent, has_sent}
use Rattle.lapin_machine.specs.World.{World, next, next_anew, told_anew, new_world, readings_of}
use Rattle.lapin_rules.specs.declared.broker_frames.ContentPart.{ContentPart}
use Rattle.lapin_rules.specs.declared.broker_frames.ContentPart.TheVariants as part
use Rattle.lapin_rules.specs.Content.{after_part}
use Rattle.lapin_rules.specs.declared.broker_frames.ConsumerPart.{ConsumerPart}
use Rattle.lapin_rules.specs.declared.broker_frames.ConsumerPart.TheVariants as consumer
use Rattle.lapin_consumer.specs.Subscriptions.{Consumer, consumer_at, is_idle}
use Rattle.lapin_rules.specs.Consumers.{after_consumer, lets_go_of, cancel_noted, after_let_go}
use Rattle.lapin_rules.specs.Ackers.{acker_asked, acked_wire, usable_at}
use Rattle.lapin_machine.proofs.Back.{next_keeps}
use Rattle.lapin_machine.specs.Alone.{is_connection_close, IsOneClose, IsCloseAlone, WaitsAlone, without_own_close}
use Rattle.lapin_rules.proofs.PhaseLaws.{link_moves}

abbrev Alone : Wire → Type 0
Alone b = WaitsAlone b.link (lists_of b)

choose_alone : (t : Bool) (x y : Wire) → Alone x → Alone y → Alone (cond t x y)
choose_alone true x y h k = h
choose_alone false x y h k = k

-- ---- calls

call_up : (c : ℕ) (k : Asked) (b : Wire) → b.link ≡ link.Open → Alone (after_call c k b)
call_up c ask.Open b e = rw e tt
call_up c (ask.CloseChannel code text) b e = rw e tt
call_up c (ask.CloseConnection code text) b e = record { close = refl; rest = refl; publishes = refl }
call_up c (ask.Method row) b e = rw e tt
call_up c (ask.Consume m tag queue o) b e = rw e tt
call_up c (ask.Limit limit) b e = rw e tt
call_up c ask.Nothing b e = rw e tt
call_up c (ask.Publish exchange key o payload properties) b e = rw e tt

-- no call is allowed once the connection is not open
call_down : (c : ℕ) (k : Asked) (b : Wire) → is_allowed k (state_of c b) ≡ false → Alone b → Alone (cond (is_allowed k (state_of c b)) (after_call c k b) b)
call_down c k b e h = rw e h

pub down_refuses : (l : ConnectionPhase) (c : ℕ) (k : Asked) (b : Wire) → b.link ≡ l → (l ≡ link.Open) ⊎ (is_allowed k (state_of c b) ≡ false)
down_refuses link.Open c k b e = inl refl
down_refuses (link.Closing s) c ask.Open b e = inr (rw e refl)
down_refuses (link.Closing s) c (ask.CloseChannel code text) b e = inr (rw e refl)
down_refuses (link.Closing s) c (ask.CloseConnection code text) b e = inr (rw e refl)
down_refuses (link.Closing s) c (ask.Method row) b e = inr (rw e refl)
down_refuses (link.Closing s) c (ask.Consume m tag queue o) b e = inr (rw e refl)
down_refuses (link.Closing s) c (ask.Limit limit) b e = inr (rw e refl)
down_refuses (link.Closing s) c ask.Nothing b e = inr refl
down_refuses (link.Closing s) c (ask.Publish exchange key o payload properties) b e = inr (rw e refl)
down_refuses link.Closed c ask.Open b e = inr (rw e refl)
down_refuses link.Closed c (ask.CloseChannel code text) b e = inr (rw e refl)
down_refuses link.Closed c (ask.CloseConnection code text) b e = inr (rw e refl)
down_refuses link.Closed c (ask.Method row) b e = inr (rw e refl)
down_refuses link.Closed c (ask.Consume m tag queue o) b e = inr (rw e refl)
down_refuses link.Closed c (ask.Limit limit) b e = inr (rw e refl)
down_refuses link.Closed c ask.Nothing b e = inr refl
down_refuses link.Closed c (ask.Publish exchange key o payload properties) b e = inr (rw e refl)
down_refuses link.Lost c ask.Open b e = inr (rw e refl)
down_refuses link.Lost c (ask.CloseChannel code text) b e = inr (rw e refl)
down_refuses link.Lost c (ask.CloseConnection code text) b e = inr (rw e refl)
down_refuses link.Lost c (ask.Method row) b e = inr (rw e refl)
down_refuses link.Lost c (ask.Consume m tag queue o) b e = inr (rw e refl)
down_refuses link.Lost c (ask.Limit limit) b e = inr (rw e refl)
down_refuses link.Lost c ask.Nothing b e = inr refl
down_refuses link.Lost c (ask.Publish exchange key o payload properties) b e = inr (rw e refl)

call_alone : (c : ℕ) (k : Asked) (b : Wire) → Alone b → Alone (cond (is_allowed k (state_of c b)) (after_call c k b) b)
call_alone c k b h = elim (down_refuses b.link c k b refl) [
  | inl up ↦ choose_alone (is_allowed k (state_of c b)) (after_call c k b) b (call_up c k b up) h
  | inr shut ↦ call_down c k b shut h
]

-- ---- frames that leave

-- whatever leaves, a link that shows nothing goes on so
sent_quiet : (o : Option Left) (l : ConnectionPhase) (b : Wire) → b.link ≡ l → ((ls : Lists) → WaitsAlone l ls) → ((ls : Lists) → WaitsAlone (link_close_sent l) ls) → Alone (sent o b)
sent_quiet None l b e h k = rw e (h (lists_of b))
sent_quiet (Some x) l b e h k = rw e (elim (link_moves x.frame l) [
  | inl same ↦ rw same (h (lists_of b))
  | inr left ↦ rw left (k (lists_of b))
])

-- the close that waits alone is what leaves
sent_close : (flow : ℕ → Bool) (d : Wire) (rest : List RestEntry) (methods : List MethodEntry) (publishes : List Publish) → d.link ≡ link.Closing stage.Queued → rest ≡ [] → IsOneClose methods → Alone (sent (handed_of flow rest methods publishes) d)
sent_close flow d rest [] publishes e none c = absurd c
sent_close flow d rest (m ∷ m' ∷ ms) publishes e none c = absurd c
sent_close flow d rest (m ∷ []) publishes e none c = rw none (rw e (moved m.channel m.method c))
  where
    moved : (channel : ℕ) (x : Method) → is_connection_close x ≡ true → WaitsAlone (link_sent (frame.Method channel x) (link.Closing stage.Queued)) (lists_of d)
    moved channel (method.Connection (connection.Close code text class number)) t = tt
    moved channel (method.Connection connection.CloseOk) t = cc
    moved channel (method.Channel x) t = cc
    moved channel (method.Access x) t = cc
    moved channel (method.Exchange x) t = cc
    moved channel (method.Queue x) t = cc
    moved channel (method.Basic x) t = cc
    moved channel (method.Confirm x) t = cc
    moved channel (method.Tx x) t = cc

next_alone : (r : Record) (l : ConnectionPhase) (b : Wire) → b.link ≡ l → WaitsAlone l (lists_of b) → Alone (after_next r b)
next_alone r link.Open b e h = sent_quiet (handed_as r b) link.Open _ e (λ ls. tt) (λ ls. tt)
next_alone r (link.Closing stage.Queued) b e h = sent_close (began_on r) _ b.rest b.methods b.publishes e h.rest h.close
next_alone r (link.Closing s) b e h = sent_quiet (handed_as r b) (link.Closing s) _ e (λ ls. tt) (λ ls. tt)
next_alone r link.Closed b e h = sent_quiet (handed_as r b) link.Closed _ e (λ ls. tt) (λ ls. tt)
next_alone r link.Lost b e h = sent_quiet (handed_as r b) link.Lost _ e (λ ls. tt) (λ ls. tt)

-- ---- frames of the broker

close_ok_alone : (c : ℕ) (p : ChannelPhase) (b : Wire) → b.link ≡ link.Open → Alone (after_close_ok c p b)
close_ok_alone c phase.Closed b e = rw e tt
close_ok_alone c phase.Opening b e = rw e tt
close_ok_alone c (phase.Open paused) b e = rw e tt
close_ok_alone c (phase.Closing who sent) b e = rw e tt
close_ok_alone c phase.Crossed b e = rw e tt

part_alone : (c : ℕ) (p : ContentPart) (b : Wire) → b.link ≡ link.Open → Alone (after_part c p b)
part_alone c (part.GetOk s) b e = rw e tt
part_alone c (part.Return s) b e = rw e tt
part_alone c (part.Deliver tag s) b e = rw e tt
part_alone c (part.Header h) b e = rw e tt
part_alone c (part.Body bytes) b e = rw e tt

consumer_alone : (c : ℕ) (p : ConsumerPart) (b : Wire) → b.link ≡ link.Open → Alone (after_consumer c p b)
consumer_alone c (consumer.ConsumeOk tag) b e = rw e tt
consumer_alone c (consumer.CancelOk tag) b e = rw e tt
consumer_alone c consumer.RecoverOk b e = rw e tt
consumer_alone c (consumer.Cancel tag nowait) b e = choose_alone (is_open (state_of c b) && not nowait) _ b (rw e tt) (rw e tt)

received_alone : (i : Incoming) (b : Wire) → b.link ≡ link.Open → Alone (after_received i b)
received_alone (incoming.Reply c k a) b e = rw e tt
received_alone (incoming.Settlement c s) b e = rw e tt
received_alone (incoming.Content c p) b e = part_alone c p b e
received_alone (incoming.Consumer c p) b e = consumer_alone c p b e
received_alone (incoming.ChannelClose c code) b e = rw e tt
received_alone (incoming.ChannelCloseOk c) b e = close_ok_alone c (phase_of c b) b e
received_alone (incoming.ConnectionClose code) b e = rw e tt
received_alone incoming.ConnectionCloseOk b e = tt
received_alone (incoming.Flow c active) b e = choose_alone (is_open (state_of c b)) _ b (rw e tt) (rw e tt)
received_alone incoming.Other b e = rw e tt

failed_alone : (i : Incoming) (b : Wire) → b.link ≡ link.Open → Alone (after_failed i b)
failed_alone (incoming.Settlement c s) b e = choose_alone (is_open (state_of c b)) _ b (rw e tt) (rw e tt)
failed_alone (incoming.Reply c k a) b e = rw e tt
failed_alone (incoming.Content c p) b e = rw e tt
failed_alone (incoming.Consumer c p) b e = rw e tt
failed_alone (incoming.ChannelClose c code) b e = rw e tt
failed_alone (incoming.ChannelCloseOk c) b e = rw e tt
failed_alone (incoming.ConnectionClose code) b e = rw e tt
failed_alone incoming.ConnectionCloseOk b e = rw e tt
failed_alone (incoming.Flow c active) b e = rw e tt
failed_alone incoming.Other b e = rw e tt

refused_alone : (i : Incoming) (x : Error) (b : Wire) → b.link ≡ link.Open → Alone (after_refused i x b)
refused_alone i error.NoMemory b e = rw e tt
refused_alone i error.NumbersUsedUp b e = rw e tt
refused_alone i (error.InvalidChannelState s) b e = rw e tt
refused_alone i (error.ProtocolError code) b e = rw e tt
refused_alone i error.ConnectionLost b e = rw e tt
refused_alone i (error.UnexpectedFrame class number) b e = record { close = refl; rest = refl; publishes = refl }
refused_alone i (error.PreconditionFailed tag current) b e = failed_alone i b e
refused_alone i error.AlreadyTaken b e = rw e tt
refused_alone i error.UnknownTicket b e = rw e tt
refused_alone i (error.ConfirmsOutstanding limit) b e = rw e tt

up_alone : (i : Incoming) (r : Record) (b : Wire) → b.link ≡ link.Open → Alone (after_incoming i r b)
up_alone i (record_.Refused x) b e = refused_alone i x b e
up_alone i record_.Received b e = received_alone i b e
up_alone i _ b e = rw e tt

-- of the two frames that are received while this side closes, each takes the close out that has not left
incoming_alone : (l : ConnectionPhase) (readings : Readings) (f : Record) (i : Incoming) (b : Wire) → b.link ≡ l → WaitsAlone l (lists_of b) → Alone (after_incoming i (incoming_record b readings f i) b)
incoming_alone link.Open readings f i b e h = up_alone i (incoming_record b readings f i) b e
incoming_alone link.Closed readings f i b e h = rw e h
incoming_alone link.Lost readings f i b e h = rw e h
incoming_alone (link.Closing s) readings f incoming.ConnectionCloseOk b e h = rw e tt
incoming_alone (link.Closing stage.Crossed) readings f (incoming.ConnectionClose code) b e h = rw e h
incoming_alone (link.Closing stage.Sent) readings f (incoming.ConnectionClose code) b e h = rw e tt
incoming_alone (link.Closing stage.Queued) readings f (incoming.ConnectionClose code) b e h = rw e tt
incoming_alone (link.Closing s) readings f (incoming.Reply c k a) b e h = rw e h
incoming_alone (link.Closing s) readings f (incoming.Settlement c x) b e h = rw e h
incoming_alone (link.Closing s) readings f (incoming.Content c p) b e h = rw e h
incoming_alone (link.Closing s) readings f (incoming.Consumer c p) b e h = rw e h
incoming_alone (link.Closing s) readings f (incoming.ChannelClose c code) b e h = rw e h
incoming_alone (link.Closing s) readings f (incoming.ChannelCloseOk c) b e h = rw e h
incoming_alone (link.Closing s) readings f (incoming.Flow c active) b e h = rw e h
incoming_alone (link.Closing s) readings f incoming.Other b e h = rw e h

-- ---- ackers, and consumers that are let go

acked_alone : (o : Option (ℕ × ℕ)) (k : AckerCall) (b : Wire) → Alone b → Alone (acked_wire o k b)
acked_alone None k b h = h
acked_alone (Some x) k b h = call_alone x.0 (acker_asked k x.1) b h

pub down_shuts : (l : ConnectionPhase) (c : ℕ) (b : Wire) → b.link ≡ l → (l ≡ link.Open) ⊎ (is_open (state_of c b) ≡ false)
down_shuts link.Open c b e = inl refl
down_shuts _ c b e = inr (rw e refl)

let_go_alone : (o : Option Consumer) (b : Wire) → Alone b → Alone (after_let_go o b)
let_go_alone None b h = h
let_go_alone (Some x) b h = elim (down_shuts b.link x.channel b refl) [
  | inl up ↦ choose_alone (lets_go_of x b) (cancel_noted x b) b (rw up tt) h
  | inr shut ↦ rw shut (elim (is_idle x) as (λ t. Alone (cond (t && false) (cancel_noted x b) b)) [ true ↦ h | false ↦ h ])
]

-- ---- every event

alone-anew : (w : World) (e : Event) → Alone w.wire → Alone (next_anew w e).wire
alone-anew w (event.Call c k) h = call_alone c (asked_by k (told_anew w (event.Call c k))) w.wire h
alone-anew w (event.Next flow) h = next_alone (told_anew w (event.Next flow)) w.wire.link w.wire refl h
alone-anew w (event.Receive f) h = incoming_alone w.wire.link (readings_of w.confirm_state w.slots) (refused (frame_class f) (frame_method f)) (incoming_of f) w.wire refl h
alone-anew w (event.PollTicket n) h = h
alone-anew w (event.PollConfirm n) h = h
alone-anew w (event.PollConsumer n) h = h
alone-anew w (event.PollWait c) h = h
alone-anew w (event.AsideTicket n) h = h
alone-anew w (event.AsideConfirm n) h = h
alone-anew w (event.Acker n k) h = acked_alone (usable_at n w.wire) k w.wire h
alone-anew w (event.Delegate n) h = h
alone-anew w (event.DropConsumer n) h = let_go_alone (consumer_at n w.wire.deliveries.subscriptions) w.wire h
alone-anew w event.NextJob h = h
alone-anew w (event.State c) h = h
alone-anew w event.Lost h = choose_alone (is_lost w.wire.link) w.wire _ h tt

alone-next : (w : World) (e : Event) → Alone w.wire → Alone (next w e).wire
alone-next w e h = next_keeps (λ v. Alone v.wire) w e (alone-anew w e h) h

alone-fold : (w : World) (es : List Event) → Alone w.wire → Alone (fold next w es).wire
alone-fold w [] h = h
alone-fold w (e ∷ es) h = alone-fold (next w e) es (alone-next w e h)

pub waits_alone : (frame_max : ℕ) (es : List Event) → Alone (fold next (new_world frame_max) es).wire
waits_alone frame_max es = alone-fold (new_world frame_max) es tt

-- ---- to drop what waits alone

one_dropped : (l : Lists) → IsCloseAlone l → without_own_close l ≡ no_lists
one_dropped l h = dropped l.rest l.methods l.publishes h.rest h.close h.publishes
  where
    dropped : (rest : List RestEntry) (methods : List MethodEntry) (publishes : List Publish) → rest ≡ [] → IsOneClose methods → publishes ≡ [] → without_own_close (record { rest = rest; methods = methods; publishes = publishes }) ≡ no_lists
    dropped rest [] publishes r c p = absurd c
    dropped rest (m ∷ m' ∷ ms) publishes r c p = absurd c
    dropped rest (m ∷ []) publishes r c p = rw r (rw p (rw c refl))

pub own_close_dropped : (l : ConnectionPhase) (ls : Lists) → WaitsAlone l ls → has_sent l ≡ false → without_own_close ls ≡ no_lists
own_close_dropped link.Open ls h s = cc
own_close_dropped (link.Closing stage.Queued) ls h s = one_dropped ls h
own_close_dropped (link.Closing t) ls h s = cc
own_close_dropped link.Closed ls h s = cc
own_close_dropped link.Lost ls h s = cc
