-- A settlement comes to the confirms of a session by a frame of the broker alone, which is it.
use Rattle.std.proofs.Common.{◌≡◌, ◌∙◌, ℕ, ◌==◌, Bool, true, false, cond, List, [], ◌∷◌, Option, Some, None, refl, sym, ap}
use Rattle.std.specs.List.{list_any}
use Rattle.lapin_types.specs.declared.event.Event.{Event}
use Rattle.lapin_types.specs.declared.event.Event.TheVariants as event
use Rattle.lapin_types.specs.declared.record.Record.{Record}
use Rattle.lapin_types.specs.declared.record.Record.TheVariants as record_
use Rattle.lapin_types.specs.declared.leaving.Left.{Left}
use Rattle.lapin_types.specs.Types.{Frame, ConnectionMethod, ChannelMethod, AccessMethod, ExchangeMethod, QueueMethod, BasicMethod, ConfirmMethod, TxMethod, Error}
use Rattle.lapin_types.specs.Types.channel
use Rattle.lapin_types.specs.Types.access
use Rattle.lapin_types.specs.Types.exchange
use Rattle.lapin_types.specs.Types.queue
use Rattle.lapin_types.specs.Types.confirm
use Rattle.lapin_types.specs.Types.tx
use Rattle.lapin_types.specs.Types.frame
use Rattle.lapin_types.specs.Types.method
use Rattle.lapin_types.specs.Types.basic
use Rattle.lapin_types.specs.Types.connection
use Rattle.lapin_types.specs.Types.error
use Rattle.lapin_rules.specs.declared.marks.Settlement.{Settlement}
use Rattle.lapin_rules.specs.declared.calls.Asked.{Asked}
use Rattle.lapin_rules.specs.declared.calls.Asked.TheVariants as ask
use Rattle.lapin_rules.specs.declared.broker_frames.Incoming.{Incoming}
use Rattle.lapin_rules.specs.declared.broker_frames.Incoming.TheVariants as incoming
use Rattle.lapin_content.specs.declared.start.Start.{Start}
use Rattle.lapin_content.specs.declared.start.Start.TheVariants as start_
use Rattle.lapin_content.specs.declared.start.Whole.{Whole}
use Rattle.lapin_rules.specs.ConfirmMarks.{ConfirmMark}
use Rattle.lapin_rules.specs.ConfirmMarks as mark
use Rattle.lapin_rules.specs.Select.{is_select}
use Rattle.lapin_rules.specs.Ends.{ends, ends_all, end_with, live_channels}
use Rattle.lapin_rules.specs.ChannelClose.{close_ok_end}
use Rattle.lapin_rules.specs.Asking.{is_allowed, call_marks, asked_by}
use Rattle.lapin_rules.specs.Handing.{entry_marks, left_marks, frame_marks, handed_as}
use Rattle.lapin_rules.specs.Content.{start_marks, whole_marks, whole_on}
use Rattle.lapin_rules.specs.Incoming.{incoming_of, incoming_method}
use Rattle.lapin_rules.specs.Receiving.{incoming_marks}
use Rattle.lapin_rules.specs.Settlement.{failed_marks_on}
use Rattle.lapin_rules.specs.Polls.{is_confirmed, is_returned, is_aside}
use Rattle.lapin_rules.specs.Wire.{Wire, state_of, phase_of, is_open}
use Rattle.lapin_rules.specs.Unexpected.{failed_at_unexpected}
use Rattle.lapin_rules.specs.Events.{confirm_marks}
use Rattle.lapin_broker.specs.Frames.{channel_of}
use Rattle.lapin_joint.specs.Joint.{is_lawful}
use Rattle.lapin_verdicts.specs.Verdicts.{settlement_in}
use Rattle.lapin_verdicts.proofs.Marks.{is_settlement}

-- ---- events of the client, and ends

ends_quiet : (e : Error) (cs : List ℕ) → list_any is_settlement (ends e cs) ≡ false
ends_quiet e [] = refl
ends_quiet e (c ∷ cs) = ends_quiet e cs

pub all_quiet : (e : Error) (b : Wire) → list_any is_settlement (ends_all e b) ≡ false
all_quiet e b = ends_quiet e (live_channels b.phases)

cond_quiet : (t : Bool) (m : ConfirmMark) → is_settlement m ≡ false → list_any is_settlement (cond t (m ∷ []) []) ≡ false
cond_quiet true m h = rw h refl
cond_quiet false m h = refl

unless_quiet : (t : Bool) (ms : List ConfirmMark) → list_any is_settlement ms ≡ false → list_any is_settlement (cond t ms []) ≡ false
unless_quiet true ms h = h
unless_quiet false ms h = refl

call_quiet : (c : ℕ) (a : Asked) (b : Wire) → list_any is_settlement (call_marks c a b) ≡ false
call_quiet c ask.Open b = refl
call_quiet c (ask.CloseChannel code text) b = refl
call_quiet c (ask.CloseConnection code text) b = all_quiet _ b
call_quiet c (ask.Publish exchange key o payload properties) b = refl
call_quiet c (ask.Method row) b = cond_quiet (is_select row.method) (mark.SelectCalled c) refl
call_quiet c (ask.Consume m tag queue o) b = refl
call_quiet c (ask.Limit limit) b = refl
call_quiet c ask.Nothing b = refl

frame_quiet : (f : Frame) → list_any is_settlement (frame_marks f) ≡ false
frame_quiet (frame.Method c m) = cond_quiet (is_select m) (mark.SelectLeft c) refl
frame_quiet (frame.Header c h) = refl
frame_quiet (frame.Body c bytes) = refl

entry_quiet : (f : Frame) (n : Option ℕ) (first : Bool) → list_any is_settlement (entry_marks f n first) ≡ false
entry_quiet f None first = frame_quiet f
entry_quiet f (Some n) true = refl
entry_quiet f (Some n) false = refl

left_quiet : (o : Option Left) → list_any is_settlement (left_marks o) ≡ false
left_quiet None = refl
left_quiet (Some l) = entry_quiet l.frame l.publish l.first

pub client_quiet : (b : Wire) (e : Event) (r : Record) → is_lawful e ≡ true → list_any is_settlement (confirm_marks b e r) ≡ false
client_quiet b (event.Call c k) r h = unless_quiet (is_allowed (asked_by k r) (state_of c b)) _ (call_quiet c (asked_by k r) b)
client_quiet b (event.Next flow) r h = left_quiet (handed_as r b)
client_quiet b (event.Receive f) r h = absurd cc
client_quiet b (event.PollTicket n) r h = refl
client_quiet b (event.PollConfirm n) r h = cond_quiet (is_confirmed r) (mark.Taken n) refl
client_quiet b (event.PollConsumer n) r h = refl
client_quiet b (event.PollWait c) r h = cond_quiet (is_returned r) (mark.Drained c) refl
client_quiet b (event.AsideTicket n) r h = refl
client_quiet b (event.AsideConfirm n) r h = cond_quiet (is_aside r) (mark.SetAside n) refl
client_quiet b (event.Acker n k) r h = refl
client_quiet b (event.Delegate n) r h = refl
client_quiet b (event.DropConsumer n) r h = refl
client_quiet b event.NextJob r h = refl
client_quiet b (event.State c) r h = refl
client_quiet b event.Lost r h = absurd cc

-- ---- frames of the broker

-- the frame is a settlement on this channel, and all that it brings
pub record Settles (i : Incoming) (r : Record) (b : Wire) : Type 0 where
  pub channel : ℕ
  pub settlement : Settlement
  pub is : i ≡ incoming.Settlement channel settlement
  pub brings : incoming_marks i r b ≡ mark.Settled channel settlement ∷ []

start_quiet : (c : ℕ) (s : Start) (w : Whole) → list_any is_settlement (start_marks c s w) ≡ false
start_quiet c (start_.Return code text exchange key) w = refl
start_quiet c (start_.Get ticket tag exchange key redelivered count) w = refl
start_quiet c (start_.Deliver consumer tag exchange key redelivered) w = refl

whole_quiet : (c : ℕ) (w : Option Whole) → list_any is_settlement (whole_marks c w) ≡ false
whole_quiet c None = refl
whole_quiet c (Some w) = start_quiet c w.start w

end_quiet : (c : ℕ) (e : Option Error) → list_any is_settlement (end_with c e) ≡ false
end_quiet c None = refl
end_quiet c (Some e) = refl

never : (ms : List ConfirmMark) → list_any is_settlement ms ≡ false → list_any is_settlement ms ≡ true → ⊥
never ms f t = let z : false ≡ true = sym f ∙ t in cc

failed_quiet : (c : ℕ) (b : Wire) → list_any is_settlement (failed_marks_on c b) ≡ false
failed_quiet c b = cond_quiet (is_open (state_of c b)) _ refl

refused_settles : (i : Incoming) (e : Error) (b : Wire) → list_any is_settlement (incoming_marks i (record_.Refused e) b) ≡ true → Settles i (record_.Refused e) b
refused_settles i (error.UnexpectedFrame class number) b h = absurd (never (ends_all failed_at_unexpected b) (all_quiet failed_at_unexpected b) h)
refused_settles (incoming.Settlement c s) (error.PreconditionFailed tag current) b h = absurd (never (failed_marks_on c b) (failed_quiet c b) h)
refused_settles i e b h = absurd cc

received_settles : (i : Incoming) (b : Wire) → list_any is_settlement (incoming_marks i record_.Received b) ≡ true → Settles i record_.Received b
received_settles (incoming.Settlement c s) b h = record { channel = c; settlement = s; is = refl; brings = refl }
received_settles (incoming.Content c p) b h = absurd (never (whole_marks c (whole_on c p b)) (whole_quiet c (whole_on c p b)) h)
received_settles (incoming.ChannelClose c code) b h = absurd cc
received_settles (incoming.ChannelCloseOk c) b h = absurd (never (end_with c (close_ok_end (phase_of c b))) (end_quiet c (close_ok_end (phase_of c b))) h)
received_settles (incoming.ConnectionClose code) b h = absurd (never (ends_all (error.ProtocolError code) b) (all_quiet (error.ProtocolError code) b) h)
received_settles i b h = absurd cc

pub frame_settles : (i : Incoming) (r : Record) (b : Wire) → list_any is_settlement (incoming_marks i r b) ≡ true → Settles i r b
frame_settles i (record_.Refused e) b h = refused_settles i e b h
frame_settles i record_.Received b h = received_settles i b h
frame_settles i r b h = absurd cc

-- ---- the frame itself

pub record IsThis (f : Frame) (c : ℕ) (s : Settlement) : Type 0 where
  pub on : channel_of f ≡ c
  pub is : settlement_in f ≡ Some s

abbrev Same : Incoming → ℕ → Settlement → Frame → Type 0
Same (incoming.Settlement d z) c s f = (d ≡ c) × (z ≡ s) → IsThis f c s
Same _ c s f = Unit {0}

settled_is : (i : Incoming) (c : ℕ) (s : Settlement) (f : Frame) → i ≡ incoming.Settlement c s → Same i c s f → IsThis f c s
settled_is (incoming.Settlement d z) c s f e h = let same : d ≡ c = cc in let one : z ≡ s = cc in h (same, one)
settled_is (incoming.Reply d k a) c s f e h = absurd cc
settled_is (incoming.Content d p) c s f e h = absurd cc
settled_is (incoming.Consumer d p) c s f e h = absurd cc
settled_is (incoming.Flow d active) c s f e h = absurd cc
settled_is (incoming.ChannelClose d code) c s f e h = absurd cc
settled_is (incoming.ChannelCloseOk d) c s f e h = absurd cc
settled_is (incoming.ConnectionClose code) c s f e h = absurd cc
settled_is incoming.ConnectionCloseOk c s f e h = absurd cc
settled_is incoming.Other c s f e h = absurd cc

basic_same : (d : ℕ) (m : BasicMethod) (c : ℕ) (s : Settlement) → Same (incoming_method d (method.Basic m)) c s (frame.Method d (method.Basic m))
basic_same d (basic.Ack tag multiple) c s = λ h. record { on = h.0; is = ap Some h.1 }
basic_same d (basic.Nack tag multiple requeue) c s = λ h. record { on = h.0; is = ap Some h.1 }
basic_same d _ c s = tt

connection_same : (d : ℕ) (m : ConnectionMethod) (c : ℕ) (s : Settlement) → Same (incoming_method d (method.Connection m)) c s (frame.Method d (method.Connection m))
connection_same d (connection.Close code text class number) c s = elim (d == 0) as (λ b. Same (cond b (incoming.ConnectionClose code) incoming.Other) c s (frame.Method d (method.Connection (connection.Close code text class number)))) [ true ↦ tt | false ↦ tt ]
connection_same d connection.CloseOk c s = elim (d == 0) as (λ b. Same (cond b incoming.ConnectionCloseOk incoming.Other) c s (frame.Method d (method.Connection connection.CloseOk))) [ true ↦ tt | false ↦ tt ]

channel_same : (d : ℕ) (m : ChannelMethod) (c : ℕ) (s : Settlement) → Same (incoming_method d (method.Channel m)) c s (frame.Method d (method.Channel m))
channel_same d channel.OpenOk c s = tt
channel_same d (channel.Flow active) c s = tt
channel_same d (channel.FlowOk active) c s = tt
channel_same d (channel.Close code text class number) c s = tt
channel_same d channel.CloseOk c s = tt
channel_same d channel.Open c s = tt

access_same : (d : ℕ) (m : AccessMethod) (c : ℕ) (s : Settlement) → Same (incoming_method d (method.Access m)) c s (frame.Method d (method.Access m))
access_same d access.RequestOk c s = tt
access_same d _ c s = tt

exchange_same : (d : ℕ) (m : ExchangeMethod) (c : ℕ) (s : Settlement) → Same (incoming_method d (method.Exchange m)) c s (frame.Method d (method.Exchange m))
exchange_same d exchange.DeclareOk c s = tt
exchange_same d _ c s = tt

queue_same : (d : ℕ) (m : QueueMethod) (c : ℕ) (s : Settlement) → Same (incoming_method d (method.Queue m)) c s (frame.Method d (method.Queue m))
queue_same d queue.BindOk c s = tt
queue_same d _ c s = tt

confirm_same : (d : ℕ) (m : ConfirmMethod) (c : ℕ) (s : Settlement) → Same (incoming_method d (method.Confirm m)) c s (frame.Method d (method.Confirm m))
confirm_same d confirm.SelectOk c s = tt
confirm_same d _ c s = tt

tx_same : (d : ℕ) (m : TxMethod) (c : ℕ) (s : Settlement) → Same (incoming_method d (method.Tx m)) c s (frame.Method d (method.Tx m))
tx_same d tx.SelectOk c s = tt
tx_same d _ c s = tt

frame_same : (f : Frame) (c : ℕ) (s : Settlement) → Same (incoming_of f) c s f
frame_same (frame.Method d (method.Basic m)) c s = basic_same d m c s
frame_same (frame.Method d (method.Connection m)) c s = connection_same d m c s
frame_same (frame.Method d (method.Channel m)) c s = channel_same d m c s
frame_same (frame.Method d (method.Access m)) c s = access_same d m c s
frame_same (frame.Method d (method.Exchange m)) c s = exchange_same d m c s
frame_same (frame.Method d (method.Queue m)) c s = queue_same d m c s
frame_same (frame.Method d (method.Confirm m)) c s = confirm_same d m c s
frame_same (frame.Method d (method.Tx m)) c s = tx_same d m c s
frame_same (frame.Header d h) c s = tt
frame_same (frame.Body d bytes) c s = tt

pub is_this : (f : Frame) (c : ℕ) (s : Settlement) → incoming_of f ≡ incoming.Settlement c s → IsThis f c s
is_this f c s e = settled_is (incoming_of f) c s f e (frame_same f c s)

-- and a settlement in a frame is what the session takes it for
basic_back : (d : ℕ) (m : BasicMethod) (s : Settlement) → settlement_in (frame.Method d (method.Basic m)) ≡ Some s → incoming_method d (method.Basic m) ≡ incoming.Settlement d s
basic_back d (basic.Ack tag multiple) s h = let e : _ ≡ s = cc in ap (incoming.Settlement d) e
basic_back d (basic.Nack tag multiple requeue) s h = let e : _ ≡ s = cc in ap (incoming.Settlement d) e
basic_back d _ s h = absurd cc

pub comes_as : (f : Frame) (s : Settlement) → settlement_in f ≡ Some s → incoming_of f ≡ incoming.Settlement (channel_of f) s
comes_as (frame.Method d (method.Basic m)) s h = basic_back d m s h
comes_as (frame.Method d _) s h = absurd cc
comes_as (frame.Header d x) s h = absurd cc
comes_as (frame.Body d bytes) s h = absurd cc
