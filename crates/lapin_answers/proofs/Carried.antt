-- What an event does to the contents that a channel expects, where no frame of a content comes on it: they stay, or are dropped.
use Rattle.std.proofs.Common.{◌≡◌, ℕ, ◌==◌, Bool, true, false, cond, not, ◌&&◌, [], Option, Some, None, ◌⊎◌, inl, inr, refl, sym, subst}
use Rattle.std.proofs.lemmas.Bool.Decides.{eqb_tells}
use Rattle.lapin_tables.specs.ByChannel.{on_channel}
use Rattle.lapin_types.specs.declared.acker_call.AckerCall.{AckerCall}
use Rattle.lapin_types.specs.declared.event.Event.{Event}
use Rattle.lapin_types.specs.declared.event.Event.TheVariants as event
use Rattle.lapin_types.specs.declared.record.Record.{Record}
use Rattle.lapin_types.specs.declared.record.Record.TheVariants as record_
use Rattle.lapin_types.specs.Types.{Error}
use Rattle.lapin_types.specs.Types.error
use Rattle.lapin_types.specs.Types.method
use Rattle.lapin_types.specs.Types.basic
use Rattle.lapin_types.specs.Types.channel
use Rattle.lapin_content.specs.Channels.{expected_on}
use Rattle.lapin_rules.specs.declared.broker_frames.ContentPart.{ContentPart}
use Rattle.lapin_rules.specs.declared.broker_frames.ContentPart.TheVariants as part
use Rattle.lapin_rules.specs.declared.broker_frames.ConsumerPart.{ConsumerPart}
use Rattle.lapin_rules.specs.declared.broker_frames.ConsumerPart.TheVariants as consumer
use Rattle.lapin_rules.specs.declared.broker_frames.Incoming.{Incoming}
use Rattle.lapin_rules.specs.declared.broker_frames.Incoming.TheVariants as incoming
use Rattle.lapin_rules.specs.declared.calls.Asked.{Asked}
use Rattle.lapin_rules.specs.declared.calls.Asked.TheVariants as ask
use Rattle.lapin_rules.specs.declared.phases.ChannelPhase.{ChannelPhase}
use Rattle.lapin_rules.specs.declared.phases.ChannelPhase.TheVariants as phase
use Rattle.lapin_rules.specs.declared.phases.ConnectionPhase.{ConnectionPhase}
use Rattle.lapin_rules.specs.declared.phases.ConnectionPhase.TheVariants as link
use Rattle.lapin_rules.specs.declared.phases.CloseStage.TheVariants as stage
use Rattle.lapin_rules.specs.Ackers.{acker_asked, acked_wire, usable_at}
use Rattle.lapin_rules.specs.Asking.{is_allowed, after_call, asked_by}
use Rattle.lapin_rules.specs.ChannelClose.{closing, after_close_ok}
use Rattle.lapin_rules.specs.ConnectionClose.{after_connection_close}
use Rattle.lapin_rules.specs.Consumers.{lets_go_of, cancel_noted, after_let_go, after_consumer}
use Rattle.lapin_rules.specs.Content.{after_part}
use Rattle.lapin_rules.specs.Ends.{down}
use Rattle.lapin_rules.specs.Words.{with_channel}
use Rattle.lapin_rules.specs.declared.marks.Settlement.{Settlement}
use Rattle.lapin_rules.specs.declared.phases.Closer.TheVariants as closer
use Rattle.lapin_rules.specs.Events.{after_event}
use Rattle.lapin_rules.specs.Flow.{after_flow}
use Rattle.lapin_rules.specs.Incoming.{incoming_of}
use Rattle.lapin_rules.specs.Loss.{after_lost}
use Rattle.lapin_rules.specs.Phases.{is_lost}
use Rattle.lapin_rules.specs.Receiving.{incoming_wire, after_received, after_refused}
use Rattle.lapin_rules.specs.Settlement.{after_failed_on, session_close}
use Rattle.lapin_rules.specs.Wire.{Wire, phase_of, state_of, is_open, noted}
use Rattle.lapin_consumer.specs.Subscriptions.{Consumer, consumer_at}
use Rattle.lapin_effects.specs.Effects.{is_next}
use Rattle.lapin_concord.proofs.Views.{contents_on_here, contents_on_away}
use Rattle.lapin_answers.proofs.Happens.{income_in}
use Rattle.lapin_concord.proofs.Coming.{joined_away}

-- the event brings a frame of a content on the channel
abbrev pub is_content_on : ℕ → Incoming → Bool
is_content_on c (incoming.Content d p) = d == c
is_content_on c _ = false

abbrev pub brings_content : ℕ → Option Incoming → Bool
brings_content c None = false
brings_content c (Some i) = is_content_on c i

-- they are as they were, or there are none
abbrev pub Kept : ℕ → Wire → Wire → Type 0
Kept c b b' = (expected_on c b'.contents ≡ expected_on c b.contents) ⊎ (expected_on c b'.contents ≡ [])

-- ---- calls

call_kept : (c d : ℕ) (t : Bool) (a : Asked) (b : Wire) → Kept c b (cond t (after_call d a b) b)
call_kept c d false a b = inl refl
call_kept c d true ask.Open b = inl refl
call_kept c d true (ask.CloseChannel code text) b = inl refl
call_kept c d true (ask.CloseConnection code text) b = inr refl
call_kept c d true (ask.Publish exchange key o payload properties) b = inl refl
call_kept c d true (ask.Method row) b = inl refl
call_kept c d true (ask.Consume m tag queue o) b = inl refl
call_kept c d true (ask.Limit limit) b = inl refl
call_kept c d true ask.Nothing b = inl refl

acker_kept : (c : ℕ) (o : Option (ℕ × ℕ)) (k : AckerCall) (b : Wire) → Kept c b (acked_wire o k b)
acker_kept c None k b = inl refl
acker_kept c (Some x) k b = call_kept c x.0 (is_allowed (acker_asked k x.1) (state_of x.0 b)) (acker_asked k x.1) b

let_go_kept : (c : ℕ) (o : Option Consumer) (b : Wire) → Kept c b (after_let_go o b)
let_go_kept c None b = inl refl
let_go_kept c (Some y) b = elim (lets_go_of y b) as (λ v. Kept c b (cond v (cancel_noted y b) b)) [ true ↦ inl refl | false ↦ inl refl ]

lost_kept : (c : ℕ) (b : Wire) → Kept c b (after_lost b)
lost_kept c b = elim (is_lost b.link) as (λ v. Kept c b (cond v b (down link.Lost b))) [ true ↦ inl refl | false ↦ inr refl ]

-- ---- frames of the broker

dropped_kept : (c d : ℕ) (b : Wire) → (expected_on c (on_channel d (λ _. []) b.contents) ≡ expected_on c b.contents) ⊎ (expected_on c (on_channel d (λ _. []) b.contents) ≡ [])
dropped_kept c d b = elim (eqb_tells d c) [
  | inl y ↦ inr (subst (λ v. expected_on c (on_channel v (λ _. []) b.contents) ≡ []) (sym y.1) (contents_on_here c (λ _. []) b.contents refl))
  | inr n ↦ inl (contents_on_away d c (λ _. []) b.contents n.0)
]

part_kept : (c d : ℕ) (p : ContentPart) (b : Wire) → (d == c) ≡ false → Kept c b (after_part d p b)
part_kept c d (part.GetOk s) b n = inl (joined_away d c _ b.contents n)
part_kept c d (part.Return s) b n = inl (joined_away d c _ b.contents n)
part_kept c d (part.Deliver tag s) b n = inl (joined_away d c _ b.contents n)
part_kept c d (part.Header h) b n = inl (contents_on_away d c _ b.contents n)
part_kept c d (part.Body bytes) b n = inl (contents_on_away d c _ b.contents n)

consumer_kept : (c d : ℕ) (p : ConsumerPart) (b : Wire) → Kept c b (after_consumer d p b)
consumer_kept c d (consumer.ConsumeOk tag) b = inl refl
consumer_kept c d (consumer.CancelOk tag) b = inl refl
consumer_kept c d consumer.RecoverOk b = inl refl
consumer_kept c d (consumer.Cancel tag nowait) b = elim (is_open (state_of d b) && not nowait) as (λ v. Kept c b (cond v (noted d (method.Basic (basic.CancelOk tag)) b) b)) [ true ↦ inl refl | false ↦ inl refl ]

flow_kept : (c d : ℕ) (active : Bool) (b : Wire) → Kept c b (after_flow d active b)
flow_kept c d active b = elim (is_open (state_of d b)) as (λ v. Kept c b (cond v (noted d (method.Channel (channel.FlowOk active)) (record b { phases = with_channel d (phase.Open (not active)) b.phases })) b)) [ true ↦ inl refl | false ↦ inl refl ]

ok_kept : (c d : ℕ) (p : ChannelPhase) (b : Wire) → Kept c b (after_close_ok d p b)
ok_kept c d (phase.Closing who sent) b = dropped_kept c d b
ok_kept c d phase.Closed b = inl refl
ok_kept c d phase.Opening b = inl refl
ok_kept c d (phase.Open paused) b = inl refl
ok_kept c d phase.Crossed b = inl refl

down_kept : (c : ℕ) (l : ConnectionPhase) (b : Wire) → Kept c b (after_connection_close l b)
down_kept c (link.Closing stage.Queued) b = inr refl
down_kept c (link.Closing s) b = inl refl
down_kept c link.Open b = inr refl
down_kept c link.Closed b = inr refl
down_kept c link.Lost b = inr refl

received_kept : (c : ℕ) (i : Incoming) (b : Wire) → is_content_on c i ≡ false → Kept c b (after_received i b)
received_kept c (incoming.Reply d k a) b h = inl refl
received_kept c (incoming.Content d p) b h = part_kept c d p b h
received_kept c (incoming.Consumer d p) b h = consumer_kept c d p b
received_kept c (incoming.Flow d active) b h = flow_kept c d active b
received_kept c (incoming.Settlement d s) b h = inl refl
received_kept c (incoming.ChannelClose d code) b h = dropped_kept c d b
received_kept c (incoming.ChannelCloseOk d) b h = ok_kept c d (phase_of d b) b
received_kept c (incoming.ConnectionClose code) b h = down_kept c b.link b
received_kept c incoming.ConnectionCloseOk b h = inl refl
received_kept c incoming.Other b h = inl refl

failed_kept : (c d : ℕ) (s : Settlement) (b : Wire) → Kept c b (after_failed_on d s b)
failed_kept c d s b = elim (is_open (state_of d b)) as (λ v. Kept c b (cond v (noted d (session_close s.kind) (closing d closer.Session b)) b)) [ true ↦ inl refl | false ↦ inl refl ]

refused_kept : (c : ℕ) (i : Incoming) (e : Error) (b : Wire) → Kept c b (after_refused i e b)
refused_kept c i (error.UnexpectedFrame class number) b = inr refl
refused_kept c (incoming.Settlement d s) (error.PreconditionFailed tag current) b = failed_kept c d s b
refused_kept c i (error.PreconditionFailed tag current) b = inl refl
refused_kept c i _ b = inl refl

wire_kept : (c : ℕ) (i : Incoming) (x : Record) (b : Wire) → is_content_on c i ≡ false → Kept c b (incoming_wire i x b)
wire_kept c i (record_.Refused e) b h = refused_kept c i e b
wire_kept c i record_.Received b h = received_kept c i b h
wire_kept c i _ b h = inl refl

-- ---- events

pub event_kept : (c : ℕ) (b : Wire) (e : Event) (x : Record) → is_next e ≡ false → brings_content c (income_in e) ≡ false → Kept c b (after_event b e x)
event_kept c b (event.Call d k) x a h = call_kept c d (is_allowed (asked_by k x) (state_of d b)) (asked_by k x) b
event_kept c b (event.Next flow) x a h = absurd cc
event_kept c b (event.Receive f) x a h = wire_kept c (incoming_of f) x b h
event_kept c b (event.Acker n k) x a h = acker_kept c (usable_at n b) k b
event_kept c b (event.DropConsumer n) x a h = let_go_kept c (consumer_at n b.deliveries.subscriptions) b
event_kept c b event.Lost x a h = lost_kept c b
event_kept c b (event.PollTicket n) x a h = inl refl
event_kept c b (event.PollConfirm n) x a h = inl refl
event_kept c b (event.PollConsumer n) x a h = inl refl
event_kept c b (event.PollWait d) x a h = inl refl
event_kept c b (event.AsideTicket n) x a h = inl refl
event_kept c b (event.AsideConfirm n) x a h = inl refl
event_kept c b (event.Delegate n) x a h = inl refl
event_kept c b event.NextJob x a h = inl refl
event_kept c b (event.State d) x a h = inl refl
