-- What every event but a frame request leaves of the contents that are expected, where it brings no part of one.
use Rattle.std.proofs.Common.{◌≡◌, ◌∙◌, ℕ, ◌==◌, true, false, cond, not, ◌&&◌, ◌||◌, List, [], ◌∷◌, Option, Some, None, inl, inr, refl, sym, ap, subst}
use Rattle.std.specs.List.{list_any}
use Rattle.std.proofs.lemmas.Bool.Decides.{eqb_tells}
use Rattle.lapin_types.specs.declared.acker_call.AckerCall.{AckerCall}
use Rattle.lapin_types.specs.declared.event.Event.{Event}
use Rattle.lapin_types.specs.declared.event.Event.TheVariants as event
use Rattle.lapin_types.specs.declared.record.Record.{Record}
use Rattle.lapin_types.specs.declared.record.Record.TheVariants as record_
use Rattle.lapin_types.specs.Types.{Error}
use Rattle.lapin_types.specs.Types.method
use Rattle.lapin_types.specs.Types.basic
use Rattle.lapin_types.specs.Types.channel
use Rattle.lapin_types.specs.Types.error
use Rattle.lapin_consumer.specs.Subscriptions.{Consumer, consumer_at}
use Rattle.lapin_delivery.specs.Marks.{DeliveryMark}
use Rattle.lapin_rules.specs.declared.calls.Asked.{Asked}
use Rattle.lapin_rules.specs.declared.calls.Asked.TheVariants as ask
use Rattle.lapin_rules.specs.declared.phases.ChannelPhase.{ChannelPhase}
use Rattle.lapin_rules.specs.declared.phases.ChannelPhase.TheVariants as phase
use Rattle.lapin_rules.specs.declared.phases.Closer.TheVariants as closer
use Rattle.lapin_rules.specs.declared.phases.ConnectionPhase.{ConnectionPhase}
use Rattle.lapin_rules.specs.declared.phases.ConnectionPhase.TheVariants as link
use Rattle.lapin_rules.specs.declared.phases.CloseStage.TheVariants as stage
use Rattle.lapin_rules.specs.declared.broker_frames.ConsumerPart.{ConsumerPart}
use Rattle.lapin_rules.specs.declared.broker_frames.ConsumerPart.TheVariants as consumer
use Rattle.lapin_rules.specs.declared.broker_frames.Incoming.{Incoming}
use Rattle.lapin_rules.specs.declared.broker_frames.Incoming.TheVariants as incoming
use Rattle.lapin_rules.specs.ConfirmMarks.{ConfirmMark}
use Rattle.lapin_rules.specs.ConfirmMarks as mark
use Rattle.lapin_rules.specs.Words.{with_channel}
use Rattle.lapin_rules.specs.Ends.{down, deliveries_ends_all, end_with}
use Rattle.lapin_rules.specs.Phases.{is_up, is_lost}
use Rattle.lapin_rules.specs.Polls.{is_confirmed, is_returned, is_aside}
use Rattle.lapin_rules.specs.Select.{is_select}
use Rattle.lapin_rules.specs.Wire.{Wire, state_of, phase_of, is_open, with_deliveries, noted, queued}
use Rattle.lapin_rules.specs.Asking.{is_allowed, asked_by, after_call, asked_wire, asking_deliveries, call_marks, asking_marks}
use Rattle.lapin_rules.specs.Ackers.{acker_method, usable_at, acked_wire, acked_deliveries}
use Rattle.lapin_rules.specs.ChannelClose.{closing, after_close_ok, close_ok_end, close_marks}
use Rattle.lapin_rules.specs.ConnectionClose.{after_connection_close}
use Rattle.lapin_rules.specs.Consumers.{after_consumer, lets_go_of, cancel_noted, after_let_go, let_go_marks}
use Rattle.lapin_rules.specs.Events.{after_event, confirm_marks}
use Rattle.lapin_rules.specs.Incoming.{incoming_of}
use Rattle.lapin_rules.specs.Loss.{after_lost}
use Rattle.lapin_rules.specs.Receiving.{incoming_wire, incoming_deliveries, incoming_marks}
use Rattle.lapin_rules.specs.Settlement.{session_close}
use Rattle.lapin_effects.specs.Effects.{is_next}
use Rattle.lapin_effects.specs.Effects.{moves}
use Rattle.lapin_verdicts.proofs.Turns.{any-less}
use Rattle.lapin_laws.proofs.Expecting.{expected-here}
use Rattle.lapin_messages.proofs.Deals.{ends_on, moves_end}
use Rattle.lapin_content.specs.Channels.{expected_on, after_mark}
use Rattle.lapin_content.specs.Marks as content
use Rattle.lapin_messages.proofs.Dealing.{brings, is_content}
use Rattle.lapin_tables.specs.ByChannel.{on_channel}
use Rattle.lapin_rules.proofs.PhaseLaws.{lost_down}
use Rattle.lapin_concord.proofs.Views.{contents_on_away}
use Rattle.lapin_effects.proofs.Events.{still_if}
use Rattle.lapin_effects.proofs.Happens.{quiet_select}
use Rattle.std.proofs.lemmas.Bool.{both_ways}

pub data Leaves (b b' : Wire) (xs : List ConfirmMark) : Type 0 where
  -- what is expected stays, and no opening ends
  Still : (same : b'.contents ≡ b.contents) (none : list_any moves xs ≡ false) → Leaves b b' xs
  -- openings move, but none ends
  Stays : (same : b'.contents ≡ b.contents) (none : (c : ℕ) → list_any (ends_on c) xs ≡ false) → Leaves b b' xs
  -- one opening ends, and drops what its channel expects
  Drops : (d : ℕ) (e : Error) (dropped : b'.contents ≡ after_mark b.contents (content.Dropped d)) (is : xs ≡ mark.Ended d e ∷ []) → Leaves b b' xs
  -- the connection is open no more
  Falls : (down : is_up b'.link ≡ false) → Leaves b b' xs

inboxed : (ns : List DeliveryMark) {b b' : Wire} {xs : List ConfirmMark} → Leaves b b' xs → Leaves b (with_deliveries ns b') xs
inboxed ns (Still s n) = Still s n
inboxed ns (Stays s n) = Stays s n
inboxed ns (Drops d e s i) = Drops d e s i
inboxed ns (Falls d) = Falls d

-- ---- calls

call_leaves : (c : ℕ) (k : Asked) (b : Wire) → Leaves b (after_call c k b) (call_marks c k b)
call_leaves c ask.Open b = Stays refl (λ d. refl)
call_leaves c (ask.CloseChannel code text) b = Stays refl (λ d. refl)
call_leaves c (ask.CloseConnection code text) b = Falls refl
call_leaves c (ask.Publish exchange key o payload properties) b = Stays refl (λ d. refl)
call_leaves c (ask.Method row) b = Still refl (quiet_select (is_select row.method) c)
call_leaves c (ask.Consume m tag queue o) b = Still refl refl
call_leaves c (ask.Limit limit) b = Still refl refl
call_leaves c ask.Nothing b = Still refl refl

asking_leaves : (c : ℕ) (k : Asked) (b : Wire) → Leaves b (asked_wire c k b) (asking_marks c k b)
asking_leaves c k b = elim (is_allowed k (state_of c b)) as (λ v. Leaves b (cond v (after_call c k b) b) (cond v (call_marks c k b) [])) [ true ↦ call_leaves c k b | false ↦ Still refl refl ]

acked_leaves : (o : Option (ℕ × ℕ)) (k : AckerCall) (b : Wire) → Leaves b (acked_wire o k b) []
acked_leaves None k b = Still refl refl
acked_leaves (Some x) k b = elim (is_open (state_of x.0 b)) as (λ v. Leaves b (cond v (queued x.0 (acker_method k x.1) None b) b) []) [ true ↦ Still refl refl | false ↦ Still refl refl ]

let_go_leaves : (o : Option Consumer) (b : Wire) → Leaves b (after_let_go o b) []
let_go_leaves None b = Still refl refl
let_go_leaves (Some x) b = elim (lets_go_of x b) as (λ v. Leaves b (cond v (cancel_noted x b) b) []) [ true ↦ Still refl refl | false ↦ Still refl refl ]

-- ---- frames of the broker

consumer_leaves : (c : ℕ) (p : ConsumerPart) (b : Wire) → Leaves b (after_consumer c p b) []
consumer_leaves c (consumer.Cancel tag nowait) b = elim (is_open (state_of c b) && not nowait) as (λ v. Leaves b (cond v (noted c (method.Basic (basic.CancelOk tag)) b) b) []) [ true ↦ Still refl refl | false ↦ Still refl refl ]
consumer_leaves c _ b = Still refl refl

close_ok_leaves : (c : ℕ) (p : ChannelPhase) (b : Wire) → Leaves b (after_close_ok c p b) (end_with c (close_ok_end p))
close_ok_leaves c (phase.Closing who sent) b = Drops c _ refl refl
close_ok_leaves c _ b = Still refl refl

connection_leaves : (l : ConnectionPhase) (b : Wire) (xs : List ConfirmMark) → Leaves b (after_connection_close l b) xs
connection_leaves (link.Closing stage.Queued) b xs = Falls refl
connection_leaves _ b xs = Falls refl

received_leaves : (i : Incoming) (b : Wire) → is_content i ≡ false → Leaves b (incoming_wire i record_.Received b) (incoming_marks i record_.Received b)
received_leaves (incoming.Reply c k a) b h = Still refl refl
received_leaves (incoming.Settlement c s) b h = Still refl refl
received_leaves (incoming.Content c p) b h = absurd cc
received_leaves (incoming.Consumer c p) b h = consumer_leaves c p b
received_leaves (incoming.Flow c active) b h = elim (is_open (state_of c b)) as (λ v. Leaves b (cond v (noted c (method.Channel (channel.FlowOk active)) (record b { phases = with_channel c (phase.Open (not active)) b.phases })) b) []) [ true ↦ Still refl refl | false ↦ Still refl refl ]
received_leaves (incoming.ChannelClose c code) b h = Drops c _ refl refl
received_leaves (incoming.ChannelCloseOk c) b h = close_ok_leaves c (phase_of c b) b
received_leaves (incoming.ConnectionClose code) b h = connection_leaves b.link b _
received_leaves incoming.ConnectionCloseOk b h = Falls refl
received_leaves incoming.Other b h = Still refl refl

refused_leaves : (i : Incoming) (e : Error) (b : Wire) → Leaves b (incoming_wire i (record_.Refused e) b) (incoming_marks i (record_.Refused e) b)
refused_leaves i (error.UnexpectedFrame class number) b = Falls refl
refused_leaves (incoming.Settlement c s) (error.PreconditionFailed tag current) b = elim (is_open (state_of c b)) as (λ v. Leaves b (cond v (noted c (session_close s.kind) (closing c closer.Session b)) b) (cond v (close_marks c closer.Session) [])) [ true ↦ Stays refl (λ d. refl) | false ↦ Still refl refl ]
refused_leaves i (error.PreconditionFailed tag current) b = Still refl refl
refused_leaves i e b = Still refl refl

incoming_leaves : (i : Incoming) (r : Record) (b : Wire) → is_content i ≡ false → Leaves b (incoming_wire i r b) (incoming_marks i r b)
incoming_leaves i (record_.Refused e) b h = refused_leaves i e b
incoming_leaves i record_.Received b h = received_leaves i b h
incoming_leaves i r b h = Still refl refl

-- ---- events

lost_leaves : (b : Wire) (xs : List ConfirmMark) → Leaves b (after_lost b) xs
lost_leaves b xs = elim (is_lost b.link) as (λ v. is_lost b.link ≡ v → Leaves b (cond v b (down link.Lost b)) xs) [
  | true ↦ λ h. Falls (lost_down b.link h)
  | false ↦ λ h. Falls refl
] refl

event_leaves : (b : Wire) (e : Event) (r : Record) → is_next e ≡ false → brings e ≡ false → Leaves b (after_event b e r) (confirm_marks b e r)
event_leaves b (event.Call c k) r h n = inboxed (asking_deliveries c (asked_by k r) b) (asking_leaves c (asked_by k r) b)
event_leaves b (event.Next flow) r h n = absurd cc
event_leaves b (event.Receive f) r h n = inboxed (incoming_deliveries (incoming_of f) r b) (incoming_leaves (incoming_of f) r b n)
event_leaves b (event.PollTicket k) r h n = Still refl refl
event_leaves b (event.PollConfirm k) r h n = Still refl (still_if (is_confirmed r) (mark.Taken k) refl)
event_leaves b (event.PollConsumer k) r h n = Still refl refl
event_leaves b (event.PollWait c) r h n = Still refl (still_if (is_returned r) (mark.Drained c) refl)
event_leaves b (event.AsideTicket k) r h n = Still refl refl
event_leaves b (event.AsideConfirm k) r h n = Still refl (still_if (is_aside r) (mark.SetAside k) refl)
event_leaves b (event.Acker k a) r h n = inboxed (acked_deliveries k (usable_at k b) a b) (acked_leaves (usable_at k b) a b)
event_leaves b (event.Delegate k) r h n = Still refl refl
event_leaves b (event.DropConsumer k) r h n = inboxed (let_go_marks k (consumer_at k b.deliveries.subscriptions) b) (let_go_leaves (consumer_at k b.deliveries.subscriptions) b)
event_leaves b event.NextJob r h n = Still refl refl
event_leaves b (event.State c) r h n = Still refl refl
event_leaves b event.Lost r h n = inboxed (deliveries_ends_all error.ConnectionLost b) (lost_leaves b _)

-- ---- one channel

-- it stays where its opening doesn't end, and where that ends nothing is expected
pub contents_same : (c : ℕ) (b : Wire) (e : Event) (r : Record) → is_next e ≡ false → brings e ≡ false → is_up (after_event b e r).link ≡ true → list_any (ends_on c) (confirm_marks b e r) ≡ false → expected_on c (after_event b e r).contents ≡ expected_on c b.contents
contents_same c b e r h n u none = by (event_leaves b e r h n)
  where
    by : Leaves b (after_event b e r) (confirm_marks b e r) → expected_on c (after_event b e r).contents ≡ expected_on c b.contents
    by (Still s k) = ap (expected_on c) s
    by (Stays s k) = ap (expected_on c) s
    by (Drops d x s i) = elim (eqb_tells d c) [
      | inl y ↦ absurd (both_ways _ (sym (ap (list_any (ends_on c)) i) ∙ none) (rw (y.0) refl))
      | inr m ↦ ap (expected_on c) s ∙ contents_on_away d c (λ _. []) b.contents m.0
    ]
    by (Falls dn) = absurd (both_ways _ dn u)

pub contents_gone : (c : ℕ) (b : Wire) (e : Event) (r : Record) → is_next e ≡ false → brings e ≡ false → is_up (after_event b e r).link ≡ true → list_any (ends_on c) (confirm_marks b e r) ≡ true → expected_on c (after_event b e r).contents ≡ []
contents_gone c b e r h n u ends = by (event_leaves b e r h n)
  where
    by : Leaves b (after_event b e r) (confirm_marks b e r) → expected_on c (after_event b e r).contents ≡ []
    by (Still s k) = absurd (both_ways _ (any-less moves (ends_on c) (moves_end c) (confirm_marks b e r) k) ends)
    by (Stays s k) = absurd (both_ways _ (k c) ends)
    by (Drops d x s i) = elim (eqb_tells d c) [
      | inl y ↦ ap (expected_on c) s ∙ subst (λ v. expected_on c (on_channel v (λ _. []) b.contents) ≡ []) (sym y.1) (expected-here c (λ _. []) b.contents refl)
      | inr m ↦ absurd (both_ways ((d == c) || false) (ap (λ v. v || false) m.0) (sym (ap (list_any (ends_on c)) i) ∙ ends))
    ]
    by (Falls dn) = absurd (both_ways _ dn u)
