-- Which event has a `confirm.select` of a channel wait: a call of it alone.
use Rattle.std.proofs.Common.{◌≡◌, ◌∙◌, ℕ, ◌==◌, ◌&&◌, ◌||◌, Bool, true, false, cond, not, List, [], ◌∷◌, ◌++◌, Option, Some, None, ◌+◌, ◌⊎◌, inl, inr, refl, sym, ap, rules}
use Rattle.std.specs.List.{filter, list_any}
use Rattle.std.proofs.lemmas.Bool.Decides.{eqb_tells}
use Rattle.std.proofs.lemmas.List.Folds.{list_any-append}
use Rattle.lapin_tables.proofs.Bools.{and_false}
use Rattle.lapin_types.specs.declared.acker_call.AckerCall.{AckerCall}
use Rattle.lapin_types.specs.declared.acker_call.AckerCall.TheVariants as acker_call
use Rattle.lapin_types.specs.declared.call.Call.{Call}
use Rattle.lapin_types.specs.declared.call.Call.TheVariants as call
use Rattle.lapin_types.specs.declared.event.Event.{Event}
use Rattle.lapin_types.specs.declared.event.Event.TheVariants as event
use Rattle.lapin_types.specs.declared.record.Record.{Record}
use Rattle.lapin_types.specs.declared.record.Record.TheVariants as record_
use Rattle.lapin_types.specs.Types.{Error, Method}
use Rattle.lapin_types.specs.Types.error
use Rattle.lapin_types.specs.Types.method
use Rattle.lapin_types.specs.Types.basic
use Rattle.lapin_types.specs.Types.channel
use Rattle.lapin_types.specs.Types.connection
use Rattle.lapin_consumer.specs.Subscriptions.{Consumer, consumer_at}
use Rattle.lapin_rules.specs.declared.broker_frames.ConsumerPart.{ConsumerPart}
use Rattle.lapin_rules.specs.declared.broker_frames.ConsumerPart.TheVariants as consumer
use Rattle.lapin_rules.specs.declared.broker_frames.ContentPart.{ContentPart}
use Rattle.lapin_rules.specs.declared.broker_frames.ContentPart.TheVariants as part
use Rattle.lapin_rules.specs.declared.broker_frames.Incoming.{Incoming}
use Rattle.lapin_rules.specs.declared.broker_frames.Incoming.TheVariants as incoming
use Rattle.lapin_rules.specs.declared.calls.Asked.{Asked}
use Rattle.lapin_rules.specs.declared.calls.Asked.TheVariants as ask
use Rattle.lapin_rules.specs.declared.phases.ChannelPhase.{ChannelPhase}
use Rattle.lapin_rules.specs.declared.phases.ChannelPhase.TheVariants as phase
use Rattle.lapin_rules.specs.declared.phases.ChannelMove.TheVariants as move
use Rattle.lapin_rules.specs.declared.phases.ConnectionMove.TheVariants as link_move
use Rattle.lapin_rules.specs.declared.phases.Closer.TheVariants as closer
use Rattle.lapin_rules.specs.declared.phases.CloseStage.TheVariants as stage
use Rattle.lapin_rules.specs.declared.phases.ConnectionPhase.{ConnectionPhase}
use Rattle.lapin_rules.specs.declared.phases.ConnectionPhase.TheVariants as link
use Rattle.lapin_rules.specs.Ackers.{acker_asked, acker_method, acked_wire, usable_at}
use Rattle.lapin_rules.specs.Asking.{is_allowed, asked_by, after_call, asked_wire}
use Rattle.lapin_rules.specs.Calls.{asked}
use Rattle.lapin_rules.specs.ChannelClose.{closing, own_close, after_channel_close, after_close_ok}
use Rattle.lapin_rules.specs.ConnectionClose.{own_connection_close, after_connection_close, unless_sent, has_sent}
use Rattle.lapin_rules.specs.Consumers.{lets_go_of, let_go_cancel, cancel_noted, after_let_go}
use Rattle.lapin_rules.specs.Drops.{is_off, method_channel}
use Rattle.lapin_rules.specs.Ends.{down}
use Rattle.lapin_rules.specs.Events.{after_event}
use Rattle.lapin_rules.specs.Flow.{after_flow}
use Rattle.lapin_rules.specs.Frames.{MethodEntry}
use Rattle.lapin_rules.specs.Incoming.{incoming_of}
use Rattle.lapin_rules.specs.Moves.{after, link_after}
use Rattle.lapin_rules.specs.Phases.{is_lost}
use Rattle.lapin_rules.specs.Receiving.{after_received, after_refused, after_failed, incoming_wire}
use Rattle.lapin_rules.specs.Select.{is_select}
use Rattle.lapin_rules.specs.Settlement.{session_close}
use Rattle.lapin_rules.specs.Unexpected.{unexpected_close}
use Rattle.lapin_rules.specs.Wire.{Wire, state_of, phase_of, is_open, lists_of, noted, queued}
use Rattle.lapin_rules.specs.Words.{with_channel}
use Rattle.lapin_effects.specs.Effects.{AreQuiet, is_next}
use Rattle.lapin_reached.specs.Limited.{is_select_on}
use Rattle.lapin_reached.proofs.Own.{is_call}

-- a `confirm.select` of channel c is among these
abbrev pub waits : ℕ → List MethodEntry → Bool
waits c ms = list_any (is_select_on c) ms

-- ---- lists

quiet_or : (v q s : Bool) → s ≡ false → (v || ((q && s) || false)) ≡ v
quiet_or true q s h = refl
quiet_or false true s h = rw h refl
quiet_or false false s h = refl

quiet_off : (v q s : Bool) → q ≡ false → (v || ((q && s) || false)) ≡ v
quiet_off true q s h = refl
quiet_off false true s h = absurd cc
quiet_off false false s h = refl

-- one more that is none
pub pushed : (c : ℕ) (ms : List MethodEntry) (x : MethodEntry) → is_select x.method ≡ false → waits c (ms ++ x ∷ []) ≡ waits c ms
pushed c ms x h = list_any-append (is_select_on c) ms (x ∷ []) ∙ quiet_or (waits c ms) (x.channel == c) (is_select x.method) h

kept_in : (p x r : Bool) → (cond p (x || r) r) ≡ true → (x || r) ≡ true
kept_in true x r h = h
kept_in false true r h = refl
kept_in false false r h = h

if_any : {X : Type 0} (q : X → Bool) (t : Bool) (x : X) (xs : List X) → list_any q (cond t (x ∷ xs) xs) ≡ cond t (q x || list_any q xs) (list_any q xs)
if_any q true x xs = refl
if_any q false x xs = refl

-- one more of another channel
pub pushed_off : (c : ℕ) (ms : List MethodEntry) (x : MethodEntry) → (x.channel == c) ≡ false → waits c (ms ++ x ∷ []) ≡ waits c ms
pushed_off c ms x h = list_any-append (is_select_on c) ms (x ∷ []) ∙ quiet_off (waits c ms) (x.channel == c) (is_select x.method) h

or_more : (x r s : Bool) → (r ≡ true → s ≡ true) → (x || r) ≡ true → (x || s) ≡ true
or_more true r s h g = refl
or_more false r s h g = h g

-- what is left of a list
pub filtered : (c : ℕ) (p : MethodEntry → Bool) (ms : List MethodEntry) → waits c (filter p ms) ≡ true → waits c ms ≡ true
filtered c p [] h = h
filtered c p (m ∷ ms) h = or_more (is_select_on c m) (waits c (filter p ms)) (waits c ms) (filtered c p ms) (kept_in (p m) (is_select_on c m) (waits c (filter p ms)) (sym (if_any (is_select_on c) (p m) m (filter p ms)) ∙ h))

-- none of the channel is left where its methods are taken out
pub gone : (c : ℕ) (ms : List MethodEntry) → waits c (filter (is_off method_channel c) ms) ≡ false
gone c [] = refl
gone c (m ∷ ms) = if_any (is_select_on c) (not (m.channel == c)) m (filter (is_off method_channel c) ms) ∙ elim (m.channel == c) as (λ b. cond (not b) ((b && is_select m.method) || waits c (filter (is_off method_channel c) ms)) (waits c (filter (is_off method_channel c) ms)) ≡ false) [
  | true ↦ gone c ms
  | false ↦ gone c ms
]

pub quiet_none : (c : ℕ) (ms : List MethodEntry) → AreQuiet ms → waits c ms ≡ false
quiet_none c [] q = refl
quiet_none c (m ∷ ms) q = rw (q.0.select, quiet_none c ms q.1) (elim (m.channel == c) as (λ b. ((b && false) || false) ≡ false) [ true ↦ refl | false ↦ refl ])

-- ---- calls

-- a consumer's call queues no `confirm.select`
abbrev pub Consumes : Asked → Type 0
Consumes (ask.Consume m tag queue o) = is_select m ≡ false
Consumes _ = Unit {0}

pub consumes : (k : Call) → Consumes (asked k)
consumes call.OpenChannel = tt
consumes k = search rules

-- a call that queues one method of the table
abbrev pub is_row : Asked → Bool
is_row (ask.Method row) = true
is_row _ = false

-- ---- a frame of the broker

module _ (c : ℕ) where
  abbrev pub Before : Wire → Wire → Type 0
  Before b b' = waits c b'.methods ≡ true → waits c b.methods ≡ true

  noted_before : (b : Wire) (ms : List MethodEntry) (x : MethodEntry) → is_select x.method ≡ false → (waits c ms ≡ true → waits c b.methods ≡ true) → waits c (ms ++ x ∷ []) ≡ true → waits c b.methods ≡ true
  noted_before b ms x plain h g = h (sym (pushed c ms x plain) ∙ g)

  none_before : (b : Wire) → waits c [] ≡ true → waits c b.methods ≡ true
  none_before b h = absurd cc

  close_ok_before : (d : ℕ) (p : ChannelPhase) (b : Wire) → Before b (after_close_ok d p b)
  close_ok_before d (phase.Closing who sent) b h = filtered c (is_off method_channel d) b.methods h
  close_ok_before d _ b h = h

  abbrev answer : MethodEntry
  answer = record { channel = 0; method = method.Connection connection.CloseOk; ticket = None }

  closed_before : (l : ConnectionPhase) (b : Wire) → Before b (after_connection_close l b)
  closed_before (link.Closing stage.Sent) b h = noted_before b b.methods answer refl (λ x. x) h
  closed_before (link.Closing stage.Crossed) b h = noted_before b b.methods answer refl (λ x. x) h
  closed_before l b h = noted_before b [] answer refl (none_before b) h

  unsent_before : (t : Bool) (b : Wire) → waits c (unless_sent t (lists_of b)).methods ≡ true → waits c b.methods ≡ true
  unsent_before true b h = h
  unsent_before false b h = absurd cc

  part_before : (d : ℕ) (p : ContentPart) (b : Wire) → Before b (after_received (incoming.Content d p) b)
  part_before d (part.GetOk s) b h = h
  part_before d (part.Return s) b h = h
  part_before d (part.Deliver tag s) b h = h
  part_before d (part.Header x) b h = h
  part_before d (part.Body bytes) b h = h

  consumer_before : (d : ℕ) (p : ConsumerPart) (b : Wire) → Before b (after_received (incoming.Consumer d p) b)
  consumer_before d (consumer.ConsumeOk tag) b h = h
  consumer_before d (consumer.CancelOk tag) b h = h
  consumer_before d consumer.RecoverOk b h = h
  consumer_before d (consumer.Cancel tag nowait) b h = by (is_open (state_of d b) && not nowait) h
    where
      by : (t : Bool) → waits c (cond t (noted d (method.Basic (basic.CancelOk tag)) b) b).methods ≡ true → waits c b.methods ≡ true
      by true g = noted_before b b.methods (record { channel = d; method = method.Basic (basic.CancelOk tag); ticket = None }) refl (λ x. x) g
      by false g = g

  flow_before : (d : ℕ) (active : Bool) (b : Wire) → Before b (after_flow d active b)
  flow_before d active b h = by (is_open (state_of d b)) h
    where
      by : (t : Bool) → waits c (cond t (noted d (method.Channel (channel.FlowOk active)) (record b { phases = with_channel d (after (phase_of d b) (move.Flow active)) b.phases })) b).methods ≡ true → waits c b.methods ≡ true
      by true g = noted_before b b.methods (record { channel = d; method = method.Channel (channel.FlowOk active); ticket = None }) refl (λ x. x) g
      by false g = g

  received_before : (i : Incoming) (b : Wire) → Before b (after_received i b)
  received_before (incoming.Flow d active) b h = flow_before d active b h
  received_before (incoming.Content d p) b h = part_before d p b h
  received_before (incoming.Consumer d p) b h = consumer_before d p b h
  received_before (incoming.ChannelClose d code) b h = noted_before b (filter (is_off method_channel d) b.methods) (record { channel = d; method = method.Channel channel.CloseOk; ticket = None }) refl (filtered c (is_off method_channel d) b.methods) h
  received_before (incoming.ChannelCloseOk d) b h = close_ok_before d (phase_of d b) b h
  received_before (incoming.ConnectionClose code) b h = closed_before b.link b h
  received_before incoming.ConnectionCloseOk b h = unsent_before (has_sent b.link) b h
  received_before _ b h = h

  -- a settlement that is refused closes its channel
  failed_before : (i : Incoming) (b : Wire) → Before b (after_failed i b)
  failed_before (incoming.Settlement d s) b h = by (is_open (state_of d b)) h
    where
      by : (t : Bool) → waits c (cond t (noted d (session_close s.kind) (closing d closer.Session b)) b).methods ≡ true → waits c b.methods ≡ true
      by true g = noted_before b b.methods (record { channel = d; method = session_close s.kind; ticket = None }) refl (λ x. x) g
      by false g = g
  failed_before _ b h = h

  refused_before : (i : Incoming) (e : Error) (b : Wire) → Before b (after_refused i e b)
  refused_before i (error.UnexpectedFrame class number) b h = noted_before b [] (record { channel = 0; method = unexpected_close class number; ticket = None }) refl (none_before b) h
  refused_before i (error.PreconditionFailed tag current) b h = failed_before i b h
  refused_before i _ b h = h

  incoming_before : (i : Incoming) (r : Record) (b : Wire) → Before b (incoming_wire i r b)
  incoming_before i (record_.Refused e) b h = refused_before i e b h
  incoming_before i record_.Received b h = received_before i b h
  incoming_before i _ b h = h

  -- ---- every other event but a call and a frame request

  acker_plain : (k : AckerCall) (tag : ℕ) → is_select (acker_method k tag) ≡ false
  acker_plain (acker_call.Ack o) tag = refl
  acker_plain (acker_call.Nack o) tag = refl
  acker_plain (acker_call.Reject o) tag = refl

  acked_before : (o : Option (ℕ × ℕ)) (k : AckerCall) (b : Wire) → Before b (acked_wire o k b)
  acked_before None k b h = h
  acked_before (Some x) k b h = by (is_open (state_of x.0 b)) h
    where
      by : (t : Bool) → waits c (cond t (queued x.0 (acker_method k x.1) None b) b).methods ≡ true → waits c b.methods ≡ true
      by true g = noted_before b b.methods (record { channel = x.0; method = acker_method k x.1; ticket = Some (b.tickets + 1) }) (acker_plain k x.1) (λ y. y) g
      by false g = g

  let_go_before : (o : Option Consumer) (b : Wire) → Before b (after_let_go o b)
  let_go_before None b h = h
  let_go_before (Some x) b h = by (lets_go_of x b) h
    where
      by : (t : Bool) → waits c (cond t (cancel_noted x b) b).methods ≡ true → waits c b.methods ≡ true
      by true g = noted_before b b.methods (record { channel = x.channel; method = let_go_cancel x; ticket = None }) refl (λ y. y) g
      by false g = g

  lost_before : (t : Bool) (b : Wire) → waits c (cond t b (down (link_after b.link link_move.Lost) b)).methods ≡ true → waits c b.methods ≡ true
  lost_before true b h = h
  lost_before false b h = absurd cc

  pub other_before : (b : Wire) (e : Event) (r : Record) → is_next e ≡ false → is_call e ≡ false → Before b (after_event b e r)
  other_before b (event.Next flow) r n k h = absurd cc
  other_before b (event.Call d a) r n k h = absurd cc
  other_before b (event.Receive f) r n k h = incoming_before (incoming_of f) r b h
  other_before b (event.Acker m a) r n k h = acked_before (usable_at m b) a b h
  other_before b (event.DropConsumer m) r n k h = let_go_before (consumer_at m b.deliveries.subscriptions) b h
  other_before b event.Lost r n k h = lost_before (is_lost b.link) b h
  other_before b _ r n k h = h

  -- ---- a call

  -- what a call that queues a method has wait: what waited, or that method of this channel
  pub row_before : (d : ℕ) (m : Method) (t : Option ℕ) (ms : List MethodEntry) → waits c (ms ++ record { channel = d; method = m; ticket = t } ∷ []) ≡ true → (waits c ms ≡ true) ⊎ ((d ≡ c) × (is_select m ≡ true))
  row_before d m t ms h = elim (is_select m) as (λ v. is_select m ≡ v → (waits c ms ≡ true) ⊎ ((d ≡ c) × (v ≡ true))) [
    | false ↦ λ plain. inl (sym (pushed c ms (record { channel = d; method = m; ticket = t }) plain) ∙ h)
    | true ↦ λ _. elim (eqb_tells d c) [
      | inl y ↦ inr (y.1, refl)
      | inr n ↦ inl (sym (pushed_off c ms (record { channel = d; method = m; ticket = t }) n.0) ∙ h)
    ]
  ] refl

  -- an allowed call of any other kind
  pub others_before : (d : ℕ) (a : Asked) (b : Wire) → Consumes a → is_row a ≡ false → Before b (after_call d a b)
  others_before d ask.Open b u r h = noted_before b b.methods (record { channel = d; method = method.Channel channel.Open; ticket = Some (b.tickets + 1) }) refl (λ x. x) h
  others_before d (ask.CloseChannel code text) b u r h = noted_before b b.methods (record { channel = d; method = own_close code text; ticket = Some (b.tickets + 1) }) refl (λ x. x) h
  others_before d (ask.CloseConnection code text) b u r h = noted_before b [] (record { channel = d; method = own_connection_close code text; ticket = Some (b.tickets + 1) }) refl (none_before b) h
  others_before d (ask.Publish exchange key o payload properties) b u r h = h
  others_before d (ask.Consume m tag queue o) b u r h = noted_before b b.methods (record { channel = d; method = m; ticket = Some (b.tickets + 1) }) u (λ x. x) h
  others_before d (ask.Method row) b u r h = absurd cc
  others_before d _ b u r h = h
