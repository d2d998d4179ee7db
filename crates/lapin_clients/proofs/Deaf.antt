-- A channel on which a session hears no contents: nothing but open-ok makes it hear them, and a close or close-ok of the broker ends that.
use Rattle.std.proofs.Common.{◌≡◌, ℕ, ◌==◌, Bool, true, false, cond, not, ◌&&◌, Option, None, refl, sym, ap, subst, ◌∙◌, inl, inr, eq-eqb}
use Rattle.std.proofs.lemmas.Bool.{and_parts, both_ways}
use Rattle.lapin_types.specs.declared.request.ReplyKind.TheVariants as reply_kind
use Rattle.lapin_content.specs.declared.start.Start.TheVariants as start
use Rattle.lapin_rules.specs.declared.broker_frames.ContentPart.TheVariants as part
use Rattle.lapin_rules.specs.declared.broker_frames.ConsumerPart.TheVariants as consumer
use Rattle.lapin_confirm.specs.Machine as confirm_state
use Rattle.lapin_ticket.specs.Slots as answers
use Rattle.lapin_machine.specs.Returned as back
use Rattle.lapin_joint.specs.Joint.{is_lawful}
use Rattle.lapin_pairs.specs.Channel.{BClose, BCloseOk}
use Rattle.lapin_pairs.specs.Every.{CloseD, ToD}
use Rattle.lapin_concord.specs.Frames.{down_kind}
use Rattle.lapin_concord.specs.Incomes.{income_as}
use Rattle.lapin_concord.proofs.Incomes.{sorted}
use Rattle.std.specs.List.{fold}
use Rattle.std.proofs.lemmas.Bool.Decides.{eqb_tells}
use Rattle.lapin_types.specs.declared.event.Event.{Event}
use Rattle.lapin_types.specs.declared.event.Event.TheVariants as event
use Rattle.lapin_types.specs.declared.record.Record.{Record}
use Rattle.lapin_types.specs.declared.record.Record.TheVariants as record_
use Rattle.lapin_types.specs.Types.{ChannelState, Frame, Error}
use Rattle.lapin_types.specs.Types.frame
use Rattle.lapin_types.specs.Types.channel_state as state
use Rattle.lapin_methods.specs.declared.method.Method.TheVariants as method
use Rattle.lapin_methods.specs.declared.basic.BasicMethod.TheVariants as basic
use Rattle.lapin_rules.specs.declared.broker_frames.ContentPart.{ContentPart}
use Rattle.lapin_rules.specs.declared.broker_frames.Incoming.{Incoming}
use Rattle.lapin_rules.specs.declared.broker_frames.Incoming.TheVariants as incoming
use Rattle.lapin_rules.specs.declared.phases.ChannelPhase.{ChannelPhase}
use Rattle.lapin_rules.specs.declared.phases.ChannelPhase.TheVariants as phase
use Rattle.lapin_rules.specs.declared.phases.ConnectionPhase.{ConnectionPhase}
use Rattle.lapin_rules.specs.declared.phases.ConnectionPhase.TheVariants as link
use Rattle.lapin_rules.specs.ChannelClose.{after_broker_close, after_channel_close, after_close_ok, receives_close, receives_close_ok}
use Rattle.lapin_rules.specs.ConnectionClose.{after_connection_close, receives_down}
use Rattle.lapin_rules.specs.Drops.{frame_channel}
use Rattle.lapin_rules.specs.Events.{after_event, confirm_marks, record_of, ticket_marks}
use Rattle.lapin_rules.specs.Handing.{began_on}
use Rattle.lapin_rules.specs.Incoming.{incoming_of, frame_class, frame_method}
use Rattle.lapin_rules.specs.Phases.{channel_state, is_up}
use Rattle.lapin_rules.specs.Readings.{Readings}
use Rattle.lapin_rules.specs.Receiving.{incoming_record, incoming_up, incoming_wire, when}
use Rattle.lapin_rules.specs.Unexpected.{refused}
use Rattle.lapin_rules.specs.Wire.{Wire, state_of, phase_of, receives_on}
use Rattle.lapin_rules.proofs.PhaseLaws.{up_open}
use Rattle.lapin_broker.specs.declared.frames.BrokerFrame.{BrokerFrame}
use Rattle.lapin_broker.specs.declared.frames.BrokerFrame.TheVariants as broker
use Rattle.lapin_broker.specs.Frames.{channel_of, broker_frame}
use Rattle.lapin_broker.specs.Sends.{is_connection_close}
use Rattle.lapin_effects.specs.Effects.{hears, is_next}
use Rattle.lapin_machine.specs.World.{World, next, readings_of, told_by}
use Rattle.lapin_machine.proofs.Back.{next_keeps}
use Rattle.lapin_effects.proofs.Events.{has_effect}
use Rattle.lapin_verdicts.proofs.Leaving.{still_hears}
use Rattle.lapin_verdicts.proofs.Opens.{stays_down}
use Rattle.lapin_tables.proofs.Bools.{and_true}
use Rattle.lapin_answers.proofs.Turns as turn
use Rattle.lapin_answers.proofs.Turns.{At, Turns, hear_here, hears_down}
use Rattle.lapin_answers.proofs.Happens.{event_turn, income_in}
use Rattle.lapin_answers.proofs.Lets.{handing_still}
use Rattle.lapin_answers.proofs.Running.{ok_comes}
use Rattle.lapin_client.specs.Receiving.{heard, is_deaf, is_of_content, is_stray}
use Rattle.lapin_clients.specs.Joined.{hearing}
use Rattle.lapin_clients.specs.Strays.{heard_from, hear_behind, hears_on, is_part}
use Rattle.lapin_clients.proofs.Strays.{HearsLess}

-- ---- an event

turn_deaf : (c : ℕ) (e : Event) (x : Record) (i : Option Incoming) (b b' : Wire) → (turn.Opens c i → ⊥) → Turns c e x i b b' → hears c b ≡ false → hears c b' ≡ false
turn_deaf c e x i b b' closed (turn.Stays calm hear open_ waits) h = hear ∙ h
turn_deaf c e x i b b' closed (turn.Grows calm heard hear l r open_ waits fresh) h = absurd (both_ways _ h heard)
turn_deaf c e x i b b' closed (turn.Shrinks k comes asked heard hear open_ waits) h = absurd (both_ways _ h heard)
turn_deaf c e x i b b' closed (turn.Begins opens lives heard hear open_ waits) h = absurd (closed opens)
turn_deaf c e x i b b' closed (turn.Ends over open_ waits dropped) h = over
turn_deaf c e x i b b' closed (turn.Sinks heard over open_ waits) h = over

-- it brings no open-ok on the channel
abbrev pub NoOpenOk : ℕ → Event → Type 0
NoOpenOk c e = turn.Opens c (income_in e) → ⊥

lawful_brings_none : (c : ℕ) (e : Event) → is_lawful e ≡ true → NoOpenOk c e
lawful_brings_none c (event.Receive f) l = absurd cc
lawful_brings_none c _ l = λ o. o

event_deaf : (c : ℕ) (b : Wire) (readings : Readings) (e : Event) → NoOpenOk c e → hears c b ≡ false → hears c (after_event b e (record_of b readings e)) ≡ false
event_deaf c b readings e closed h = by (is_next e) refl
  where
    request : (e : Event) → is_next e ≡ true → hears c (after_event b e (record_of b readings e)) ≡ false
    request (event.Next flow) n =
        let r : Record = record_of b readings (event.Next flow) in
        still_hears c b (after_event b (event.Next flow) r) (handing_still (began_on r) b) ∙ h
    request _ n = absurd cc

    by : (v : Bool) → is_next e ≡ v → hears c (after_event b e (record_of b readings e)) ≡ false
    by true n = request e n
    by false n = turn_deaf c e (record_of b readings e) (income_in e) b (after_event b e (record_of b readings e)) closed (event_turn c b readings e n) h

world_deaf : (c : ℕ) (w : World) (e : Event) → NoOpenOk c e → hears c w.wire ≡ false → hears c (next w e).wire ≡ false
world_deaf c w e closed h = next_keeps (λ (v : World). hears c v.wire ≡ false) w e (event_deaf c w.wire (readings_of w.confirm_state w.slots) e closed h) h

-- ---- a close of the broker, and its close-ok

over_deaf : (z : Bool) (p : ChannelPhase) → receives_on (At z (after_broker_close p)) ≡ false
over_deaf true p = refl
over_deaf false phase.Closed = refl
over_deaf false phase.Opening = refl
over_deaf false (phase.Open paused) = refl
over_deaf false (phase.Closing who true) = refl
over_deaf false (phase.Closing who false) = refl
over_deaf false phase.Crossed = refl

closed_deaf : (z : Bool) → receives_on (At z phase.Closed) ≡ false
closed_deaf true = refl
closed_deaf false = refl

ended_deaf : (c : ℕ) (p : ChannelPhase) (b : Wire) → b.link ≡ link.Open → hears c (after_close_ok c p b) ≡ false
ended_deaf c (phase.Closing who sent) b up = hear_here c phase.Closed b (after_close_ok c (phase.Closing who sent) b) up refl refl ∙ closed_deaf (c == 0)
ended_deaf c phase.Closed b up = hear_here c phase.Closed b (after_close_ok c phase.Closed b) up refl refl ∙ closed_deaf (c == 0)
ended_deaf c phase.Opening b up = hear_here c phase.Closed b (after_close_ok c phase.Opening b) up refl refl ∙ closed_deaf (c == 0)
ended_deaf c (phase.Open paused) b up = hear_here c phase.Closed b (after_close_ok c (phase.Open paused) b) up refl refl ∙ closed_deaf (c == 0)
ended_deaf c phase.Crossed b up = hear_here c phase.Closed b (after_close_ok c phase.Crossed b) up refl refl ∙ closed_deaf (c == 0)

module _ (c : ℕ) (b : Wire) (readings : Readings) (class number : ℕ) where
  abbrev Deaf : Incoming → Record → Type 0
  Deaf i r = hears c (incoming_wire i r b) ≡ false

  -- one that isn't received closes the connection
  received_if : (t : Bool) (i : Incoming) → (t ≡ true → Deaf i record_.Received) → Deaf i (when t (refused class number))
  received_if true i h = h refl
  received_if false i h = refl

  -- while the connection isn't open a close of a channel is passed over
  sorted_deaf : (l : ConnectionPhase) (i : Incoming) → b.link ≡ l → receives_down l i ≡ false → (b.link ≡ link.Open → Deaf i (incoming_up b readings (refused class number) i)) → Deaf i (incoming_record b readings (refused class number) i)
  sorted_deaf l i e none open_ = subst (Deaf i) (sym is) (elim (is_up l) as (λ t. is_up l ≡ t → Deaf i (cond t (incoming_up b readings (refused class number) i) (cond (receives_down l i) record_.Received record_.Passed))) [
    | true ↦ λ u. open_ (e ∙ up_open l u)
    | false ↦ λ d. subst (λ t. Deaf i (cond t record_.Received record_.Passed)) (sym none) (hears_down c b (ap is_up e ∙ d))
  ] refl)
    where
      is : incoming_record b readings (refused class number) i ≡ cond (is_up l) (incoming_up b readings (refused class number) i) (cond (receives_down l i) record_.Received record_.Passed)
      is = ap (λ v. cond (is_up v) (incoming_up b readings (refused class number) i) (cond (receives_down v i) record_.Received record_.Passed)) e

  close_deaf : (code : ℕ) → Deaf (incoming.ChannelClose c code) (incoming_record b readings (refused class number) (incoming.ChannelClose c code))
  close_deaf code = sorted_deaf b.link (incoming.ChannelClose c code) refl (never b.link) (λ up. received_if (receives_close (state_of c b)) (incoming.ChannelClose c code) (λ _.
      hear_here c (after_broker_close (phase_of c b)) b (after_channel_close c (phase_of c b) b) up refl refl ∙ over_deaf (c == 0) (phase_of c b)))
    where
      never : (l : ConnectionPhase) → receives_down l (incoming.ChannelClose c code) ≡ false
      never link.Open = refl
      never (link.Closing s) = refl
      never link.Closed = refl
      never link.Lost = refl

  close_ok_deaf : Deaf (incoming.ChannelCloseOk c) (incoming_record b readings (refused class number) (incoming.ChannelCloseOk c))
  close_ok_deaf = sorted_deaf b.link (incoming.ChannelCloseOk c) refl (never b.link) (λ up. received_if (receives_close_ok (state_of c b)) (incoming.ChannelCloseOk c) (λ _. ended_deaf c (phase_of c b) b up))
    where
      never : (l : ConnectionPhase) → receives_down l (incoming.ChannelCloseOk c) ≡ false
      never link.Open = refl
      never (link.Closing s) = refl
      never link.Closed = refl
      never link.Lost = refl

-- which frame is a close, a close-ok, or the close of the connection
close_is : (c : ℕ) (i : Incoming) → ToD c BClose ≡ income_as i → (code : ℕ) × (i ≡ incoming.ChannelClose c code)
close_is c (incoming.ChannelClose d code) e = (code, (let same : c ≡ d = cc in ap (λ v. incoming.ChannelClose v code) (sym same)))
close_is c (incoming.Reply d reply_kind.ChannelOpenOk a) e = absurd cc
close_is c (incoming.Reply d _ a) e = absurd cc
close_is c (incoming.Content d (part.GetOk s)) e = absurd cc
close_is c (incoming.Content d _) e = absurd cc
close_is c (incoming.Consumer d (consumer.ConsumeOk tag)) e = absurd cc
close_is c (incoming.Consumer d _) e = absurd cc
close_is c _ e = absurd cc

close_ok_is : (c : ℕ) (i : Incoming) → ToD c BCloseOk ≡ income_as i → i ≡ incoming.ChannelCloseOk c
close_ok_is c (incoming.ChannelCloseOk d) e = (let same : c ≡ d = cc in ap (λ v. incoming.ChannelCloseOk v) (sym same))
close_ok_is c (incoming.Reply d reply_kind.ChannelOpenOk a) e = absurd cc
close_ok_is c (incoming.Reply d _ a) e = absurd cc
close_ok_is c (incoming.Content d (part.GetOk s)) e = absurd cc
close_ok_is c (incoming.Content d _) e = absurd cc
close_ok_is c (incoming.Consumer d (consumer.ConsumeOk tag)) e = absurd cc
close_ok_is c (incoming.Consumer d _) e = absurd cc
close_ok_is c _ e = absurd cc

end_is : (i : Incoming) → CloseD ≡ income_as i → (code : ℕ) × (i ≡ incoming.ConnectionClose code)
end_is (incoming.ConnectionClose code) e = (code, refl)
end_is (incoming.Reply d reply_kind.ChannelOpenOk a) e = absurd cc
end_is (incoming.Reply d _ a) e = absurd cc
end_is _ e = absurd cc

-- ---- the connection is open no more

event_down : (b : Wire) (readings : Readings) (e : Event) → is_up b.link ≡ false → is_up (after_event b e (record_of b readings e)).link ≡ false
event_down b readings e h = by (is_next e) refl
  where
    request : (e : Event) → is_next e ≡ true → is_up (after_event b e (record_of b readings e)).link ≡ false
    request (event.Next flow) n = (handing_still (began_on (record_of b readings (event.Next flow))) b).up ∙ h
    request _ n = absurd cc

    other : is_next e ≡ false → (u : Bool) → is_up (after_event b e (record_of b readings e)).link ≡ u → u ≡ false
    other n false u = refl
    other n true u = absurd (both_ways _ h (stays_down (has_effect b readings e n) u))

    by : (v : Bool) → is_next e ≡ v → is_up (after_event b e (record_of b readings e)).link ≡ false
    by true n = request e n
    by false n = other n (is_up (after_event b e (record_of b readings e)).link) refl

world_down : (w : World) (e : Event) → is_up w.wire.link ≡ false → is_up (next w e).wire.link ≡ false
world_down w e h = next_keeps (λ (v : World). is_up v.wire.link ≡ false) w e (event_down w.wire (readings_of w.confirm_state w.slots) e h) h

-- after what no frame of the broker and no loss is, a session hears no more
pub event_less : (w : World) (e : Event) → is_lawful e ≡ true → HearsLess (hearing w) (hearing (next w e))
event_less w e l = record { up = world_down w e; on = λ c. world_deaf c w e (lawful_brings_none c e l) }

-- ---- a frame of the broker

module _ (c : ℕ) (w : World) (f : Frame) where
  abbrev IsDeaf : Type 0
  IsDeaf = hears c (next w (event.Receive f)).wire ≡ false

  -- by what the frame is to its channel
  abbrev By : Incoming → Type 0
  By i = hears c (incoming_wire i (incoming_record w.wire (readings_of w.confirm_state w.slots) (refused (frame_class f) (frame_method f)) i) w.wire) ≡ false

  here_deaf : (d : BrokerFrame) → broker_frame f ≡ d → channel_of f ≡ c → heard_from d (hears c w.wire) ≡ false → IsDeaf
  here_deaf broker.OpenOk e on h = absurd cc
  here_deaf broker.Close e on h =
      let is = close_is c (incoming_of f) (ap (λ v. down_kind v broker.Close) (sym on) ∙ (ap (down_kind (channel_of f)) (sym e) ∙ sorted f)) in
      subst By (sym is.1) (close_deaf c w.wire (readings_of w.confirm_state w.slots) (frame_class f) (frame_method f) is.0)
  here_deaf broker.CloseOk e on h =
      let is = close_ok_is c (incoming_of f) (ap (λ v. down_kind v broker.CloseOk) (sym on) ∙ (ap (down_kind (channel_of f)) (sym e) ∙ sorted f)) in
      subst By (sym is) (close_ok_deaf c w.wire (readings_of w.confirm_state w.slots) (frame_class f) (frame_method f))
  here_deaf _ e on h = world_deaf c w (event.Receive f) (λ o. (let no = sym e ∙ (ok_comes c f o).1 in cc)) h

  frame_deaf : (hear_behind f (hearing w)).on c ≡ false → IsDeaf
  frame_deaf h = elim (eqb_tells (channel_of f) c) [
    | inl y ↦ here_deaf (broker_frame f) refl y.1 (subst (λ t. cond t (heard_from (broker_frame f) (hears c w.wire)) (hears c w.wire) ≡ false) y.0 h)
    | inr n ↦ world_deaf c w (event.Receive f) (λ o. both_ways (channel_of f == c) n.0 (eq-eqb (channel_of f) c (ok_comes c f o).0)) (subst (λ t. cond t (heard_from (broker_frame f) (hears c w.wire)) (hears c w.wire) ≡ false) n.0 h)
  ]

module _ (w : World) (f : Frame) where
  -- by what the frame is to its channel
  abbrev DownBy : Incoming → Type 0
  DownBy i = is_up (incoming_wire i (incoming_record w.wire (readings_of w.confirm_state w.slots) (refused (frame_class f) (frame_method f)) i) w.wire).link ≡ false

  -- on an open connection its close ends all
  ends_open : (code : ℕ) → w.wire.link ≡ link.Open → DownBy (incoming.ConnectionClose code)
  ends_open code e =
      let received : incoming_record w.wire (readings_of w.confirm_state w.slots) (refused (frame_class f) (frame_method f)) (incoming.ConnectionClose code) ≡ record_.Received =
      ap (λ v. cond (is_up v) record_.Received (cond (receives_down v (incoming.ConnectionClose code)) record_.Received record_.Passed)) e in
      ap (λ r. is_up (incoming_wire (incoming.ConnectionClose code) r w.wire).link) received ∙ ap (λ v. is_up (after_connection_close v w.wire).link) e

  kind_down_so : (d : BrokerFrame) → broker_frame f ≡ d → (is_up w.wire.link && not (is_connection_close d)) ≡ false → is_up (next w (event.Receive f)).wire.link ≡ false
  kind_down_so broker.ConnectionClose e h = by (is_up w.wire.link) refl
    where
      by : (u : Bool) → is_up w.wire.link ≡ u → is_up (next w (event.Receive f)).wire.link ≡ false
      by false u = world_down w (event.Receive f) u
      by true u =
          let is = end_is (incoming_of f) (ap (down_kind (channel_of f)) (sym e) ∙ sorted f) in
          subst DownBy (sym is.1) (ends_open is.0 (up_open w.wire.link u))
  kind_down_so _ e h = world_down w (event.Receive f) (sym (and_true (is_up w.wire.link)) ∙ h)

  pub frame_less : HearsLess (hear_behind f (hearing w)) (hearing (next w (event.Receive f)))
  frame_less = record { up = kind_down_so (broker_frame f) refl; on = λ c. frame_deaf c w f }

-- ---- a frame of a content, on a channel that hears none

same_channel : (f : Frame) → frame_channel f ≡ channel_of f
same_channel (frame.Method c m) = refl
same_channel (frame.Header c h) = refl
same_channel (frame.Body c bytes) = refl

-- what it is to its channel
content_is : (f : Frame) → is_of_content f ≡ true → (p : ContentPart) × (incoming_of f ≡ incoming.Content (channel_of f) p)
content_is (frame.Header c h) is = (part.Header h, refl)
content_is (frame.Body c bytes) is = (part.Body bytes, refl)
content_is (frame.Method c (method.Basic (basic.Deliver who tag redelivered exchange key))) is = (part.Deliver who (start.Deliver None tag exchange key redelivered), refl)
content_is (frame.Method c (method.Basic (basic.Return code text exchange key))) is = (part.Return (start.Return code text exchange key), refl)
content_is (frame.Method c (method.Basic (basic.GetOk tag redelivered exchange key count))) is = (part.GetOk (start.Get None tag exchange key redelivered count), refl)
content_is (frame.Method c (method.Basic _)) is = absurd cc
content_is (frame.Method c _) is = absurd cc

-- a state that hears nothing, of a channel that isn't the connection's own: the channel is passed over, or the connection is open no more
deaf_or_down : (up : Bool) (p : ChannelPhase) → receives_on (cond up (channel_state p) state.Down) ≡ false → is_deaf (cond up (channel_state p) state.Down) ≡ false → up ≡ false
deaf_or_down false p h d = refl
deaf_or_down true phase.Closed h d = absurd cc
deaf_or_down true phase.Opening h d = absurd cc
deaf_or_down true (phase.Open paused) h d = absurd cc
deaf_or_down true (phase.Closing who sent) h d = absurd cc
deaf_or_down true phase.Crossed h d = absurd cc

part_up : (f : Frame) (w : World) → is_part f ≡ true → hears_on (hearing w) (channel_of f) ≡ false → is_stray f w ≡ false → is_up w.wire.link ≡ false
part_up f w part none stray =
    let c : ℕ = channel_of f in
    let deaf : hears c w.wire ≡ false = not_heard (is_up w.wire.link) (cond (c == 0) state.Base (channel_state (phase_of c w.wire))) none in
    let both = and_parts (is_of_content f) (not (c == 0)) part in
    let own : (c == 0) ≡ false = not_true (c == 0) both.1 in
    let at : state_of c w.wire ≡ cond (is_up w.wire.link) (channel_state (phase_of c w.wire)) state.Down = ap (λ z. cond (is_up w.wire.link) (cond z state.Base (channel_state (phase_of c w.wire))) state.Down) own in
    let heard_not : is_deaf (state_of c w.wire) ≡ false = sym (ap (λ v. v && is_deaf (state_of c w.wire)) both.0) ∙ (ap (λ v. is_of_content f && is_deaf (state_of v w.wire)) (sym (same_channel f)) ∙ stray) in
    deaf_or_down (is_up w.wire.link) (phase_of c w.wire) (sym (ap receives_on at) ∙ deaf) (sym (ap is_deaf at) ∙ heard_not)
  where
    not_heard : (u : Bool) (s : ChannelState) → (u && receives_on (cond u s state.Down)) ≡ false → receives_on (cond u s state.Down) ≡ false
    not_heard true s h = h
    not_heard false s h = refl

    not_true : (v : Bool) → not v ≡ true → v ≡ false
    not_true false h = refl
    not_true true h = absurd cc

-- then the session passes it over
passes : (f : Frame) (w : World) → is_of_content f ≡ true → is_up w.wire.link ≡ false → told_by w (event.Receive f) ≡ record_.Passed
passes f w is down =
    let i = content_is f is in
    let none = no_content w.wire.link (channel_of f) i.0 in
    ap (λ v. cond v (incoming_up w.wire (readings_of w.confirm_state w.slots) (refused (frame_class f) (frame_method f)) (incoming_of f)) (cond (receives_down w.wire.link (incoming_of f)) record_.Received record_.Passed)) down
    ∙ (ap (λ v. cond (receives_down w.wire.link v) record_.Received record_.Passed) i.1 ∙ ap (λ v. cond v record_.Received record_.Passed) none)
  where
    no_content : (l : ConnectionPhase) (c : ℕ) (p : ContentPart) → receives_down l (incoming.Content c p) ≡ false
    no_content link.Open c p = refl
    no_content (link.Closing s) c p = refl
    no_content link.Closed c p = refl
    no_content link.Lost c p = refl

-- what a session leaves that passed a frame over
abbrev left_by : World → Frame → Record → World
left_by w f r = record {
  wire = after_event w.wire (event.Receive f) r;
  confirm_state = fold confirm_state.after_mark w.confirm_state (confirm_marks w.wire (event.Receive f) r);
  slots = fold answers.after_mark w.slots (ticket_marks w.wire (event.Receive f) r);
  returned = back.after_event w.wire (event.Receive f) r w.returned;
}

pub part_heard : (f : Frame) (w : World) → is_part f ≡ true → hears_on (hearing w) (channel_of f) ≡ false → heard f w ≡ w
part_heard f w part deaf = by (is_stray f w) refl
  where
    by : (v : Bool) → is_stray f w ≡ v → heard f w ≡ w
    by true e = ap (λ v. cond v w (next w (event.Receive f))) e
    by false e =
        let passed : told_by w (event.Receive f) ≡ record_.Passed = passes f w (and_parts (is_of_content f) (not (channel_of f == 0)) part).0 (part_up f w part deaf e) in
        ap (λ v. cond v w (next w (event.Receive f))) e ∙ ap (left_by w f) passed

-- and a session that doesn't pass it over unheard doesn't refuse it
pub part_unrefused : (f : Frame) (w : World) (error : Error) → is_part f ≡ true → hears_on (hearing w) (channel_of f) ≡ false → is_stray f w ≡ false → told_by w (event.Receive f) ≡ record_.Refused error → ⊥
part_unrefused f w error part deaf stray told =
    let passed : told_by w (event.Receive f) ≡ record_.Passed = passes f w (and_parts (is_of_content f) (not (channel_of f == 0)) part).0 (part_up f w part deaf stray) in
    let no : record_.Passed ≡ record_.Refused error = sym passed ∙ told in
    cc
