-- What a frame of the broker, and a loss, does to where a channel stands, to the request of its close, and to the closes that wait.
use Rattle.std.proofs.Common.{◌≡◌, ◌∙◌, ℕ, ◌==◌, Bool, true, false, cond, not, ◌&&◌, ◌||◌, List, Some, None, inl, inr, refl, sym, ap, subst, eq-eqb}
use Rattle.std.specs.List.{filter}
use Rattle.std.proofs.lemmas.Bool.{and_parts}
use Rattle.std.proofs.lemmas.Bool.Decides.{eqb_tells}
use Rattle.lapin_types.specs.declared.event.Event.{Event}
use Rattle.lapin_types.specs.declared.answer.Answer.{Answer}
use Rattle.lapin_types.specs.declared.record.Record.{Record}
use Rattle.lapin_types.specs.declared.record.Record.TheVariants as record_
use Rattle.lapin_types.specs.declared.request.ReplyKind.{ReplyKind}
use Rattle.lapin_types.specs.declared.request.ReplyKind.TheVariants as reply_kind
use Rattle.lapin_types.specs.Types.{Method}
use Rattle.lapin_types.specs.Types.frame
use Rattle.lapin_types.specs.Types.method
use Rattle.lapin_types.specs.Types.basic
use Rattle.lapin_types.specs.Types.channel
use Rattle.lapin_types.specs.Types.connection
use Rattle.lapin_types.specs.Types.error
use Rattle.lapin_rules.specs.declared.marks.Settlement.{Settlement}
use Rattle.lapin_rules.specs.declared.broker_frames.ConsumerPart.{ConsumerPart}
use Rattle.lapin_rules.specs.declared.broker_frames.ConsumerPart.TheVariants as consumer
use Rattle.lapin_rules.specs.declared.broker_frames.ContentPart.{ContentPart}
use Rattle.lapin_rules.specs.declared.broker_frames.ContentPart.TheVariants as part
use Rattle.lapin_rules.specs.declared.broker_frames.Incoming.{Incoming}
use Rattle.lapin_rules.specs.declared.broker_frames.Incoming.TheVariants as incoming
use Rattle.lapin_rules.specs.declared.phases.ChannelPhase.{ChannelPhase}
use Rattle.lapin_rules.specs.declared.phases.ChannelPhase.TheVariants as phase
use Rattle.lapin_rules.specs.declared.phases.ConnectionPhase.{ConnectionPhase}
use Rattle.lapin_rules.specs.declared.phases.ConnectionPhase.TheVariants as link
use Rattle.lapin_rules.specs.declared.phases.CloseStage.TheVariants as stage
use Rattle.lapin_rules.specs.declared.phases.Closer.TheVariants as closer
use Rattle.lapin_rules.specs.Words.{with_channel, is_some}
use Rattle.lapin_rules.specs.Phases.{is_up, is_lost}
use Rattle.lapin_rules.specs.Frames.{MethodEntry, left_method}
use Rattle.lapin_rules.specs.Drops.{is_off, method_channel}
use Rattle.lapin_rules.specs.Requests.{first_request, without_kind, no_requests}
use Rattle.lapin_rules.specs.Ends.{down}
use Rattle.lapin_rules.specs.Readings.{Readings}
use Rattle.lapin_rules.specs.Wire.{Wire, requests_of, state_of, phase_of, is_open, is_opening, noted, receives_on}
use Rattle.lapin_rules.specs.Opening.{opens, phases_with}
use Rattle.lapin_rules.specs.ChannelClose.{kept_at, closing, after_close_ok, after_channel_close, after_broker_close, receives_close, receives_close_ok}
use Rattle.lapin_rules.specs.ConnectionClose.{receives_down, after_connection_close}
use Rattle.lapin_rules.specs.Settlement.{settlement_record, session_close}
use Rattle.lapin_rules.specs.Reply.{receives, receives_reply, after_reply}
use Rattle.lapin_rules.specs.Flow.{after_flow}
use Rattle.lapin_rules.specs.Content.{receives_part, after_get_ok}
use Rattle.lapin_rules.specs.Consumers.{receives_consumer}
use Rattle.lapin_rules.specs.Unexpected.{refused}
use Rattle.lapin_rules.specs.Loss.{after_lost}
use Rattle.lapin_rules.specs.Receiving.{when, incoming_up, incoming_record, incoming_wire}
use Rattle.lapin_concord.specs.Wires.{reply_number, is_asked}
use Rattle.lapin_concord.proofs.Views.{phase_at, requests_at}
use Rattle.lapin_types.specs.Types.{ChannelMethod, ExchangeMethod, QueueMethod, BasicMethod, ConfirmMethod, TxMethod, Frame}
use Rattle.lapin_types.specs.Types.access
use Rattle.lapin_types.specs.Types.exchange
use Rattle.lapin_types.specs.Types.queue
use Rattle.lapin_types.specs.Types.confirm
use Rattle.lapin_types.specs.Types.tx
use Rattle.lapin_rules.specs.Ackers.{usable_at}
use Rattle.lapin_types.specs.declared.event.Event.TheVariants as event
use Rattle.lapin_rules.specs.Incoming.{incoming_of, incoming_method, frame_class, frame_method, on_connection}
use Rattle.lapin_rules.specs.Events.{record_of, after_event}
use Rattle.lapin_consumer.specs.Subscriptions.{consumer_at}
use Rattle.lapin_effects.specs.Effects.{is_next}
use Rattle.lapin_answers.specs.Closes.{is_close, is_close_on}
use Rattle.lapin_answers.proofs.Happens.{income_in}
use Rattle.lapin_answers.proofs.Lists.{lefts_of}
use Rattle.lapin_answers.proofs.Shuts.{close_requests, waiting_closes, shuts, asked_apart, shut_without, shut_taken_here, shut_on_away, shut_kept, shut_none, closes_same, closes_grow, no_close, close_off, close_on, closes_gone, closes_away}
use Rattle.lapin_answers.proofs.Moving.{Moves, Stays, Passes, Breaks, Ends, Closes, Uncrosses, Falls, is_crossed_at, place_of, place_in, is_close_ok_in, place_up, place_down, place_here, place_away, open_is, call_move, acker_move, let_go_move}
use Rattle.lapin_answers.proofs.Turns.{At, entry}
use Rattle.lapin_rules.proofs.PhaseLaws.{up_open, opens_only, lost_down, open_hears_no_ok}
use Rattle.lapin_answers.proofs.Phases.{closed_hears_no_ok, opening_hears_no_ok}

-- no frame is sorted as a reply that is a close-ok, of a channel or of the connection
abbrev pub is_plain : Incoming → Bool
is_plain (incoming.Reply d reply_kind.ChannelCloseOk a) = false
is_plain (incoming.Reply d reply_kind.ConnectionCloseOk a) = false
is_plain _ = true

abbrev note : ℕ → Method → MethodEntry
note d m = entry d m None

abbrev Hears : ℕ → Event → Record → Wire → Incoming → Record → Type 0
Hears c e x b i r = Moves c e x (Some i) b (incoming_wire i r b)

noted_same : (c d : ℕ) (m : Method) (b : Wire) → is_close m ≡ false → waiting_closes c (noted d m b) ≡ waiting_closes c b
noted_same c d m b h = closes_same c b.methods (note d m) (no_close c (note d m) h)

module _ (c : ℕ) (e : Event) (x : Record) (class number : ℕ) where
  abbrev no : Record
  no = refused class number

  -- a frame that no rule hears ends everything
  unreceived : (b : Wire) (i : Incoming) → Hears c e x b i no
  unreceived b i = Falls refl

  received_if : (t : Bool) (b : Wire) (i : Incoming) → (t ≡ true → Hears c e x b i record_.Received) → Hears c e x b i (when t no)
  received_if true b i h = h refl
  received_if false b i h = unreceived b i

  state_up : (d : ℕ) (b : Wire) → b.link ≡ link.Open → state_of d b ≡ At (d == 0) (phase_of d b)
  state_up d b up = rw up refl

  -- ---- replies

  opening_at : (z : Bool) (p : ChannelPhase) → is_opening (At z p) ≡ true → p ≡ phase.Opening
  opening_at true p h = absurd cc
  opening_at false phase.Opening h = refl
  opening_at false _ h = absurd cc

  -- a reply that asks for no more takes its request
  taken : (d : ℕ) (k : ReplyKind) (i : Incoming) (b b' : Wire) → is_close_ok_in c (Some i) ≡ false → b'.link ≡ b.link → b'.phases ≡ b.phases → b'.requests ≡ (after_reply d k b).requests → b'.methods ≡ b.methods → (reply_number k == 21) ≡ false → Moves c e x (Some i) b b'
  taken d k i b b' calm l ps rs ms n = Stays calm (ap (λ v. place_in (is_up v) (phase_of c b')) l ∙ ap (λ v. place_in (is_up b.link) (phase_at c v)) ps) (ap (λ v. filter shuts (requests_at c v)) rs ∙ shut_without c d k b.requests n) (ap (λ v. filter (is_close_on c) (lefts_of v)) ms)

  opened : (d : ℕ) (a : Answer) (b : Wire) → b.link ≡ link.Open → is_opening (At (d == 0) (phase_of d b)) ≡ true → Hears c e x b (incoming.Reply d reply_kind.ChannelOpenOk a) record_.Received
  opened d a b up h =
      let b' : Wire = after_reply d reply_kind.ChannelOpenOk b in
      let rs : close_requests c b' ≡ close_requests c b = shut_without c d reply_kind.ChannelOpenOk b.requests refl in
      elim (eqb_tells d c) [
        | inl y ↦
            let was : place_of c b ≡ Some phase.Opening = subst (λ v. place_of v b ≡ Some phase.Opening) y.1 (place_up d b up ∙ ap Some (opening_at (d == 0) (phase_of d b) h)) in
            let now : place_of c b' ≡ Some (phase.Open false) = subst (λ v. place_of v b' ≡ Some (phase.Open false)) y.1 (place_here d (phase.Open false) b b' up refl refl) in
            Passes refl phase.Opening (phase.Open false) was now refl refl rs refl
        | inr n ↦ Stays refl (place_away c d (phase.Open false) b b' refl refl n.0) rs refl
      ]

  closed_reply : (d : ℕ) (k : ReplyKind) (a : Answer) (b : Wire) → is_plain (incoming.Reply d k a) ≡ true → opens k ≡ false → is_asked k ≡ false → Hears c e x b (incoming.Reply d k a) record_.Received
  closed_reply d reply_kind.ChannelCloseOk a b p o k = absurd cc
  closed_reply d reply_kind.ConnectionCloseOk a b p o k = absurd cc
  closed_reply d reply_kind.ChannelOpenOk a b p o k = absurd cc
  closed_reply d _ a b p o k = absurd cc

  asked_phases : (d : ℕ) (k : ReplyKind) (all : List (ℕ × ChannelPhase)) → is_asked k ≡ true → phases_with d k all ≡ all
  asked_phases d reply_kind.ChannelOpenOk all h = absurd cc
  asked_phases d reply_kind.ChannelFlowOk all h = refl
  asked_phases d _ all h = refl

  reply_receives : (d : ℕ) (k : ReplyKind) (a : Answer) (b : Wire) → is_plain (incoming.Reply d k a) ≡ true → b.link ≡ link.Open → receives_reply d k b ≡ true → Hears c e x b (incoming.Reply d k a) record_.Received
  reply_receives d k a b plain up h = by (is_asked k) (opens k) refl refl
    where
      here : cond (opens k) (is_opening (state_of d b)) (receives_on (state_of d b)) ≡ true
      here = (and_parts (receives k (state_of d b)) (is_some (first_request k (requests_of d b))) h).0

      by : (v w : Bool) → is_asked k ≡ v → opens k ≡ w → Hears c e x b (incoming.Reply d k a) record_.Received
      by true w q o = taken d k (incoming.Reply d k a) b (after_reply d k b) refl refl (asked_phases d k b.phases q) refl refl (asked_apart k q)
      by false true q o =
          let is = opens_only k o in
          let on : is_opening (At (d == 0) (phase_of d b)) ≡ true = ap is_opening (sym (state_up d b up)) ∙ (ap (λ v. cond v (is_opening (state_of d b)) (receives_on (state_of d b))) (sym o) ∙ here) in
          subst (λ v. Hears c e x b (incoming.Reply d v a) record_.Received) (sym is) (opened d a b up on)
      by false false q o = closed_reply d k a b plain o q

  -- ---- settlements and flow

  failed_receives : (d tag current : ℕ) (z : Settlement) (b : Wire) → b.link ≡ link.Open → Hears c e x b (incoming.Settlement d z) (record_.Refused (error.PreconditionFailed tag current))
  failed_receives d tag current z b up =
      let to : Wire = noted d (session_close z.kind) (closing d closer.Session b) in
      elim (is_open (state_of d b)) as (λ t. is_open (state_of d b) ≡ t → Moves c e x (Some (incoming.Settlement d z)) b (cond t to b)) [
        | true ↦ λ a. elim (eqb_tells d c) [
          | inl y ↦
              let o = open_is (d == 0) (phase_of d b) (ap is_open (sym (state_up d b up)) ∙ a) in
              let was : place_of c b ≡ Some (phase.Open o.0) = subst (λ v. place_of v b ≡ Some (phase.Open o.0)) y.1 (place_up d b up ∙ ap Some o.1) in
              let now : place_of c to ≡ Some (phase.Closing closer.Session false) = subst (λ v. place_of v to ≡ Some (phase.Closing closer.Session false)) y.1 (place_here d (phase.Closing closer.Session false) b to up refl refl) in
              Breaks refl o.0 (left_method (note d (session_close z.kind))) was now refl (closes_grow c b.methods (note d (session_close z.kind)) (close_on c (note d (session_close z.kind)) y.1 (own z)))
          | inr n ↦ Stays refl (place_away c d (phase.Closing closer.Session false) b to refl refl n.0) refl (closes_same c b.methods (note d (session_close z.kind)) (close_off c (note d (session_close z.kind)) n.0))
        ]
        | false ↦ λ a. Stays refl refl refl refl
      ] refl
    where
      own : (z : Settlement) → is_close (session_close z.kind) ≡ true
      own z = refl

  settlement_receives : (d : ℕ) (z : Settlement) (readings : Readings) (b : Wire) → b.link ≡ link.Open → Hears c e x b (incoming.Settlement d z) (cond (receives_on (state_of d b)) (settlement_record readings d z) no)
  settlement_receives d z readings b up = elim (receives_on (state_of d b)) as (λ t. Hears c e x b (incoming.Settlement d z) (cond t (settlement_record readings d z) no)) [
    | true ↦ elim (readings.selected d) as (λ t. Hears c e x b (incoming.Settlement d z) (cond t (cond (z.multiple || readings.pending d z.tag) record_.Received (record_.Refused (error.PreconditionFailed z.tag (readings.last d)))) record_.Passed)) [
      | true ↦ elim (z.multiple || readings.pending d z.tag) as (λ t. Hears c e x b (incoming.Settlement d z) (cond t record_.Received (record_.Refused (error.PreconditionFailed z.tag (readings.last d))))) [
        | true ↦ Stays refl refl refl refl
        | false ↦ failed_receives d z.tag (readings.last d) z b up
      ]
      | false ↦ Stays refl refl refl refl
    ]
    | false ↦ unreceived b (incoming.Settlement d z)
  ]

  flow_moves : (d : ℕ) (active : Bool) (b : Wire) → b.link ≡ link.Open → Moves c e x (Some (incoming.Flow d active)) b (after_flow d active b)
  flow_moves d active b up =
      let to : Wire = noted d (method.Channel (channel.FlowOk active)) (record b { phases = with_channel d (phase.Open (not active)) b.phases }) in
      let ws : waiting_closes c to ≡ waiting_closes c b = noted_same c d (method.Channel (channel.FlowOk active)) b refl in
      elim (is_open (state_of d b)) as (λ t. is_open (state_of d b) ≡ t → Moves c e x (Some (incoming.Flow d active)) b (cond t to b)) [
        | true ↦ λ a. elim (eqb_tells d c) [
          | inl y ↦
              let o = open_is (d == 0) (phase_of d b) (ap is_open (sym (state_up d b up)) ∙ a) in
              let was : place_of c b ≡ Some (phase.Open o.0) = subst (λ v. place_of v b ≡ Some (phase.Open o.0)) y.1 (place_up d b up ∙ ap Some o.1) in
              let now : place_of c to ≡ Some (phase.Open (not active)) = subst (λ v. place_of v to ≡ Some (phase.Open (not active))) y.1 (place_here d (phase.Open (not active)) b to up refl refl) in
              Passes refl (phase.Open o.0) (phase.Open (not active)) was now refl refl refl ws
          | inr n ↦ Stays refl (place_away c d (phase.Open (not active)) b to refl refl n.0) refl ws
        ]
        | false ↦ λ a. Stays refl refl refl refl
      ] refl

  -- ---- closes

  uncrossed : (z : Bool) (p : ChannelPhase) → receives_close (At z p) ≡ true → is_crossed_at p ≡ false
  uncrossed true phase.Crossed h = absurd cc
  uncrossed false phase.Crossed h = absurd cc
  uncrossed z _ h = refl

  close_receives : (d code : ℕ) (b : Wire) → b.link ≡ link.Open → receives_close (At (d == 0) (phase_of d b)) ≡ true → Hears c e x b (incoming.ChannelClose d code) record_.Received
  close_receives d code b up a =
      let b' : Wire = after_channel_close d (phase_of d b) b in
      elim (eqb_tells d c) [
        | inl y ↦ subst (λ v. Moves c e x (Some (incoming.ChannelClose d code)) b (after_channel_close v (phase_of v b) b)) (sym y.1) (Ends refl (phase_of c b) (uncrossed (c == 0) (phase_of c b) (subst (λ v. receives_close (At (v == 0) (phase_of v b)) ≡ true) y.1 a)) (place_up c b up)
            (place_here c (after_broker_close (phase_of c b)) b (after_channel_close c (phase_of c b) b) up refl refl)
            (shut_kept c (phase_of c b) b.requests)
            (closes_same c (filter (is_off method_channel c) b.methods) (note c (method.Channel channel.CloseOk)) (no_close c (note c (method.Channel channel.CloseOk)) refl) ∙ closes_gone c b.methods))
        | inr n ↦ Stays refl (place_away c d (after_broker_close (phase_of d b)) b b' refl refl n.0)
            (shut_on_away c d (kept_at (phase_of d b)) b.requests n.0)
            (closes_same c (filter (is_off method_channel d) b.methods) (note d (method.Channel channel.CloseOk)) (no_close c (note d (method.Channel channel.CloseOk)) refl) ∙ closes_away d c b.methods n.0)
      ]

  answered : (d : ℕ) (p : ChannelPhase) (b : Wire) → phase_of d b ≡ p → receives_close_ok (At (d == 0) p) ≡ true → b.link ≡ link.Open → Moves c e x (Some (incoming.ChannelCloseOk d)) b (after_close_ok d p b)
  answered d (phase.Closing who sent) b q a up = elim (eqb_tells d c) [
    | inl y ↦
        let was : place_of c b ≡ Some (phase.Closing who sent) = subst (λ v. place_of v b ≡ Some (phase.Closing who sent)) y.1 (place_up d b up ∙ ap Some q) in
        subst (λ v. Moves c e x (Some (incoming.ChannelCloseOk v)) b (after_close_ok v (phase.Closing who sent) b)) (sym y.1) (Closes (eq-eqb c c refl) who sent was
        (place_here c phase.Closed b (after_close_ok c (phase.Closing who sent) b) up refl refl)
        (shut_none c b.requests)
        (closes_gone c b.methods))
    | inr n ↦ Stays n.0 (place_away c d phase.Closed b (after_close_ok d (phase.Closing who sent) b) refl refl n.0)
        (shut_on_away c d no_requests b.requests n.0)
        (closes_away d c b.methods n.0)
  ]
  answered d phase.Crossed b q a up = elim (eqb_tells d c) [
    | inl y ↦
        let was : place_of c b ≡ Some phase.Crossed = subst (λ v. place_of v b ≡ Some phase.Crossed) y.1 (place_up d b up ∙ ap Some q) in
        subst (λ v. Moves c e x (Some (incoming.ChannelCloseOk v)) b (after_close_ok v phase.Crossed b)) (sym y.1) (Uncrosses (eq-eqb c c refl) was
        (place_here c phase.Closed b (after_close_ok c phase.Crossed b) up refl refl)
        (shut_taken_here c b.requests)
        refl)
    | inr n ↦ Stays n.0 (place_away c d phase.Closed b (after_close_ok d phase.Crossed b) refl refl n.0) (shut_on_away c d (without_kind reply_kind.ChannelCloseOk) b.requests n.0) refl
  ]
  answered d phase.Closed b q a up = absurd (closed_hears_no_ok (d == 0) a)
  answered d phase.Opening b q a up = absurd (opening_hears_no_ok (d == 0) a)
  answered d (phase.Open paused) b q a up = absurd (open_hears_no_ok (d == 0) a)

  -- ---- contents and consumers

  part_receives : (d : ℕ) (p : ContentPart) (b : Wire) → Hears c e x b (incoming.Content d p) record_.Received
  part_receives d (part.GetOk s) b = taken d reply_kind.BasicGetOk (incoming.Content d (part.GetOk s)) b (after_get_ok d s b) refl refl refl refl refl refl
  part_receives d (part.Return s) b = Stays refl refl refl refl
  part_receives d (part.Deliver tag s) b = Stays refl refl refl refl
  part_receives d (part.Header s) b = Stays refl refl refl refl
  part_receives d (part.Body bytes) b = Stays refl refl refl refl

  cancel_moves : (d : ℕ) (tag : List ℕ) (nowait t : Bool) (b : Wire) → Moves c e x (Some (incoming.Consumer d (consumer.Cancel tag nowait))) b (cond t (noted d (method.Basic (basic.CancelOk tag)) b) b)
  cancel_moves d tag nowait true b = Stays refl refl refl (noted_same c d (method.Basic (basic.CancelOk tag)) b refl)
  cancel_moves d tag nowait false b = Stays refl refl refl refl

  consumer_receives : (d : ℕ) (p : ConsumerPart) (b : Wire) → Hears c e x b (incoming.Consumer d p) record_.Received
  consumer_receives d (consumer.ConsumeOk tag) b = taken d reply_kind.BasicConsumeOk (incoming.Consumer d (consumer.ConsumeOk tag)) b (after_reply d reply_kind.BasicConsumeOk b) refl refl refl refl refl refl
  consumer_receives d (consumer.CancelOk tag) b = taken d reply_kind.BasicCancelOk (incoming.Consumer d (consumer.CancelOk tag)) b (after_reply d reply_kind.BasicCancelOk b) refl refl refl refl refl refl
  consumer_receives d consumer.RecoverOk b = taken d reply_kind.BasicRecoverOk (incoming.Consumer d consumer.RecoverOk) b (after_reply d reply_kind.BasicRecoverOk b) refl refl refl refl refl refl
  consumer_receives d (consumer.Cancel tag nowait) b = cancel_moves d tag nowait (is_open (state_of d b) && not nowait) b

  -- ---- all frames

  up_receives : (b : Wire) (readings : Readings) (i : Incoming) → is_plain i ≡ true → b.link ≡ link.Open → Hears c e x b i (incoming_up b readings no i)
  up_receives b readings (incoming.Reply d k a) plain up = received_if (receives_reply d k b) b (incoming.Reply d k a) (λ h. reply_receives d k a b plain up h)
  up_receives b readings (incoming.Settlement d z) plain up = settlement_receives d z readings b up
  up_receives b readings (incoming.Content d p) plain up = received_if (receives_part d p b) b (incoming.Content d p) (λ h. part_receives d p b)
  up_receives b readings (incoming.Consumer d p) plain up = received_if (receives_consumer d p b) b (incoming.Consumer d p) (λ h. consumer_receives d p b)
  up_receives b readings (incoming.Flow d active) plain up = received_if (receives_on (state_of d b)) b (incoming.Flow d active) (λ _. flow_moves d active b up)
  up_receives b readings (incoming.ChannelClose d code) plain up = received_if (receives_close (state_of d b)) b (incoming.ChannelClose d code) (λ a. close_receives d code b up (ap receives_close (sym (state_up d b up)) ∙ a))
  up_receives b readings (incoming.ChannelCloseOk d) plain up = received_if (receives_close_ok (state_of d b)) b (incoming.ChannelCloseOk d) (λ a. answered d (phase_of d b) b refl (ap receives_close_ok (sym (state_up d b up)) ∙ a) up)
  up_receives b readings (incoming.ConnectionClose code) plain up = subst (λ l. Moves c e x (Some (incoming.ConnectionClose code)) b (after_connection_close l b)) (sym up) (Falls refl)
  up_receives b readings incoming.ConnectionCloseOk plain up = unreceived b incoming.ConnectionCloseOk
  up_receives b readings incoming.Other plain up = unreceived b incoming.Other

  passed : (b : Wire) (i : Incoming) → is_up b.link ≡ false → Moves c e x (Some i) b b
  passed b i d = Falls (place_down c b d)

  down_receives : (l : ConnectionPhase) (b : Wire) (i : Incoming) → b.link ≡ l → is_up l ≡ false → Hears c e x b i (cond (receives_down l i) record_.Received record_.Passed)
  down_receives link.Open b i q d = absurd cc
  down_receives link.Closed b i q d = passed b i (rw q refl)
  down_receives link.Lost b i q d = passed b i (rw q refl)
  down_receives (link.Closing s) b incoming.ConnectionCloseOk q d = Falls refl
  down_receives (link.Closing stage.Crossed) b (incoming.ConnectionClose code) q d = passed b (incoming.ConnectionClose code) (rw q refl)
  down_receives (link.Closing stage.Sent) b (incoming.ConnectionClose code) q d = subst (λ l. Moves c e x (Some (incoming.ConnectionClose code)) b (after_connection_close l b)) (sym q) (Falls refl)
  down_receives (link.Closing stage.Queued) b (incoming.ConnectionClose code) q d = subst (λ l. Moves c e x (Some (incoming.ConnectionClose code)) b (after_connection_close l b)) (sym q) (Falls refl)
  down_receives (link.Closing s) b (incoming.Reply d k a) q z = passed b (incoming.Reply d k a) (rw q refl)
  down_receives (link.Closing s) b (incoming.Settlement d k) q z = passed b (incoming.Settlement d k) (rw q refl)
  down_receives (link.Closing s) b (incoming.Content d p) q z = passed b (incoming.Content d p) (rw q refl)
  down_receives (link.Closing s) b (incoming.Consumer d p) q z = passed b (incoming.Consumer d p) (rw q refl)
  down_receives (link.Closing s) b (incoming.Flow d active) q z = passed b (incoming.Flow d active) (rw q refl)
  down_receives (link.Closing s) b (incoming.ChannelClose d code) q z = passed b (incoming.ChannelClose d code) (rw q refl)
  down_receives (link.Closing s) b (incoming.ChannelCloseOk d) q z = passed b (incoming.ChannelCloseOk d) (rw q refl)
  down_receives (link.Closing s) b incoming.Other q z = passed b incoming.Other (rw q refl)

  pub incoming_move : (l : ConnectionPhase) (b : Wire) (readings : Readings) (i : Incoming) → is_plain i ≡ true → b.link ≡ l → Moves c e x (Some i) b (incoming_wire i (incoming_record b readings no i) b)
  incoming_move l b readings i plain q = subst (Hears c e x b i) (sym is) (elim (is_up l) as (λ t. is_up l ≡ t → Hears c e x b i (cond t (incoming_up b readings no i) (cond (receives_down l i) record_.Received record_.Passed))) [
    | true ↦ λ u. up_receives b readings i plain (q ∙ up_open l u)
    | false ↦ λ u. down_receives l b i q u
  ] refl)
    where
      is : incoming_record b readings no i ≡ cond (is_up l) (incoming_up b readings no i) (cond (receives_down l i) record_.Received record_.Passed)
      is = ap (λ l. cond (is_up l) (incoming_up b readings no i) (cond (receives_down l i) record_.Received record_.Passed)) q

-- ---- a loss

lost_move : (c : ℕ) (e : Event) (x : Record) (b : Wire) → Moves c e x None b (after_lost b)
lost_move c e x b = elim (is_lost b.link) as (λ t. is_lost b.link ≡ t → Moves c e x None b (cond t b (down link.Lost b))) [
  | true ↦ λ h. Falls (place_down c b (lost_down b.link h))
  | false ↦ λ h. Falls refl
] refl

-- ---- how frames are sorted

plain_channel : (c : ℕ) (m : ChannelMethod) → is_plain (incoming_method c (method.Channel m)) ≡ true
plain_channel c channel.OpenOk = refl
plain_channel c (channel.Flow active) = refl
plain_channel c (channel.FlowOk active) = refl
plain_channel c (channel.Close code text class number) = refl
plain_channel c channel.CloseOk = refl
plain_channel c _ = refl

plain_exchange : (c : ℕ) (m : ExchangeMethod) → is_plain (incoming_method c (method.Exchange m)) ≡ true
plain_exchange c exchange.DeclareOk = refl
plain_exchange c _ = refl

plain_queue : (c : ℕ) (m : QueueMethod) → is_plain (incoming_method c (method.Queue m)) ≡ true
plain_queue c queue.BindOk = refl
plain_queue c _ = refl

plain_basic : (c : ℕ) (m : BasicMethod) → is_plain (incoming_method c (method.Basic m)) ≡ true
plain_basic c basic.QosOk = refl
plain_basic c _ = refl

plain_confirm : (c : ℕ) (m : ConfirmMethod) → is_plain (incoming_method c (method.Confirm m)) ≡ true
plain_confirm c confirm.SelectOk = refl
plain_confirm c _ = refl

plain_tx : (c : ℕ) (m : TxMethod) → is_plain (incoming_method c (method.Tx m)) ≡ true
plain_tx c tx.SelectOk = refl
plain_tx c _ = refl

plain_own : (c : ℕ) (i : Incoming) → is_plain i ≡ true → is_plain (on_connection c i) ≡ true
plain_own c i h = elim (c == 0) as (λ v. is_plain (cond v i incoming.Other) ≡ true) [ true ↦ h | false ↦ refl ]

pub plain_frame : (f : Frame) → is_plain (incoming_of f) ≡ true
plain_frame (frame.Header c h) = refl
plain_frame (frame.Body c bytes) = refl
plain_frame (frame.Method c (method.Connection (connection.Close code text class number))) = plain_own c (incoming.ConnectionClose code) refl
plain_frame (frame.Method c (method.Connection connection.CloseOk)) = plain_own c incoming.ConnectionCloseOk refl
plain_frame (frame.Method c (method.Channel m)) = plain_channel c m
plain_frame (frame.Method c (method.Access access.RequestOk)) = refl
plain_frame (frame.Method c (method.Access (access.Request a b d g h i))) = refl
plain_frame (frame.Method c (method.Exchange m)) = plain_exchange c m
plain_frame (frame.Method c (method.Queue m)) = plain_queue c m
plain_frame (frame.Method c (method.Basic m)) = plain_basic c m
plain_frame (frame.Method c (method.Confirm m)) = plain_confirm c m
plain_frame (frame.Method c (method.Tx m)) = plain_tx c m

-- ---- all events

pub event_move : (c : ℕ) (b : Wire) (readings : Readings) (e : Event) → is_next e ≡ false → Moves c e (record_of b readings e) (income_in e) b (after_event b e (record_of b readings e))
event_move c b readings (event.Call d k) h = call_move c d k b readings
event_move c b readings (event.Next flow) h = absurd cc
event_move c b readings (event.Receive f) h = incoming_move c (event.Receive f) (record_of b readings (event.Receive f)) (frame_class f) (frame_method f) b.link b readings (incoming_of f) (plain_frame f) refl
event_move c b readings (event.PollTicket n) h = Stays refl refl refl refl
event_move c b readings (event.PollConfirm n) h = Stays refl refl refl refl
event_move c b readings (event.PollConsumer n) h = Stays refl refl refl refl
event_move c b readings (event.PollWait d) h = Stays refl refl refl refl
event_move c b readings (event.AsideTicket n) h = Stays refl refl refl refl
event_move c b readings (event.AsideConfirm n) h = Stays refl refl refl refl
event_move c b readings (event.Acker n k) h = acker_move c (event.Acker n k) _ (usable_at n b) k b
event_move c b readings (event.Delegate n) h = Stays refl refl refl refl
event_move c b readings (event.DropConsumer n) h = let_go_move c (event.DropConsumer n) _ (consumer_at n b.deliveries.subscriptions) b
event_move c b readings event.NextJob h = Stays refl refl refl refl
event_move c b readings (event.State d) h = Stays refl refl refl refl
event_move c b readings event.Lost h = lost_move c event.Lost _ b
