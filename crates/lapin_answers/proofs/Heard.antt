-- What a frame of the broker, and a loss, does to what a channel asks for.
use Rattle.std.proofs.Common.{◌≡◌, ◌∙◌, ℕ, ◌==◌, Bool, true, false, cond, not, ◌&&◌, ◌||◌, List, [], Some, None, inl, inr, refl, sym, ap, subst}
use Rattle.std.specs.List.{filter}
use Rattle.std.proofs.lemmas.Bool.{and_parts}
use Rattle.std.proofs.lemmas.Bool.Decides.{eqb_tells}
use Rattle.lapin_types.specs.declared.event.Event.{Event}
use Rattle.lapin_types.specs.declared.answer.Answer.{Answer}
use Rattle.lapin_types.specs.declared.record.Record.{Record}
use Rattle.lapin_types.specs.declared.record.Record.TheVariants as record_
use Rattle.lapin_types.specs.declared.request.ReplyKind.{ReplyKind}
use Rattle.lapin_types.specs.declared.request.ReplyKind.TheVariants as reply_kind
use Rattle.lapin_types.specs.Types.{Method}
use Rattle.lapin_types.specs.Types.frame
use Rattle.lapin_types.specs.Types.method
use Rattle.lapin_types.specs.Types.basic
use Rattle.lapin_types.specs.Types.channel
use Rattle.lapin_types.specs.Types.connection
use Rattle.lapin_types.specs.Types.error
use Rattle.lapin_types.specs.Types.channel_state as state
use Rattle.lapin_rules.specs.declared.marks.Settlement.{Settlement}
use Rattle.lapin_rules.specs.declared.broker_frames.ConsumerPart.{ConsumerPart}
use Rattle.lapin_rules.specs.declared.broker_frames.ConsumerPart.TheVariants as consumer
use Rattle.lapin_rules.specs.declared.broker_frames.ContentPart.{ContentPart}
use Rattle.lapin_rules.specs.declared.broker_frames.ContentPart.TheVariants as part
use Rattle.lapin_rules.specs.declared.broker_frames.Incoming.{Incoming}
use Rattle.lapin_rules.specs.declared.broker_frames.Incoming.TheVariants as incoming
use Rattle.lapin_rules.specs.declared.phases.ChannelPhase.{ChannelPhase}
use Rattle.lapin_rules.specs.declared.phases.ChannelPhase.TheVariants as phase
use Rattle.lapin_rules.specs.declared.phases.ConnectionPhase.{ConnectionPhase}
use Rattle.lapin_rules.specs.declared.phases.ConnectionPhase.TheVariants as link
use Rattle.lapin_rules.specs.declared.phases.CloseStage.TheVariants as stage
use Rattle.lapin_rules.specs.declared.phases.Closer.TheVariants as closer
use Rattle.lapin_rules.specs.Words.{with_channel, is_some}
use Rattle.lapin_rules.specs.Phases.{is_up, is_live, is_lost}
use Rattle.lapin_rules.specs.Frames.{MethodEntry}
use Rattle.lapin_rules.specs.Drops.{is_off, method_channel}
use Rattle.lapin_rules.specs.Requests.{first_request, without_request, without_kind, no_requests}
use Rattle.lapin_rules.specs.Ends.{down}
use Rattle.lapin_rules.specs.Readings.{Readings}
use Rattle.lapin_rules.specs.Wire.{Wire, requests_of, state_of, phase_of, is_open, is_opening, noted, lists_of, receives_on}
use Rattle.lapin_rules.specs.Opening.{opens, phases_with}
use Rattle.lapin_rules.specs.ChannelClose.{kept_at, closing, after_close_ok, after_channel_close, after_broker_close, receives_close, receives_close_ok}
use Rattle.lapin_rules.specs.ConnectionClose.{unless_sent, has_sent, receives_down, after_connection_close}
use Rattle.lapin_rules.specs.Settlement.{settlement_record, session_close}
use Rattle.lapin_rules.specs.Reply.{receives, receives_reply, after_reply}
use Rattle.lapin_rules.specs.Flow.{after_flow}
use Rattle.lapin_rules.specs.Content.{receives_part, after_get_ok}
use Rattle.lapin_rules.specs.Consumers.{receives_consumer}
use Rattle.lapin_rules.specs.Unexpected.{refused, unexpected_close}
use Rattle.lapin_rules.specs.Loss.{after_lost}
use Rattle.lapin_rules.specs.Receiving.{when, incoming_up, incoming_record, incoming_wire}
use Rattle.lapin_broker.specs.Frames.{client_frame}
use Rattle.lapin_pairs.specs.Channel.{BOpenOk, BReply}
use Rattle.lapin_pairs.specs.Every.{ToD}
use Rattle.lapin_concord.specs.Wires.{reply_number, is_asked}
use Rattle.lapin_concord.specs.Incomes.{income_as}
use Rattle.lapin_concord.proofs.Views.{phase_at, requests_at, requests_on_away, contents_on_here}
use Rattle.lapin_effects.specs.Effects.{live, hears}
use Rattle.lapin_verdicts.specs.Answers.{awaits_as}
use Rattle.lapin_answers.proofs.Rows.{is_reply_down, asked_comes}
use Rattle.lapin_answers.proofs.Lists.{asks, open_asks, is_ask_on, lefts_of, waiting_asks, without_other, without_away, without_here, on_other, ended_here, ended_none, quiet_ask, waits_same, waits_gone, waits_away}
use Rattle.lapin_answers.proofs.Turns.{Stays, Shrinks, Begins, Ends, Sinks, Turns, At, entry, hears_at, hears_down, hear_away, hear_here, moved_turn}
use Rattle.lapin_rules.proofs.PhaseLaws.{up_open, opens_only, lost_down, open_hears_no_ok}
use Rattle.lapin_answers.proofs.Phases.{closed_hears_no_ok, opening_hears_no_ok}

-- ---- what is queued by no call

abbrev note : ℕ → Method → MethodEntry
note d m = entry d m None

abbrev Hears : ℕ → Event → Record → Wire → Incoming → Record → Type 0
Hears c e x b i r = Turns c e x (Some i) b (incoming_wire i r b)

noted_same : (c d : ℕ) (m : Method) (b : Wire) → awaits_as (client_frame (frame.Method d m)) ≡ false → waiting_asks c (noted d m b) ≡ waiting_asks c b
noted_same c d m b h = waits_same c b.methods (note d m) (quiet_ask c (note d m) h)

module _ (c : ℕ) (e : Event) (x : Record) (class number : ℕ) where
  abbrev no : Record
  no = refused class number

  -- a frame that no rule hears ends everything
  unreceived : (b : Wire) (i : Incoming) → Hears c e x b i no
  unreceived b i = Ends refl refl (waits_same c [] (note 0 (unexpected_close class number)) (quiet_ask c (note 0 (unexpected_close class number)) refl)) refl

  received_if : (t : Bool) (b : Wire) (i : Incoming) → (t ≡ true → Hears c e x b i record_.Received) → Hears c e x b i (when t no)
  received_if true b i h = h refl
  received_if false b i h = unreceived b i

  -- ---- replies

  state_up : (d : ℕ) (b : Wire) → b.link ≡ link.Open → state_of d b ≡ At (d == 0) (phase_of d b)
  state_up d b up = rw up refl

  opening_at : (z : Bool) (p : ChannelPhase) → is_opening (At z p) ≡ true → (z ≡ false) × (p ≡ phase.Opening)
  opening_at true p h = absurd cc
  opening_at false phase.Opening h = (refl, refl)
  opening_at false _ h = absurd cc

  -- a reply that asks for no more takes its request
  taken : (d : ℕ) (k : ReplyKind) (i : Incoming) (b b' : Wire) → b'.link ≡ b.link → b'.phases ≡ b.phases → b'.requests ≡ (after_reply d k b).requests → b'.methods ≡ b.methods → is_asked k ≡ true → ((z : ℕ) → (content : Bool) × (income_as i ≡ ToD d (BReply (reply_number k) content))) → hears d b ≡ true → Turns c e x (Some i) b b'
  taken d k i b b' l ps rs ms a comes heard =
      let waits : waiting_asks c b' ≡ waiting_asks c b = ap (λ v. filter (is_ask_on c) (lefts_of v)) ms in
      let hear : hears c b' ≡ hears c b = ap (λ v. receives_on (cond (is_up v) (At (c == 0) (phase_of c b')) state.Down)) l ∙ ap (λ v. receives_on (cond (is_up b.link) (At (c == 0) (phase_at c v)) state.Down)) ps in
      elim (eqb_tells d c) [
        | inl y ↦
            let was : hears c b ≡ true = subst (λ v. hears v b ≡ true) y.1 heard in
            let on : (content : Bool) × (income_as i ≡ ToD c (BReply (reply_number k) content)) = subst (λ v. (content : Bool) × (income_as i ≡ ToD v (BReply (reply_number k) content))) y.1 (comes 0) in
            let left : open_asks c b' ≡ without_kind k (open_asks c b) = ap (λ v. filter asks (requests_at c v)) rs ∙ subst (λ v. filter asks (requests_at c (without_request v k b.requests)) ≡ without_kind k (open_asks c b)) (sym y.1) (without_here c k b.requests a) in
            Shrinks k on a was (hear ∙ was) left waits
        | inr n ↦
            let calm : is_reply_down c (income_as i) ≡ false = ap (is_reply_down c) (comes 0).1 ∙ n.0 in
            Stays calm hear (ap (λ v. filter asks (requests_at c v)) rs ∙ without_away c d k b.requests n.0) waits
      ]

  opened : (d : ℕ) (a : Answer) (b : Wire) → b.link ≡ link.Open → is_opening (At (d == 0) (phase_of d b)) ≡ true → Hears c e x b (incoming.Reply d reply_kind.ChannelOpenOk a) record_.Received
  opened d a b up h =
      let b' : Wire = after_reply d reply_kind.ChannelOpenOk b in
      let rs : open_asks c b' ≡ open_asks c b = without_other c d reply_kind.ChannelOpenOk b.requests refl in
      elim (eqb_tells d c) [
        | inl y ↦
            let o = opening_at (d == 0) (phase_of d b) h in
            let deaf : hears c b ≡ false = subst (λ v. hears v b ≡ false) y.1 (hears_at d b phase.Opening up o.1 ∙ ap (λ v. receives_on (At v phase.Opening)) o.0) in
            let now : hears c b' ≡ true = subst (λ v. hears v b' ≡ true) y.1 (hear_here d (phase.Open false) b b' up refl refl ∙ ap (λ v. receives_on (At v (phase.Open false))) o.0) in
            let alive : live c b ≡ true = subst (λ v. live v b ≡ true) y.1 (ap (λ v. is_up v && is_live (phase_of d b)) up ∙ ap is_live o.1) in
            Begins (ap (λ v. ToD v BOpenOk) y.1) alive deaf now rs refl
        | inr n ↦ Stays refl (hear_away c d (phase.Open false) b b' refl refl n.0) rs refl
      ]

  closed_reply : (d : ℕ) (k : ReplyKind) (a : Answer) (b : Wire) → opens k ≡ false → is_asked k ≡ false → Hears c e x b (incoming.Reply d k a) record_.Received
  closed_reply d reply_kind.ChannelCloseOk a b o k = Stays refl refl (without_other c d reply_kind.ChannelCloseOk b.requests refl) refl
  closed_reply d reply_kind.ConnectionCloseOk a b o k = Stays refl refl (without_other c d reply_kind.ConnectionCloseOk b.requests refl) refl
  closed_reply d reply_kind.ChannelOpenOk a b o k = absurd cc
  closed_reply d _ a b o k = absurd cc

  asked_phases : (d : ℕ) (k : ReplyKind) (all : List (ℕ × ChannelPhase)) → is_asked k ≡ true → (phases_with d k all ≡ all) × (opens k ≡ false)
  asked_phases d reply_kind.ChannelOpenOk all h = absurd cc
  asked_phases d reply_kind.ChannelFlowOk all h = (refl, refl)
  asked_phases d _ all h = (refl, refl)

  reply_receives : (d : ℕ) (k : ReplyKind) (a : Answer) (b : Wire) → b.link ≡ link.Open → receives_reply d k b ≡ true → Hears c e x b (incoming.Reply d k a) record_.Received
  reply_receives d k a b up h = by (is_asked k) (opens k) refl refl
    where
      here : cond (opens k) (is_opening (state_of d b)) (receives_on (state_of d b)) ≡ true
      here = (and_parts (receives k (state_of d b)) (is_some (first_request k (requests_of d b))) h).0

      by : (v w : Bool) → is_asked k ≡ v → opens k ≡ w → Hears c e x b (incoming.Reply d k a) record_.Received
      by true w q o =
          let p = asked_phases d k b.phases q in
          let on : hears d b ≡ true = ap (λ v. cond v (is_opening (state_of d b)) (receives_on (state_of d b))) (sym p.1) ∙ here in
          taken d k (incoming.Reply d k a) b (after_reply d k b) refl p.0 refl refl q (λ z. (false, asked_comes d k a q)) on
      by false true q o =
          let is = opens_only k o in
          let on : is_opening (At (d == 0) (phase_of d b)) ≡ true = ap is_opening (sym (state_up d b up)) ∙ (ap (λ v. cond v (is_opening (state_of d b)) (receives_on (state_of d b))) (sym o) ∙ here) in
          subst (λ v. Hears c e x b (incoming.Reply d v a) record_.Received) (sym is) (opened d a b up on)
      by false false q o = closed_reply d k a b o q

  -- a reply of a kind that the session hears apart
  part_taken : (d : ℕ) (k : ReplyKind) (i : Incoming) (b b' : Wire) → is_asked k ≡ true → b'.link ≡ b.link → b'.phases ≡ phases_with d k b.phases → b'.requests ≡ (after_reply d k b).requests → b'.methods ≡ b.methods → ((z : ℕ) → (content : Bool) × (income_as i ≡ ToD d (BReply (reply_number k) content))) → receives_reply d k b ≡ true → Turns c e x (Some i) b b'
  part_taken d k i b b' q l ps rs ms comes h =
      let p = asked_phases d k b.phases q in
      let here : cond (opens k) (is_opening (state_of d b)) (receives_on (state_of d b)) ≡ true = (and_parts (receives k (state_of d b)) (is_some (first_request k (requests_of d b))) h).0 in
      taken d k i b b' l (ps ∙ p.0) rs ms q comes (ap (λ v. cond v (is_opening (state_of d b)) (receives_on (state_of d b))) (sym p.1) ∙ here)

  -- ---- settlements and flow

  failed_receives : (d tag current : ℕ) (z : Settlement) (b : Wire) → b.link ≡ link.Open → Hears c e x b (incoming.Settlement d z) (record_.Refused (error.PreconditionFailed tag current))
  failed_receives d tag current z b up = elim (is_open (state_of d b)) as (λ t. is_open (state_of d b) ≡ t → Turns c e x (Some (incoming.Settlement d z)) b (cond t (noted d (session_close z.kind) (closing d closer.Session b)) b)) [
    | true ↦ λ a. Stays refl (moved_turn c d (phase.Closing closer.Session false) b (noted d (session_close z.kind) (closing d closer.Session b)) up refl refl (ap is_open (sym (state_up d b up)) ∙ a) refl) refl (noted_same c d (session_close z.kind) b refl)
    | false ↦ λ a. Stays refl refl refl refl
  ] refl

  settlement_receives : (d : ℕ) (z : Settlement) (readings : Readings) (b : Wire) → b.link ≡ link.Open → Hears c e x b (incoming.Settlement d z) (cond (receives_on (state_of d b)) (settlement_record readings d z) no)
  settlement_receives d z readings b up = elim (receives_on (state_of d b)) as (λ t. Hears c e x b (incoming.Settlement d z) (cond t (settlement_record readings d z) no)) [
    | true ↦ elim (readings.selected d) as (λ t. Hears c e x b (incoming.Settlement d z) (cond t (cond (z.multiple || readings.pending d z.tag) record_.Received (record_.Refused (error.PreconditionFailed z.tag (readings.last d)))) record_.Passed)) [
      | true ↦ elim (z.multiple || readings.pending d z.tag) as (λ t. Hears c e x b (incoming.Settlement d z) (cond t record_.Received (record_.Refused (error.PreconditionFailed z.tag (readings.last d))))) [
        | true ↦ Stays refl refl refl refl
        | false ↦ failed_receives d z.tag (readings.last d) z b up
      ]
      | false ↦ Stays refl refl refl refl
    ]
    | false ↦ unreceived b (incoming.Settlement d z)
  ]

  flow_moves : (d : ℕ) (active : Bool) (b : Wire) → b.link ≡ link.Open → Turns c e x (Some (incoming.Flow d active)) b (after_flow d active b)
  flow_moves d active b up =
      let to : Wire = noted d (method.Channel (channel.FlowOk active)) (record b { phases = with_channel d (phase.Open (not active)) b.phases }) in
      elim (is_open (state_of d b)) as (λ t. is_open (state_of d b) ≡ t → Turns c e x (Some (incoming.Flow d active)) b (cond t to b)) [
        | true ↦ λ a. Stays refl (moved_turn c d (phase.Open (not active)) b to up refl refl (ap is_open (sym (state_up d b up)) ∙ a) refl) refl (noted_same c d (method.Channel (channel.FlowOk active)) b refl)
        | false ↦ λ a. Stays refl refl refl refl
      ] refl

  -- ---- closes

  over_deaf : (z : Bool) (p : ChannelPhase) → receives_on (At z (after_broker_close p)) ≡ false
  over_deaf true p = refl
  over_deaf false phase.Closed = refl
  over_deaf false phase.Opening = refl
  over_deaf false (phase.Open paused) = refl
  over_deaf false (phase.Closing who true) = refl
  over_deaf false (phase.Closing who false) = refl
  over_deaf false phase.Crossed = refl

  closed_deaf : (z : Bool) → receives_on (At z phase.Closed) ≡ false
  closed_deaf true = refl
  closed_deaf false = refl

  close_receives : (d code : ℕ) (b : Wire) → b.link ≡ link.Open → Hears c e x b (incoming.ChannelClose d code) record_.Received
  close_receives d code b up =
      let b' : Wire = after_channel_close d (phase_of d b) b in
      elim (eqb_tells d c) [
        | inl y ↦ subst (λ v. Turns c e x (Some (incoming.ChannelClose d code)) b (after_channel_close v (phase_of v b) b)) (sym y.1) (Ends
            (hear_here c (after_broker_close (phase_of c b)) b (after_channel_close c (phase_of c b) b) up refl refl ∙ over_deaf (c == 0) (phase_of c b))
            (ended_here c (phase_of c b) b.requests)
            (waits_same c (filter (is_off method_channel c) b.methods) (note c (method.Channel channel.CloseOk)) (quiet_ask c (note c (method.Channel channel.CloseOk)) refl) ∙ waits_gone c b.methods)
            (contents_on_here c (λ _. []) b.contents refl))
        | inr n ↦ Stays refl (hear_away c d (after_broker_close (phase_of d b)) b b' refl refl n.0)
            (ap (filter asks) (requests_on_away d c (kept_at (phase_of d b)) b.requests n.0))
            (waits_same c (filter (is_off method_channel d) b.methods) (note d (method.Channel channel.CloseOk)) (quiet_ask c (note d (method.Channel channel.CloseOk)) refl) ∙ waits_away d c b.methods n.0)
      ]

  crossed_deaf : (z : Bool) → receives_on (At z phase.Crossed) ≡ false
  crossed_deaf true = refl
  crossed_deaf false = refl

  answered : (d : ℕ) (p : ChannelPhase) (b : Wire) → phase_of d b ≡ p → receives_close_ok (At (d == 0) p) ≡ true → b.link ≡ link.Open → Turns c e x (Some (incoming.ChannelCloseOk d)) b (after_close_ok d p b)
  answered d (phase.Closing who sent) b q a up = elim (eqb_tells d c) [
    | inl y ↦ subst (λ v. Turns c e x (Some (incoming.ChannelCloseOk d)) b (after_close_ok v (phase.Closing who sent) b)) (sym y.1) (Ends
        (hear_here c phase.Closed b (after_close_ok c (phase.Closing who sent) b) up refl refl ∙ closed_deaf (c == 0))
        (ended_none c b.requests)
        (waits_gone c b.methods)
        (contents_on_here c (λ _. []) b.contents refl))
    | inr n ↦ Stays refl (hear_away c d phase.Closed b (after_close_ok d (phase.Closing who sent) b) refl refl n.0)
        (ap (filter asks) (requests_on_away d c no_requests b.requests n.0))
        (waits_away d c b.methods n.0)
  ]
  answered d phase.Crossed b q a up = elim (eqb_tells d c) [
    | inl y ↦
        let deaf : hears c b ≡ false = subst (λ v. hears v b ≡ false) y.1 (hears_at d b phase.Crossed up q ∙ crossed_deaf (d == 0)) in
        let now : hears c (after_close_ok d phase.Crossed b) ≡ false = subst (λ v. hears v (after_close_ok d phase.Crossed b) ≡ false) y.1 (hear_here d phase.Closed b (after_close_ok d phase.Crossed b) up refl refl ∙ closed_deaf (d == 0)) in
        Stays refl (now ∙ sym deaf) (on_other c d reply_kind.ChannelCloseOk b.requests refl) refl
    | inr n ↦ Stays refl (hear_away c d phase.Closed b (after_close_ok d phase.Crossed b) refl refl n.0) (on_other c d reply_kind.ChannelCloseOk b.requests refl) refl
  ]
  answered d phase.Closed b q a up = absurd (closed_hears_no_ok (d == 0) a)
  answered d phase.Opening b q a up = absurd (opening_hears_no_ok (d == 0) a)
  answered d (phase.Open paused) b q a up = absurd (open_hears_no_ok (d == 0) a)

  -- ---- contents and consumers

  part_receives : (d : ℕ) (p : ContentPart) (b : Wire) → b.link ≡ link.Open → receives_part d p b ≡ true → Hears c e x b (incoming.Content d p) record_.Received
  part_receives d (part.GetOk s) b up h = part_taken d reply_kind.BasicGetOk (incoming.Content d (part.GetOk s)) b (after_get_ok d s b) refl refl refl refl refl (λ z. (true, refl)) h
  part_receives d (part.Return s) b up h = Stays refl refl refl refl
  part_receives d (part.Deliver tag s) b up h = Stays refl refl refl refl
  part_receives d (part.Header s) b up h = Stays refl refl refl refl
  part_receives d (part.Body bytes) b up h = Stays refl refl refl refl

  cancel_moves : (d : ℕ) (tag : List ℕ) (nowait t : Bool) (b : Wire) → Turns c e x (Some (incoming.Consumer d (consumer.Cancel tag nowait))) b (cond t (noted d (method.Basic (basic.CancelOk tag)) b) b)
  cancel_moves d tag nowait true b = Stays refl refl refl (noted_same c d (method.Basic (basic.CancelOk tag)) b refl)
  cancel_moves d tag nowait false b = Stays refl refl refl refl

  consumer_receives : (d : ℕ) (p : ConsumerPart) (b : Wire) → b.link ≡ link.Open → receives_consumer d p b ≡ true → Hears c e x b (incoming.Consumer d p) record_.Received
  consumer_receives d (consumer.ConsumeOk tag) b up h = part_taken d reply_kind.BasicConsumeOk (incoming.Consumer d (consumer.ConsumeOk tag)) b (after_reply d reply_kind.BasicConsumeOk b) refl refl refl refl refl (λ z. (false, refl)) h
  consumer_receives d (consumer.CancelOk tag) b up h = part_taken d reply_kind.BasicCancelOk (incoming.Consumer d (consumer.CancelOk tag)) b (after_reply d reply_kind.BasicCancelOk b) refl refl refl refl refl (λ z. (false, refl)) h
  consumer_receives d consumer.RecoverOk b up h = part_taken d reply_kind.BasicRecoverOk (incoming.Consumer d consumer.RecoverOk) b (after_reply d reply_kind.BasicRecoverOk b) refl refl refl refl refl (λ z. (false, refl)) h
  consumer_receives d (consumer.Cancel tag nowait) b up h = cancel_moves d tag nowait (is_open (state_of d b) && not nowait) b

  -- ---- all frames

  fell : (i : Incoming) (b : Wire) → Turns c e x (Some i) b (noted 0 (method.Connection connection.CloseOk) (down link.Closed b))
  fell i b = Ends refl refl (waits_same c [] (note 0 (method.Connection connection.CloseOk)) (quiet_ask c (note 0 (method.Connection connection.CloseOk)) refl)) refl

  up_receives : (b : Wire) (readings : Readings) (i : Incoming) → b.link ≡ link.Open → Hears c e x b i (incoming_up b readings no i)
  up_receives b readings (incoming.Reply d k a) up = received_if (receives_reply d k b) b (incoming.Reply d k a) (λ h. reply_receives d k a b up h)
  up_receives b readings (incoming.Settlement d z) up = settlement_receives d z readings b up
  up_receives b readings (incoming.Content d p) up = received_if (receives_part d p b) b (incoming.Content d p) (λ h. part_receives d p b up h)
  up_receives b readings (incoming.Consumer d p) up = received_if (receives_consumer d p b) b (incoming.Consumer d p) (λ h. consumer_receives d p b up h)
  up_receives b readings (incoming.Flow d active) up = received_if (receives_on (state_of d b)) b (incoming.Flow d active) (λ _. flow_moves d active b up)
  up_receives b readings (incoming.ChannelClose d code) up = received_if (receives_close (state_of d b)) b (incoming.ChannelClose d code) (λ _. close_receives d code b up)
  up_receives b readings (incoming.ChannelCloseOk d) up = received_if (receives_close_ok (state_of d b)) b (incoming.ChannelCloseOk d) (λ a. answered d (phase_of d b) b refl (ap receives_close_ok (sym (state_up d b up)) ∙ a) up)
  up_receives b readings (incoming.ConnectionClose code) up = subst (λ l. Turns c e x (Some (incoming.ConnectionClose code)) b (after_connection_close l b)) (sym up) (fell (incoming.ConnectionClose code) b)
  up_receives b readings incoming.ConnectionCloseOk up = unreceived b incoming.ConnectionCloseOk
  up_receives b readings incoming.Other up = unreceived b incoming.Other

  passed : (b : Wire) (i : Incoming) → is_up b.link ≡ false → Turns c e x (Some i) b b
  passed b i d = Sinks (hears_down c b d) (hears_down c b d) (λ v. v) (λ v. v)

  down_receives : (l : ConnectionPhase) (b : Wire) (i : Incoming) → b.link ≡ l → is_up l ≡ false → Hears c e x b i (cond (receives_down l i) record_.Received record_.Passed)
  down_receives link.Open b i q d = absurd cc
  down_receives link.Closed b i q d = passed b i (rw q refl)
  down_receives link.Lost b i q d = passed b i (rw q refl)
  down_receives (link.Closing s) b incoming.ConnectionCloseOk q d = Sinks (hears_down c b (rw q refl)) refl (λ v. on_other c 0 reply_kind.ConnectionCloseOk b.requests refl ∙ v) (unsent (has_sent b.link))
    where
      unsent : (t : Bool) → waiting_asks c b ≡ [] → filter (is_ask_on c) (lefts_of (unless_sent t (lists_of b)).methods) ≡ []
      unsent true h = h
      unsent false h = refl
  down_receives (link.Closing stage.Crossed) b (incoming.ConnectionClose code) q d = passed b (incoming.ConnectionClose code) (rw q refl)
  down_receives (link.Closing stage.Sent) b (incoming.ConnectionClose code) q d =
      subst (λ l. Turns c e x (Some (incoming.ConnectionClose code)) b (after_connection_close l b)) (sym q) (Sinks (hears_down c b (rw q refl)) refl (λ v. v) (λ v. noted_same c 0 (method.Connection connection.CloseOk) b refl ∙ v))
  down_receives (link.Closing stage.Queued) b (incoming.ConnectionClose code) q d =
      subst (λ l. Turns c e x (Some (incoming.ConnectionClose code)) b (after_connection_close l b)) (sym q) (fell (incoming.ConnectionClose code) b)
  down_receives (link.Closing s) b (incoming.Reply d k a) q z = passed b (incoming.Reply d k a) (rw q refl)
  down_receives (link.Closing s) b (incoming.Settlement d k) q z = passed b (incoming.Settlement d k) (rw q refl)
  down_receives (link.Closing s) b (incoming.Content d p) q z = passed b (incoming.Content d p) (rw q refl)
  down_receives (link.Closing s) b (incoming.Consumer d p) q z = passed b (incoming.Consumer d p) (rw q refl)
  down_receives (link.Closing s) b (incoming.Flow d active) q z = passed b (incoming.Flow d active) (rw q refl)
  down_receives (link.Closing s) b (incoming.ChannelClose d code) q z = passed b (incoming.ChannelClose d code) (rw q refl)
  down_receives (link.Closing s) b (incoming.ChannelCloseOk d) q z = passed b (incoming.ChannelCloseOk d) (rw q refl)
  down_receives (link.Closing s) b incoming.Other q z = passed b incoming.Other (rw q refl)

  pub incoming_turn : (l : ConnectionPhase) (b : Wire) (readings : Readings) (i : Incoming) → b.link ≡ l → Turns c e x (Some i) b (incoming_wire i (incoming_record b readings no i) b)
  incoming_turn l b readings i q = subst (Hears c e x b i) (sym is) (elim (is_up l) as (λ t. is_up l ≡ t → Hears c e x b i (cond t (incoming_up b readings no i) (cond (receives_down l i) record_.Received record_.Passed))) [
    | true ↦ λ u. up_receives b readings i (q ∙ up_open l u)
    | false ↦ λ u. down_receives l b i q u
  ] refl)
    where
      is : incoming_record b readings no i ≡ cond (is_up l) (incoming_up b readings no i) (cond (receives_down l i) record_.Received record_.Passed)
      is = ap (λ l. cond (is_up l) (incoming_up b readings no i) (cond (receives_down l i) record_.Received record_.Passed)) q

-- ---- a loss

pub lost_turn : (c : ℕ) (e : Event) (x : Record) (b : Wire) → Turns c e x None b (after_lost b)
lost_turn c e x b = elim (is_lost b.link) as (λ t. is_lost b.link ≡ t → Turns c e x None b (cond t b (down link.Lost b))) [
  | true ↦ λ h. Sinks (hears_down c b (lost_down b.link h)) (hears_down c b (lost_down b.link h)) (λ v. v) (λ v. v)
  | false ↦ λ h. Ends refl refl refl refl
] refl
