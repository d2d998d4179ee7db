-- Which of the seven kinds a frame of the broker is, and every other event.
use Rattle.std.proofs.Common.{◌≡◌, ◌∙◌, ℕ, ◌==◌, Bool, true, false, cond, not, ◌&&◌, ◌||◌, List, [], ◌∷◌, ◌++◌, Option, Some, None, refl, sym, ap, subst, append-nil}
use Rattle.std.specs.List.{list_any}
use Rattle.std.proofs.lemmas.Bool.{and_parts}
use Rattle.lapin_types.specs.declared.record.Record.{Record}
use Rattle.lapin_types.specs.declared.record.Record.TheVariants as record_
use Rattle.lapin_types.specs.declared.request.ReplyKind.{ReplyKind}
use Rattle.lapin_types.specs.declared.request.ReplyKind.TheVariants as reply_kind
use Rattle.lapin_types.specs.Types.{Method, ChannelState, Error}
use Rattle.lapin_types.specs.Types.method
use Rattle.lapin_types.specs.Types.basic
use Rattle.lapin_types.specs.Types.channel
use Rattle.lapin_types.specs.Types.error
use Rattle.lapin_types.specs.Types.channel_state as state
use Rattle.lapin_content.specs.declared.start.Start.{Start}
use Rattle.lapin_content.specs.declared.start.Start.TheVariants as start_
use Rattle.lapin_content.specs.declared.start.Whole.{Whole}
use Rattle.lapin_rules.specs.declared.marks.Settlement.{Settlement}
use Rattle.lapin_rules.specs.declared.broker_frames.ConsumerPart.{ConsumerPart}
use Rattle.lapin_rules.specs.declared.broker_frames.ConsumerPart.TheVariants as consumer
use Rattle.lapin_rules.specs.declared.broker_frames.ContentPart.{ContentPart}
use Rattle.lapin_rules.specs.declared.broker_frames.ContentPart.TheVariants as part
use Rattle.lapin_rules.specs.declared.broker_frames.Incoming.{Incoming}
use Rattle.lapin_rules.specs.declared.broker_frames.Incoming.TheVariants as incoming
use Rattle.lapin_rules.specs.declared.phases.ChannelPhase.{ChannelPhase}
use Rattle.lapin_rules.specs.declared.phases.ChannelPhase.TheVariants as phase
use Rattle.lapin_rules.specs.declared.phases.ConnectionPhase.{ConnectionPhase}
use Rattle.lapin_rules.specs.declared.phases.ConnectionPhase.TheVariants as link
use Rattle.lapin_rules.specs.declared.phases.CloseStage.TheVariants as stage
use Rattle.lapin_rules.specs.declared.phases.Closer.TheVariants as closer
use Rattle.lapin_rules.specs.ConfirmMarks.{ConfirmMark}
use Rattle.lapin_rules.specs.Words.{with_channel, is_some}
use Rattle.lapin_rules.specs.Phases.{is_up, is_lost, is_live, channel_state}
use Rattle.lapin_rules.specs.Frames.{MethodEntry}
use Rattle.lapin_rules.specs.Requests.{first_request}
use Rattle.lapin_rules.specs.Ends.{ends, ends_all, end_with, down, live_channels}
use Rattle.lapin_rules.specs.Readings.{Readings}
use Rattle.lapin_rules.specs.Wire.{Wire, requests_of, state_of, phase_of, is_open, is_opening, noted, lists_of, receives_on}
use Rattle.lapin_rules.specs.Opening.{opens}
use Rattle.lapin_rules.specs.ChannelClose.{closing, close_marks, close_ok_end, after_close_ok, after_channel_close, after_broker_close, receives_close, receives_close_ok, failed_at_close, failed_at_close_ok}
use Rattle.lapin_rules.specs.ConnectionClose.{unless_sent, has_sent, receives_down, after_connection_close}
use Rattle.lapin_rules.specs.Settlement.{settlement_record, session_close}
use Rattle.lapin_rules.specs.Reply.{receives, receives_reply, after_reply}
use Rattle.lapin_rules.specs.Flow.{after_flow}
use Rattle.lapin_rules.specs.Content.{receives_part, start_marks, whole_marks, whole_on}
use Rattle.lapin_rules.specs.Consumers.{receives_consumer}
use Rattle.lapin_rules.specs.Unexpected.{refused, failed_at_unexpected}
use Rattle.lapin_rules.specs.Loss.{after_lost}
use Rattle.lapin_rules.specs.Receiving.{when, incoming_up, incoming_record, incoming_wire, incoming_deliveries, after_incoming, incoming_marks}
use Rattle.lapin_effects.specs.Effects.{live, IsFit, IsQuiet, AreQuiet, moves, grows, Same, Effect, Stays, Closes, Ends, Falls, Sinks}
use Rattle.lapin_effects.proofs.Happens.{phases_kept, but, moved, inboxed, nothing, live_at}
use Rattle.lapin_tables.proofs.Bools.{and_false}
use Rattle.lapin_rules.proofs.PhaseLaws.{up_open, lost_down, broker_over, open_hears_no_ok}

abbrev At : Bool → ChannelPhase → ChannelState
At z p = cond z state.Base (channel_state p)

abbrev Hears : Wire → Incoming → Record → Type 0
Hears b i r = Effect b (incoming_wire i r b) (incoming_marks i r b) []

state_up : (c : ℕ) (b : Wire) → b.link ≡ link.Open → state_of c b ≡ At (c == 0) (phase_of c b)
state_up c b e = rw e refl

-- ends grow nothing
pub ends_grow : (e : Error) (cs : List ℕ) → list_any grows (ends e cs) ≡ false
ends_grow e [] = refl
ends_grow e (c ∷ cs) = ends_grow e cs

pub all_grow : (e : Error) (b : Wire) → list_any grows (ends_all e b) ≡ false
all_grow e b = ends_grow e (live_channels b.phases)

start_still : (c : ℕ) (x : Start) (w : Whole) → list_any moves (start_marks c x w) ≡ false
start_still c (start_.Return code text exchange key) w = refl
start_still c (start_.Get ticket tag exchange key redelivered count) w = refl
start_still c (start_.Deliver consumer tag exchange key redelivered) w = refl

pub whole_still : (c : ℕ) (w : Option Whole) → list_any moves (whole_marks c w) ≡ false
whole_still c None = refl
whole_still c (Some w) = start_still c w.start w

module _ (class number : ℕ) where
  abbrev no : Record
  no = refused class number

  unreceived : (b : Wire) (i : Incoming) → Hears b i no
  unreceived b i = Falls failed_at_unexpected refl refl refl refl refl (record { plain = refl; select = refl }, tt) refl refl

  received_if : (t : Bool) (b : Wire) (i : Incoming) → (t ≡ true → Hears b i record_.Received) → Hears b i (when t no)
  received_if true b i h = h refl
  received_if false b i h = unreceived b i

  opened : (c : ℕ) (t : Bool) (b b' : Wire) → b'.link ≡ b.link → b'.phases ≡ cond t (with_channel c (phase.Open false) b.phases) b.phases → b'.frame_max ≡ b.frame_max → b'.rest ≡ b.rest → b'.published ≡ b.published → (t ≡ true → is_live (phase_of c b) ≡ true) → Same b b'
  opened c true b b' l e m r n h = moved c (phase.Open false) b b' l e m r n (sym (h refl)) (λ _. refl)
  opened c false b b' l e m r n h = phases_kept b b' l e m r n

  opening_live : (t z : Bool) (p : ChannelPhase) → cond t (is_opening (At z p)) (receives_on (At z p)) ≡ true → t ≡ true → is_live p ≡ true
  opening_live true true p h _ = absurd cc
  opening_live true false phase.Opening h _ = refl
  opening_live true false _ h _ = absurd cc
  opening_live false z p h e = absurd cc

  replied : (c : ℕ) (k : ReplyKind) (b : Wire) (xs : List ConfirmMark) → list_any moves xs ≡ false → b.link ≡ link.Open → receives_reply c k b ≡ true → Effect b (after_reply c k b) xs []
  replied c k b xs still e h =
      let here : cond (opens k) (is_opening (At (c == 0) (phase_of c b))) (receives_on (At (c == 0) (phase_of c b))) ≡ true = rw (state_up c b e) at ((and_parts (receives k (state_of c b)) (is_some (first_request k (requests_of c b))) h).0) in
      Stays (opened c (opens k) b (after_reply c k b) refl refl refl refl refl (opening_live (opens k) (c == 0) (phase_of c b) here)) refl [] (sym (append-nil b.methods)) tt still refl

  -- a method that no call asked for
  note_fit : (c : ℕ) (m : Method) (b : Wire) → IsQuiet (record { channel = c; method = m; ticket = None }) → IsFit b (record { channel = c; method = m; ticket = None })
  note_fit c m b q = record { plain = q.plain; select = λ s. let z : true ≡ false = sym s ∙ q.select in absurd cc }

  flow_live : (z : Bool) (p : ChannelPhase) → is_open (At z p) ≡ true → is_live p ≡ true
  flow_live true p h = absurd cc
  flow_live false (phase.Open paused) h = refl
  flow_live false _ h = absurd cc

  flow_moves : (c : ℕ) (active : Bool) (b : Wire) → b.link ≡ link.Open → Effect b (after_flow c active b) [] []
  flow_moves c active b e =
      let to : Wire = noted c (method.Channel (channel.FlowOk active)) (record b { phases = with_channel c (phase.Open (not active)) b.phases }) in
      elim (is_open (state_of c b)) as (λ t. is_open (state_of c b) ≡ t → Effect b (cond t to b) [] []) [
        | true ↦ λ a. Stays (moved c (phase.Open (not active)) b to refl refl refl refl refl (sym (flow_live (c == 0) (phase_of c b) (rw (state_up c b e) at a))) (λ _. refl)) refl _ refl (note_fit c _ b (record { plain = refl; select = refl }), tt) refl refl
        | false ↦ λ a. nothing b [] refl
      ] refl

  flow_receives : (c : ℕ) (active : Bool) (b : Wire) → b.link ≡ link.Open → Hears b (incoming.Flow c active) (when (receives_on (state_of c b)) no)
  flow_receives c active b e = received_if (receives_on (state_of c b)) b (incoming.Flow c active) (λ _. flow_moves c active b e)

  over_live : (c : ℕ) (p : ChannelPhase) (b b' : Wire) → b'.link ≡ b.link → b'.phases ≡ with_channel c p b.phases → is_live p ≡ false → live c b' ≡ false
  over_live c p b b' l e over = live_at c p b b' l e ∙ (rw over (and_false (is_up b.link)))

  close_receives : (c code : ℕ) (b : Wire) → b.link ≡ link.Open → Hears b (incoming.ChannelClose c code) (when (receives_close (state_of c b)) no)
  close_receives c code b e = received_if (receives_close (state_of c b)) b (incoming.ChannelClose c code) (λ _. Ends c (error.ProtocolError code) (but c (after_broker_close (phase_of c b)) b _ refl refl refl refl) (over_live c (after_broker_close (phase_of c b)) b (after_channel_close c (phase_of c b) b) refl refl (broker_over (phase_of c b))) refl refl _ refl (record { plain = refl; select = refl }, tt) refl refl)

  answered : (c : ℕ) (p : ChannelPhase) (b : Wire) → phase_of c b ≡ p → receives_close_ok (At (c == 0) p) ≡ true → b.link ≡ link.Open → Effect b (after_close_ok c p b) (end_with c (close_ok_end p)) []
  answered c (phase.Closing who sent) b q a e = Ends c (failed_at_close_ok who) (but c phase.Closed b _ refl refl refl refl) (over_live c phase.Closed b (after_close_ok c (phase.Closing who sent) b) refl refl refl) refl refl [] (sym (append-nil _)) tt refl refl
  answered c phase.Crossed b q a e = Stays (moved c phase.Closed b _ refl refl refl refl refl (sym (ap is_live q)) (λ h. let z : receives_on (channel_state phase.Crossed) ≡ true = ap (λ v. receives_on (channel_state v)) (sym q) ∙ h in absurd cc)) refl [] (sym (append-nil b.methods)) tt refl refl
  answered c phase.Closed b q a e = absurd (never (c == 0) a)
    where
      never : (z : Bool) → receives_close_ok (At z phase.Closed) ≡ true → ⊥
      never true h = cc
      never false h = cc
  answered c phase.Opening b q a e = absurd (never (c == 0) a)
    where
      never : (z : Bool) → receives_close_ok (At z phase.Opening) ≡ true → ⊥
      never true h = cc
      never false h = cc
  answered c (phase.Open paused) b q a e = absurd (open_hears_no_ok (c == 0) a)

  close_ok_receives : (c : ℕ) (b : Wire) → b.link ≡ link.Open → Hears b (incoming.ChannelCloseOk c) (when (receives_close_ok (state_of c b)) no)
  close_ok_receives c b e = received_if (receives_close_ok (state_of c b)) b (incoming.ChannelCloseOk c) (λ a. answered c (phase_of c b) b refl (rw (state_up c b e) at a) e)

  failed_receives : (c tag current : ℕ) (z : Settlement) (b : Wire) → b.link ≡ link.Open → Hears b (incoming.Settlement c z) (record_.Refused (error.PreconditionFailed tag current))
  failed_receives c tag current z b e = elim (is_open (state_of c b)) as (λ t. is_open (state_of c b) ≡ t → Effect b (cond t (noted c (session_close z.kind) (closing c closer.Session b)) b) (cond t (close_marks c closer.Session) []) []) [
    | true ↦ λ a. Closes c (failed_at_close closer.Session) (moved c (phase.Closing closer.Session false) b _ refl refl refl refl refl (sym (flow_live (c == 0) (phase_of c b) (rw (state_up c b e) at a))) (λ _. refl)) refl _ refl (note_fit c _ b (record { plain = refl; select = refl })) refl refl
    | false ↦ λ a. nothing b [] refl
  ] refl

  settlement_receives : (c : ℕ) (z : Settlement) (readings : Readings) (b : Wire) → b.link ≡ link.Open → Hears b (incoming.Settlement c z) (cond (receives_on (state_of c b)) (settlement_record readings c z) no)
  settlement_receives c z readings b e = elim (receives_on (state_of c b)) as (λ t. Hears b (incoming.Settlement c z) (cond t (settlement_record readings c z) no)) [
    | true ↦ elim (readings.selected c) as (λ t. Hears b (incoming.Settlement c z) (cond t (cond (z.multiple || readings.pending c z.tag) record_.Received (record_.Refused (error.PreconditionFailed z.tag (readings.last c)))) record_.Passed)) [
      | true ↦ elim (z.multiple || readings.pending c z.tag) as (λ t. Hears b (incoming.Settlement c z) (cond t record_.Received (record_.Refused (error.PreconditionFailed z.tag (readings.last c))))) [
        | true ↦ nothing b _ refl
        | false ↦ failed_receives c z.tag (readings.last c) z b e
      ]
      | false ↦ nothing b [] refl
    ]
    | false ↦ unreceived b (incoming.Settlement c z)
  ]

  kept : (b b' : Wire) (xs : List ConfirmMark) → b'.link ≡ b.link → b'.phases ≡ b.phases → b'.frame_max ≡ b.frame_max → b'.rest ≡ b.rest → b'.published ≡ b.published → b'.publishes ≡ b.publishes → b'.methods ≡ b.methods → list_any moves xs ≡ false → Effect b b' xs []
  kept b b' xs l p m r n q ms still = Stays (phases_kept b b' l p m r n) q [] (ms ∙ sym (append-nil b.methods)) tt still refl

  part_moves : (c : ℕ) (p : ContentPart) (b : Wire) → b.link ≡ link.Open → receives_part c p b ≡ true → Hears b (incoming.Content c p) record_.Received
  part_moves c (part.GetOk x) b e h = kept b _ [] refl refl refl refl refl refl refl refl
  part_moves c (part.Return x) b e h = kept b _ [] refl refl refl refl refl refl refl refl
  part_moves c (part.Deliver tag x) b e h = kept b _ [] refl refl refl refl refl refl refl refl
  part_moves c (part.Header x) b e h = kept b _ _ refl refl refl refl refl refl refl (whole_still c (whole_on c (part.Header x) b))
  part_moves c (part.Body bytes) b e h = kept b _ _ refl refl refl refl refl refl refl (whole_still c (whole_on c (part.Body bytes) b))

  cancel_moves : (c : ℕ) (tag : List ℕ) (t : Bool) (b : Wire) → Effect b (cond t (noted c (method.Basic (basic.CancelOk tag)) b) b) [] []
  cancel_moves c tag true b = Stays (phases_kept b _ refl refl refl refl refl) refl _ refl (note_fit c _ b (record { plain = refl; select = refl }), tt) refl refl
  cancel_moves c tag false b = nothing b [] refl

  consumer_moves : (c : ℕ) (p : ConsumerPart) (b : Wire) → b.link ≡ link.Open → receives_consumer c p b ≡ true → Hears b (incoming.Consumer c p) record_.Received
  consumer_moves c (consumer.ConsumeOk tag) b e h = replied c reply_kind.BasicConsumeOk b [] refl e h
  consumer_moves c (consumer.CancelOk tag) b e h = replied c reply_kind.BasicCancelOk b [] refl e h
  consumer_moves c consumer.RecoverOk b e h = replied c reply_kind.BasicRecoverOk b [] refl e h
  consumer_moves c (consumer.Cancel tag nowait) b e h = cancel_moves c tag (is_open (state_of c b) && not nowait) b

  up_receives : (b : Wire) (readings : Readings) (i : Incoming) → b.link ≡ link.Open → Hears b i (incoming_up b readings no i)
  up_receives b readings (incoming.Reply c k a) e = received_if (receives_reply c k b) b (incoming.Reply c k a) (λ h. replied c k b [] refl e h)
  up_receives b readings (incoming.Settlement c z) e = settlement_receives c z readings b e
  up_receives b readings (incoming.Content c p) e = received_if (receives_part c p b) b (incoming.Content c p) (λ h. part_moves c p b e h)
  up_receives b readings (incoming.Consumer c p) e = received_if (receives_consumer c p b) b (incoming.Consumer c p) (λ h. consumer_moves c p b e h)
  up_receives b readings (incoming.Flow c active) e = flow_receives c active b e
  up_receives b readings (incoming.ChannelClose c code) e = close_receives c code b e
  up_receives b readings (incoming.ChannelCloseOk c) e = close_ok_receives c b e
  up_receives b readings (incoming.ConnectionClose code) e = subst (λ l. Effect b (after_connection_close l b) (ends_all (error.ProtocolError code) b) []) (sym e) (Falls (error.ProtocolError code) refl refl refl refl refl (record { plain = refl; select = refl }, tt) refl refl)
  up_receives b readings incoming.ConnectionCloseOk e = unreceived b incoming.ConnectionCloseOk
  up_receives b readings incoming.Other e = unreceived b incoming.Other

  quiet_push : (ms : List MethodEntry) (m : MethodEntry) → IsQuiet m → AreQuiet ms → AreQuiet (ms ++ m ∷ [])
  quiet_push [] m q h = (q, tt)
  quiet_push (x ∷ xs) m q h = (h.0, quiet_push xs m q h.1)

  down_receives : (l : ConnectionPhase) (b : Wire) (i : Incoming) → b.link ≡ l → is_up l ≡ false → Hears b i (cond (receives_down l i) record_.Received record_.Passed)
  down_receives link.Open b i e d = absurd cc
  down_receives link.Closed b i e d = nothing b [] refl
  down_receives link.Lost b i e d = nothing b [] refl
  down_receives (link.Closing x) b incoming.ConnectionCloseOk e d = Sinks refl refl (rw e refl) refl (unsent_rest (has_sent b.link)) (unsent_publishes (has_sent b.link)) (unsent_quiet (has_sent b.link)) refl refl
    where
      unsent_publishes : (t : Bool) → b.publishes ≡ [] → (unless_sent t (lists_of b)).publishes ≡ []
      unsent_publishes true h = h
      unsent_publishes false h = refl

      unsent_rest : (t : Bool) → b.rest ≡ [] → (unless_sent t (lists_of b)).rest ≡ []
      unsent_rest true h = h
      unsent_rest false h = refl

      unsent_quiet : (t : Bool) → AreQuiet b.methods → AreQuiet (unless_sent t (lists_of b)).methods
      unsent_quiet true h = h
      unsent_quiet false h = tt
  down_receives (link.Closing stage.Crossed) b (incoming.ConnectionClose code) e d = nothing b [] refl
  down_receives (link.Closing stage.Sent) b (incoming.ConnectionClose code) e d =
      subst (λ l. Effect b (after_connection_close l b) (ends_all (error.ProtocolError code) b) []) (sym e) (Sinks refl refl (rw e refl) refl (λ h. h) (λ h. h) (quiet_push b.methods _ (record { plain = refl; select = refl })) (all_grow (error.ProtocolError code) b) refl)
  down_receives (link.Closing stage.Queued) b (incoming.ConnectionClose code) e d =
      subst (λ l. Effect b (after_connection_close l b) (ends_all (error.ProtocolError code) b) []) (sym e) (Falls (error.ProtocolError code) refl refl refl refl refl (record { plain = refl; select = refl }, tt) refl refl)
  down_receives (link.Closing x) b (incoming.Reply c k a) e d = nothing b [] refl
  down_receives (link.Closing x) b (incoming.Settlement c z) e d = nothing b [] refl
  down_receives (link.Closing x) b (incoming.Content c p) e d = nothing b [] refl
  down_receives (link.Closing x) b (incoming.Consumer c p) e d = nothing b [] refl
  down_receives (link.Closing x) b (incoming.Flow c active) e d = nothing b [] refl
  down_receives (link.Closing x) b (incoming.ChannelClose c code) e d = nothing b [] refl
  down_receives (link.Closing x) b (incoming.ChannelCloseOk c) e d = nothing b [] refl
  down_receives (link.Closing x) b incoming.Other e d = nothing b [] refl

  pub incoming_happens : (l : ConnectionPhase) (b : Wire) (readings : Readings) (i : Incoming) → b.link ≡ l → Effect b (after_incoming i (incoming_record b readings no i) b) (incoming_marks i (incoming_record b readings no i) b) []
  incoming_happens l b readings i e = inboxed (incoming_deliveries i (incoming_record b readings no i) b) b _ _ _ (subst (Hears b i) (sym is) (elim (is_up l) as (λ t. is_up l ≡ t → Hears b i (cond t (incoming_up b readings no i) (cond (receives_down l i) record_.Received record_.Passed))) [
    | true ↦ λ u. up_receives b readings i (e ∙ up_open l u)
    | false ↦ λ u. down_receives l b i e u
  ] refl))
    where
      is : incoming_record b readings no i ≡ cond (is_up l) (incoming_up b readings no i) (cond (receives_down l i) record_.Received record_.Passed)
      is = ap (λ l. cond (is_up l) (incoming_up b readings no i) (cond (receives_down l i) record_.Received record_.Passed)) e

pub lost_happens : (b : Wire) → Effect b (after_lost b) (ends_all error.ConnectionLost b) []
lost_happens b = elim (is_lost b.link) as (λ t. is_lost b.link ≡ t → Effect b (cond t b (down link.Lost b)) (ends_all error.ConnectionLost b) []) [
  | true ↦ λ h. Sinks refl refl (lost_down b.link h) (lost_down b.link h) (λ x. x) (λ x. x) (λ x. x) (all_grow error.ConnectionLost b) refl
  | false ↦ λ h. Falls error.ConnectionLost refl refl refl refl refl tt refl refl
] refl
