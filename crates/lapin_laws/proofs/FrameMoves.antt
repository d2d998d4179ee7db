-- What frames of the broker do to the lists that wait, to the openings and to the connection.
use Rattle.std.proofs.Common.{◌≡◌, ℕ, Bool, true, false, cond, not, ◌==◌, ◌||◌, ◌&&◌, List, [], Option, Some, None, refl, sym, ◌∙◌, ap, subst}
use Rattle.std.specs.List.{filter}
use Rattle.lapin_types.specs.declared.record.Record.{Record}
use Rattle.lapin_types.specs.declared.record.Record.TheVariants as record_
use Rattle.lapin_types.specs.declared.request.ReplyKind.{ReplyKind}
use Rattle.lapin_types.specs.declared.request.ReplyKind.TheVariants as reply_kind
use Rattle.lapin_types.specs.Types.{Error}
use Rattle.lapin_types.specs.Types.channel_state as state
use Rattle.lapin_types.specs.Types.error
use Rattle.lapin_types.specs.Types.method
use Rattle.lapin_types.specs.Types.basic
use Rattle.lapin_types.specs.Types.channel
use Rattle.lapin_rules.specs.declared.marks.Settlement.{Settlement}
use Rattle.lapin_rules.specs.declared.phases.ChannelPhase.{ChannelPhase}
use Rattle.lapin_rules.specs.declared.phases.ChannelPhase.TheVariants as phase
use Rattle.lapin_rules.specs.declared.phases.ConnectionPhase.{ConnectionPhase}
use Rattle.lapin_rules.specs.declared.phases.ConnectionPhase.TheVariants as link
use Rattle.lapin_rules.specs.declared.phases.CloseStage.TheVariants as stage
use Rattle.lapin_rules.specs.declared.phases.Closer.TheVariants as closer
use Rattle.lapin_rules.specs.declared.broker_frames.ConsumerPart.{ConsumerPart}
use Rattle.lapin_rules.specs.declared.broker_frames.ConsumerPart.TheVariants as consumer
use Rattle.lapin_rules.specs.declared.broker_frames.Incoming.{Incoming}
use Rattle.lapin_rules.specs.declared.broker_frames.Incoming.TheVariants as incoming
use Rattle.lapin_rules.specs.Words.{is_some, with_channel}
use Rattle.lapin_rules.specs.Phases.{is_up, is_live, channel_state}
use Rattle.lapin_rules.specs.Requests.{first_request}
use Rattle.lapin_rules.specs.Drops.{is_off, method_channel}
use Rattle.lapin_rules.specs.Ends.{ends_all, end_with}
use Rattle.lapin_rules.specs.Readings.{Readings}
use Rattle.lapin_rules.specs.Wire.{Wire, requests_of, state_of, phase_of, is_open, is_opening, noted, lists_of, receives_on}
use Rattle.lapin_rules.specs.Opening.{opens}
use Rattle.lapin_rules.specs.ChannelClose.{closing, close_marks, close_ok_end, after_close_ok, receives_close, receives_close_ok}
use Rattle.lapin_rules.specs.ConnectionClose.{unless_sent, has_sent, receives_down, after_connection_close}
use Rattle.lapin_rules.specs.Settlement.{settlement_record, session_close}
use Rattle.lapin_rules.specs.Reply.{receives, receives_reply, after_reply}
use Rattle.lapin_rules.specs.Flow.{after_flow}
use Rattle.lapin_rules.specs.declared.broker_frames.ContentPart.{ContentPart}
use Rattle.lapin_rules.specs.declared.broker_frames.ContentPart.TheVariants as part
use Rattle.lapin_content.specs.declared.start.Start.{Start}
use Rattle.lapin_content.specs.declared.start.Start.TheVariants as start_
use Rattle.lapin_content.specs.declared.start.Whole.{Whole}
use Rattle.lapin_rules.specs.Content.{receives_part, after_part, start_marks, whole_marks, whole_on}
use Rattle.lapin_rules.specs.Consumers.{receives_consumer}
use Rattle.lapin_rules.specs.Unexpected.{refused}
use Rattle.lapin_rules.specs.Receiving.{when, incoming_up, incoming_record, incoming_wire, after_incoming, incoming_marks}
use Rattle.lapin_machine.specs.Stands.{IsShut}
use Rattle.lapin_laws.specs.Closes.{is_unsent}
use Rattle.lapin_laws.specs.Outgoing.{ended_in}
use Rattle.lapin_laws.proofs.Alive.{Grows, grows-with, grows-dead}
use Rattle.lapin_laws.proofs.Closes.{AreMarked, marks_noted, marks_moved, marks_ended, broker_unsent, open_unsent, opening_unsent}
use Rattle.lapin_rules.specs.Receiving.{incoming_deliveries}
use Rattle.lapin_laws.proofs.Moving.{ArePlain, plain-push, plain-filter, Sound, Moves, inboxed, same, keeps, same_grows, closes, ends_one, falls, sinks, state_up}
use Rattle.lapin_rules.proofs.PhaseLaws.{up_open, broker_over, open_hears_no_ok}
use Rattle.lapin_tables.proofs.Bools.{and_first, and_second}

-- ---- frames of the broker

abbrev Hears : ℕ → Wire → Incoming → Record → Type 0
Hears n b i r = Moves n b (incoming_wire i r b) (ended_in (incoming_marks i r b)) []

-- where no channel stands open, no opening ends
pub no_ends : (x : Error) (b : Wire) → b.phases ≡ [] → [] ≡ ended_in (ends_all x b)
no_ends x b none = rw none refl

-- contents: a whole one ends no opening
start_quiet : (c : ℕ) (x : Start) (w : Whole) → ended_in (start_marks c x w) ≡ []
start_quiet c (start_.Return code text exchange key) w = refl
start_quiet c (start_.Get ticket tag exchange key redelivered count) w = refl
start_quiet c (start_.Deliver consumer tag exchange key redelivered) w = refl

pub whole_quiet : (c : ℕ) (w : Option Whole) → ended_in (whole_marks c w) ≡ []
whole_quiet c None = refl
whole_quiet c (Some w) = start_quiet c w.start w

module _ (class number : ℕ) where
  abbrev no : Record
  no = refused class number

  unreceived : (n : ℕ) (b : Wire) (i : Incoming) → Sound n b → Hears n b i no
  unreceived n b i s = falls n _ b _ refl refl refl refl refl (refl, tt) (λ h. cc) s

  grows_opened : (c : ℕ) (t : Bool) (l : ConnectionPhase) (ps : List (ℕ × ChannelPhase)) → Grows l ps l (cond t (with_channel c (phase.Open false) ps) ps)
  grows_opened c true l ps = grows-with c (phase.Open false) l ps refl
  grows_opened c false l ps = same_grows l ps

  marks_opened : (c : ℕ) (t : Bool) (b : Wire) → cond t (is_opening (cond (c == 0) state.Base (channel_state (phase_of c b)))) (receives_on (cond (c == 0) state.Base (channel_state (phase_of c b)))) ≡ true → AreMarked b.phases b.methods → AreMarked (cond t (with_channel c (phase.Open false) b.phases) b.phases) b.methods
  marks_opened c true b a h = marks_moved c (phase.Open false) b.phases b.methods (opening_unsent (c == 0) (phase_of c b) a) refl h
  marks_opened c false b a h = h

  replied : (n c : ℕ) (k : ReplyKind) (b : Wire) → b.link ≡ link.Open → receives_reply c k b ≡ true → Sound n b → Moves n b (after_reply c k b) [] []
  replied n c k b e h s = keeps n b _ e refl refl refl refl (λ x. x) (grows_opened c (opens k) b.link b.phases) (marks_opened c (opens k) b (rw (state_up c b e) at (and_first (receives k (state_of c b)) (is_some (first_request k (requests_of c b))) h))) s

  received_if : (n : ℕ) (t : Bool) (b : Wire) (i : Incoming) → (t ≡ true → Hears n b i record_.Received) → Sound n b → Hears n b i (when t no)
  received_if n true b i h s = h refl
  received_if n false b i h s = unreceived n b i s

  flow_moves : (n c : ℕ) (active : Bool) (b : Wire) → b.link ≡ link.Open → Sound n b → Moves n b (after_flow c active b) [] []
  flow_moves n c active b e s =
      let to : Wire = noted c (method.Channel (channel.FlowOk active)) (record b { phases = with_channel c (phase.Open (not active)) b.phases }) in
      elim (is_open (state_of c b)) as (λ t. is_open (state_of c b) ≡ t → Moves n b (cond t to b) [] []) [
        | true ↦ λ a. keeps n b _ e refl refl refl refl (plain-push b.methods _ refl) (grows-with c (phase.Open (not active)) b.link b.phases refl) (λ h. marks_noted _ b.methods _ refl (marks_moved c (phase.Open (not active)) b.phases b.methods (open_unsent (c == 0) (phase_of c b) (rw (state_up c b e) at a)) refl h)) s
        | false ↦ λ a. same n b s
      ] refl

  flow_receives : (n c : ℕ) (active : Bool) (b : Wire) → b.link ≡ link.Open → Sound n b → Hears n b (incoming.Flow c active) (when (receives_on (state_of c b)) no)
  flow_receives n c active b e s = elim (receives_on (state_of c b)) as (λ t. Hears n b (incoming.Flow c active) (when t no)) [
    | true ↦ flow_moves n c active b e s
    | false ↦ unreceived n b (incoming.Flow c active) s
  ]

  close_receives : (n c code : ℕ) (b : Wire) → b.link ≡ link.Open → Sound n b → Hears n b (incoming.ChannelClose c code) (when (receives_close (state_of c b)) no)
  close_receives n c code b e s = elim (receives_close (state_of c b)) as (λ t. Hears n b (incoming.ChannelClose c code) (when t no)) [
    | true ↦ ends_one n c _ b _ e refl refl refl refl refl (λ h. plain-push _ _ refl (plain-filter (is_off method_channel c) b.methods h)) (λ h. marks_noted _ (filter (is_off method_channel c) b.methods) (record { channel = c; method = method.Channel channel.CloseOk; ticket = None }) refl (marks_ended c _ b.phases b.methods (broker_unsent (phase_of c b)) h)) (broker_over (phase_of c b)) s
    | false ↦ unreceived n b (incoming.ChannelClose c code) s
  ]

  answered : (n c : ℕ) (p : ChannelPhase) (b : Wire) → phase_of c b ≡ p → receives_close_ok (cond (c == 0) state.Base (channel_state p)) ≡ true → b.link ≡ link.Open → Sound n b → Moves n b (after_close_ok c p b) (ended_in (end_with c (close_ok_end p))) []
  answered n c phase.Closed b q a e s = absurd (not_incoming (c == 0) a)
    where
      not_incoming : (t : Bool) → receives_close_ok (cond t state.Base state.Closed) ≡ true → ⊥
      not_incoming true h = cc
      not_incoming false h = cc
  answered n c phase.Opening b q a e s = absurd (not_incoming (c == 0) a)
    where
      not_incoming : (t : Bool) → receives_close_ok (cond t state.Base state.Opening) ≡ true → ⊥
      not_incoming true h = cc
      not_incoming false h = cc
  answered n c (phase.Open paused) b q a e s = absurd (open_hears_no_ok (c == 0) a)
  answered n c (phase.Closing who sent) b q a e s = ends_one n c phase.Closed b _ e refl refl refl refl refl (plain-filter (is_off method_channel c) b.methods) (marks_ended c phase.Closed b.phases b.methods refl) refl s
  answered n c phase.Crossed b q a e s = keeps n b _ e refl refl refl refl (λ h. h) (grows-dead c phase.Closed b.link b.phases (ap is_live q)) (marks_moved c phase.Closed b.phases b.methods (ap is_unsent q) refl) s

  close_ok_receives : (n c : ℕ) (b : Wire) → b.link ≡ link.Open → Sound n b → Hears n b (incoming.ChannelCloseOk c) (when (receives_close_ok (state_of c b)) no)
  close_ok_receives n c b e s = elim (receives_close_ok (state_of c b)) as (λ t. receives_close_ok (state_of c b) ≡ t → Hears n b (incoming.ChannelCloseOk c) (when t no)) [
    | true ↦ λ a. answered n c (phase_of c b) b refl (rw (state_up c b e) at a) e s
    | false ↦ λ a. unreceived n b (incoming.ChannelCloseOk c) s
  ] refl

  failed_receives : (n c tag current : ℕ) (z : Settlement) (b : Wire) → b.link ≡ link.Open → Sound n b → Hears n b (incoming.Settlement c z) (record_.Refused (error.PreconditionFailed tag current))
  failed_receives n c tag current z b e s = elim (is_open (state_of c b)) as (λ t. is_open (state_of c b) ≡ t → Moves n b (cond t (noted c (session_close z.kind) (closing c closer.Session b)) b) (ended_in (cond t (close_marks c closer.Session) [])) []) [
    | true ↦ λ a. closes n c closer.Session b _ e refl refl refl refl refl (plain-push b.methods _ refl) _ refl refl refl (open_unsent (c == 0) (phase_of c b) (rw (state_up c b e) at a)) s
    | false ↦ λ a. same n b s
  ] refl

  settlement_receives : (n c : ℕ) (z : Settlement) (readings : Readings) (b : Wire) → b.link ≡ link.Open → Sound n b → Hears n b (incoming.Settlement c z) (cond (receives_on (state_of c b)) (settlement_record readings c z) no)
  settlement_receives n c z readings b e s = elim (receives_on (state_of c b)) as (λ t. Hears n b (incoming.Settlement c z) (cond t (settlement_record readings c z) no)) [
    | true ↦ elim (readings.selected c) as (λ t. Hears n b (incoming.Settlement c z) (cond t (cond (z.multiple || readings.pending c z.tag) record_.Received (record_.Refused (error.PreconditionFailed z.tag (readings.last c)))) record_.Passed)) [
      | true ↦ elim (z.multiple || readings.pending c z.tag) as (λ t. Hears n b (incoming.Settlement c z) (cond t record_.Received (record_.Refused (error.PreconditionFailed z.tag (readings.last c))))) [
        | true ↦ same n b s
        | false ↦ failed_receives n c z.tag (readings.last c) z b e s
      ]
      | false ↦ same n b s
    ]
    | false ↦ unreceived n b (incoming.Settlement c z) s
  ]

  part_moves : (n c : ℕ) (p : ContentPart) (b : Wire) → b.link ≡ link.Open → receives_part c p b ≡ true → Sound n b → Hears n b (incoming.Content c p) record_.Received
  part_moves n c (part.GetOk x) b e h s = keeps n b _ e refl refl refl refl (λ y. y) (same_grows b.link b.phases) (λ y. y) s
  part_moves n c (part.Return x) b e h s = keeps n b _ e refl refl refl refl (λ y. y) (same_grows b.link b.phases) (λ y. y) s
  part_moves n c (part.Deliver tag x) b e h s = keeps n b _ e refl refl refl refl (λ y. y) (same_grows b.link b.phases) (λ y. y) s
  part_moves n c (part.Header x) b e h s = subst (λ cs. Moves n b (after_part c (part.Header x) b) cs []) (sym (whole_quiet c (whole_on c (part.Header x) b))) (keeps n b _ e refl refl refl refl (λ y. y) (same_grows b.link b.phases) (λ y. y) s)
  part_moves n c (part.Body bytes) b e h s = subst (λ cs. Moves n b (after_part c (part.Body bytes) b) cs []) (sym (whole_quiet c (whole_on c (part.Body bytes) b))) (keeps n b _ e refl refl refl refl (λ y. y) (same_grows b.link b.phases) (λ y. y) s)

  -- a cancel of the broker is answered
  cancel_moves : (n c : ℕ) (tag : List ℕ) (t : Bool) (b : Wire) → b.link ≡ link.Open → Sound n b → Moves n b (cond t (noted c (method.Basic (basic.CancelOk tag)) b) b) [] []
  cancel_moves n c tag true b e s = keeps n b _ e refl refl refl refl (plain-push b.methods _ refl) (same_grows b.link b.phases) (marks_noted b.phases b.methods (record { channel = c; method = method.Basic (basic.CancelOk tag); ticket = None }) refl) s
  cancel_moves n c tag false b e s = same n b s

  consumer_moves : (n c : ℕ) (p : ConsumerPart) (b : Wire) → b.link ≡ link.Open → receives_consumer c p b ≡ true → Sound n b → Hears n b (incoming.Consumer c p) record_.Received
  consumer_moves n c (consumer.ConsumeOk tag) b e h s = replied n c reply_kind.BasicConsumeOk b e h s
  consumer_moves n c (consumer.CancelOk tag) b e h s = replied n c reply_kind.BasicCancelOk b e h s
  consumer_moves n c consumer.RecoverOk b e h s = replied n c reply_kind.BasicRecoverOk b e h s
  consumer_moves n c (consumer.Cancel tag nowait) b e h s = cancel_moves n c tag (is_open (state_of c b) && not nowait) b e s

  up_receives : (n : ℕ) (b : Wire) (readings : Readings) (i : Incoming) → b.link ≡ link.Open → Sound n b → Hears n b i (incoming_up b readings no i)
  up_receives n b readings (incoming.Reply c k a) e s = received_if n (receives_reply c k b) b (incoming.Reply c k a) (λ h. replied n c k b e h s) s
  up_receives n b readings (incoming.Settlement c z) e s = settlement_receives n c z readings b e s
  up_receives n b readings (incoming.Content c p) e s = received_if n (receives_part c p b) b (incoming.Content c p) (λ h. part_moves n c p b e h s) s
  up_receives n b readings (incoming.Consumer c p) e s = received_if n (receives_consumer c p b) b (incoming.Consumer c p) (λ h. consumer_moves n c p b e h s) s
  up_receives n b readings (incoming.Flow c active) e s = flow_receives n c active b e s
  up_receives n b readings (incoming.ChannelClose c code) e s = close_receives n c code b e s
  up_receives n b readings (incoming.ChannelCloseOk c) e s = close_ok_receives n c b e s
  up_receives n b readings (incoming.ConnectionClose code) e s = subst (λ l. Moves n b (after_connection_close l b) (ended_in (ends_all (error.ProtocolError code) b)) []) (sym e) (falls n (error.ProtocolError code) b _ refl refl refl refl refl (refl, tt) (λ h. cc) s)
  up_receives n b readings incoming.ConnectionCloseOk e s = unreceived n b incoming.ConnectionCloseOk s
  up_receives n b readings incoming.Other e s = unreceived n b incoming.Other s

  pub incoming_is : (b : Wire) (readings : Readings) (i : Incoming) (l : ConnectionPhase) → b.link ≡ l → incoming_record b readings no i ≡ cond (is_up l) (incoming_up b readings no i) (cond (receives_down l i) record_.Received record_.Passed)
  incoming_is b readings i l e = ap (λ l. cond (is_up l) (incoming_up b readings no i) (cond (receives_down l i) record_.Received record_.Passed)) e

  down_receives : (n : ℕ) (l : ConnectionPhase) (b : Wire) (i : Incoming) → b.link ≡ l → is_up l ≡ false → b.phases ≡ [] → Sound n b → Hears n b i (cond (receives_down l i) record_.Received record_.Passed)
  down_receives n link.Open b i e d none s = absurd cc
  down_receives n link.Closed b i e d none s = same n b s
  down_receives n link.Lost b i e d none s = same n b s
  down_receives n (link.Closing x) b incoming.ConnectionCloseOk e d none s = sinks n b _ (rw e refl) refl refl refl (unsent_publishes (has_sent b.link)) (unsent_rest (has_sent b.link)) (unsent_plain (has_sent b.link)) refl s
    where
      unsent_publishes : (t : Bool) → b.publishes ≡ [] → (unless_sent t (lists_of b)).publishes ≡ []
      unsent_publishes true h = h
      unsent_publishes false h = refl

      unsent_rest : (t : Bool) → b.rest ≡ [] → (unless_sent t (lists_of b)).rest ≡ []
      unsent_rest true h = h
      unsent_rest false h = refl

      unsent_plain : (t : Bool) → ArePlain b.methods → ArePlain (unless_sent t (lists_of b)).methods
      unsent_plain true h = h
      unsent_plain false h = tt
  down_receives n (link.Closing stage.Crossed) b (incoming.ConnectionClose code) e d none s = same n b s
  down_receives n (link.Closing stage.Sent) b (incoming.ConnectionClose code) e d none s =
      let shut : is_up b.link ≡ false = rw e refl in
      let D : ConnectionPhase → List ℕ → Type 0 = λ l cs. Moves n b (after_connection_close l b) cs [] in
      subst (D b.link) (no_ends (error.ProtocolError code) b none) (subst (λ l. D l []) (sym e) (sinks n b _ shut refl refl refl (λ h. h) (λ h. h) (plain-push b.methods _ refl) refl s))
  down_receives n (link.Closing stage.Queued) b (incoming.ConnectionClose code) e d none s =
      let D : ConnectionPhase → List ℕ → Type 0 = λ l cs. Moves n b (after_connection_close l b) cs [] in
      subst (λ l. D l (ended_in (ends_all (error.ProtocolError code) b))) (sym e) (falls n (error.ProtocolError code) b _ refl refl refl refl refl (refl, tt) (λ h. cc) s)
  down_receives n (link.Closing x) b (incoming.Reply c k a) e d none s = same n b s
  down_receives n (link.Closing x) b (incoming.Settlement c z) e d none s = same n b s
  down_receives n (link.Closing x) b (incoming.Content c p) e d none s = same n b s
  down_receives n (link.Closing x) b (incoming.Consumer c p) e d none s = same n b s
  down_receives n (link.Closing x) b (incoming.Flow c active) e d none s = same n b s
  down_receives n (link.Closing x) b (incoming.ChannelClose c code) e d none s = same n b s
  down_receives n (link.Closing x) b (incoming.ChannelCloseOk c) e d none s = same n b s
  down_receives n (link.Closing x) b incoming.Other e d none s = same n b s

  pub incoming_moves : (n : ℕ) (l : ConnectionPhase) (b : Wire) (readings : Readings) (i : Incoming) → b.link ≡ l → IsShut b → Sound n b → Moves n b (after_incoming i (incoming_record b readings no i) b) (ended_in (incoming_marks i (incoming_record b readings no i) b)) []
  incoming_moves n l b readings i e shut s = inboxed n (incoming_deliveries i (incoming_record b readings no i) b) b _ _ _ (subst (Hears n b i) (sym (incoming_is b readings i l e)) (elim (is_up l) as (λ t. is_up l ≡ t → Hears n b i (cond t (incoming_up b readings no i) (cond (receives_down l i) record_.Received record_.Passed))) [
    | true ↦ λ u. up_receives n b readings i (e ∙ up_open l u) s
    | false ↦ λ u. down_receives n l b i e u (shut (ap is_up e ∙ u)) s
  ] refl))
