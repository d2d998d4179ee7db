-- A delivery is a run of the pair of machines, keeps what the session holds, and refuses nothing but a settlement.
use Rattle.std.proofs.Common.{◌≡◌, ℕ, Bool, true, false, cond, not, ◌==◌, ◌||◌, ◌&&◌, List, [], ◌∷◌, map, length, refl, sym, ◌∙◌, ap, ap₂, subst, append-nil, Option, Some, None, inl, inr, ne_eqb}
use Rattle.std.proofs.lemmas.Bool.Decides.{eqb_tells}
use Rattle.lapin_types.specs.declared.leaving.Left.{Left}
use Rattle.lapin_types.specs.declared.leaving.Publish.{Publish}
use Rattle.lapin_types.specs.declared.answer.Answer.{Answer}
use Rattle.lapin_types.specs.declared.record.Record.{Record}
use Rattle.lapin_types.specs.declared.record.Record.TheVariants as record_
use Rattle.lapin_types.specs.declared.request.ReplyKind.{ReplyKind}
use Rattle.lapin_types.specs.declared.request.ReplyKind.TheVariants as reply_kind
use Rattle.lapin_types.specs.Types.{Frame, Method, ChannelMethod, ExchangeMethod, QueueMethod, BasicMethod, TxMethod}
use Rattle.lapin_types.specs.Types.error
use Rattle.lapin_types.specs.Types.frame
use Rattle.lapin_types.specs.Types.method
use Rattle.lapin_types.specs.Types.connection
use Rattle.lapin_types.specs.Types.channel
use Rattle.lapin_types.specs.Types.access
use Rattle.lapin_types.specs.Types.exchange
use Rattle.lapin_types.specs.Types.queue
use Rattle.lapin_types.specs.Types.basic
use Rattle.lapin_types.specs.Types.confirm
use Rattle.lapin_types.specs.Types.tx
use Rattle.lapin_content.specs.Channels.{expected_on}
use Rattle.lapin_delivery.specs.Marks.{DeliveryMark}
use Rattle.lapin_rules.specs.declared.marks.Settlement.{Settlement}
use Rattle.lapin_rules.specs.declared.phases.Closer.TheVariants as closer
use Rattle.lapin_rules.specs.declared.phases.ChannelPhase.{ChannelPhase}
use Rattle.lapin_rules.specs.declared.phases.ChannelPhase.TheVariants as phase
use Rattle.lapin_rules.specs.declared.phases.ConnectionPhase.{ConnectionPhase}
use Rattle.lapin_rules.specs.declared.phases.CloseStage.{CloseStage}
use Rattle.lapin_rules.specs.declared.phases.ConnectionPhase.TheVariants as link
use Rattle.lapin_rules.specs.declared.phases.CloseStage.TheVariants as stage
use Rattle.lapin_rules.specs.declared.broker_frames.ContentPart.{ContentPart}
use Rattle.lapin_rules.specs.declared.broker_frames.ContentPart.TheVariants as part
use Rattle.lapin_rules.specs.declared.broker_frames.ConsumerPart.{ConsumerPart}
use Rattle.lapin_rules.specs.declared.broker_frames.ConsumerPart.TheVariants as consumer
use Rattle.lapin_rules.specs.declared.broker_frames.Incoming.{Incoming}
use Rattle.lapin_rules.specs.declared.broker_frames.Incoming.TheVariants as incoming
use Rattle.lapin_rules.specs.Words.{with_channel}
use Rattle.lapin_rules.specs.Phases.{is_up, channel_state, is_crossed}
use Rattle.lapin_rules.specs.Readings.{Readings}
use Rattle.lapin_rules.specs.Wire.{Wire, phase_of, requests_of, state_of, is_open, receives_on, noted, with_deliveries}
use Rattle.lapin_rules.specs.Incoming.{incoming_method, incoming_of}
use Rattle.lapin_rules.specs.ChannelClose.{closing, receives_close, receives_close_ok}
use Rattle.lapin_rules.specs.Consumers.{after_cancel}
use Rattle.lapin_rules.specs.Settlement.{settlement_record, session_close, after_failed_on}
use Rattle.lapin_rules.specs.Reply.{receives_reply, after_reply}
use Rattle.lapin_rules.specs.Flow.{after_flow}
use Rattle.lapin_rules.specs.Receiving.{when, incoming_up, incoming_record, after_received, incoming_wire, incoming_deliveries, after_incoming}
use Rattle.lapin_rules.specs.ConnectionClose.{receives_down}
use Rattle.lapin_broker.specs.States.{Broker}
use Rattle.lapin_broker.specs.Frames.{broker_frame}
use Rattle.lapin_pairs.specs.Machine.{DOther, has_close, state_after, is_refused}
use Rattle.lapin_pairs.specs.Channel as kept
use Rattle.lapin_pairs.specs.Channel.{DownF}
use Rattle.lapin_pairs.specs.Every.{ToD, CloseD, CloseOkD, DeliverA, received_a, happens_a, of_u, left_all}
use Rattle.lapin_pairs.specs.Asking.{take2, left_at, asking}
use Rattle.lapin_concord.specs.Frames.{down_frame, IsGiven}
use Rattle.lapin_concord.specs.Wires.{phase_as, link_as, reply_number, is_asked, asked_in, contents_as, chan_as, waits_as, pair_as}
use Rattle.lapin_concord.specs.Held.{way, IsMarked, is_open_phase, AreOpen, Held}
use Rattle.lapin_concord.specs.Incomes.{part_as, consumer_as, income_as}
use Rattle.lapin_concord.specs.Refusals.{is_refusal, IsSettled, IsGivenAs}
use Rattle.lapin_concord.proofs.Views.{J, j_keeps, Untold, told_call, Follows, then, phase_at, phase_with, phase_away, Same, held_moved}
use Rattle.lapin_concord.proofs.Queues.{tells, Queues}
use Rattle.lapin_concord.proofs.Queueing.{open_is, Queued, queued_held, queued_follows}
use Rattle.lapin_concord.proofs.Calling.{held_deliveries, above, closes_goes}
use Rattle.lapin_concord.proofs.Incomes.{sorted}
use Rattle.lapin_concord.proofs.Coming.{Let, let_of, Others, others_only, above_zero, state_here, Comes, deliver_to, Receives, received}
use Rattle.lapin_concord.proofs.Hearing.{replies, reply_comes, start_comes, get_comes, header_comes, body_comes, open_only, open_comes}
use Rattle.lapin_concord.proofs.Ending.{close_comes, ok_comes}
use Rattle.lapin_concord.proofs.Down.{open_dead, close_up, crosses, ended_by, passed, gone_dead, cross_dead}
use Rattle.lapin_rules.proofs.PhaseLaws.{up_open}
use Rattle.lapin_tables.proofs.Bools.{and_first}

-- ---- what the delivery leaves and tells

pub record Delivered (b : Wire) (see : Readings) (r : Record) (f : Frame) (i : Incoming) (br : Broker) (us : List Left) (ds : List Frame) : Type 0 where
  pub fine : IsSettled see i → is_refusal (incoming_record b see r i) ≡ false
  pub comes : Comes b (after_incoming i (incoming_record b see r i) b) f br us ds

comes_deliveries : (ms : List DeliveryMark) (b d : Wire) (f : Frame) (br : Broker) (us : List Left) (ds : List Frame) → Comes b d f br us ds → Comes b (with_deliveries ms d) f br us ds
comes_deliveries ms b d f br us ds c = record { held = held_deliveries ms d c.held; follows = c.follows }

delivered_by : (b : Wire) (see : Readings) (r t : Record) (f : Frame) (i : Incoming) (br : Broker) (us : List Left) (ds : List Frame) → incoming_record b see r i ≡ t → (IsSettled see i → is_refusal t ≡ false) → Comes b (incoming_wire i t b) f br us ds → Delivered b see r f i br us ds
delivered_by b see r t f i br us ds e n c = record {
  fine = λ s. ap is_refusal e ∙ n s;
  comes = subst (λ x. Comes b (after_incoming i x b) f br us ds) (sym e) (comes_deliveries (incoming_deliveries i t b) b (incoming_wire i t b) f br us ds c);
}

open_state : (p : ChannelPhase) → is_open (channel_state p) ≡ is_open_phase p
open_state phase.Closed = refl
open_state phase.Opening = refl
open_state (phase.Open t) = refl
open_state (phase.Closing who sent) = refl
open_state phase.Crossed = refl

open_with : (c : ℕ) (t : Bool) (ps : List (ℕ × ChannelPhase)) (qs : List Publish) → AreOpen ps qs → AreOpen (with_channel c (phase.Open t) ps) qs
open_with c t ps [] h = tt
open_with c t ps (q ∷ qs) h = (
  elim (eqb_tells c q.channel) [
    | inl y ↦ subst (λ k. is_open_phase (phase_at k (with_channel c (phase.Open t) ps)) ≡ true) y.1 (ap is_open_phase (phase_with c (phase.Open t) ps))
    | inr n ↦ ap is_open_phase (phase_away c q.channel (phase.Open t) ps n.0) ∙ h.0
  ],
  open_with c t ps qs h.1,
)

still_receives : (c : ℕ) (b : Wire) → Receives c b b
still_receives c b = record { link_ = refl; phases = refl; rest = refl; methods = refl; publishes = refl; most = refl; requests = λ e n. refl; contents = λ e n. refl }

-- ---- while the connection is open

module _ (b : Wire) (see : Readings) (r : Record) (f : Frame) (br : Broker) (us : List Left) (ds : List Frame) (e : b.link ≡ link.Open) (h : Held b) (g : J (happens_a asking (pair_as b br us (f ∷ ds)) DeliverA)) where
  abbrev To : Wire → Type 0
  To d = Comes b d f br us ds

  abbrev Gives : Incoming → Type 0
  Gives i = Delivered b see r f i br us ds

  told_up : (i : Incoming) → incoming_record b see r i ≡ incoming_up b see r i
  told_up i = ap (λ l. cond (is_up l) (incoming_up b see r i) (cond (receives_down b.link i) record_.Received record_.Passed)) e

  let_at : (c : ℕ) (x : DownF) → down_frame f ≡ ToD c x → Let c b x
  let_at c x n = let_of c x b br us (map down_frame ds) (f ∷ ds) e (subst J (ap₂ (λ s q. received_a asking (pair_as b br us (f ∷ ds)) s q (map down_frame ds)) (ap link_as e) n) g)

  others_at : (c : ℕ) (x : DownF) → kept.kind_down x ≡ DOther → Let c b x → Others (phase_of c b) (way (of_u c (waits_as b)))
  others_at c x k l = others_only (phase_of c b) (way (of_u c (waits_as b))) (ap (λ q. is_refused (state_after (phase_as (phase_of c b)) (way (of_u c (waits_as b))) q)) (sym k) ∙ l.sess)

  zero_not : (c : ℕ) → Others (phase_of c b) (way (of_u c (waits_as b))) → (c == 0) ≡ false
  zero_not c o = above_zero c b (h.up e).zero o.not_closed

  stray : down_frame f ≡ ToD 0 kept.BTell → ⊥
  stray n = (others_at 0 kept.BTell refl (let_at 0 kept.BTell n)).not_closed (h.up e).zero

  heard : (i : Incoming) (t : Bool) → incoming_up b see r i ≡ when t r → t ≡ true → To (after_received i b) → Gives i
  heard i t k y c = delivered_by b see r record_.Received f i br us ds (told_up i ∙ (k ∙ ap (λ q. when q r) y)) (λ s. refl) c

  reply_up : (c : ℕ) (k : ReplyKind) (a : Answer) → is_asked k ≡ true → down_frame f ≡ ToD c (kept.BReply (reply_number k) false) → Gives (incoming.Reply c k a)
  reply_up c k a q n =
      let l = let_at c (kept.BReply (reply_number k) false) n in
      let o = others_at c (kept.BReply (reply_number k) false) refl l in
      let y = replies c k b e (zero_not c o) q o (none_of (kept.take_kind (reply_number k) (asked_in (requests_of c b))) l.data_) in
      heard (incoming.Reply c k a) (receives_reply c k b) refl y.heard (reply_comes c k b f br us ds e n q o y h)
    where
      none_of : (xs : Option (List ℕ)) → kept.is_none (kept.replied (contents_as (expected_on c b.contents)) false xs) ≡ false → kept.is_none xs ≡ false
      none_of None h = cc
      none_of (Some xs) h = refl

  consumer_reply : (c : ℕ) (k : ReplyKind) → is_asked k ≡ true → down_frame f ≡ ToD c (kept.BReply (reply_number k) false) → (receives_reply c k b ≡ true) × To (after_reply c k b)
  consumer_reply c k q n =
      let l = let_at c (kept.BReply (reply_number k) false) n in
      let o = others_at c (kept.BReply (reply_number k) false) refl l in
      let y = replies c k b e (zero_not c o) q o (none_of (kept.take_kind (reply_number k) (asked_in (requests_of c b))) l.data_) in
      (y.heard, reply_comes c k b f br us ds e n q o y h)
    where
      none_of : (xs : Option (List ℕ)) → kept.is_none (kept.replied (contents_as (expected_on c b.contents)) false xs) ≡ false → kept.is_none xs ≡ false
      none_of None h = cc
      none_of (Some xs) h = refl

  on_here : (c : ℕ) → Others (phase_of c b) (way (of_u c (waits_as b))) → receives_on (state_of c b) ≡ true
  on_here c o = ap receives_on (state_here c b e (zero_not c o)) ∙ o.receives

  -- nothing changes
  told_alone : (c : ℕ) (x : DownF) → down_frame f ≡ ToD c x → kept.kind_down x ≡ DOther → Others (phase_of c b) (way (of_u c (waits_as b))) → kept.takes (record { asked_for = asked_in (requests_of c b); content = contents_as (expected_on c b.contents) }) x ≡ Some (record { asked_for = asked_in (requests_of c b); content = contents_as (expected_on c b.contents) }) → To b
  told_alone c x n k o t = received c x b b f br us ds e n k o (still_receives c b) ((h.up e).each c).contents t h

  -- a method of the session's own answers it on an open channel
  answered_by : (c : ℕ) (m : Method) (d : Wire) (q : Queues c m None) → told_call c q.call ≡ Untold → d.link ≡ link.Open → is_open_phase (phase_of c d) ≡ true → To d → To (noted c m d)
  answered_by c m d q a k o t =
      let y : Queued c m None d (noted c m d) = record { link_ = refl; phases = refl; rest = refl; ticket = None; methods = refl; publishes = refl; contents = refl; here = refl; away = λ x n. refl; most = refl } in
      record { held = queued_held c m None d (noted c m d) q y k o t.held; follows = then _ _ _ t.follows (subst (λ x. Follows x (pair_as d br us ds) (pair_as (noted c m d) br us ds)) a (queued_follows c m None d (noted c m d) q y br us ds k o)) }

  part_up : (c : ℕ) (p : ContentPart) → down_frame f ≡ ToD c (part_as p) → IsGivenAs (incoming.Content c p) → Gives (incoming.Content c p)
  part_up c (part.GetOk s) n q =
      let x : DownF = kept.BReply (reply_number reply_kind.BasicGetOk) true in
      let l = let_at c x n in
      let o = others_at c x refl l in
      let y = get_comes c s b f br us ds e (zero_not c o) n o l.data_ h in
      heard (incoming.Content c (part.GetOk s)) (receives_reply c reply_kind.BasicGetOk b) refl y.0 y.1
  part_up c (part.Return s) n q =
      let l = let_at c kept.BStart n in
      let o = others_at c kept.BStart refl l in
      heard (incoming.Content c (part.Return s)) (receives_on (state_of c b)) refl (on_here c o) (start_comes c s b f br us ds e n o l.data_ h)
  part_up c (part.Deliver tag s) n q =
      let l = let_at c kept.BStart n in
      let o = others_at c kept.BStart refl l in
      heard (incoming.Content c (part.Deliver tag s)) (receives_on (state_of c b)) refl (on_here c o) (start_comes c _ b f br us ds e n o l.data_ h)
  part_up c (part.Header k) n q =
      let l = let_at c (kept.BHeader k.body_size) n in
      let o = others_at c (kept.BHeader k.body_size) refl l in
      let y = header_comes c k b f br us ds e n q o l.data_ h in
      heard (incoming.Content c (part.Header k)) _ refl (rw (on_here c o, y.0) refl) y.1
  part_up c (part.Body bytes) n q =
      let l = let_at c (kept.BBody (length bytes)) n in
      let o = others_at c (kept.BBody (length bytes)) refl l in
      let y = body_comes c bytes b f br us ds e n o l.data_ h in
      heard (incoming.Content c (part.Body bytes)) _ refl (rw (on_here c o, y.0) refl) y.1

  cancel_up : (c : ℕ) (tag : List ℕ) (nowait : Bool) → down_frame f ≡ ToD c kept.BTell → Gives (incoming.Consumer c (consumer.Cancel tag nowait))
  cancel_up c tag nowait n =
      let o = others_at c kept.BTell refl (let_at c kept.BTell n) in
      heard (incoming.Consumer c (consumer.Cancel tag nowait)) (receives_on (state_of c b)) refl (on_here c o) (answers o (is_open (state_of c b) && not nowait) refl)
    where
      answers : Others (phase_of c b) (way (of_u c (waits_as b))) → (t : Bool) → (is_open (state_of c b) && not nowait) ≡ t → To (after_cancel c tag nowait b)
      answers o true k =
          let p : is_open_phase (phase_of c b) ≡ true = sym (ap is_open (state_here c b e (zero_not c o)) ∙ open_state (phase_of c b)) ∙ and_first (is_open (state_of c b)) (not nowait) k in
          subst To (sym (ap (λ q. cond q (noted c (method.Basic (basic.CancelOk tag)) b) b) k)) (answered_by c (method.Basic (basic.CancelOk tag)) b (tells c (method.Basic (basic.CancelOk tag)) refl (λ most. tt)) refl e p (told_alone c kept.BTell n refl o refl))
      answers o false k = subst To (sym (ap (λ q. cond q (noted c (method.Basic (basic.CancelOk tag)) b) b) k)) (told_alone c kept.BTell n refl o refl)

  consumer_up : (c : ℕ) (p : ConsumerPart) → down_frame f ≡ ToD c (consumer_as p) → Gives (incoming.Consumer c p)
  consumer_up c (consumer.ConsumeOk tag) n = let y = consumer_reply c reply_kind.BasicConsumeOk refl n in heard (incoming.Consumer c (consumer.ConsumeOk tag)) (receives_reply c reply_kind.BasicConsumeOk b) refl y.0 y.1
  consumer_up c (consumer.CancelOk tag) n = let y = consumer_reply c reply_kind.BasicCancelOk refl n in heard (incoming.Consumer c (consumer.CancelOk tag)) (receives_reply c reply_kind.BasicCancelOk b) refl y.0 y.1
  consumer_up c consumer.RecoverOk n = let y = consumer_reply c reply_kind.BasicRecoverOk refl n in heard (incoming.Consumer c consumer.RecoverOk) (receives_reply c reply_kind.BasicRecoverOk b) refl y.0 y.1
  consumer_up c (consumer.Cancel tag nowait) n = cancel_up c tag nowait n

  -- a pause of an open channel
  reopened : (c : ℕ) (t : Bool) → down_frame f ≡ ToD c kept.BTell → (c == 0) ≡ false → is_open_phase (phase_of c b) ≡ true → To (record b { phases = with_channel c (phase.Open t) b.phases })
  reopened c t n z o =
      let p = open_is (phase_of c b) o in
      let u = h.up e in
      let was = u.each c in
      let d : Wire = record b { phases = with_channel c (phase.Open t) b.phases } in
      let phase_is : phase_of c d ≡ phase.Open t = phase_with c (phase.Open t) b.phases in
      let away : (y : ℕ) → (c == y) ≡ false → Same y b d = λ y m. record { phase = phase_away c y (phase.Open t) b.phases m; requests = refl; contents = refl; way = refl } in
      let clear : has_close (way (of_u c (waits_as b))) ≡ false = subst (λ q. IsMarked q (of_u c (waits_as b))) p.is was.marks in
      record {
        held = record {
          up = λ y. record {
            zero = phase_away c 0 (phase.Open t) b.phases (ne_eqb c 0 (above c z)) ∙ u.zero;
            each = held_moved c b d away (record {
              opening = λ y. let k : phase.Open t ≡ phase.Opening = sym phase_is ∙ y in cc;
              crossed = λ y. let k : phase.Open t ≡ phase.Crossed = sym phase_is ∙ y in cc;
              marks = subst (λ q. IsMarked q (of_u c (waits_as b))) (sym phase_is) clear;
              contents = was.contents;
            }) u.each;
            publishes = open_with c t b.phases b.publishes u.publishes;
            rest = u.rest;
          };
          shut = h.shut;
          linked = h.linked;
          rest = h.rest;
          methods = h.methods;
        };
        follows = deliver_to c kept.BTell b d f br us ds e e n
            (ap (λ q. chan_as q (requests_of c b) (expected_on c b.contents)) phase_is ∙ ap (λ q. take2 (chan_as q (requests_of c b) (expected_on c b.contents)) (of_u c (waits_as b)) kept.BTell) (sym p.is))
            away
            (sym (append-nil (waits_as b)) ∙ ap (λ q. left_all c (left_at (phase_as q) (has_close (way (of_u c (waits_as b)))) kept.BTell) (waits_as b)) (sym p.is));
      }

  flow_up : (c : ℕ) (active : Bool) → down_frame f ≡ ToD c kept.BTell → Gives (incoming.Flow c active)
  flow_up c active n =
      let o = others_at c kept.BTell refl (let_at c kept.BTell n) in
      heard (incoming.Flow c active) (receives_on (state_of c b)) refl (on_here c o) (pauses o (is_open (state_of c b)) refl)
    where
      d : Wire
      d = record b { phases = with_channel c (phase.Open (not active)) b.phases }

      m : Method
      m = method.Channel (channel.FlowOk active)

      pauses : Others (phase_of c b) (way (of_u c (waits_as b))) → (t : Bool) → is_open (state_of c b) ≡ t → To (after_flow c active b)
      pauses o true k =
          let z = zero_not c o in
          let p : is_open_phase (phase_of c b) ≡ true = sym (ap is_open (state_here c b e z) ∙ open_state (phase_of c b)) ∙ k in
          let q : is_open_phase (phase_of c d) ≡ true = ap is_open_phase (phase_with c (phase.Open (not active)) b.phases) in
          subst To (sym (ap (λ x. cond x (noted c m d) b) k)) (answered_by c m d (tells c m refl (λ most. tt)) refl e q (reopened c (not active) n z p))
      pauses o false k = subst To (sym (ap (λ x. cond x (noted c m d) b) k)) (told_alone c kept.BTell n refl o refl)

  settlement_up : (c : ℕ) (s : Settlement) → down_frame f ≡ ToD c (kept.BSettle (record { tag = s.tag; multiple = s.multiple })) → Gives (incoming.Settlement c s)
  settlement_up c s n =
      let x : DownF = kept.BSettle (record { tag = s.tag; multiple = s.multiple }) in
      let o = others_at c x refl (let_at c x n) in
      delivered_by b see r (settlement_record see c s) f (incoming.Settlement c s) br us ds (told_up (incoming.Settlement c s) ∙ ap (λ t. cond t (settlement_record see c s) r) (on_here c o)) (λ k. k)
      (settles o (see.selected c) (s.multiple || see.pending c s.tag))
    where
      x : DownF
      x = kept.BSettle (record { tag = s.tag; multiple = s.multiple })

      i : Incoming
      i = incoming.Settlement c s

      d : Wire
      d = noted c (session_close s.kind) (closing c closer.Session b)

      fails : Others (phase_of c b) (way (of_u c (waits_as b))) → (t : Bool) → is_open (state_of c b) ≡ t → To (after_failed_on c s b)
      fails o true k =
          let z = zero_not c o in
          let p : is_open_phase (phase_of c b) ≡ true = sym (ap is_open (state_here c b e z) ∙ open_state (phase_of c b)) ∙ k in
          let y = closes_goes c (session_close s.kind) closer.Session b d e z p (record { link_ = refl; phases = refl; rest = refl; ticket = None; methods = refl; publishes = refl; contents = refl; here = refl; away = λ x m. refl; most = refl; up = refl; sent = λ most. tt }) h in
          subst To (sym (ap (λ q. cond q d b) k)) (record { held = y.held; follows = then _ _ _ (told_alone c x n refl o refl).follows (y.follows br us ds) })
      fails o false k = subst To (sym (ap (λ q. cond q d b) k)) (told_alone c x n refl o refl)

      settles : Others (phase_of c b) (way (of_u c (waits_as b))) → (p q : Bool) → To (incoming_wire i (cond p (cond q record_.Received (record_.Refused (error.PreconditionFailed s.tag (see.last c)))) record_.Passed) b)
      settles o true true = told_alone c x n refl o refl
      settles o true false = fails o (is_open (state_of c b)) refl
      settles o false q = told_alone c x n refl o refl

  pub takes_up : (i : Incoming) → down_frame f ≡ income_as i → IsGivenAs i → Gives i
  takes_up (incoming.Reply c reply_kind.ChannelOpenOk a) n q =
      let y = open_comes c b f br us ds e n (open_only (phase_of c b) (way (of_u c (waits_as b))) (let_at c kept.BOpenOk n).sess) h in
      heard (incoming.Reply c reply_kind.ChannelOpenOk a) (receives_reply c reply_kind.ChannelOpenOk b) refl y.0 y.1
  takes_up (incoming.Reply c reply_kind.ChannelCloseOk a) n q = absurd (stray n)
  takes_up (incoming.Reply c reply_kind.ConnectionCloseOk a) n q = absurd (stray n)
  takes_up (incoming.Reply c k a) n q = reply_up c k a refl n
  takes_up (incoming.Settlement c s) n q = settlement_up c s n
  takes_up (incoming.Content c p) n q = part_up c p n q
  takes_up (incoming.Consumer c p) n q = consumer_up c p n
  takes_up (incoming.Flow c active) n q = flow_up c active n
  takes_up (incoming.ChannelClose c code) n q =
      let y = close_comes c b f br us ds e n (let_at c kept.BClose n).sess h in
      heard (incoming.ChannelClose c code) (receives_close (state_of c b)) refl y.0 y.1
  takes_up (incoming.ChannelCloseOk c) n q =
      let y = ok_comes c b f br us ds e n (let_at c kept.BCloseOk n).sess h in
      heard (incoming.ChannelCloseOk c) (receives_close_ok (state_of c b)) refl y.0 y.1
  takes_up (incoming.ConnectionClose code) n q = heard (incoming.ConnectionClose code) true refl refl (close_up code b f br us ds e n h)
  takes_up incoming.ConnectionCloseOk n q = absurd (open_dead (pair_as b br us (f ∷ ds)) (map down_frame ds) (subst J (ap₂ (λ s q. received_a asking (pair_as b br us (f ∷ ds)) s q (map down_frame ds)) (ap link_as e) n) g))
  takes_up incoming.Other n q = absurd (stray n)

-- ---- once it is not open

-- the frame is of a channel
pub record ToChannel (i : Incoming) : Type 0 where
  pub channel_ : ℕ
  pub frame_ : DownF
  pub is : income_as i ≡ ToD channel_ frame_
  pub not_heard : (s : CloseStage) → receives_down (link.Closing s) i ≡ false

abbrev is_channel : Incoming → Bool
is_channel (incoming.ConnectionClose code) = false
is_channel incoming.ConnectionCloseOk = false
is_channel _ = true

to_channel : (i : Incoming) → is_channel i ≡ true → ToChannel i
to_channel (incoming.Reply c reply_kind.ChannelOpenOk a) h = record { channel_ = c; frame_ = kept.BOpenOk; is = refl; not_heard = λ s. refl }
to_channel (incoming.Reply c reply_kind.ChannelCloseOk a) h = record { channel_ = 0; frame_ = kept.BTell; is = refl; not_heard = λ s. refl }
to_channel (incoming.Reply c reply_kind.ConnectionCloseOk a) h = record { channel_ = 0; frame_ = kept.BTell; is = refl; not_heard = λ s. refl }
to_channel (incoming.Reply c k a) h = record { channel_ = c; frame_ = kept.BReply (reply_number k) false; is = refl; not_heard = λ s. refl }
to_channel (incoming.Settlement c s) h = record { channel_ = c; frame_ = kept.BSettle (record { tag = s.tag; multiple = s.multiple }); is = refl; not_heard = λ s. refl }
to_channel (incoming.Content c p) h = record { channel_ = c; frame_ = part_as p; is = refl; not_heard = λ s. refl }
to_channel (incoming.Consumer c p) h = record { channel_ = c; frame_ = consumer_as p; is = refl; not_heard = λ s. refl }
to_channel (incoming.Flow c active) h = record { channel_ = c; frame_ = kept.BTell; is = refl; not_heard = λ s. refl }
to_channel (incoming.ChannelClose c code) h = record { channel_ = c; frame_ = kept.BClose; is = refl; not_heard = λ s. refl }
to_channel (incoming.ChannelCloseOk c) h = record { channel_ = c; frame_ = kept.BCloseOk; is = refl; not_heard = λ s. refl }
to_channel (incoming.ConnectionClose code) h = cc
to_channel incoming.ConnectionCloseOk h = cc
to_channel incoming.Other h = record { channel_ = 0; frame_ = kept.BTell; is = refl; not_heard = λ s. refl }

module _ (b : Wire) (see : Readings) (r : Record) (f : Frame) (br : Broker) (us : List Left) (ds : List Frame) (h : Held b) (g : J (happens_a asking (pair_as b br us (f ∷ ds)) DeliverA)) where
  told_down : (l : ConnectionPhase) (i : Incoming) → b.link ≡ l → is_up l ≡ false → incoming_record b see r i ≡ cond (receives_down l i) record_.Received record_.Passed
  told_down l i e n = ap (λ k. cond (is_up k) (incoming_up b see r i) (cond (receives_down k i) record_.Received record_.Passed)) e ∙ ap (λ t. cond t (incoming_up b see r i) (cond (receives_down l i) record_.Received record_.Passed)) n

  channel_passed : (s : CloseStage) (i : Incoming) → is_crossed s ≡ false → b.link ≡ link.Closing s → down_frame f ≡ income_as i → is_channel i ≡ true → Delivered b see r f i br us ds
  channel_passed s i z e y c =
      let t = to_channel i c in
      delivered_by b see r record_.Passed f i br us ds (told_down (link.Closing s) i e refl ∙ ap (λ q. cond q record_.Received record_.Passed) (t.not_heard s)) (λ k. refl) (passed b f br us ds h s t.channel_ t.frame_ z e (y ∙ t.is))

  channel_down : (l : ConnectionPhase) (i : Incoming) → b.link ≡ l → is_up l ≡ false → down_frame f ≡ income_as i → is_channel i ≡ true → Delivered b see r f i br us ds
  channel_down link.Open i e n y c = absurd cc
  channel_down link.Closed i e n y c = absurd (gone_dead b f br us ds link.Closed refl e g)
  channel_down link.Lost i e n y c = absurd (gone_dead b f br us ds link.Lost refl e g)
  channel_down (link.Closing stage.Crossed) i e n y c = let t = to_channel i c in absurd (cross_dead b f br us ds e (λ k. let z : ToD t.channel_ t.frame_ ≡ CloseOkD = sym (y ∙ t.is) ∙ k in cc) g)
  channel_down (link.Closing stage.Queued) i e n y c = channel_passed stage.Queued i refl e y c
  channel_down (link.Closing stage.Sent) i e n y c = channel_passed stage.Sent i refl e y c

  close_down : (l : ConnectionPhase) (code : ℕ) → b.link ≡ l → is_up l ≡ false → down_frame f ≡ CloseD → Delivered b see r f (incoming.ConnectionClose code) br us ds
  close_down link.Open code e n y = absurd cc
  close_down link.Closed code e n y = absurd (gone_dead b f br us ds link.Closed refl e g)
  close_down link.Lost code e n y = absurd (gone_dead b f br us ds link.Lost refl e g)
  close_down (link.Closing stage.Crossed) code e n y = absurd (cross_dead b f br us ds e (λ k. let z : CloseD ≡ CloseOkD = sym y ∙ k in cc) g)
  close_down (link.Closing stage.Queued) code e n y = delivered_by b see r record_.Received f (incoming.ConnectionClose code) br us ds (told_down (link.Closing stage.Queued) (incoming.ConnectionClose code) e refl) (λ k. refl) (crosses b f br us ds h stage.Queued refl e y)
  close_down (link.Closing stage.Sent) code e n y = delivered_by b see r record_.Received f (incoming.ConnectionClose code) br us ds (told_down (link.Closing stage.Sent) (incoming.ConnectionClose code) e refl) (λ k. refl) (crosses b f br us ds h stage.Sent refl e y)

  answer_down : (l : ConnectionPhase) → b.link ≡ l → is_up l ≡ false → down_frame f ≡ CloseOkD → Delivered b see r f incoming.ConnectionCloseOk br us ds
  answer_down link.Open e n y = absurd cc
  answer_down link.Closed e n y = absurd (gone_dead b f br us ds link.Closed refl e g)
  answer_down link.Lost e n y = absurd (gone_dead b f br us ds link.Lost refl e g)
  answer_down (link.Closing s) e n y = delivered_by b see r record_.Received f incoming.ConnectionCloseOk br us ds (told_down (link.Closing s) incoming.ConnectionCloseOk e refl) (λ k. refl) (ended_by b f br us ds h s e y)

  takes_down : (i : Incoming) → is_up b.link ≡ false → down_frame f ≡ income_as i → Delivered b see r f i br us ds
  takes_down (incoming.ConnectionClose code) n y = close_down b.link code refl n y
  takes_down incoming.ConnectionCloseOk n y = answer_down b.link refl n y
  takes_down (incoming.Reply c k a) n y = channel_down b.link (incoming.Reply c k a) refl n y refl
  takes_down (incoming.Settlement c s) n y = channel_down b.link (incoming.Settlement c s) refl n y refl
  takes_down (incoming.Content c p) n y = channel_down b.link (incoming.Content c p) refl n y refl
  takes_down (incoming.Consumer c p) n y = channel_down b.link (incoming.Consumer c p) refl n y refl
  takes_down (incoming.Flow c active) n y = channel_down b.link (incoming.Flow c active) refl n y refl
  takes_down (incoming.ChannelClose c code) n y = channel_down b.link (incoming.ChannelClose c code) refl n y refl
  takes_down (incoming.ChannelCloseOk c) n y = channel_down b.link (incoming.ChannelCloseOk c) refl n y refl
  takes_down incoming.Other n y = channel_down b.link incoming.Other refl n y refl

  takes_any : (i : Incoming) → down_frame f ≡ income_as i → IsGivenAs i → Delivered b see r f i br us ds
  takes_any i y q = by_link (is_up b.link) refl
    where
      by_link : (t : Bool) → is_up b.link ≡ t → Delivered b see r f i br us ds
      by_link true u = takes_up b see r f br us ds (up_open b.link u) h g i y q
      by_link false u = takes_down i u y

-- ---- headers are of class 60

given_basic : (c : ℕ) (m : BasicMethod) → IsGivenAs (incoming_method c (method.Basic m))
given_basic c basic.QosOk = tt
given_basic c _ = tt

given_exchange : (c : ℕ) (m : ExchangeMethod) → IsGivenAs (incoming_method c (method.Exchange m))
given_exchange c exchange.DeclareOk = tt
given_exchange c _ = tt

given_queue : (c : ℕ) (m : QueueMethod) → IsGivenAs (incoming_method c (method.Queue m))
given_queue c queue.BindOk = tt
given_queue c _ = tt

given_tx : (c : ℕ) (m : TxMethod) → IsGivenAs (incoming_method c (method.Tx m))
given_tx c tx.SelectOk = tt
given_tx c _ = tt

given_channel : (c : ℕ) (m : ChannelMethod) → IsGivenAs (incoming_method c (method.Channel m))
given_channel c channel.OpenOk = tt
given_channel c _ = tt

given_own : (t : Bool) (i : Incoming) → IsGivenAs i → IsGivenAs (cond t i incoming.Other)
given_own true i h = h
given_own false i h = tt

given_as : (f : Frame) → IsGiven (broker_frame f) → IsGivenAs (incoming_of f)
given_as (frame.Header c h) g = g
given_as (frame.Body c bytes) g = tt
given_as (frame.Method c (method.Connection (connection.Close code text class number))) g = given_own (c == 0) (incoming.ConnectionClose code) tt
given_as (frame.Method c (method.Connection connection.CloseOk)) g = given_own (c == 0) incoming.ConnectionCloseOk tt
given_as (frame.Method c (method.Channel m)) g = given_channel c m
given_as (frame.Method c (method.Access access.RequestOk)) g = tt
given_as (frame.Method c (method.Access (access.Request a b d e f h))) g = tt
given_as (frame.Method c (method.Exchange m)) g = given_exchange c m
given_as (frame.Method c (method.Queue m)) g = given_queue c m
given_as (frame.Method c (method.Basic m)) g = given_basic c m
given_as (frame.Method c (method.Confirm confirm.SelectOk)) g = tt
given_as (frame.Method c (method.Confirm (confirm.Select nowait))) g = tt
given_as (frame.Method c (method.Tx m)) g = given_tx c m

-- any frame that the broker may have sent is delivered so
pub deliver_comes : (b : Wire) (see : Readings) (r : Record) (f : Frame) (br : Broker) (us : List Left) (ds : List Frame) → Held b → IsGiven (broker_frame f) → J (pair_as b br us (f ∷ ds)) → Delivered b see r f (incoming_of f) br us ds
deliver_comes b see r f br us ds h q g = takes_any b see r f br us ds h (j_keeps (pair_as b br us (f ∷ ds)) DeliverA g) (incoming_of f) (sorted f) (given_as f q)
