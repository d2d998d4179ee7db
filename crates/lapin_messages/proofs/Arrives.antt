-- A frame of the broker arrives: what goes with a run goes on, with one more that came on its channel.
use Rattle.std.proofs.Common.{◌≡◌, ◌∙◌, ℕ, ◌==◌, Bool, true, false, cond, ◌&&◌, ◌||◌, List, [], ◌∷◌, ◌++◌, ◌⊎◌, inl, inr, refl, sym, ap, subst, append-nil, append_assoc, arith, eq-eqb}
use Rattle.std.specs.List.{filter, fold, list_any}
use Rattle.std.proofs.lemmas.Bool.{and_parts, or_parts, both_ways}
use Rattle.std.proofs.lemmas.Bool.Decides.{eqb_tells}
use Rattle.std.proofs.lemmas.List.Folds.{list_any-append}
use Rattle.std.proofs.lemmas.List.Sums.{fold-append}
use Rattle.lapin_types.specs.declared.event.Event.TheVariants as event
use Rattle.lapin_types.specs.declared.leaving.Left.{Left}
use Rattle.lapin_types.specs.declared.record.Record.TheVariants as record_
use Rattle.lapin_types.specs.Types.{Frame, Method, ChannelMethod, ExchangeMethod, QueueMethod, BasicMethod, TxMethod}
use Rattle.lapin_types.specs.Types.frame
use Rattle.lapin_types.specs.Types.method
use Rattle.lapin_types.specs.Types.connection
use Rattle.lapin_types.specs.Types.channel
use Rattle.lapin_types.specs.Types.access
use Rattle.lapin_types.specs.Types.exchange
use Rattle.lapin_types.specs.Types.queue
use Rattle.lapin_types.specs.Types.basic
use Rattle.lapin_types.specs.Types.confirm
use Rattle.lapin_types.specs.Types.tx
use Rattle.lapin_content.specs.Channels.{expected_on}
use Rattle.lapin_broker.specs.declared.frames.BrokerFrame.{BrokerFrame}
use Rattle.lapin_broker.specs.declared.frames.BrokerFrame.TheVariants as broker
use Rattle.lapin_broker.specs.Frames.{channel_of, tag_of, broker_method}
use Rattle.lapin_broker.specs.Tags.{same_text}
use Rattle.lapin_rules.specs.declared.broker_frames.ConsumerPart.TheVariants as consumer
use Rattle.lapin_rules.specs.declared.broker_frames.Incoming.TheVariants as incoming
use Rattle.lapin_rules.specs.ConfirmMarks.{ConfirmMark}
use Rattle.lapin_rules.specs.Events.{after_event, delivery_marks, confirm_marks}
use Rattle.lapin_rules.specs.Incoming.{incoming_of}
use Rattle.lapin_rules.specs.Receiving.{after_received, received_deliveries}
use Rattle.lapin_rules.specs.Phases.{is_up}
use Rattle.lapin_rules.specs.Words.{many}
use Rattle.lapin_rules.specs.Wire.{Wire}
use Rattle.lapin_delivery.specs.Marks.{DeliveryMark}
use Rattle.lapin_delivery.specs.Marks as deliveries
use Rattle.lapin_concord.specs.Held.{IsOneContent}
use Rattle.lapin_verdicts.specs.Deeds.{Deed, Read, Sent, is_open, opens, on_channel, joined_opening, last_opening, opening, reads, sents}
use Rattle.lapin_verdicts.specs.InStep.{is_frame_on, is_open_on, is_open_waiting}
use Rattle.lapin_types.specs.declared.leaving.Publish.{Publish}
use Rattle.lapin_verdicts.specs.Session.{frames_of}
use Rattle.lapin_effects.specs.Effects.{live, hears, Effect}
use Rattle.lapin_verdicts.proofs.TagCounts.{reads-append, reads-sent, sents-append}
use Rattle.lapin_verdicts.proofs.Runs.{cancel, Split, split_at}
use Rattle.lapin_verdicts.proofs.Unread.{is_unread}
use Rattle.lapin_verdicts.proofs.Whole.{opening_last}
use Rattle.lapin_messages.specs.Openings.{begins}
use Rattle.lapin_messages.proofs.Bringing.{Brings}
use Rattle.lapin_messages.proofs.Channel.{IsKnown, Channel, channel_frame}
use Rattle.lapin_messages.proofs.Comings.{receives_content, still_sends, content_comes, content_channel, content_away}
use Rattle.lapin_messages.proofs.Deals.{Deals, ends_on}
use Rattle.lapin_messages.proofs.Dealing.{is_content, event_deals, content_still}
use Rattle.lapin_messages.proofs.Effect.{died, lived, still_ends}
use Rattle.lapin_messages.proofs.Hearing.{no_registration}
use Rattle.lapin_messages.proofs.Lists.{Longer}
use Rattle.lapin_messages.proofs.Logs.{Logs}
use Rattle.lapin_messages.proofs.Subscriptions.{Shows}
use Rattle.lapin_messages.proofs.Sendings.{coming}
use Rattle.lapin_messages.proofs.State.{next_asked, asked_on, Ways, Channels, hears_live, same_unread, none_event, ways_event}
use Rattle.lapin_messages.proofs.Tags.{consumes, answers_consume, delivers_to, is_consume_ok, told, AreTold, told-before}
use Rattle.lapin_messages.proofs.Turn.{live_up}
use Rattle.lapin_rules.proofs.ListLaws.{many-none}

-- ---- consume-ok

-- the frame is consume-ok for this tag
pub record IsConsumeOk (t : List ℕ) (f : Frame) : Type 0 where
  pub tag : List ℕ
  pub is : incoming_of f ≡ incoming.Consumer (channel_of f) (consumer.ConsumeOk tag)
  pub same : same_text tag t ≡ true

module _ (t : List ℕ) (c : ℕ) where
  abbrev Ok : Method → Type 0
  Ok m = answers_consume t (frame.Method c m) ≡ true → IsConsumeOk t (frame.Method c m)

  never : (m : Method) → is_consume_ok (broker_method c m) ≡ false → Ok m
  never m off h = absurd (both_ways _ off (and_parts (is_consume_ok (broker_method c m)) (same_text (tag_of (frame.Method c m)) t) h).0)

  chosen : (v : Bool) (x y : BrokerFrame) → is_consume_ok x ≡ false → is_consume_ok y ≡ false → is_consume_ok (cond v x y) ≡ false
  chosen true x y h k = h
  chosen false x y h k = k

  ok_basic : (m : BasicMethod) → Ok (method.Basic m)
  ok_basic (basic.ConsumeOk tag) h = record { tag = tag; is = refl; same = h }
  ok_basic basic.QosOk h = absurd cc
  ok_basic basic.RecoverOk h = absurd cc
  ok_basic basic.GetEmpty h = absurd cc
  ok_basic m h = absurd cc

  ok_channel : (m : ChannelMethod) → is_consume_ok (broker_method c (method.Channel m)) ≡ false
  ok_channel channel.OpenOk = refl
  ok_channel _ = refl

  ok_exchange : (m : ExchangeMethod) → is_consume_ok (broker_method c (method.Exchange m)) ≡ false
  ok_exchange exchange.DeclareOk = refl
  ok_exchange _ = refl

  ok_queue : (m : QueueMethod) → is_consume_ok (broker_method c (method.Queue m)) ≡ false
  ok_queue queue.BindOk = refl
  ok_queue _ = refl

  ok_tx : (m : TxMethod) → is_consume_ok (broker_method c (method.Tx m)) ≡ false
  ok_tx tx.SelectOk = refl
  ok_tx _ = refl

  ok_method : (m : Method) → Ok m
  ok_method (method.Connection (connection.Close code text class number)) = never (method.Connection (connection.Close code text class number)) (chosen (c == 0) broker.ConnectionClose broker.Other refl refl)
  ok_method (method.Connection connection.CloseOk) = never (method.Connection connection.CloseOk) (chosen (c == 0) broker.ConnectionCloseOk broker.Other refl refl)
  ok_method (method.Channel m) = never (method.Channel m) (ok_channel m)
  ok_method (method.Access access.RequestOk) = never (method.Access access.RequestOk) refl
  ok_method (method.Access (access.Request realm exclusive passive active write read)) = never (method.Access (access.Request realm exclusive passive active write read)) refl
  ok_method (method.Exchange m) = never (method.Exchange m) (ok_exchange m)
  ok_method (method.Queue m) = never (method.Queue m) (ok_queue m)
  ok_method (method.Basic m) = ok_basic m
  ok_method (method.Confirm confirm.SelectOk) = never (method.Confirm confirm.SelectOk) refl
  ok_method (method.Confirm (confirm.Select nowait)) = never (method.Confirm (confirm.Select nowait)) refl
  ok_method (method.Tx m) = never (method.Tx m) (ok_tx m)

pub is_ok : (t : List ℕ) (f : Frame) → answers_consume t f ≡ true → IsConsumeOk t f
is_ok t (frame.Method c m) h = ok_method t c m h
is_ok t (frame.Header c x) h = absurd cc
is_ok t (frame.Body c bytes) h = absurd cc

-- a part of a content is none
pub no_ok : (t : List ℕ) (f : Frame) → is_content (incoming_of f) ≡ true → answers_consume t f ≡ true → ⊥
no_ok t f h a = let k = is_ok t f a in both_ways _ (ap is_content k.is) h

-- ---- one more came

pub drop_front : (c : ℕ) (f : Frame) (way : List Frame) → filter (is_frame_on c) (f ∷ way) ≡ cond (channel_of f == c) (f ∷ filter (is_frame_on c) way) (filter (is_frame_on c) way)
drop_front c f way = refl

-- on its channel the frame came last
pub came_last : (c : ℕ) (f : Frame) (way : List Frame) (all came came' : List Frame) → (channel_of f == c) ≡ true → all ≡ came ++ filter (is_frame_on c) (f ∷ way) → all ≡ came' ++ filter (is_frame_on c) way → came' ≡ came ++ f ∷ []
came_last c f way all came came' on e e' =
    cancel came' (came ++ f ∷ []) (filter (is_frame_on c) way) (sym e' ∙ (e ∙ (ap (λ v. came ++ cond v (f ∷ filter (is_frame_on c) way) (filter (is_frame_on c) way)) on ∙ sym (append_assoc came (f ∷ []) (filter (is_frame_on c) way)))))

-- a frame that is no part of a content
pub channels_drop : (b : Wire) (ms : List DeliveryMark) (up : List Left) (f : Frame) (way : List Frame) (ds : List Deed) → is_content (incoming_of f) ≡ false → ((t : List ℕ) → live (channel_of f) b ≡ true → answers_consume t f ≡ true → IsKnown (channel_of f) ms t) → ((c : ℕ) → (c == 0) ≡ false → is_up b.link ≡ true → (came : List Frame) × (sents (last_opening c ds) ≡ came ++ filter (is_frame_on c) (f ∷ way))) → Channels b ms up (f ∷ way) ds → Channels b ms up way ds
channels_drop b ms up f way ds plain known ways h = record {
  fresh = h.fresh;
  channel = λ c z l u came e. elim (eqb_tells (channel_of f) c) [
    | inl y ↦
        let was = ways c z (live_up c b l) in
        let last : came ≡ was.0 ++ f ∷ [] = came_last c f way (sents (last_opening c ds)) was.0 came y.0 was.1 e in
        let now : Channel c ms (expected_on c b.contents) was.0 = h.channel c z l u was.0 was.1 in
        subst (Channel c ms (expected_on c b.contents)) (sym last) (channel_frame c ms (expected_on c b.contents) was.0 f (still_sends f (coming was.0) plain) (λ t a. subst (λ v. IsKnown v ms t) y.1 (known t (subst (λ v. live v b ≡ true) (sym y.1) l) a)) now)
    | inr n ↦ h.channel c z l u came (e ∙ ap (λ v. came ++ v) (sym (ap (λ v. cond v (f ∷ filter (is_frame_on c) way) (filter (is_frame_on c) way)) n.0)))
  ];
}

-- ---- what is delivered was told

told_known : (t : List ℕ) (o : List Deed) → told t o ≡ true → (list_any (consumes t) (reads o) ≡ true) ⊎ (list_any (answers_consume t) (sents o) ≡ true)
told_known t [] h = absurd cc
told_known t (Read l ∷ o) h = elim (consumes t l.frame) as (λ v. (v || told t o) ≡ true → ((v || list_any (consumes t) (reads o)) ≡ true) ⊎ (list_any (answers_consume t) (sents o) ≡ true)) [ true ↦ λ e. inl refl | false ↦ λ e. told_known t o e ] h
told_known t (Sent f ∷ o) h = elim (answers_consume t f) as (λ v. (v || told t o) ≡ true → (list_any (consumes t) (reads o) ≡ true) ⊎ ((v || list_any (answers_consume t) (sents o)) ≡ true)) [ true ↦ λ e. inr refl | false ↦ λ e. told_known t o e ] h

-- the frames of the last opening are those since the last `channel.open`
asked_reads : (c : ℕ) (o ds : List Deed) → fold (next_asked c) (reads o) (reads ds) ≡ reads (fold joined_opening o (on_channel c ds))
asked_reads c o [] = refl
asked_reads c o (Read l ∷ ds) = elim (channel_of l.frame == c) as (λ v. fold (next_asked c) (cond v (cond (is_open l.frame) [] (reads o ++ l.frame ∷ [])) (reads o)) (reads ds) ≡ reads (fold joined_opening o (cond v (Read l ∷ on_channel c ds) (on_channel c ds)))) [
  | true ↦ ap (λ v. fold (next_asked c) v (reads ds)) (by (is_open l.frame)) ∙ asked_reads c (joined_opening o (Read l)) ds
  | false ↦ asked_reads c o ds
]
  where
    by : (v : Bool) → cond v [] (reads o ++ l.frame ∷ []) ≡ reads (cond v [] (o ++ Read l ∷ []))
    by true = refl
    by false = sym (reads-append o (Read l ∷ []))
asked_reads c o (Sent f ∷ ds) = elim (channel_of f == c) as (λ v. fold (next_asked c) (reads o) (reads ds) ≡ reads (fold joined_opening o (cond v (Sent f ∷ on_channel c ds) (on_channel c ds)))) [
  | true ↦ ap (λ v. fold (next_asked c) v (reads ds)) (sym (reads-sent o f)) ∙ asked_reads c (o ++ Sent f ∷ []) ds
  | false ↦ asked_reads c o ds
]

-- a consume stays among them as long as no open comes behind it
asked_stays : (c : ℕ) (t : List ℕ) (us : List Left) (o : List Frame) → list_any (is_open_on c) us ≡ false → list_any (consumes t) o ≡ true → list_any (consumes t) (fold (next_asked c) o (frames_of us)) ≡ true
asked_stays c t [] o n h = h
asked_stays c t (l ∷ us) o n h = elim (channel_of l.frame == c) as (λ v. ((v && is_open l.frame) || list_any (is_open_on c) us) ≡ false → list_any (consumes t) (fold (next_asked c) (cond v (cond (is_open l.frame) [] (o ++ l.frame ∷ [])) o) (frames_of us)) ≡ true) [
  | true ↦ elim (is_open l.frame) as (λ w. (w || list_any (is_open_on c) us) ≡ false → list_any (consumes t) (fold (next_asked c) (cond w [] (o ++ l.frame ∷ [])) (frames_of us)) ≡ true) [
    | true ↦ λ m. absurd cc
    | false ↦ λ m. asked_stays c t us (o ++ l.frame ∷ []) m (list_any-append (consumes t) o (l.frame ∷ []) ∙ rw h refl)
  ]
  | false ↦ λ m. asked_stays c t us o m h
] n

-- a consume that was read in the last opening is one of those that were handed out since the last open
pub read_asked : (c : ℕ) (t : List ℕ) (ds : List Deed) (us : List Left) → list_any (is_open_on c) us ≡ false → list_any (consumes t) (reads (last_opening c ds)) ≡ true → list_any (consumes t) (asked_on c (reads ds ++ frames_of us)) ≡ true
read_asked c t ds us n h = ap (list_any (consumes t)) (fold-append (next_asked c) [] (reads ds) (frames_of us)) ∙ asked_stays c t us (asked_on c (reads ds)) n (ap (list_any (consumes t)) (asked_reads c [] ds) ∙ h)

-- ---- a part of a content

module _ (b : Wire) (cs : List ConfirmMark) (ms : List DeliveryMark) (up : List Left) (f : Frame) (way : List Frame) (ds : List Deed) (new : List Publish) (E : Effect b (after_event b (event.Receive f) record_.Received) (confirm_marks b (event.Receive f) record_.Received) new) (back_up : is_up (after_event b (event.Receive f) record_.Received).link ≡ true → is_up b.link ≡ true) (read : (c : ℕ) → hears c b ≡ true → is_unread c b up ≡ false) (receives : receives_content (incoming_of f) b ≡ true) (content : is_content (incoming_of f) ≡ true) (heard : hears (channel_of f) b ≡ true) (one : IsOneContent (expected_on (channel_of f) (after_received (incoming_of f) b).contents)) (shows : Shows ms b.deliveries.subscriptions) (l : Logs ms ds) (w : Ways b cs ms (reads ds ++ frames_of up)) (h : Channels b ms up (f ∷ way) ds) (ways : (c : ℕ) → (c == 0) ≡ false → is_up b.link ≡ true → (came : List Frame) × (sents (last_opening c ds) ≡ came ++ filter (is_frame_on c) (f ∷ way))) (tags : AreTold [] (last_opening (channel_of f) ds)) (count : many opens (on_channel (channel_of f) ds) ≡ many (begins (channel_of f)) ms) where
  abbrev a : ℕ
  a = channel_of f

  abbrev b' : Wire
  b' = after_event b (event.Receive f) record_.Received

  abbrev xs : List ConfirmMark
  xs = confirm_marks b (event.Receive f) record_.Received

  abbrev X : List DeliveryMark
  X = delivery_marks b (event.Receive f) record_.Received

  deals : Deals (is_content (incoming_of f)) b b' xs X
  deals = event_deals b (event.Receive f) record_.Received refl

  heard_live : (live a b ≡ true) × ((a == 0) ≡ false) × (is_up b.link ≡ true)
  heard_live = hears_live a b heard

  abbrev was : (came : List Frame) × (sents (last_opening a ds) ≡ came ++ filter (is_frame_on a) (f ∷ way))
  was = ways a heard_live.1 heard_live.2

  here : Channel a ms (expected_on a b.contents) was.0
  here = h.channel a heard_live.1 heard_live.0 (read a heard) was.0 was.1

  -- the place where it was sent
  on : (a == a) ≡ true
  on = eq-eqb a a refl

  all : sents (last_opening a ds) ≡ was.0 ++ f ∷ filter (is_frame_on a) way
  all = was.1 ∙ ap (λ v. was.0 ++ cond v (f ∷ filter (is_frame_on a) way) (filter (is_frame_on a) way)) on

  place : Split (last_opening a ds) was.0 f
  place = split_at (last_opening a ds) was.0 f (filter (is_frame_on a) way) all

  -- what is delivered to a tag was told before, so its consumer was registered
  known : (t : List ℕ) → delivers_to t f ≡ true → IsKnown a ms t
  known t d = elim (told_known t place.before (told-before [] place.before place.behind f t (subst (AreTold []) place.all tags) d)) [
    | inl y ↦
        let unread = or_parts (list_any (is_open_on a) up) (list_any (is_open_waiting a) b.methods) (read a heard) in
        let more : reads (last_opening a ds) ≡ reads place.before ++ reads (Sent f ∷ place.behind) = ap reads place.all ∙ reads-append place.before (Sent f ∷ place.behind) in
        let there : list_any (consumes t) (reads (last_opening a ds)) ≡ true = ap (list_any (consumes t)) more ∙ (list_any-append (consumes t) (reads place.before) (reads (Sent f ∷ place.behind)) ∙ rw y refl) in
        w.asked a t heard_live.0 (many-none (is_open_waiting a) b.methods unread.1) (read_asked a t ds up unread.0 there)
    | inr y ↦ here.sends.answered t (ap (list_any (answers_consume t)) (sym place.came_is) ∙ y)
  ]

  unanswered : (t : List ℕ) → answers_consume t f ≡ true → IsKnown a ms t
  unanswered t q = absurd (no_ok t f content q)

  -- what came is the beginning of what was sent in the opening
  in_opening : Longer (was.0 ++ f ∷ []) (sents (opening a (many (begins a) ms) ds))
  in_opening =
      let o = opening_last a (many (begins a) ms) ds [] (w.positive a heard_live.0) count in
      let whole : opening a (many (begins a) ms) ds ≡ last_opening a ds ++ o.0 = ap (opening a (many (begins a) ms)) (sym (append-nil ds)) ∙ o.1 in (
        filter (is_frame_on a) way ++ sents o.0,
        ap sents whole ∙ (sents-append (last_opening a ds) o.0 ∙ (ap (λ v. v ++ sents o.0) (all ∙ sym (append_assoc was.0 (f ∷ []) (filter (is_frame_on a) way))) ∙ append_assoc (was.0 ++ f ∷ []) (filter (is_frame_on a) way) (sents o.0))),
      )

  brought : Brings a ms (received_deliveries (incoming_of f) b) ds (expected_on a (after_received (incoming_of f) b).contents) (was.0 ++ f ∷ [])
  brought = content_comes b ms ds was.0 l shows f receives one known unanswered in_opening here

  pub content_logs : Logs (ms ++ X) ds
  content_logs = brought.logs

  unended : (c : ℕ) → list_any (ends_on c) xs ≡ false
  unended c = still_ends c xs (content_still (incoming_of f) b content)

  -- another channel expects what it did
  away : (c : ℕ) → (a == c) ≡ false → expected_on c b'.contents ≡ expected_on c b.contents
  away c off = content_away c (incoming_of f) b content (λ d p e. ap (λ v. v == c) (sym (content_channel f d p e)) ∙ off)

  -- its channel lives on
  lives_on : live a b' ≡ true
  lives_on = elim (live a b') as (λ v. live a b' ≡ v → v ≡ true) [ true ↦ λ e. refl | false ↦ λ e. absurd (both_ways _ (unended a) (died E a heard_live.0 e)) ] refl

  no_consumer : (c : ℕ) (t q : List ℕ) → X ≡ deliveries.Consumed c t q ∷ [] → hears c b ≡ true
  no_consumer c t q e = absurd (no_registration (incoming_of f) b content c t q e)

  pub content_ways : Ways b' (cs ++ xs) (ms ++ X) (reads ds ++ frames_of up)
  content_ways = ways_event (is_content (incoming_of f)) b b' xs cs X ms new E deals (reads ds ++ frames_of up) no_consumer back_up
      (λ c u dead empty. elim (eqb_tells a c) [
        | inl y ↦ absurd (both_ways _ (subst (λ v. live v b' ≡ false) (sym y.1) dead) lives_on)
        | inr n ↦ away c n.0 ∙ empty
      ])
      (λ c u e. absurd (both_ways _ (unended c) e))
      w

  was_live : (c : ℕ) → live c b' ≡ true → live c b ≡ true
  was_live c l' = elim (lived E c l') [ inl y ↦ y | inr y ↦ absurd (let z = deals.begun c in let q = brought.quiet c in let e : ⊥ = omega (arith, z, q, y) in e) ]

  pub content_channels : Channels b' (ms ++ X) up way ds
  content_channels = record {
    fresh = λ c z l' u.
        let l0 = was_live c l' in
        let unread : is_unread c b up ≡ true = sym (same_unread (is_content (incoming_of f)) b b' xs cs X ms new E deals c up l0 l') ∙ u in
        let off : (a == c) ≡ false = elim (eqb_tells a c) [ inl y ↦ absurd (both_ways _ (subst (λ v. is_unread v b up ≡ false) y.1 (read a heard)) unread) | inr n ↦ n.0 ] in
        let k = h.fresh c z l0 unread in
        record { expected = away c off ∙ k.expected; none = none_event (is_content (incoming_of f)) b b' xs cs X ms new E deals c (λ d t q e. absurd (no_registration (incoming_of f) b content d t q e)) k.none };
    channel = λ c z l' u came e.
        let l0 = was_live c l' in
        let unread : is_unread c b up ≡ false = sym (same_unread (is_content (incoming_of f)) b b' xs cs X ms new E deals c up l0 l') ∙ u in
        elim (eqb_tells a c) [
          | inl y ↦
              let G : ℕ → Type 0 = λ v. (came : List Frame) → sents (last_opening v ds) ≡ came ++ filter (is_frame_on v) way → Channel v (ms ++ X) (expected_on v b'.contents) came in
              let g : G a = λ came e. subst (Channel a (ms ++ X) (expected_on a b'.contents)) (sym (came_last a f way (sents (last_opening a ds)) was.0 came on was.1 e)) brought.here in
              subst G y.1 g came e
          | inr n ↦
              let before : sents (last_opening c ds) ≡ came ++ filter (is_frame_on c) (f ∷ way) = e ∙ ap (λ v. came ++ v) (sym (ap (λ v. cond v (f ∷ filter (is_frame_on c) way) (filter (is_frame_on c) way)) n.0)) in
              subst (λ es. Channel c (ms ++ X) es came) (sym (away c n.0)) (brought.away c n.0 (expected_on c b.contents) came (h.channel c z l0 unread came before))
        ];
  }
