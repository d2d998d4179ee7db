-- A part of a content comes on a channel that is heard, by the frame that it is.
use Rattle.std.proofs.Common.{◌≡◌, ◌∙◌, ℕ, ◌==◌, Bool, true, false, cond, List, [], ◌∷◌, ◌++◌, Option, Some, None, refl, sym, ap, subst, append-nil}
use Rattle.std.proofs.lemmas.Bool.{and_parts, both_ways}
use Rattle.lapin_types.specs.Types.{Frame, Method, ConnectionMethod, ChannelMethod, AccessMethod, ExchangeMethod, QueueMethod, ConfirmMethod, TxMethod}
use Rattle.lapin_types.specs.Types.frame
use Rattle.lapin_types.specs.Types.method
use Rattle.lapin_types.specs.Types.connection
use Rattle.lapin_types.specs.Types.channel
use Rattle.lapin_types.specs.Types.access
use Rattle.lapin_types.specs.Types.exchange
use Rattle.lapin_types.specs.Types.queue
use Rattle.lapin_types.specs.Types.basic
use Rattle.lapin_types.specs.Types.confirm
use Rattle.lapin_types.specs.Types.tx
use Rattle.lapin_content.specs.Channels.{expected_on}
use Rattle.lapin_content.specs.Contents.{Expected, expected, front_waits, front_takes, after_header, after_body, for_ticket, for_consumer}
use Rattle.lapin_content.specs.declared.start.Start.{Start as Begin}
use Rattle.lapin_content.specs.declared.start.Start.TheVariants as begin
use Rattle.lapin_consumer.specs.Subscriptions.{found}
use Rattle.lapin_broker.specs.Frames.{channel_of}
use Rattle.lapin_rules.specs.declared.broker_frames.ContentPart.{ContentPart}
use Rattle.lapin_rules.specs.declared.broker_frames.ContentPart.TheVariants as part
use Rattle.lapin_rules.specs.declared.broker_frames.Incoming.{Incoming}
use Rattle.lapin_rules.specs.declared.broker_frames.Incoming.TheVariants as incoming
use Rattle.lapin_rules.specs.Content.{get_ticket, receives_part, after_part, whole_by}
use Rattle.lapin_rules.specs.Incoming.{incoming_of, incoming_method}
use Rattle.lapin_rules.specs.Receiving.{after_received, received_deliveries}
use Rattle.lapin_rules.specs.Wire.{Wire, state_of, receives_on}
use Rattle.lapin_rules.specs.Words.{many}
use Rattle.lapin_delivery.specs.Marks.{DeliveryMark}
use Rattle.lapin_concord.specs.Held.{IsOneContent}
use Rattle.lapin_verdicts.specs.Deeds.{Deed, opening, sents}
use Rattle.lapin_verdicts.specs.Messages.{Start, Deliver, Get, Return, Started, Sent_, sent_after, is_to_start}
use Rattle.lapin_messages.specs.Openings.{begins}
use Rattle.lapin_messages.proofs.Bringing.{Brings, piece_brings}
use Rattle.lapin_messages.proofs.Channel.{IsKnown, Channel}
use Rattle.lapin_laws.proofs.Expecting.{expected-here}
use Rattle.lapin_concord.proofs.Coming.{joined_here, joined_away}
use Rattle.lapin_messages.proofs.Dealing.{is_content}
use Rattle.lapin_messages.proofs.Lists.{Longer}
use Rattle.lapin_messages.proofs.Logs.{Logs, text-is, text-same}
use Rattle.lapin_messages.proofs.Parts.{begin_channel}
use Rattle.lapin_messages.proofs.Subscriptions.{Shows, who, is_found}
use Rattle.lapin_messages.proofs.Sendings.{coming, StartIs, consumer_of, header_goes, body_goes}
use Rattle.lapin_messages.proofs.Tags.{answers_consume, delivers_to}
use Rattle.lapin_concord.proofs.Views.{contents_on_away}

-- ---- frames that are no part of a content

-- the part is received
abbrev pub receives_content : Incoming → Wire → Bool
receives_content (incoming.Content c p) b = receives_part c p b
receives_content _ b = false

module _ (b : Wire) (c : ℕ) where
  abbrev No : Method → Type 0
  No m = receives_content (incoming_method c m) b ≡ true → ⊥

  no_connection : (m : ConnectionMethod) → No (method.Connection m)
  no_connection (connection.Close code text class number) h = elim (c == 0) as (λ v. receives_content (cond v (incoming.ConnectionClose code) incoming.Other) b ≡ true → ⊥) [ true ↦ λ g. cc | false ↦ λ g. cc ] h
  no_connection connection.CloseOk h = elim (c == 0) as (λ v. receives_content (cond v incoming.ConnectionCloseOk incoming.Other) b ≡ true → ⊥) [ true ↦ λ g. cc | false ↦ λ g. cc ] h

  no_channel : (m : ChannelMethod) → No (method.Channel m)
  no_channel channel.OpenOk h = cc
  no_channel _ h = cc

  no_access : (m : AccessMethod) → No (method.Access m)
  no_access access.RequestOk h = cc
  no_access _ h = cc

  no_exchange : (m : ExchangeMethod) → No (method.Exchange m)
  no_exchange exchange.DeclareOk h = cc
  no_exchange _ h = cc

  no_queue : (m : QueueMethod) → No (method.Queue m)
  no_queue queue.BindOk h = cc
  no_queue _ h = cc

  no_confirm : (m : ConfirmMethod) → No (method.Confirm m)
  no_confirm confirm.SelectOk h = cc
  no_confirm _ h = cc

  no_tx : (m : TxMethod) → No (method.Tx m)
  no_tx tx.SelectOk h = cc
  no_tx _ h = cc

-- it changes nothing of what is being sent
pub still_sends : (f : Frame) (y : Sent_) → is_content (incoming_of f) ≡ false → sent_after y f ≡ y
still_sends (frame.Header c h) y n = absurd cc
still_sends (frame.Body c bytes) y n = absurd cc
still_sends (frame.Method c (method.Basic (basic.Deliver tag number redelivered exchange key))) y n = absurd cc
still_sends (frame.Method c (method.Basic (basic.GetOk number redelivered exchange key count))) y n = absurd cc
still_sends (frame.Method c (method.Basic (basic.Return code text exchange key))) y n = absurd cc
still_sends (frame.Method c m) y n = refl

-- ---- a content is alone

pub alone : (es : List Expected) (e : Expected) → IsOneContent (es ++ e ∷ []) → es ≡ []
alone [] e h = refl
alone (x ∷ []) e h = absurd h
alone (x ∷ y ∷ ys) e h = absurd h

-- ---- what becomes of the channel

module _ (b : Wire) (ms : List DeliveryMark) (ds : List Deed) (came : List Frame) (l : Logs ms ds) (shows : Shows ms b.deliveries.subscriptions) where
  abbrev pub Comes : Frame → Type 0
  Comes f = Brings (channel_of f) ms (received_deliveries (incoming_of f) b) ds (expected_on (channel_of f) (after_received (incoming_of f) b).contents) (came ++ f ∷ [])

  -- one begins: nothing happens to consumers
  begun : (c : ℕ) (f : Frame) (es : List Expected) → Channel c ms es (came ++ f ∷ []) → Brings c ms [] ds es (came ++ f ∷ [])
  begun c f es k = record {
    logs = subst (λ v. Logs v ds) (sym (append-nil ms)) l;
    here = subst (λ v. Channel c v es (came ++ f ∷ [])) (sym (append-nil ms)) k;
    away = λ a off xs cs x. subst (λ v. Channel a v xs cs) (sym (append-nil ms)) x;
    quiet = λ a. refl;
  }

  -- one begins that is no delivery
  other : (c : ℕ) (f : Frame) (st : Start) (bg : Begin) → sent_after (coming came) f ≡ record { wholes = (coming came).wholes; sending = Started st } → StartIs st bg → ((t : List ℕ) → is_to_start t st ≡ false) → consumer_of bg ≡ None → ((t : List ℕ) → delivers_to t f ≡ false) → ((t : List ℕ) → answers_consume t f ≡ false) → (es es' : List Expected) → es' ≡ es ++ expected 60 bg ∷ [] → IsOneContent es' → Channel c ms es came → Brings c ms [] ds es' (came ++ f ∷ [])
  other c f st bg next is off none nobody unanswered es es' e one h =
      let empty : es ≡ [] = alone es (expected 60 bg) (subst IsOneContent e one) in
      let to : es' ≡ expected 60 bg ∷ [] = e ∙ ap (λ v. v ++ expected 60 bg ∷ []) empty in
      begun c f es' (subst (λ v. Channel c ms v (came ++ f ∷ [])) (sym to) (begin_channel c ms came f st bg next is (λ t d. absurd (both_ways _ (nobody t) d)) (λ t d. absurd (both_ways _ (unanswered t) d)) (λ t p s d. absurd (both_ways _ (off t) d)) (λ k d. absurd (let z : None ≡ Some k = sym none ∙ d in cc)) (subst (λ v. Channel c ms v came) empty h)))

  pub content_comes : (f : Frame) → receives_content (incoming_of f) b ≡ true → IsOneContent (expected_on (channel_of f) (after_received (incoming_of f) b).contents) → ((t : List ℕ) → delivers_to t f ≡ true → IsKnown (channel_of f) ms t) → ((t : List ℕ) → answers_consume t f ≡ true → IsKnown (channel_of f) ms t) → Longer (came ++ f ∷ []) (sents (opening (channel_of f) (many (begins (channel_of f)) ms) ds)) → Channel (channel_of f) ms (expected_on (channel_of f) b.contents) came → Comes f
  content_comes (frame.Header c x) r one known answers sent h =
      let es : List Expected = expected_on c b.contents in
      let waits : front_waits x.class_id es ≡ true = (and_parts (receives_on (state_of c b)) (front_waits x.class_id es) r).1 in
      let now : expected_on c (after_received (incoming.Content c (part.Header x)) b).contents ≡ after_header x es = expected-here c (after_header x) b.contents refl in
      subst (λ v. Brings c ms (received_deliveries (incoming.Content c (part.Header x)) b) ds v (came ++ frame.Header c x ∷ [])) (sym now) (piece_brings c ms ds b.deliveries es (after_header x es) came (frame.Header c x) (whole_by (part.Header x) es) l shows h (header_goes x (coming came) es h.sends.matches waits) known answers sent)
  content_comes (frame.Body c bytes) r one known answers sent h =
      let es : List Expected = expected_on c b.contents in
      let takes : front_takes bytes es ≡ true = (and_parts (receives_on (state_of c b)) (front_takes bytes es) r).1 in
      let now : expected_on c (after_received (incoming.Content c (part.Body bytes)) b).contents ≡ after_body bytes es = expected-here c (after_body bytes) b.contents refl in
      subst (λ v. Brings c ms (received_deliveries (incoming.Content c (part.Body bytes)) b) ds v (came ++ frame.Body c bytes ∷ [])) (sym now) (piece_brings c ms ds b.deliveries es (after_body bytes es) came (frame.Body c bytes) (whole_by (part.Body bytes) es) l shows h (body_goes bytes (coming came) es h.sends.matches takes) known answers sent)
  content_comes (frame.Method c (method.Basic (basic.Deliver tag number redelivered exchange key))) r one known answers sent h =
      let f : Frame = frame.Method c (method.Basic (basic.Deliver tag number redelivered exchange key)) in
      let k : Option ℕ = found c tag b.deliveries.subscriptions in
      let bg : Begin = begin.Deliver k number exchange key redelivered in
      let es : List Expected = expected_on c b.contents in
      let now : expected_on c (after_received (incoming_of f) b).contents ≡ es ++ expected 60 bg ∷ [] = joined_here c (expected 60 bg) b.contents in
      let empty : es ≡ [] = alone es (expected 60 bg) (subst IsOneContent now one) in
      let to : expected_on c (after_received (incoming_of f) b).contents ≡ expected 60 bg ∷ [] = now ∙ ap (λ v. v ++ expected 60 bg ∷ []) empty in
      begun c f _ (subst (λ v. Channel c ms v (came ++ f ∷ [])) (sym to) (begin_channel c ms came f (Deliver tag number redelivered exchange key) bg refl (k, refl) known answers
      (λ t p s d at reg on text. is_found ms ds b.deliveries.subscriptions l shows p s c tag at reg on (text ∙ sym (text-is tag t d)))
      (λ j e. let w = who ms ds b.deliveries.subscriptions l shows c j tag e in (w.0, w.1, w.2, w.3, w.5, text-same tag w.1.tag (sym w.6)))
      (subst (λ v. Channel c ms v came) empty h)))
  content_comes (frame.Method c (method.Basic (basic.GetOk number redelivered exchange key count))) r one known answers sent h =
      other c (frame.Method c (method.Basic (basic.GetOk number redelivered exchange key count))) (Get number redelivered exchange key count) (begin.Get (get_ticket c b) number exchange key redelivered count) refl tt (λ t. refl) refl (λ t. refl) (λ t. refl) (expected_on c b.contents) _ (joined_here c (expected 60 (begin.Get (get_ticket c b) number exchange key redelivered count)) b.contents) one h
  content_comes (frame.Method c (method.Basic (basic.Return code text exchange key))) r one known answers sent h =
      other c (frame.Method c (method.Basic (basic.Return code text exchange key))) (Return code text exchange key) (begin.Return code text exchange key) refl tt (λ t. refl) refl (λ t. refl) (λ t. refl) (expected_on c b.contents) _ (joined_here c (expected 60 (begin.Return code text exchange key)) b.contents) one h
  content_comes (frame.Method c (method.Basic m)) r one known answers sent h = absurd cc
  content_comes (frame.Method c (method.Connection m)) r one known answers sent h = absurd (no_connection b c m r)
  content_comes (frame.Method c (method.Channel m)) r one known answers sent h = absurd (no_channel b c m r)
  content_comes (frame.Method c (method.Access m)) r one known answers sent h = absurd (no_access b c m r)
  content_comes (frame.Method c (method.Exchange m)) r one known answers sent h = absurd (no_exchange b c m r)
  content_comes (frame.Method c (method.Queue m)) r one known answers sent h = absurd (no_queue b c m r)
  content_comes (frame.Method c (method.Confirm m)) r one known answers sent h = absurd (no_confirm b c m r)
  content_comes (frame.Method c (method.Tx m)) r one known answers sent h = absurd (no_tx b c m r)

-- ---- the other channels

part_away : (a c : ℕ) (p : ContentPart) (b : Wire) → (c == a) ≡ false → expected_on a (after_part c p b).contents ≡ expected_on a b.contents
part_away a c (part.GetOk s) b off = joined_away c a (expected 60 (for_ticket (get_ticket c b) s)) b.contents off
part_away a c (part.Return s) b off = joined_away c a (expected 60 s) b.contents off
part_away a c (part.Deliver tag s) b off = joined_away c a (expected 60 (for_consumer (found c tag b.deliveries.subscriptions) s)) b.contents off
part_away a c (part.Header h) b off = contents_on_away c a (after_header h) b.contents off
part_away a c (part.Body bytes) b off = contents_on_away c a (after_body bytes) b.contents off

-- a part is of the frame's channel
pub content_channel : (f : Frame) (c : ℕ) (p : ContentPart) → incoming_of f ≡ incoming.Content c p → channel_of f ≡ c
content_channel (frame.Header d h) c p e = cc
content_channel (frame.Body d bytes) c p e = cc
content_channel (frame.Method d (method.Basic (basic.Deliver tag number redelivered exchange key))) c p e = cc
content_channel (frame.Method d (method.Basic (basic.GetOk number redelivered exchange key count))) c p e = cc
content_channel (frame.Method d (method.Basic (basic.Return code text exchange key))) c p e = cc
content_channel (frame.Method d (method.Basic m)) c p e = absurd cc
content_channel (frame.Method d (method.Connection m)) c p e = by m e
  where
    by : (m : ConnectionMethod) → incoming_method d (method.Connection m) ≡ incoming.Content c p → d ≡ c
    by (connection.Close code text class number) e = elim (d == 0) as (λ v. cond v (incoming.ConnectionClose code) incoming.Other ≡ incoming.Content c p → d ≡ c) [ true ↦ λ g. absurd cc | false ↦ λ g. absurd cc ] e
    by connection.CloseOk e = elim (d == 0) as (λ v. cond v incoming.ConnectionCloseOk incoming.Other ≡ incoming.Content c p → d ≡ c) [ true ↦ λ g. absurd cc | false ↦ λ g. absurd cc ] e
content_channel (frame.Method d (method.Channel m)) c p e = by m e
  where
    by : (m : ChannelMethod) → incoming_method d (method.Channel m) ≡ incoming.Content c p → d ≡ c
    by channel.OpenOk e = absurd cc
    by _ e = absurd cc
content_channel (frame.Method d (method.Access m)) c p e = by m e
  where
    by : (m : AccessMethod) → incoming_method d (method.Access m) ≡ incoming.Content c p → d ≡ c
    by access.RequestOk e = absurd cc
    by _ e = absurd cc
content_channel (frame.Method d (method.Exchange m)) c p e = by m e
  where
    by : (m : ExchangeMethod) → incoming_method d (method.Exchange m) ≡ incoming.Content c p → d ≡ c
    by exchange.DeclareOk e = absurd cc
    by _ e = absurd cc
content_channel (frame.Method d (method.Queue m)) c p e = by m e
  where
    by : (m : QueueMethod) → incoming_method d (method.Queue m) ≡ incoming.Content c p → d ≡ c
    by queue.BindOk e = absurd cc
    by _ e = absurd cc
content_channel (frame.Method d (method.Confirm m)) c p e = by m e
  where
    by : (m : ConfirmMethod) → incoming_method d (method.Confirm m) ≡ incoming.Content c p → d ≡ c
    by confirm.SelectOk e = absurd cc
    by _ e = absurd cc
content_channel (frame.Method d (method.Tx m)) c p e = by m e
  where
    by : (m : TxMethod) → incoming_method d (method.Tx m) ≡ incoming.Content c p → d ≡ c
    by tx.SelectOk e = absurd cc
    by _ e = absurd cc

-- what a part leaves of the contents of another channel
pub content_away : (a : ℕ) (i : Incoming) (b : Wire) → is_content i ≡ true → ((c : ℕ) (p : ContentPart) → i ≡ incoming.Content c p → (c == a) ≡ false) → expected_on a (after_received i b).contents ≡ expected_on a b.contents
content_away a (incoming.Content c p) b h off = part_away a c p b (off c p refl)
content_away a (incoming.Reply c k x) b h off = absurd cc
content_away a _ b h off = absurd cc
