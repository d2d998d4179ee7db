-- What a frame of the broker is to its channel fits where the frame has a line, and so does what it leaves.
use Rattle.std.proofs.Common.{◌≡◌, ℕ, ◌+◌, ◌==◌, Bool, true, false, cond, List, [], ◌∷◌, ◌++◌, Option, Some, None, Ok, Err, Result, refl}
use Rattle.std.specs.List.{AllByRecursion as Each, find}
use Rattle.std.specs.Option.{option_map}
use Rattle.lapin_tables.specs.ByChannel.{at_channel}
use Rattle.lapin_types.specs.Types.{Error, Frame, ContentHeader}
use Rattle.lapin_types.specs.declared.request.Request.{Request}
use Rattle.lapin_types.specs.declared.request.ReplyKind.{ReplyKind}
use Rattle.lapin_types.specs.Types.frame
use Rattle.lapin_types.specs.Types.method
use Rattle.lapin_types.specs.Types.connection
use Rattle.lapin_types.specs.Types.channel
use Rattle.lapin_types.specs.Types.access
use Rattle.lapin_types.specs.Types.exchange
use Rattle.lapin_types.specs.Types.queue
use Rattle.lapin_types.specs.Types.basic
use Rattle.lapin_types.specs.Types.confirm
use Rattle.lapin_types.specs.Types.tx
use Rattle.lapin_types.specs.declared.request.ReplyKind.TheVariants as reply_kind
use Rattle.lapin_types.specs.Requests.{kind_of}
use Rattle.lapin_tokens.specs.Fields.{fits}
use Rattle.lapin_tokens.specs.Fields.Field.{bytes, props}
use Rattle.lapin_text.specs.Frames.{FrameFits}
use Rattle.lapin_content.specs.declared.start.Start.{Start}
use Rattle.lapin_content.specs.declared.start.Start.TheVariants as start
use Rattle.lapin_content.specs.declared.start.Whole.{Whole}
use Rattle.lapin_content.specs.Contents.{Begun, Expected, for_ticket, for_consumer, grown, grown_by, waits_for, takes_body, begun_with, is_whole, whole_of, whole_with, if_whole, unless_whole, refused_header, refused_body, after_header, after_body}
use Rattle.lapin_content.specs.Channels.{Channels, listed, expected_on, joined, joined_at}
use Rattle.lapin_rules.specs.declared.broker_frames.ContentPart.{ContentPart}
use Rattle.lapin_rules.specs.declared.broker_frames.ContentPart.TheVariants as part
use Rattle.lapin_rules.specs.declared.broker_frames.ConsumerPart.{ConsumerPart}
use Rattle.lapin_rules.specs.declared.broker_frames.ConsumerPart.TheVariants as consumer
use Rattle.lapin_rules.specs.declared.broker_frames.Incoming.{Incoming}
use Rattle.lapin_rules.specs.declared.broker_frames.Incoming.TheVariants as incoming
use Rattle.lapin_rules.specs.Content.{whole_in, whole_by}
use Rattle.lapin_rules.specs.Incoming.{incoming_of}
use Rattle.lapin_rules.specs.Requests.{is_kind, same_kind, ticket_of}
use Rattle.lapin_told.proofs.Each.{Of, chosen, each_append, on_each, at_each}
use Rattle.lapin_told.proofs.Fitting.{Short, Wide, Text, AnswerFits, is_plain, Awaits, RequestFits, Unknown, StartFits, BegunFits, ExpectedFits, WholeFits, Contents, impossible}
use Rattle.lapin_told.proofs.Sizes.{bytes_append}

-- ---- kinds

pub same_plain : (a b : ReplyKind) → same_kind a b ≡ true → is_plain a ≡ true → is_plain b ≡ true
same_plain reply_kind.ConnectionCloseOk reply_kind.ConnectionCloseOk same h = refl
same_plain reply_kind.ChannelOpenOk reply_kind.ChannelOpenOk same h = refl
same_plain reply_kind.ChannelCloseOk reply_kind.ChannelCloseOk same h = refl
same_plain reply_kind.ConfirmSelectOk reply_kind.ConfirmSelectOk same h = refl
same_plain reply_kind.ConnectionCloseOk b same h = impossible same
same_plain reply_kind.ChannelOpenOk b same h = impossible same
same_plain reply_kind.ChannelCloseOk b same h = impossible same
same_plain reply_kind.ConfirmSelectOk b same h = impossible same
same_plain _ b same h = impossible h

module _ (K : ℕ → Bool) where
  -- the ticket of the oldest request of a kind awaits that kind
  awaits_as : (t : Option ℕ) (a b : ReplyKind) → same_kind a b ≡ true → Awaits K t a → Awaits K t b
  awaits_as None a b same h = tt
  awaits_as (Some t) a b same h = λ x. same_plain a b same (h x)

  pub found_awaits : (k : ReplyKind) (rs : List Request) → Each (RequestFits K) rs → Awaits K (ticket_of (find (is_kind k) rs)) k
  found_awaits k [] h = tt
  found_awaits k (r ∷ rs) h = elim (is_kind k r) as (λ t. is_kind k r ≡ t → Awaits K (ticket_of (cond t (Some r) (find (is_kind k) rs))) k) [
    | true ↦ λ e. awaits_as r.ticket (kind_of r.reply) k e h.0
    | false ↦ λ e. found_awaits k rs h.1
  ] refl

  unknown_get : (t : Option ℕ) → Awaits K t reply_kind.BasicGetOk → Unknown K t
  unknown_get None h = tt
  unknown_get (Some t) h = λ x. impossible (h x)

  pub get_unknown : (rs : List Request) → Each (RequestFits K) rs → Unknown K (ticket_of (find (is_kind reply_kind.BasicGetOk) rs))
  get_unknown rs h = unknown_get (ticket_of (find (is_kind reply_kind.BasicGetOk) rs)) (found_awaits reply_kind.BasicGetOk rs h)

  -- ---- frames

  abbrev pub PartFits : ContentPart → Type 0
  PartFits (part.GetOk s) = StartFits K s
  PartFits (part.Return s) = StartFits K s
  PartFits (part.Deliver tag s) = StartFits K s
  PartFits (part.Header h) = fits props h.properties ≡ true
  PartFits (part.Body xs) = fits bytes xs ≡ true

  abbrev pub ConsumerPartFits : ConsumerPart → Type 0
  ConsumerPartFits (consumer.ConsumeOk tag) = Text tag
  ConsumerPartFits (consumer.CancelOk tag) = Text tag
  ConsumerPartFits consumer.RecoverOk = Unit {0}
  ConsumerPartFits (consumer.Cancel tag nowait) = Text tag

  abbrev pub IncomingFits : Incoming → Type 0
  IncomingFits (incoming.Reply c k a) = is_plain k ≡ true → AnswerFits a
  IncomingFits (incoming.Settlement c s) = Short c × Wide s.tag
  IncomingFits (incoming.Content c p) = Short c × PartFits p
  IncomingFits (incoming.Consumer c p) = Short c × ConsumerPartFits p
  IncomingFits (incoming.Flow c active) = Short c
  IncomingFits (incoming.ChannelClose c code) = Short c × Short code
  IncomingFits (incoming.ConnectionClose code) = Short code
  IncomingFits _ = Unit {0}

  pub frame_fits : (f : Frame) → FrameFits f → IncomingFits (incoming_of f)
  frame_fits (frame.Method c (method.Connection (connection.Close code reason class number))) h = chosen IncomingFits (c == 0) (incoming.ConnectionClose code) incoming.Other h.1.0 tt
  frame_fits (frame.Method c (method.Connection connection.CloseOk)) h = chosen IncomingFits (c == 0) incoming.ConnectionCloseOk incoming.Other tt tt
  frame_fits (frame.Method c (method.Channel channel.OpenOk)) h = λ _. h.0
  frame_fits (frame.Method c (method.Channel (channel.Flow active))) h = h.0
  frame_fits (frame.Method c (method.Channel (channel.FlowOk active))) h = λ x. impossible x
  frame_fits (frame.Method c (method.Channel (channel.Close code reason class number))) h = (h.0, h.1.0)
  frame_fits (frame.Method c (method.Access access.RequestOk)) h = λ _. tt
  frame_fits (frame.Method c (method.Exchange exchange.DeclareOk)) h = λ _. tt
  frame_fits (frame.Method c (method.Exchange exchange.DeleteOk)) h = λ _. tt
  frame_fits (frame.Method c (method.Exchange exchange.BindOk)) h = λ _. tt
  frame_fits (frame.Method c (method.Exchange exchange.UnbindOk)) h = λ _. tt
  frame_fits (frame.Method c (method.Queue (queue.DeclareOk name messages consumers))) h = λ x. impossible x
  frame_fits (frame.Method c (method.Queue queue.BindOk)) h = λ _. tt
  frame_fits (frame.Method c (method.Queue (queue.PurgeOk messages))) h = λ x. impossible x
  frame_fits (frame.Method c (method.Queue (queue.DeleteOk messages))) h = λ x. impossible x
  frame_fits (frame.Method c (method.Queue queue.UnbindOk)) h = λ _. tt
  frame_fits (frame.Method c (method.Basic basic.QosOk)) h = λ _. tt
  frame_fits (frame.Method c (method.Basic (basic.Ack tag multiple))) h = (h.0, h.1.0)
  frame_fits (frame.Method c (method.Basic (basic.Nack tag multiple requeue))) h = (h.0, h.1.0)
  frame_fits (frame.Method c (method.Basic (basic.Return code reason exchange key))) h = (h.0, (h.1.0, h.1.1.0, h.1.1.1.0, h.1.1.1.1.0))
  frame_fits (frame.Method c (method.Basic (basic.GetOk tag redelivered exchange key count))) h = (h.0, (h.1.0, tt))
  frame_fits (frame.Method c (method.Basic basic.GetEmpty)) h = λ x. impossible x
  frame_fits (frame.Method c (method.Basic (basic.Deliver tag number redelivered exchange key))) h = (h.0, h.1.1.0)
  frame_fits (frame.Method c (method.Basic (basic.ConsumeOk tag))) h = (h.0, h.1.0)
  frame_fits (frame.Method c (method.Basic (basic.CancelOk tag))) h = (h.0, h.1.0)
  frame_fits (frame.Method c (method.Basic (basic.Cancel tag nowait))) h = (h.0, h.1.0)
  frame_fits (frame.Method c (method.Basic basic.RecoverOk)) h = (h.0, tt)
  frame_fits (frame.Method c (method.Confirm confirm.SelectOk)) h = λ _. tt
  frame_fits (frame.Method c (method.Tx tx.SelectOk)) h = λ _. tt
  frame_fits (frame.Method c (method.Tx tx.CommitOk)) h = λ _. tt
  frame_fits (frame.Method c (method.Tx tx.RollbackOk)) h = λ _. tt
  frame_fits (frame.Header c x) h = (h.0, h.1.1.1.0)
  frame_fits (frame.Body c xs) h = (h.0, h.1.0)
  frame_fits _ h = tt

  -- ---- contents

  listed_fit : (o : Option (List Expected)) → Of (Each (ExpectedFits K)) o → Each (ExpectedFits K) (listed o)
  listed_fit None h = tt
  listed_fit (Some es) h = h

  pub contents_at : (c : ℕ) (all : Channels) → Contents K all → Each (ExpectedFits K) (expected_on c all)
  contents_at c all h = listed_fit (at_channel c all) (at_each (Each (ExpectedFits K)) c all h)

  joined_at_fits : (o : Option (List Expected)) (c : ℕ) (e : Expected) (all : Channels) → ExpectedFits K e → Contents K all → Contents K (joined_at o c e all)
  joined_at_fits None c e all f h = each_append (λ x. Each (ExpectedFits K) x.1) all ((c, e ∷ []) ∷ []) h ((f, tt), tt)
  joined_at_fits (Some xs) c e all f h = on_each (Each (ExpectedFits K)) c (λ es. es ++ e ∷ []) (λ es g. each_append (ExpectedFits K) es (e ∷ []) g (f, tt)) all h

  pub joined_fits : (c : ℕ) (e : Expected) (all : Channels) → ExpectedFits K e → Contents K all → Contents K (joined c e all)
  joined_fits c e all f h = joined_at_fits (at_channel c all) c e all f h

  pub ticket_fits : (t : Option ℕ) (s : Start) → Unknown K t → StartFits K s → StartFits K (for_ticket t s)
  ticket_fits t (start.Get u tag exchange key redelivered count) never h = (h.0, never)
  ticket_fits t (start.Deliver k tag exchange key redelivered) never h = h
  ticket_fits t (start.Return code reason exchange key) never h = h

  pub consumer_fits : (k : Option ℕ) (s : Start) → StartFits K s → StartFits K (for_consumer k s)
  consumer_fits k (start.Get u tag exchange key redelivered count) h = h
  consumer_fits k (start.Deliver j tag exchange key redelivered) h = h
  consumer_fits k (start.Return code reason exchange key) h = h

  grown_fits : (xs : List ℕ) (o : Option Begun) → fits bytes xs ≡ true → BegunFits K o → BegunFits K (option_map (grown xs) o)
  grown_fits xs None f h = tt
  grown_fits xs (Some b) f h = (h.0, bytes_append b.bytes xs h.1 f)

  with_fits : (s : Start) (o : Option Begun) → StartFits K s → BegunFits K o → Of (WholeFits K) (whole_with s o)
  with_fits s None f h = tt
  with_fits s (Some b) f h = (f, h.0, h.1)

  if_fits : (e : Expected) → ExpectedFits K e → Of (WholeFits K) (if_whole e)
  if_fits e h = chosen (Of (WholeFits K)) (is_whole e) (whole_of e) None (with_fits e.start e.begun h.0 h.1) tt

  unless_fits : (e : Expected) (es : List Expected) → ExpectedFits K e → Each (ExpectedFits K) es → Each (ExpectedFits K) (unless_whole e es)
  unless_fits e es f h = chosen (Each (ExpectedFits K)) (is_whole e) es (e ∷ es) h (f, h)

  pub header_fits : (x : ContentHeader) (es : List Expected) → fits props x.properties ≡ true → Each (ExpectedFits K) es → Each (ExpectedFits K) (after_header x es)
  header_fits x [] f h = tt
  header_fits x (e ∷ es) f h = chosen (Each (ExpectedFits K)) (waits_for x.class_id e) (unless_whole (begun_with x e) es) es (unless_fits (begun_with x e) es (h.0.0, (f, refl)) h.1) h.1

  pub body_fits : (xs : List ℕ) (es : List Expected) → fits bytes xs ≡ true → Each (ExpectedFits K) es → Each (ExpectedFits K) (after_body xs es)
  body_fits xs [] f h = tt
  body_fits xs (e ∷ es) f h = chosen (Each (ExpectedFits K)) (takes_body xs e) (unless_whole (grown_by xs e) es) es (unless_fits (grown_by xs e) es (h.0.0, grown_fits xs e.begun f h.0.1) h.1) h.1

  abbrev Heard : Result (Option Whole) Error → Type 0
  Heard r = Of (WholeFits K) (whole_in r)

  pub whole_fits : (p : ContentPart) (es : List Expected) → PartFits p → Each (ExpectedFits K) es → Of (WholeFits K) (whole_by p es)
  whole_fits (part.Header x) [] f h = tt
  whole_fits (part.Header x) (e ∷ es) f h = chosen Heard (waits_for x.class_id e) (Ok (if_whole (begun_with x e))) (Err (refused_header x)) (if_fits (begun_with x e) (h.0.0, (f, refl))) tt
  whole_fits (part.Body xs) [] f h = tt
  whole_fits (part.Body xs) (e ∷ es) f h = chosen Heard (takes_body xs e) (Ok (if_whole (grown_by xs e))) (Err refused_body) (if_fits (grown_by xs e) (h.0.0, grown_fits xs e.begun f h.0.1)) tt
  whole_fits (part.GetOk s) es f h = tt
  whole_fits (part.Return s) es f h = tt
  whole_fits (part.Deliver tag s) es f h = tt
