-- What a frame of the broker that has a line leaves fits.
use Rattle.std.proofs.Common.{ℕ, ◌&&◌, not, Bool, List, [], ◌∷◌, Option, Some, None, refl}
use Rattle.std.specs.List.{AllByRecursion as Each}
use Rattle.lapin_tables.specs.ByChannel.{on_channel}
use Rattle.lapin_types.specs.Types.{Error}
use Rattle.lapin_types.specs.declared.answer.Answer.{Answer}
use Rattle.lapin_types.specs.declared.message.Delivery.{Delivery}
use Rattle.lapin_types.specs.declared.record.Record.{Record}
use Rattle.lapin_types.specs.declared.record.Record.TheVariants as record_
use Rattle.lapin_types.specs.declared.request.Request.{Request}
use Rattle.lapin_types.specs.declared.request.ReplyKind.{ReplyKind}
use Rattle.lapin_types.specs.declared.request.ReplyKind.TheVariants as reply_kind
use Rattle.lapin_types.specs.Types.error
use Rattle.lapin_types.specs.Types.method
use Rattle.lapin_types.specs.Types.connection
use Rattle.lapin_types.specs.Types.channel
use Rattle.lapin_types.specs.Types.basic
use Rattle.lapin_method_text.specs.Methods.{MethodFits}
use Rattle.lapin_content.specs.declared.start.Start.{Start}
use Rattle.lapin_content.specs.declared.start.Start.TheVariants as start
use Rattle.lapin_content.specs.declared.start.Whole.{Whole}
use Rattle.lapin_content.specs.Contents.{Expected, expected, for_ticket, for_consumer, after_header, after_body}
use Rattle.lapin_content.specs.Channels.{expected_on}
use Rattle.lapin_consumer.specs.Subscriptions.{found, is_registered}
use Rattle.lapin_delivery.specs.Deliveries.{Deliveries}
use Rattle.lapin_delivery.specs.Marks as mark
use Rattle.lapin_rules.specs.declared.broker_frames.ContentPart.{ContentPart}
use Rattle.lapin_rules.specs.declared.broker_frames.ContentPart.TheVariants as part
use Rattle.lapin_rules.specs.declared.broker_frames.ConsumerPart.{ConsumerPart}
use Rattle.lapin_rules.specs.declared.broker_frames.ConsumerPart.TheVariants as consumer
use Rattle.lapin_rules.specs.declared.broker_frames.Incoming.{Incoming}
use Rattle.lapin_rules.specs.declared.broker_frames.Incoming.TheVariants as incoming
use Rattle.lapin_rules.specs.declared.marks.SettleKind.{SettleKind}
use Rattle.lapin_rules.specs.declared.marks.SettleKind.TheVariants as settle
use Rattle.lapin_rules.specs.declared.phases.Closer.TheVariants as closer
use Rattle.lapin_rules.specs.declared.phases.ChannelPhase.{ChannelPhase}
use Rattle.lapin_rules.specs.declared.phases.ChannelPhase.TheVariants as phase
use Rattle.lapin_rules.specs.declared.phases.ChannelMove.TheVariants as move
use Rattle.lapin_rules.specs.declared.phases.ConnectionPhase.{ConnectionPhase}
use Rattle.lapin_rules.specs.declared.phases.ConnectionPhase.TheVariants as link
use Rattle.lapin_rules.specs.declared.phases.CloseStage.TheVariants as stage
use Rattle.lapin_rules.specs.declared.phases.ConnectionMove.TheVariants as link_move
use Rattle.lapin_rules.specs.ChannelClose.{has_sent_close, kept_at, after_broker_close, after_channel_close, after_close_ok, close_ok_deliveries_in, closing}
use Rattle.lapin_rules.specs.ConnectionClose.{after_connection_close, after_connection_close_ok, has_sent, unless_sent}
use Rattle.lapin_rules.specs.Consumers.{after_consumer, consumer_deliveries}
use Rattle.lapin_rules.specs.Content.{content_class, get_ticket, expecting, after_part, delivered_message, next_acker, start_deliveries, whole_deliveries, whole_on}
use Rattle.lapin_rules.specs.Drops.{no_lists}
use Rattle.lapin_rules.specs.Ends.{down, ended, live_channels}
use Rattle.lapin_rules.specs.Flow.{after_flow}
use Rattle.lapin_rules.specs.Moves.{after, link_after}
use Rattle.lapin_rules.specs.Receiving.{after_received, after_failed, after_refused, incoming_wire, received_deliveries, refused_deliveries, incoming_deliveries, after_incoming}
use Rattle.lapin_rules.specs.Registry.{request_deliveries}
use Rattle.lapin_rules.specs.Reply.{after_reply}
use Rattle.lapin_rules.specs.Requests.{is_kind, first_request, request_alone, close_alone, no_requests, without_kind}
use Rattle.lapin_rules.specs.Settlement.{session_close}
use Rattle.lapin_rules.specs.Unexpected.{failed_at_unexpected, unexpected_close}
use Rattle.lapin_rules.specs.Wire.{Wire, state_of, phase_of, requests_of, is_open, noted, lists_of}
use Rattle.lapin_rules.specs.Words.{with_channel, without_first}
use Rattle.lapin_lines.specs.KeptLines.{ErrorFits}
use Rattle.lapin_told.proofs.Each.{Of, chosen, each_without, each_found, on_each, with_each}
use Rattle.lapin_told.proofs.Fitting.{Short, RequestFits, StartFits, ExpectedFits, WholeFits, WireFits, contents_now, lists_now, requests_now}
use Rattle.lapin_told.proofs.Calling.{ends_fit}
use Rattle.lapin_told.proofs.Delivered.{MarkFits}
use Rattle.lapin_told.proofs.Hearing.{PartFits, ConsumerPartFits, IncomingFits, get_unknown, contents_at, joined_fits, ticket_fits, consumer_fits, header_fits, body_fits, whole_fits}
use Rattle.lapin_told.proofs.Sizes.{failed_text, unexpected_text}
use Rattle.lapin_told.proofs.Wires.{ListsFit, requests_at, note_fits, down_fits, end_fits, closing_fits, delivered_fits}

settle_fits : (k : SettleKind) → MethodFits (session_close k)
settle_fits settle.Ack = (refl, (failed_text, (refl, (refl, tt))))
settle_fits settle.Nack = (refl, (failed_text, (refl, (refl, tt))))

module _ (K : ℕ → Bool) where
  -- ---- replies and contents

  reply_wire : (c : ℕ) (k : ReplyKind) (b : Wire) → WireFits K b → WireFits K (after_reply c k b)
  reply_wire c k b h = requests_now h (with_each (Each (RequestFits K)) c (without_first (is_kind k) (requests_of c b)) b.requests (each_without (RequestFits K) (is_kind k) (requests_of c b) (requests_at K c b.requests h.requests_fit)) h.requests_fit)

  expect_fits : (c : ℕ) (s : Start) (b : Wire) → StartFits K s → WireFits K b → WireFits K (expecting c s b)
  expect_fits c s b f h = contents_now h (joined_fits K c (expected content_class s) b.contents (f, tt) h.contents_fit)

  heard_fits : (c : ℕ) (g : List Expected → List Expected) (b : Wire) → ((es : List Expected) → Each (ExpectedFits K) es → Each (ExpectedFits K) (g es)) → WireFits K b → WireFits K (record b { contents = on_channel c g b.contents })
  heard_fits c g b keeps h = contents_now h (on_each (Each (ExpectedFits K)) c g keeps b.contents h.contents_fit)

  part_wire : (c : ℕ) (p : ContentPart) (b : Wire) → PartFits K p → WireFits K b → WireFits K (after_part c p b)
  part_wire c (part.GetOk s) b f h = expect_fits c (for_ticket (get_ticket c b) s) (after_reply c reply_kind.BasicGetOk b) (ticket_fits K (get_ticket c b) s (get_unknown K (requests_of c b) (requests_at K c b.requests h.requests_fit)) f) (reply_wire c reply_kind.BasicGetOk b h)
  part_wire c (part.Return s) b f h = expect_fits c s b f h
  part_wire c (part.Deliver tag s) b f h = expect_fits c (for_consumer (found c tag b.deliveries.subscriptions) s) b (consumer_fits K (found c tag b.deliveries.subscriptions) s f) h
  part_wire c (part.Header x) b f h = heard_fits c (after_header x) b (λ es g. header_fits K x es f g) h
  part_wire c (part.Body xs) b f h = heard_fits c (after_body xs) b (λ es g. body_fits K xs es f g) h

  consumer_wire : (c : ℕ) (p : ConsumerPart) (b : Wire) → Short c → ConsumerPartFits K p → WireFits K b → WireFits K (after_consumer c p b)
  consumer_wire c (consumer.ConsumeOk tag) b short f h = reply_wire c reply_kind.BasicConsumeOk b h
  consumer_wire c (consumer.CancelOk tag) b short f h = reply_wire c reply_kind.BasicCancelOk b h
  consumer_wire c consumer.RecoverOk b short f h = reply_wire c reply_kind.BasicRecoverOk b h
  consumer_wire c (consumer.Cancel tag nowait) b short f h = chosen (WireFits K) (is_open (state_of c b) && not nowait) (noted c (method.Basic (basic.CancelOk tag)) b) b (note_fits K c (method.Basic (basic.CancelOk tag)) b short (f, tt) h) h

  flow_wire : (c : ℕ) (active : Bool) (b : Wire) → Short c → WireFits K b → WireFits K (after_flow c active b)
  flow_wire c active b short h =
      let turned : Wire = record b { phases = with_channel c (after (phase_of c b) (move.Flow active)) b.phases } in
      chosen (WireFits K) (is_open (state_of c b)) (noted c (method.Channel (channel.FlowOk active)) turned) b (note_fits K c (method.Channel (channel.FlowOk active)) turned short (refl, tt) h) h

  -- ---- closes

  alone_fits : (o : Option Request) → Of (RequestFits K) o → Each (RequestFits K) (request_alone o)
  alone_fits None h = tt
  alone_fits (Some r) h = (h, tt)

  kept_fits : (p : ChannelPhase) (rs : List Request) → Each (RequestFits K) rs → Each (RequestFits K) (kept_at p rs)
  kept_fits p rs h = chosen (Each (RequestFits K)) (has_sent_close p) (close_alone rs) (no_requests rs) (alone_fits (first_request reply_kind.ChannelCloseOk rs) (each_found (RequestFits K) (is_kind reply_kind.ChannelCloseOk) rs h)) tt

  close_wire : (c : ℕ) (p : ChannelPhase) (b : Wire) → Short c → WireFits K b → WireFits K (after_channel_close c p b)
  close_wire c p b short h = note_fits K c (method.Channel channel.CloseOk) (ended c (after_broker_close p) (kept_at p) b) short tt (end_fits K c (after_broker_close p) (kept_at p) b (kept_fits p) h)

  one_goes : (c : ℕ) (k : ReplyKind) (b : Wire) → WireFits K b → WireFits K (record b { requests = on_channel c (without_kind k) b.requests })
  one_goes c k b h = requests_now h (on_each (Each (RequestFits K)) c (without_kind k) (λ rs g. each_without (RequestFits K) (is_kind k) rs g) b.requests h.requests_fit)

  close_ok_wire : (c : ℕ) (p : ChannelPhase) (b : Wire) → WireFits K b → WireFits K (after_close_ok c p b)
  close_ok_wire c (phase.Closing who sent) b h = end_fits K c (after (phase.Closing who sent) move.CloseOk) no_requests b (λ _ _. tt) h
  close_ok_wire c _ b h = one_goes c reply_kind.ChannelCloseOk b h

  answered_down : (l : ConnectionPhase) (b : Wire) → WireFits K b → WireFits K (noted 0 (method.Connection connection.CloseOk) (down l b))
  answered_down l b h = note_fits K 0 (method.Connection connection.CloseOk) (down l b) refl tt (down_fits K l b h)

  connection_wire : (l : ConnectionPhase) (b : Wire) → WireFits K b → WireFits K (after_connection_close l b)
  connection_wire (link.Closing stage.Queued) b h = answered_down link.Closed b h
  connection_wire (link.Closing x) b h = note_fits K 0 (method.Connection connection.CloseOk) (record b { link = link_after (link.Closing x) link_move.Close }) refl tt h
  connection_wire l b h = answered_down (link_after l link_move.Close) b h

  connection_ok_wire : (b : Wire) → WireFits K b → WireFits K (after_connection_close_ok b)
  connection_ok_wire b h =
      let lists : ListsFit (unless_sent (has_sent b.link) (lists_of b)) = chosen ListsFit (has_sent b.link) (lists_of b) no_lists (h.rest_fits, h.methods_fit, h.publishes_fit) (tt, tt, tt) in
      requests_now (lists_now h lists.0 lists.1 lists.2) (one_goes 0 reply_kind.ConnectionCloseOk b h).requests_fit

  -- ---- what is received, and what is refused

  received_wire : (i : Incoming) (b : Wire) → IncomingFits K i → WireFits K b → WireFits K (after_received i b)
  received_wire (incoming.Reply c k a) b f h = reply_wire c k b h
  received_wire (incoming.Content c p) b f h = part_wire c p b f.1 h
  received_wire (incoming.Consumer c p) b f h = consumer_wire c p b f.0 f.1 h
  received_wire (incoming.Flow c active) b f h = flow_wire c active b f h
  received_wire (incoming.ChannelClose c code) b f h = close_wire c (phase_of c b) b f.0 h
  received_wire (incoming.ChannelCloseOk c) b f h = close_ok_wire c (phase_of c b) b h
  received_wire (incoming.ConnectionClose code) b f h = connection_wire b.link b h
  received_wire incoming.ConnectionCloseOk b f h = connection_ok_wire b h
  received_wire _ b f h = h

  failed_wire : (i : Incoming) (b : Wire) → IncomingFits K i → WireFits K b → WireFits K (after_failed i b)
  failed_wire (incoming.Settlement c s) b f h = chosen (WireFits K) (is_open (state_of c b)) (noted c (session_close s.kind) (closing c closer.Session b)) b (note_fits K c (session_close s.kind) (closing c closer.Session b) f.0 (settle_fits s.kind) (closing_fits K c closer.Session b h)) h
  failed_wire _ b f h = h

  refused_wire : (i : Incoming) (e : Error) (b : Wire) → IncomingFits K i → ErrorFits e → WireFits K b → WireFits K (after_refused i e b)
  refused_wire i (error.UnexpectedFrame class number) b f g h = note_fits K 0 (unexpected_close class number) (down (link_after b.link link_move.CloseBegun) b) refl (refl, (unexpected_text, (g.0, (g.1, tt)))) (down_fits K (link_after b.link link_move.CloseBegun) b h)
  refused_wire i (error.PreconditionFailed tag current) b f g h = failed_wire i b f h
  refused_wire i _ b f g h = h

  -- the record of a frame that is refused has an error that fits
  abbrev pub RefusedFits : Record → Type 0
  RefusedFits (record_.Refused e) = ErrorFits e
  RefusedFits _ = Unit {0}

  told_wire : (i : Incoming) (r : Record) (b : Wire) → IncomingFits K i → RefusedFits r → WireFits K b → WireFits K (incoming_wire i r b)
  told_wire i (record_.Refused e) b f g h = refused_wire i e b f g h
  told_wire i record_.Received b f g h = received_wire i b f h
  told_wire i _ b f g h = h

  -- ---- what it does to consumers and ackers

  request_marks : (c : ℕ) (a : Answer) (o : Option Request) → Each MarkFits (request_deliveries c a o)
  request_marks c a None = tt
  request_marks c a (Some r) = (tt, tt)

  start_marks : (c : ℕ) (i : Deliveries) (s : Start) (w : Whole) → Short c → StartFits K s → Each MarkFits (start_deliveries c i s w)
  start_marks c i (start.Get t tag exchange key redelivered count) w short f = ((short, f.0), tt)
  start_marks c i (start.Deliver (Some k) tag exchange key redelivered) w short f =
      let d : Delivery = delivered_message c (next_acker i) tag exchange key redelivered w in
      chosen (Each MarkFits) (is_registered k i.subscriptions) (mark.Delivered k d ∷ []) [] ((short, f), tt) tt
  start_marks c i _ w short f = tt

  whole_marks : (c : ℕ) (i : Deliveries) (o : Option Whole) → Short c → Of (WholeFits K) o → Each MarkFits (whole_deliveries c i o)
  whole_marks c i None short f = tt
  whole_marks c i (Some w) short f = start_marks c i w.start w short f.0

  pub whole_at : (c : ℕ) (p : ContentPart) (b : Wire) → PartFits K p → WireFits K b → Of (WholeFits K) (whole_on c p b)
  whole_at c p b f h = whole_fits K p (expected_on c b.contents) f (contents_at K c b.contents h.contents_fit)

  consumer_marks : (c : ℕ) (p : ConsumerPart) (b : Wire) → Short c → ConsumerPartFits K p → Each MarkFits (consumer_deliveries c p b)
  consumer_marks c (consumer.ConsumeOk tag) b short f = ((short, f), tt)
  consumer_marks c _ b short f = (tt, tt)

  close_ok_marks : (c : ℕ) (p : ChannelPhase) → Each MarkFits (close_ok_deliveries_in c p)
  close_ok_marks c (phase.Closing who sent) = (tt, tt)
  close_ok_marks c _ = tt

  received_marks : (i : Incoming) (b : Wire) → IncomingFits K i → WireFits K b → Each MarkFits (received_deliveries i b)
  received_marks (incoming.Reply c k a) b f h = request_marks c a (first_request k (requests_of c b))
  received_marks (incoming.Content c p) b f h = whole_marks c b.deliveries (whole_on c p b) f.0 (whole_at c p b f.1 h)
  received_marks (incoming.Consumer c p) b f h = consumer_marks c p b f.0 f.1
  received_marks (incoming.ChannelClose c code) b f h = (tt, tt)
  received_marks (incoming.ChannelCloseOk c) b f h = close_ok_marks c (phase_of c b)
  received_marks (incoming.ConnectionClose code) b f h = ends_fit (error.ProtocolError code) (live_channels b.phases)
  received_marks _ b f h = tt

  refused_marks : (e : Error) (b : Wire) → Each MarkFits (refused_deliveries e b)
  refused_marks (error.UnexpectedFrame class number) b = ends_fit failed_at_unexpected (live_channels b.phases)
  refused_marks _ b = tt

  told_marks : (i : Incoming) (r : Record) (b : Wire) → IncomingFits K i → WireFits K b → Each MarkFits (incoming_deliveries i r b)
  told_marks i (record_.Refused e) b f h = refused_marks e b
  told_marks i record_.Received b f h = received_marks i b f h
  told_marks i _ b f h = tt

  pub incoming_fits : (i : Incoming) (r : Record) (b : Wire) → IncomingFits K i → RefusedFits r → WireFits K b → WireFits K (after_incoming i r b)
  incoming_fits i r b f g h = delivered_fits K (incoming_deliveries i r b) (incoming_wire i r b) (told_marks i r b f h) (told_wire i r b f g h)
