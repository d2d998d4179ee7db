-- What waits, what is requested and what is expected fits after each kind of change.
use Rattle.std.proofs.Common.{◌≡◌, ℕ, ◌+◌, Bool, true, List, [], ◌∷◌, ◌++◌, map, length, Option, Some, None, refl}
use Rattle.std.specs.List.{AllByRecursion as Each, find}
use Rattle.std.specs.Option.{option_map}
use Rattle.lapin_tables.specs.ByChannel.{at_channel}
use Rattle.lapin_types.specs.Types.{Method, Frame}
use Rattle.lapin_types.specs.declared.leaving.Publish.{Publish}
use Rattle.lapin_types.specs.declared.leaving.Left.{Left}
use Rattle.lapin_types.specs.declared.request.Request.{Request}
use Rattle.lapin_types.specs.declared.request.Reply.{Reply}
use Rattle.lapin_types.specs.declared.request.Reply.TheVariants as reply
use Rattle.lapin_types.specs.Types.frame
use Rattle.lapin_types.specs.Types.method
use Rattle.lapin_types.specs.Types.channel
use Rattle.lapin_types.specs.Requests.{kind_of}
use Rattle.lapin_tokens.specs.Fields.{fits}
use Rattle.lapin_tokens.specs.Fields.Field.{bytes}
use Rattle.lapin_method_text.specs.Methods.{MethodFits}
use Rattle.lapin_text.specs.Frames.{FrameFits}
use Rattle.lapin_delivery.specs.Marks.{DeliveryMark}
use Rattle.lapin_rules.specs.declared.calls.Answered.{Answered}
use Rattle.lapin_rules.specs.declared.calls.Answered.TheVariants as answered
use Rattle.lapin_rules.specs.declared.calls.Asked.{Asked}
use Rattle.lapin_rules.specs.declared.calls.Asked.TheVariants as ask
use Rattle.lapin_rules.specs.declared.phases.Closer.{Closer}
use Rattle.lapin_rules.specs.declared.phases.Closer.TheVariants as closer
use Rattle.lapin_rules.specs.declared.phases.ChannelPhase.{ChannelPhase}
use Rattle.lapin_rules.specs.declared.phases.ConnectionPhase.{ConnectionPhase}
use Rattle.lapin_rules.specs.declared.phases.ConnectionMove.TheVariants as link_move
use Rattle.lapin_rules.specs.Asking.{after_call}
use Rattle.lapin_rules.specs.Calls.{awaited_by}
use Rattle.lapin_rules.specs.ChannelClose.{closing, own_close}
use Rattle.lapin_rules.specs.ConnectionClose.{own_connection_close}
use Rattle.lapin_rules.specs.Drops.{is_rest_of, is_off, method_channel, publish_channel}
use Rattle.lapin_rules.specs.Ends.{ended, down}
use Rattle.lapin_rules.specs.Frames.{MethodEntry, RestEntry, room_for_body, cut, contents, behind, rest_of, left_publish}
use Rattle.lapin_rules.specs.Handing.{sent}
use Rattle.lapin_rules.specs.Leaving.{Lists, may_begin, begun_rest, left_methods, left_of, handed_of, handed_method}
use Rattle.lapin_rules.specs.Moves.{link_after}
use Rattle.lapin_rules.specs.Requests.{requests_in, with_request}
use Rattle.lapin_rules.specs.Wire.{Wire, queued, noted, requests_with, with_deliveries}
use Rattle.lapin_told.proofs.Each.{Of, chosen, each_append, each_filter, each_without, each_found, on_each, at_each, with_each}
use Rattle.lapin_told.proofs.Sizes.{wide, pieces_fit}
use Rattle.lapin_told.proofs.Fitting.{Short, MethodWaits, RestWaits, PublishWaits, Awaits, RequestFits, ExpectedFits, Requests, WireFits, deliveries_now, lists_now, requests_now}
use Rattle.lapin_told.proofs.Calls.{AnsweredFits, AskedFits}
use Rattle.lapin_told.proofs.Delivered.{MarkFits, deliveries_fit}

-- ---- frames of a publish

module _ (p : Publish) (h : PublishWaits p) where
  piece_frames : (xs : List (List ℕ)) → Each (λ piece. fits bytes piece ≡ true) xs → Each FrameFits (map (λ piece. frame.Body p.channel piece) xs)
  piece_frames [] f = tt
  piece_frames (x ∷ xs) f = ((h.channel, (f.0, tt)), piece_frames xs f.1)

  behind_fits : (fs : List Frame) → Each FrameFits fs → Each RestWaits (behind p fs)
  behind_fits [] f = tt
  behind_fits (x ∷ xs) f = (f.0, behind_fits xs f.1)

  rest_fits : (frame_max : ℕ) → Each RestWaits (rest_of frame_max p)
  rest_fits frame_max = behind_fits (contents frame_max p) ((h.channel, (refl, (wide (length p.payload) h.length, (h.properties, tt)))), piece_frames (cut (room_for_body frame_max) p.payload) (pieces_fit (length p.payload) (room_for_body frame_max) p.payload h.payload))

begun_fits : (frame_max : ℕ) (o : Option Publish) → Of PublishWaits o → Each RestWaits (begun_rest frame_max o)
begun_fits frame_max None h = tt
begun_fits frame_max (Some p) h = rest_fits p h frame_max

-- ---- what leaves, and what stays

abbrev pub ListsFit : Lists → Type 0
ListsFit l = Each RestWaits l.rest × Each MethodWaits l.methods × Each PublishWaits l.publishes

methods_left : (frame_max : ℕ) (t : ℕ → Bool) (ms : List MethodEntry) (ps : List Publish) → Each MethodWaits ms → Each PublishWaits ps → ListsFit (left_methods frame_max t ms ps)
methods_left frame_max t (m ∷ ms) ps f g = (tt, f.1, g)
methods_left frame_max t [] ps f g = (begun_fits frame_max (find (may_begin t) ps) (each_found PublishWaits (may_begin t) ps g), tt, each_without PublishWaits (may_begin t) ps g)

pub lists_left : (frame_max : ℕ) (t : ℕ → Bool) (fs : List RestEntry) (ms : List MethodEntry) (ps : List Publish) → Each RestWaits fs → Each MethodWaits ms → Each PublishWaits ps → ListsFit (left_of frame_max t fs ms ps)
lists_left frame_max t (x ∷ fs) ms ps h f g = (h.1, f, g)
lists_left frame_max t [] ms ps h f g = methods_left frame_max t ms ps f g

-- the frame that leaves
abbrev pub LeftFits : Option Left → Type 0
LeftFits None = Unit {0}
LeftFits (Some l) = FrameFits l.frame

publish_leaves : (o : Option Publish) → Of PublishWaits o → LeftFits (option_map left_publish o)
publish_leaves None h = tt
publish_leaves (Some p) h = (h.channel, (h.exchange, (h.routing_key, (refl, (refl, tt)))))

method_leaves : (t : ℕ → Bool) (ms : List MethodEntry) (ps : List Publish) → Each MethodWaits ms → Each PublishWaits ps → LeftFits (handed_method t ms ps)
method_leaves t (m ∷ ms) ps f g = f.0
method_leaves t [] ps f g = publish_leaves (find (may_begin t) ps) (each_found PublishWaits (may_begin t) ps g)

pub frame_leaves : (t : ℕ → Bool) (fs : List RestEntry) (ms : List MethodEntry) (ps : List Publish) → Each RestWaits fs → Each MethodWaits ms → Each PublishWaits ps → LeftFits (handed_of t fs ms ps)
frame_leaves t (x ∷ fs) ms ps h f g = h.0
frame_leaves t [] ms ps h f g = method_leaves t ms ps f g

module _ (K : ℕ → Bool) where
  -- ---- requests

  listed_fit : (o : Option (List Request)) → Of (Each (RequestFits K)) o → Each (RequestFits K) (requests_in o)
  listed_fit None h = tt
  listed_fit (Some rs) h = h

  pub requests_at : (c : ℕ) (all : List (ℕ × List Request)) → Requests K all → Each (RequestFits K) (requests_in (at_channel c all))
  requests_at c all h = listed_fit (at_channel c all) (at_each (Each (RequestFits K)) c all h)

  pub requested : (c : ℕ) (r : Request) (all : List (ℕ × List Request)) → RequestFits K r → Requests K all → Requests K (with_request c r all)
  requested c r all f h = with_each (Each (RequestFits K)) c (requests_in (at_channel c all) ++ r ∷ []) all (each_append (RequestFits K) (requests_in (at_channel c all)) (r ∷ []) (requests_at c all h) (f, tt)) h

  -- a known ticket awaits a plain reply
  abbrev AwaitsReply : ℕ → Option Reply → Type 0
  AwaitsReply t None = Unit {0}
  AwaitsReply t (Some r) = Awaits K (Some t) (kind_of r)

  opened : (c t : ℕ) (o : Option Reply) (all : List (ℕ × List Request)) → AwaitsReply t o → Requests K all → Requests K (requests_with c t o all)
  opened c t None all f h = h
  opened c t (Some r) all f h = requested c (record { ticket = Some t; reply = r }) all f h

  -- ---- methods

  queue_fits : (c : ℕ) (m : Method) (o : Option Reply) (b : Wire) → Short c → MethodFits m → AwaitsReply (b.tickets + 1) o → WireFits K b → WireFits K (queued c m o b)
  queue_fits c m o b short fit awaits h =
      let new : MethodEntry = record { channel = c; method = m; ticket = Some (b.tickets + 1) } in
      requests_now (lists_now h h.rest_fits (each_append MethodWaits b.methods (new ∷ []) h.methods_fit ((short, fit), tt)) h.publishes_fit) (opened c (b.tickets + 1) o b.requests awaits h.requests_fit)

  pub note_fits : (c : ℕ) (m : Method) (b : Wire) → Short c → MethodFits m → WireFits K b → WireFits K (noted c m b)
  note_fits c m b short fit h = lists_now h h.rest_fits (each_append MethodWaits b.methods (record { channel = c; method = m; ticket = None } ∷ []) h.methods_fit ((short, fit), tt)) h.publishes_fit

  -- ---- ends

  pub down_fits : (l : ConnectionPhase) (b : Wire) → WireFits K b → WireFits K (down l b)
  down_fits l b h = record { rest_fits = tt; methods_fit = tt; publishes_fit = tt; requests_fit = tt; contents_fit = tt; deliveries_fit = h.deliveries_fit }

  pub end_fits : (c : ℕ) (p : ChannelPhase) (kept : List Request → List Request) (b : Wire) → ((rs : List Request) → Each (RequestFits K) rs → Each (RequestFits K) (kept rs)) → WireFits K b → WireFits K (ended c p kept b)
  end_fits c p kept b keeps h = record {
    rest_fits = chosen (Each RestWaits) (is_rest_of c b.rest) [] b.rest tt h.rest_fits;
    methods_fit = each_filter MethodWaits (is_off method_channel c) b.methods h.methods_fit;
    publishes_fit = each_filter PublishWaits (is_off publish_channel c) b.publishes h.publishes_fit;
    requests_fit = on_each (Each (RequestFits K)) c kept keeps b.requests h.requests_fit;
    contents_fit = on_each (Each (ExpectedFits K)) c (λ _. []) (λ _ _. tt) b.contents h.contents_fit;
    deliveries_fit = h.deliveries_fit;
  }

  pub closing_fits : (c : ℕ) (who : Closer) (b : Wire) → WireFits K b → WireFits K (closing c who b)
  closing_fits c who b h = lists_now h h.rest_fits h.methods_fit (each_filter PublishWaits (is_off publish_channel c) b.publishes h.publishes_fit)

  pub sent_fits : (o : Option Left) (b : Wire) → WireFits K b → WireFits K (sent o b)
  sent_fits None b h = h
  sent_fits (Some l) b h = h

  pub delivered_fits : (ms : List DeliveryMark) (b : Wire) → Each MarkFits ms → WireFits K b → WireFits K (with_deliveries ms b)
  delivered_fits ms b f h = deliveries_now h (deliveries_fit ms b.deliveries f h.deliveries_fit)

  -- ---- calls

  awaited : (t : ℕ) (x : Answered) → (K t ≡ true → AnsweredFits K t x) → AwaitsReply t (awaited_by x)
  awaited t (answered.ByReply r) f = f
  awaited t (answered.AtOnce r a) f = tt
  awaited t (answered.AsItLeaves l) f = tt

  pub call_wire : (c : ℕ) (k : Asked) (b : Wire) → Short c → AskedFits K (b.tickets + 1) k → WireFits K b → WireFits K (after_call c k b)
  call_wire c ask.Open b short f h = queue_fits c (method.Channel channel.Open) (Some reply.ChannelOpenOk) b short tt (λ _. refl) h
  call_wire c (ask.CloseChannel code reason) b short f h = queue_fits c (own_close code reason) (Some reply.ChannelCloseOk) (closing c closer.Application b) short (f.0, (f.1, (refl, (refl, tt)))) (λ _. refl) (closing_fits c closer.Application b h)
  call_wire c (ask.CloseConnection code reason) b short f h = queue_fits c (own_connection_close code reason) (Some reply.ConnectionCloseOk) (down (link_after b.link link_move.CloseBegun) b) short (f.0, (f.1, (refl, (refl, tt)))) (λ _. refl) (down_fits (link_after b.link link_move.CloseBegun) b h)
  call_wire c (ask.Method row) b short f h = queue_fits c row.method (awaited_by row.answered) b short f.0 (awaited (b.tickets + 1) row.answered f.1) h
  call_wire c (ask.Consume m tag queue o) b short f h = queue_fits c m None b short f.0 tt h
  call_wire c (ask.Publish exchange key o payload properties) b short f h =
      let p : Publish = record { confirm = b.published + 1; ticket = b.tickets + 1; channel = c; exchange = exchange; routing_key = key; options = o; payload = payload; properties = properties } in
      let new : PublishWaits p = record { channel = short; exchange = f.0; routing_key = f.1; payload = f.2; length = f.3; properties = f.4 } in
      lists_now h h.rest_fits h.methods_fit (each_append PublishWaits b.publishes (p ∷ []) h.publishes_fit (new, tt))
  call_wire c (ask.Limit limit) b short f h = h
  call_wire c ask.Nothing b short f h = h
