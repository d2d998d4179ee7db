-- What is kept of a history whose events have lines: lists, requests, contents, consumers, ackers and marks all fit, and no ticket that the
-- machine knows waits for an answer with the broker's data. K tells which tickets it knows.
use Rattle.std.proofs.Common.{◌≡◌, ℕ, ◌^◌, ◌<◌, Bool, true, false, List, length, Option, Some, None, Ok, Err, Result}
use Rattle.std.specs.List.{AllByRecursion as Each}
use Rattle.lapin_types.specs.Types.{Error}
use Rattle.lapin_types.specs.declared.request.ReplyKind.{ReplyKind}
use Rattle.lapin_types.specs.declared.request.Request.{Request}
use Rattle.lapin_types.specs.declared.leaving.Publish.{Publish}
use Rattle.lapin_types.specs.declared.answer.Answer.{Answer}
use Rattle.lapin_types.specs.declared.answer.Answer.TheVariants as answer
use Rattle.lapin_types.specs.declared.request.ReplyKind.TheVariants as reply_kind
use Rattle.lapin_types.specs.Types.frame
use Rattle.lapin_types.specs.Requests.{kind_of}
use Rattle.lapin_tokens.specs.Fields.{fits, short_number, wide_number}
use Rattle.lapin_tokens.specs.Fields.Field.{text, bytes, props}
use Rattle.lapin_method_text.specs.Methods.{MethodFits}
use Rattle.lapin_text.specs.Frames.{FrameFits}
use Rattle.lapin_content.specs.declared.start.Start.{Start}
use Rattle.lapin_content.specs.declared.start.Start.TheVariants as start
use Rattle.lapin_content.specs.declared.start.Whole.{Whole}
use Rattle.lapin_content.specs.Contents.{Begun, Expected}
use Rattle.lapin_content.specs.Channels.{Channels}
use Rattle.lapin_acker.specs.declared.switch.Switch.{Switch}
use Rattle.lapin_acker.specs.declared.switch.Switch.TheVariants as switch
use Rattle.lapin_consumer.specs.Subscriptions.{Consumer}
use Rattle.lapin_delivery.specs.Deliveries.{Deliveries}
use Rattle.lapin_rules.specs.declared.marks.AtLeaving.{AtLeaving}
use Rattle.lapin_rules.specs.declared.marks.AtLeaving.TheVariants as leaving
use Rattle.lapin_rules.specs.ConfirmMarks.{ConfirmMark}
use Rattle.lapin_rules.specs.ConfirmMarks as mark
use Rattle.lapin_rules.specs.TicketReadings.{TicketMark}
use Rattle.lapin_rules.specs.TicketReadings as ticket
use Rattle.lapin_rules.specs.Frames.{MethodEntry, RestEntry}
use Rattle.lapin_rules.specs.Wire.{Wire}
use Rattle.lapin_lines.specs.KeptLines.{ErrorFits, MessageFits}
use Rattle.lapin_told.proofs.Each.{AtEach}

-- ---- what waits to leave

abbrev pub Short : ℕ → Type 0
Short c = fits short_number c ≡ true

abbrev pub Wide : ℕ → Type 0
Wide n = fits wide_number n ≡ true

abbrev pub Text : List ℕ → Type 0
Text s = fits text s ≡ true

abbrev pub MethodWaits : MethodEntry → Type 0
MethodWaits m = Short m.channel × MethodFits m.method

abbrev pub RestWaits : RestEntry → Type 0
RestWaits f = FrameFits f.frame

pub record PublishWaits (p : Publish) : Type 0 where
  pub channel : Short p.channel
  pub exchange : Text p.exchange
  pub routing_key : Text p.routing_key
  pub payload : fits bytes p.payload ≡ true
  pub length : length p.payload < 2 ^ 64
  pub properties : fits props p.properties ≡ true

-- ---- answers and kinds

-- the answers of tickets that the machine knows
abbrev pub AnswerFits : Answer → Type 0
AnswerFits answer.Done = Unit {0}
AnswerFits (answer.Channel c) = Short c
AnswerFits (answer.Confirm n) = Wide n
AnswerFits _ = ⊥

abbrev pub LeavingFits : AtLeaving → Type 0
LeavingFits leaving.Nothing = Unit {0}
LeavingFits leaving.Done = Unit {0}
LeavingFits (leaving.Confirm n) = Wide n
LeavingFits leaving.Yes = ⊥

-- the replies that answer them
abbrev pub is_plain : ReplyKind → Bool
is_plain reply_kind.ConnectionCloseOk = true
is_plain reply_kind.ChannelOpenOk = true
is_plain reply_kind.ChannelCloseOk = true
is_plain reply_kind.ConfirmSelectOk = true
is_plain _ = false

module _ (K : ℕ → Bool) where
  -- a known ticket waits for a plain reply
  abbrev pub Awaits : Option ℕ → ReplyKind → Type 0
  Awaits None k = Unit {0}
  Awaits (Some t) k = K t ≡ true → is_plain k ≡ true

  abbrev pub RequestFits : Request → Type 0
  RequestFits r = Awaits r.ticket (kind_of r.reply)

  -- the ticket is not known
  abbrev pub Unknown : Option ℕ → Type 0
  Unknown None = Unit {0}
  Unknown (Some t) = K t ≡ true → ⊥

  abbrev pub StartFits : Start → Type 0
  StartFits (start.Deliver consumer tag exchange key redelivered) = Wide tag
  StartFits (start.Get t tag exchange key redelivered count) = Wide tag × Unknown t
  StartFits (start.Return code reason exchange key) = Short code × Text reason × Text exchange × Text key

  abbrev pub BegunFits : Option Begun → Type 0
  BegunFits None = Unit {0}
  BegunFits (Some x) = (fits props x.properties ≡ true) × (fits bytes x.bytes ≡ true)

  abbrev pub ExpectedFits : Expected → Type 0
  ExpectedFits e = StartFits e.start × BegunFits e.begun

  abbrev pub WholeFits : Whole → Type 0
  WholeFits w = StartFits w.start × (fits props w.properties ≡ true) × (fits bytes w.payload ≡ true)

  abbrev pub Requests : List (ℕ × List Request) → Type 0
  Requests all = AtEach (Each RequestFits) all

  abbrev pub Contents : Channels → Type 0
  Contents all = AtEach (Each ExpectedFits) all

  abbrev pub ResultFits : Result Answer Error → ℕ → Type 0
  ResultFits (Ok a) n = K n ≡ true → AnswerFits a
  ResultFits (Err e) n = ErrorFits e

  abbrev pub TicketFits : TicketMark → Type 0
  TicketFits (ticket.Answered n a) = ResultFits a n
  TicketFits (ticket.ClosedHere c e) = ErrorFits e
  TicketFits (ticket.OpeningFailed c spared e) = ErrorFits e
  TicketFits (ticket.AllFailed e) = ErrorFits e
  TicketFits _ = Unit {0}

-- ---- consumers and ackers

abbrev pub ConsumerFits : Consumer → Type 0
ConsumerFits x = Short x.channel × Text x.tag

abbrev pub SwitchFits : Switch → Type 0
SwitchFits (switch.Usable c t) = Short c × Wide t
SwitchFits _ = Unit {0}

abbrev pub DeliveriesFit : Deliveries → Type 0
DeliveriesFit d = Each ConsumerFits d.subscriptions.consumers × Each SwitchFits d.switches

-- ---- all that is kept beside marks

pub record Fit (K : ℕ → Bool) (rest : List RestEntry) (methods : List MethodEntry) (publishes : List Publish) (requests : List (ℕ × List Request)) (contents : Channels) (deliveries : Deliveries) : Type 0 where
  pub rest_fits : Each RestWaits rest
  pub methods_fit : Each MethodWaits methods
  pub publishes_fit : Each PublishWaits publishes
  pub requests_fit : Requests K requests
  pub contents_fit : Contents K contents
  pub deliveries_fit : DeliveriesFit deliveries

-- one part is another now
module _ {K : ℕ → Bool} {rest : List RestEntry} {methods : List MethodEntry} {publishes : List Publish} {requests : List (ℕ × List Request)} {contents : Channels} {deliveries : Deliveries} (h : Fit K rest methods publishes requests contents deliveries) where
  pub lists_now : {fs : List RestEntry} {ms : List MethodEntry} {ps : List Publish} → Each RestWaits fs → Each MethodWaits ms → Each PublishWaits ps → Fit K fs ms ps requests contents deliveries
  lists_now f m p = record { rest_fits = f; methods_fit = m; publishes_fit = p; requests_fit = h.requests_fit; contents_fit = h.contents_fit; deliveries_fit = h.deliveries_fit }

  pub requests_now : {rs : List (ℕ × List Request)} → Requests K rs → Fit K rest methods publishes rs contents deliveries
  requests_now f = record { rest_fits = h.rest_fits; methods_fit = h.methods_fit; publishes_fit = h.publishes_fit; requests_fit = f; contents_fit = h.contents_fit; deliveries_fit = h.deliveries_fit }

  pub contents_now : {cs : Channels} → Contents K cs → Fit K rest methods publishes requests cs deliveries
  contents_now f = record { rest_fits = h.rest_fits; methods_fit = h.methods_fit; publishes_fit = h.publishes_fit; requests_fit = h.requests_fit; contents_fit = f; deliveries_fit = h.deliveries_fit }

  pub deliveries_now : {ds : Deliveries} → DeliveriesFit ds → Fit K rest methods publishes requests contents ds
  deliveries_now f = record { rest_fits = h.rest_fits; methods_fit = h.methods_fit; publishes_fit = h.publishes_fit; requests_fit = h.requests_fit; contents_fit = h.contents_fit; deliveries_fit = f }

abbrev pub WireFits : (ℕ → Bool) → Wire → Type 0
WireFits K b = Fit K b.rest b.methods b.publishes b.requests b.contents b.deliveries

-- ---- confirms

abbrev pub ConfirmFits : ConfirmMark → Type 0
ConfirmFits (mark.LimitSet c limit) = Wide limit
ConfirmFits (mark.Arrived c m) = MessageFits m
ConfirmFits (mark.ClosedHere c e) = ErrorFits e
ConfirmFits (mark.Ended c e) = ErrorFits e
ConfirmFits _ = Unit {0}

-- a publish joins or takes a tag, or a message came back
abbrev pub counts : ConfirmMark → Bool
counts (mark.Added c) = true
counts (mark.Left c n) = true
counts (mark.Arrived c m) = true
counts _ = false

-- ---- helpers

pub impossible : {A : Type 0} → false ≡ true → A
impossible h = absurd cc
