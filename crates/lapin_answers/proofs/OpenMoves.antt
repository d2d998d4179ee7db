-- What an event but a frame request does to a channel's open that is under way: to its request, and to the opens that wait.
use Rattle.std.proofs.Common.{◌≡◌, ◌∙◌, ℕ, ◌+◌, ◌==◌, Bool, true, false, cond, not, ◌&&◌, ◌||◌, List, [], ◌∷◌, ◌++◌, Option, Some, None, inl, inr, refl, sym, ap, subst, eq-eqb}
use Rattle.std.specs.List.{filter}
use Rattle.std.proofs.lemmas.Bool.{and_parts}
use Rattle.std.proofs.lemmas.Bool.Decides.{eqb_tells}
use Rattle.lapin_types.specs.declared.acker_call.AckerCall.{AckerCall}
use Rattle.lapin_types.specs.declared.call.Call.{Call}
use Rattle.lapin_types.specs.declared.event.Event.{Event}
use Rattle.lapin_types.specs.declared.event.Event.TheVariants as event
use Rattle.lapin_types.specs.declared.leaving.Left.{Left}
use Rattle.lapin_types.specs.declared.record.Record.{Record}
use Rattle.lapin_types.specs.declared.record.Record.TheVariants as record_
use Rattle.lapin_types.specs.declared.request.Request.{Request}
use Rattle.lapin_types.specs.declared.request.Reply.{Reply}
use Rattle.lapin_types.specs.declared.request.Reply.TheVariants as reply
use Rattle.lapin_types.specs.declared.request.ReplyKind.{ReplyKind}
use Rattle.lapin_types.specs.declared.request.ReplyKind.TheVariants as reply_kind
use Rattle.lapin_types.specs.Requests.{kind_of}
use Rattle.lapin_types.specs.Types.{Method, Error}
use Rattle.lapin_types.specs.Types.frame
use Rattle.lapin_types.specs.Types.method
use Rattle.lapin_types.specs.Types.basic
use Rattle.lapin_types.specs.Types.channel
use Rattle.lapin_types.specs.Types.connection
use Rattle.lapin_types.specs.Types.error
use Rattle.lapin_rules.specs.declared.broker_frames.ConsumerPart.{ConsumerPart}
use Rattle.lapin_rules.specs.declared.broker_frames.ConsumerPart.TheVariants as consumer
use Rattle.lapin_rules.specs.declared.broker_frames.ContentPart.{ContentPart}
use Rattle.lapin_rules.specs.declared.broker_frames.ContentPart.TheVariants as part
use Rattle.lapin_rules.specs.declared.broker_frames.Incoming.{Incoming}
use Rattle.lapin_rules.specs.declared.broker_frames.Incoming.TheVariants as incoming
use Rattle.lapin_rules.specs.declared.calls.Asked.{Asked}
use Rattle.lapin_rules.specs.declared.calls.Asked.TheVariants as ask
use Rattle.lapin_rules.specs.declared.marks.Settlement.{Settlement}
use Rattle.lapin_rules.specs.declared.phases.ChannelPhase.{ChannelPhase}
use Rattle.lapin_rules.specs.declared.phases.ChannelPhase.TheVariants as phase
use Rattle.lapin_rules.specs.declared.phases.ConnectionPhase.{ConnectionPhase}
use Rattle.lapin_rules.specs.declared.phases.ConnectionPhase.TheVariants as link
use Rattle.lapin_rules.specs.declared.phases.CloseStage.TheVariants as stage
use Rattle.lapin_rules.specs.declared.phases.Closer.TheVariants as closer
use Rattle.lapin_rules.specs.Ackers.{acker_method, acked_wire, usable_at}
use Rattle.lapin_rules.specs.Asking.{is_allowed, is_held, is_outstanding, asked_by, accepted_record, call_record, call_told, after_call, asked_wire}
use Rattle.lapin_rules.specs.Calls.{asked, is_try, awaited_by}
use Rattle.lapin_rules.specs.ChannelClose.{has_sent_close, kept_at, closing, own_close, after_close_ok, after_channel_close, after_broker_close, receives_close, receives_close_ok}
use Rattle.lapin_rules.specs.ConnectionClose.{receives_down, after_connection_close}
use Rattle.lapin_rules.specs.Consumers.{lets_go_of, cancel_noted, after_let_go, let_go_cancel, receives_consumer}
use Rattle.lapin_rules.specs.Content.{receives_part}
use Rattle.lapin_rules.specs.Drops.{is_off, method_channel}
use Rattle.lapin_rules.specs.Ends.{down}
use Rattle.lapin_rules.specs.Events.{record_of, after_event}
use Rattle.lapin_rules.specs.Flow.{after_flow}
use Rattle.lapin_rules.specs.Frames.{MethodEntry, left_method}
use Rattle.lapin_rules.specs.Incoming.{incoming_of, frame_class, frame_method}
use Rattle.lapin_rules.specs.Loss.{after_lost}
use Rattle.lapin_rules.specs.Opening.{after_open_call, opens}
use Rattle.lapin_rules.specs.Phases.{is_up, is_lost, is_live}
use Rattle.lapin_rules.specs.Readings.{Readings}
use Rattle.lapin_rules.specs.Receiving.{when, incoming_up, incoming_record, incoming_wire}
use Rattle.lapin_rules.specs.Reply.{receives_reply, after_reply}
use Rattle.lapin_rules.specs.Requests.{is_kind, close_alone, no_requests, request_alone, first_request}
use Rattle.lapin_rules.specs.Settlement.{settlement_record, session_close}
use Rattle.lapin_rules.specs.Unexpected.{refused}
use Rattle.lapin_rules.specs.Wire.{Wire, state_of, phase_of, is_closed, is_open, noted, queued, receives_on}
use Rattle.lapin_rules.specs.Words.{with_channel}
use Rattle.lapin_consumer.specs.Subscriptions.{Consumer, consumer_at}
use Rattle.lapin_tables.specs.ByChannel.{on_channel}
use Rattle.lapin_concord.specs.Wires.{reply_number, is_asked}
use Rattle.lapin_concord.proofs.Incomes.{kinds_tell}
use Rattle.lapin_concord.proofs.Views.{phase_at, phase_away, requests_at, requests_on_here}
use Rattle.lapin_effects.specs.Effects.{is_next, is_special, live}
use Rattle.lapin_effects.proofs.Happens.{live_at, IsLine, call_line, acker_line}
use Rattle.lapin_verdicts.specs.Deeds.{is_open as opens_frame}
use Rattle.lapin_verdicts.specs.InStep.{is_open_on}
use Rattle.lapin_answers.specs.Opens.{IsOpening}
use Rattle.lapin_answers.proofs.Lists.{lefts_of, number_same}
use Rattle.lapin_answers.proofs.Moving.{closed_is, open_is}
use Rattle.lapin_answers.proofs.OneKind.{kind_requests, kind_at, kind_with_away, kind_with_here, kind_with_other, kind_without, kind_without_away, kind_taken, kind_on_away, kind_on_other, kind_none, kind_lone, lefts_same, lefts_grow}
use Rattle.lapin_answers.proofs.Rows.{Row, RowOf, row_of}
use Rattle.lapin_answers.proofs.Shuts.{rest_of}
use Rattle.lapin_answers.proofs.Turns.{At, entry, wanted}
use Rattle.lapin_tables.proofs.Bools.{and_false}
use Rattle.lapin_rules.proofs.PhaseLaws.{up_open, opens_only, allowed_up}
use Rattle.lapin_verdicts.proofs.Keeping.{no_live}
use Rattle.lapin_verdicts.proofs.Opens.{plain_open}
use Rattle.lapin_verdicts.proofs.Saying.{plain_record}
use Rattle.lapin_answers.proofs.Phases.{closed_hears_no_ok, opening_hears_no_ok}

-- ---- what is looked at

-- the open requests of a channel that await open-ok
abbrev pub open_requests : ℕ → Wire → List Request
open_requests c b = kind_requests reply_kind.ChannelOpenOk c b

-- the opens of a channel that wait
abbrev pub waiting_opens : ℕ → Wire → List Left
waiting_opens c b = filter (is_open_on c) (lefts_of b.methods)

-- the frame is `channel.open`, and the request is that of its call
pub record IsBegun (c : ℕ) (e : Event) (x : Record) (l : Left) (r : Request) : Type 0 where
  pub ticket : l.ticket ≡ r.ticket
  pub method : l.frame ≡ frame.Method c (method.Channel channel.Open)
  pub call : (n : ℕ) → r.ticket ≡ Some n → IsOpening n c e x

-- What an event does to a channel: all stays; an opening begins; open-ok takes the request; nothing of it is open; or there was no live
-- opening, and nothing is asked anew.
pub data Move (c : ℕ) (e : Event) (x : Record) (a a' : Bool) (rs rs' : List Request) (ws ws' : List Left) : Type 0 where
  Stays : (alive : a' ≡ a) (requests : rs' ≡ rs) (waits : ws' ≡ ws) → Move c e x a a' rs rs' ws ws'
  Begins : (was : a ≡ false) (now : a' ≡ true) (l : Left) (r : Request) (requests : rs' ≡ rs ++ r ∷ []) (waits : ws' ≡ ws ++ l ∷ []) (is : IsBegun c e x l r) → Move c e x a a' rs rs' ws ws'
  Takes : (requests : rs' ≡ rest_of rs) → Move c e x a a' rs rs' ws ws'
  Ends : (requests : rs' ≡ []) → Move c e x a a' rs rs' ws ws'
  Idles : (was : a ≡ false) (requests : rs' ≡ rs) → Move c e x a a' rs rs' ws ws'

abbrev pub Moves : ℕ → Event → Record → Wire → Wire → Type 0
Moves c e x b b' = Move c e x (live c b) (live c b') (open_requests c b) (open_requests c b') (waiting_opens c b) (waiting_opens c b')

-- ---- live openings

alive_kept : (c : ℕ) (b b' : Wire) → b'.link ≡ b.link → b'.phases ≡ b.phases → live c b' ≡ live c b
alive_kept c b b' l ps = ap (λ v. is_up v && is_live (phase_of c b')) l ∙ ap (λ v. is_up b.link && is_live (phase_at c v)) ps

alive_away : (c d : ℕ) (p : ChannelPhase) (b b' : Wire) → b'.link ≡ b.link → b'.phases ≡ with_channel d p b.phases → (d == c) ≡ false → live c b' ≡ live c b
alive_away c d p b b' l ps n = ap (λ v. is_up v && is_live (phase_of c b')) l ∙ ap (λ v. is_up b.link && is_live v) (ap (phase_at c) ps ∙ phase_away d c p b.phases n)

-- an open channel comes to another live phase
alive_moved : (c d : ℕ) (p : ChannelPhase) (b b' : Wire) → b'.link ≡ b.link → b'.phases ≡ with_channel d p b.phases → is_open (At (d == 0) (phase_of d b)) ≡ true → is_live p ≡ true → live c b' ≡ live c b
alive_moved c d p b b' l ps al lives = elim (eqb_tells d c) [
  | inl y ↦
      let o = open_is (d == 0) (phase_of d b) al in
      subst (λ v. live v b' ≡ live v b) y.1 (live_at d p b b' l ps ∙ ap (λ v. is_up b.link && v) (lives ∙ sym (ap is_live o.1)))
  | inr n ↦ alive_away c d p b b' l ps n.0
]

-- ---- methods that wait

not_open : (c : ℕ) (m : MethodEntry) → opens_frame (frame.Method m.channel m.method) ≡ false → is_open_on c (left_method m) ≡ false
not_open c m h = ap (λ v. (m.channel == c) && v) h ∙ and_false (m.channel == c)

off_open : (c : ℕ) (m : MethodEntry) → (m.channel == c) ≡ false → is_open_on c (left_method m) ≡ false
off_open c m h = ap (λ v. v && opens_frame (frame.Method m.channel m.method)) h

waits_same : (c : ℕ) (ms : List MethodEntry) (m : MethodEntry) → opens_frame (frame.Method m.channel m.method) ≡ false → filter (is_open_on c) (lefts_of (ms ++ m ∷ [])) ≡ filter (is_open_on c) (lefts_of ms)
waits_same c ms m h = lefts_same (is_open_on c) ms m (not_open c m h)

waits_away : (d c : ℕ) (ms : List MethodEntry) → (d == c) ≡ false → filter (is_open_on c) (lefts_of (filter (is_off method_channel d) ms)) ≡ filter (is_open_on c) (lefts_of ms)
waits_away d c [] h = refl
waits_away d c (m ∷ ms) h = elim (eqb_tells m.channel d) [
  | inl y ↦
      let off : (m.channel == c) ≡ false = ap (λ v. v == c) y.1 ∙ h in
      rw (y.0, off) (waits_away d c ms h)
  | inr y ↦ rw y.0 (ap (λ v. cond (is_open_on c (left_method m)) (left_method m ∷ v) v) (waits_away d c ms h))
]

abbrev note : ℕ → Method → MethodEntry
note d m = entry d m None

noted_same : (c d : ℕ) (m : Method) (b : Wire) → opens_frame (frame.Method d m) ≡ false → waiting_opens c (noted d m b) ≡ waiting_opens c b
noted_same c d m b h = waits_same c b.methods (note d m) h

-- ---- kinds of requests

asked_apart : (k : ReplyKind) → is_asked k ≡ true → (reply_number k == 20) ≡ false
asked_apart reply_kind.ChannelOpenOk h = absurd cc
asked_apart reply_kind.ChannelCloseOk h = absurd cc
asked_apart reply_kind.ConnectionCloseOk h = absurd cc
asked_apart _ h = refl

wants_apart : (t : Option ℕ) (r : Reply) → is_asked (kind_of r) ≡ true → is_kind reply_kind.ChannelOpenOk (wanted t r) ≡ false
wants_apart t r h = sym (kinds_tell (kind_of r) reply_kind.ChannelOpenOk) ∙ asked_apart (kind_of r) h

-- where closes crossed no request of an open stays
kept_none : (c : ℕ) (p : ChannelPhase) (all : List (ℕ × List Request)) → kind_at reply_kind.ChannelOpenOk c (on_channel c (kept_at p) all) ≡ []
kept_none c p all = ap (filter (is_kind reply_kind.ChannelOpenOk)) (requests_on_here c (kept_at p) all (empty p)) ∙ elim (has_sent_close p) as (λ v. filter (is_kind reply_kind.ChannelOpenOk) (cond v (close_alone (requests_at c all)) (no_requests (requests_at c all))) ≡ []) [ true ↦ alone (requests_at c all) | false ↦ refl ]
  where
    empty : (p : ChannelPhase) → kept_at p [] ≡ []
    empty p = elim (has_sent_close p) as (λ v. cond v (close_alone []) (no_requests []) ≡ []) [ true ↦ refl | false ↦ refl ]

    apart : (r : Request) → is_kind reply_kind.ChannelCloseOk r ≡ true → is_kind reply_kind.ChannelOpenOk r ≡ false
    apart r h = sym (kinds_tell (kind_of r.reply) reply_kind.ChannelOpenOk) ∙ ap (λ v. v == 20) (number_same (kind_of r.reply) reply_kind.ChannelCloseOk h)

    alone : (rs : List Request) → filter (is_kind reply_kind.ChannelOpenOk) (close_alone rs) ≡ []
    alone [] = refl
    alone (r ∷ rs) = elim (is_kind reply_kind.ChannelCloseOk r) as (λ v. is_kind reply_kind.ChannelCloseOk r ≡ v → filter (is_kind reply_kind.ChannelOpenOk) (request_alone (cond v (Some r) (first_request reply_kind.ChannelCloseOk rs))) ≡ []) [
      | true ↦ λ e. rw (apart r e) refl
      | false ↦ λ e. alone rs
    ] refl

-- ---- calls

open_move : (c d : ℕ) (k : Call) (b : Wire) → asked k ≡ ask.Open → b.link ≡ link.Open → is_closed (At (d == 0) (phase_of d b)) ≡ true → Moves c (event.Call d k) (record_.Ticket (b.tickets + 1)) b (after_open_call d b)
open_move c d k b is up al =
    let r : Request = wanted (Some (b.tickets + 1)) reply.ChannelOpenOk in
    let m : ℕ → MethodEntry = λ v. entry v (method.Channel channel.Open) (Some (b.tickets + 1)) in
    elim (eqb_tells d c) [
      | inl y ↦
          let P : ℕ → Type 0 = λ v. Moves c (event.Call v k) (record_.Ticket (b.tickets + 1)) b (after_open_call v b) in
          let al' : is_closed (At (c == 0) (phase_of c b)) ≡ true = subst (λ v. is_closed (At (v == 0) (phase_of v b)) ≡ true) y.1 al in
          let was : live c b ≡ false = ap (λ v. is_up b.link && is_live v) (closed_is (c == 0) (phase_of c b) al') ∙ and_false (is_up b.link) in
          let now : live c (after_open_call c b) ≡ true = live_at c phase.Opening b (after_open_call c b) refl refl ∙ ap (λ v. is_up v && true) up in
          let on : is_open_on c (left_method (m c)) ≡ true = ap (λ v. v && true) (eq-eqb c c refl) in
          subst P (sym y.1) (Begins was now (left_method (m c)) r (kind_with_here reply_kind.ChannelOpenOk c r b.requests refl) (lefts_grow (is_open_on c) b.methods (m c) on) (record {
            ticket = refl;
            method = refl;
            call = λ n t. record { call = k; is = refl; given = ap record_.Ticket (let w : b.tickets + 1 ≡ n = cc in w); asks = is };
          }))
      | inr n ↦ Stays (alive_away c d phase.Opening b (after_open_call d b) refl refl n.0) (kind_with_away reply_kind.ChannelOpenOk c d r b.requests n.0) (lefts_same (is_open_on c) b.methods (m d) (off_open c (m d) n.0))
    ]

-- a method is queued that opens no channel
line_move : (c d : ℕ) (e : Event) (x : Record) (m : Method) (o : Option Reply) (b : Wire) → is_special m ≡ false → Row d m o → Moves c e x b (queued d m o b)
line_move c d e x m None b n f = Stays refl refl (waits_same c b.methods (entry d m (Some (b.tickets + 1))) (plain_open d m n))
line_move c d e x m (Some r) b n f = Stays refl (kind_with_other reply_kind.ChannelOpenOk c d (wanted (Some (b.tickets + 1)) r) b.requests (wants_apart (Some (b.tickets + 1)) r f.asks)) (waits_same c b.methods (entry d m (Some (b.tickets + 1))) (plain_open d m n))

accepted_move : (c d : ℕ) (k : Call) (a : Asked) (b : Wire) → asked k ≡ a → b.link ≡ link.Open → is_allowed a (At (d == 0) (phase_of d b)) ≡ true → IsLine a → RowOf d a → Moves c (event.Call d k) (accepted_record a b) b (after_call d a b)
accepted_move c d k ask.Open b is up al n f = open_move c d k b is up al
accepted_move c d k (ask.CloseChannel code text) b is up al n f = Stays (alive_moved c d (phase.Closing closer.Application false) b (after_call d (ask.CloseChannel code text) b) refl refl al refl) (kind_with_other reply_kind.ChannelOpenOk c d (wanted (Some (b.tickets + 1)) reply.ChannelCloseOk) b.requests refl) (waits_same c b.methods (entry d (own_close code text) (Some (b.tickets + 1))) refl)
accepted_move c d k (ask.CloseConnection code text) b is up al n f = Ends (kind_lone reply_kind.ChannelOpenOk c d (wanted (Some (b.tickets + 1)) reply.ConnectionCloseOk) refl)
accepted_move c d k (ask.Publish exchange key o payload properties) b is up al n f = Stays refl refl refl
accepted_move c d k (ask.Consume m tag queue o) b is up al n f = line_move c d (event.Call d k) _ m None b n f
accepted_move c d k (ask.Limit limit) b is up al n f = Stays refl refl refl
accepted_move c d k ask.Nothing b is up al n f = absurd cc
accepted_move c d k (ask.Method row) b is up al n f = line_move c d (event.Call d k) _ row.method (awaited_by row.answered) b n f

asked_move : (c d : ℕ) (k : Call) (b : Wire) (x : Error) → Moves c (event.Call d k) (cond (is_allowed (asked k) (state_of d b)) (accepted_record (asked k) b) (record_.Refused x)) b (asked_wire d (asked k) b)
asked_move c d k b x = elim (is_allowed (asked k) (state_of d b)) as (λ t. is_allowed (asked k) (state_of d b) ≡ t → Moves c (event.Call d k) (cond t (accepted_record (asked k) b) (record_.Refused x)) b (cond t (after_call d (asked k) b) b)) [
  | true ↦ λ a. let e = allowed_up b.link (asked k) (At (d == 0) (phase_of d b)) a in accepted_move c d k (asked k) b refl e (rw e at a) (call_line k) (row_of d k)
  | false ↦ λ a. Stays refl refl refl
] refl

call_move : (c d : ℕ) (k : Call) (b : Wire) (readings : Readings) → Moves c (event.Call d k) (call_told d k b readings) b (asked_wire d (asked_by k (call_told d k b readings)) b)
call_move c d k b readings =
    let no : Record = record_.Refused (error.ConfirmsOutstanding (readings.limit d)) in
    let yes : Record = call_record d (asked k) b in
    let E : Record → Asked → Type 0 = λ r a. Moves c (event.Call d k) r b (asked_wire d a b) in
    elim (is_held d k b readings) as (λ v. is_held d k b readings ≡ v → E (cond v no yes) (asked_by k (cond v no yes))) [
      | true ↦ λ h.
          let tries : is_try k ≡ true = (and_parts (is_try k) _ h).0 in
          let none : asked_by k no ≡ ask.Nothing = ap (λ v. cond (v && true) ask.Nothing (asked k)) tries in
          subst (E no) (sym none) (Stays refl refl refl)
      | false ↦ λ h.
          let plain : is_outstanding yes ≡ false = plain_record (is_allowed (asked k) (state_of d b)) (asked k) b (error.InvalidChannelState (state_of d b)) refl in
          let same : asked_by k yes ≡ asked k = ap (λ v. cond (is_try k && v) ask.Nothing (asked k)) plain ∙ ap (λ v. cond v ask.Nothing (asked k)) (and_false (is_try k)) in
          subst (E yes) (sym same) (asked_move c d k b (error.InvalidChannelState (state_of d b)))
    ] refl

acker_move : (c : ℕ) (e : Event) (x : Record) (o : Option (ℕ × ℕ)) (k : AckerCall) (b : Wire) → Moves c e x b (acked_wire o k b)
acker_move c e x None k b = Stays refl refl refl
acker_move c e x (Some y) k b = elim (is_open (state_of y.0 b)) as (λ v. Moves c e x b (cond v (queued y.0 (acker_method k y.1) None b) b)) [
  | true ↦ Stays refl refl (waits_same c b.methods (entry y.0 (acker_method k y.1) (Some (b.tickets + 1))) (plain_open y.0 (acker_method k y.1) (acker_line y.1 k)))
  | false ↦ Stays refl refl refl
]

let_go_move : (c : ℕ) (e : Event) (x : Record) (o : Option Consumer) (b : Wire) → Moves c e x b (after_let_go o b)
let_go_move c e x None b = Stays refl refl refl
let_go_move c e x (Some y) b = elim (lets_go_of y b) as (λ v. Moves c e x b (cond v (cancel_noted y b) b)) [
  | true ↦ Stays refl (kind_with_other reply_kind.ChannelOpenOk c y.channel (wanted None reply.BasicCancelOk) b.requests refl) (waits_same c b.methods (entry y.channel (let_go_cancel y) None) refl)
  | false ↦ Stays refl refl refl
]

-- ---- frames of the broker

abbrev Hears : ℕ → Event → Record → Wire → Incoming → Record → Type 0
Hears c e x b i r = Moves c e x b (incoming_wire i r b)

other_number : (k : ReplyKind) → opens k ≡ false → (reply_number k == 20) ≡ false
other_number reply_kind.ChannelOpenOk o = absurd cc
other_number _ o = refl

module _ (c : ℕ) (e : Event) (x : Record) (class number : ℕ) where
  abbrev no : Record
  no = refused class number

  -- a frame that no rule hears ends everything
  unreceived : (b : Wire) (i : Incoming) → Hears c e x b i no
  unreceived b i = Ends refl

  received_if : (t : Bool) (b : Wire) (i : Incoming) → (t ≡ true → Hears c e x b i record_.Received) → Hears c e x b i (when t no)
  received_if true b i h = h refl
  received_if false b i h = unreceived b i

  state_up : (d : ℕ) (b : Wire) → b.link ≡ link.Open → state_of d b ≡ At (d == 0) (phase_of d b)
  state_up d b up = rw up refl

  -- ---- replies

  opened : (d : ℕ) (b : Wire) → Moves c e x b (after_reply d reply_kind.ChannelOpenOk b)
  opened d b = elim (eqb_tells d c) [
    | inl y ↦ subst (λ v. Moves c e x b (after_reply v reply_kind.ChannelOpenOk b)) (sym y.1) (Takes (kind_taken reply_kind.ChannelOpenOk c b.requests))
    | inr n ↦ Stays (alive_away c d (phase.Open false) b (after_reply d reply_kind.ChannelOpenOk b) refl refl n.0) (kind_without_away reply_kind.ChannelOpenOk c d reply_kind.ChannelOpenOk b.requests n.0) refl
  ]

  reply_moves : (d : ℕ) (k : ReplyKind) (b : Wire) → Moves c e x b (after_reply d k b)
  reply_moves d k b = by (opens k) refl
    where
      by : (v : Bool) → opens k ≡ v → Moves c e x b (after_reply d k b)
      by true o = subst (λ v. Moves c e x b (after_reply d v b)) (sym (opens_only k o)) (opened d b)
      by false o = Stays (alive_kept c b (after_reply d k b) refl (ap (λ v. cond v (with_channel d (phase.Open false) b.phases) b.phases) o)) (kind_without reply_kind.ChannelOpenOk c d k b.requests (other_number k o)) refl

  -- ---- settlements and flow

  failed_moves : (d : ℕ) (z : Settlement) (b : Wire) → b.link ≡ link.Open → Moves c e x b (cond (is_open (state_of d b)) (noted d (session_close z.kind) (closing d closer.Session b)) b)
  failed_moves d z b up = elim (is_open (state_of d b)) as (λ t. is_open (state_of d b) ≡ t → Moves c e x b (cond t (noted d (session_close z.kind) (closing d closer.Session b)) b)) [
    | true ↦ λ a. Stays (alive_moved c d (phase.Closing closer.Session false) b (noted d (session_close z.kind) (closing d closer.Session b)) refl refl (ap is_open (sym (state_up d b up)) ∙ a) refl) refl (noted_same c d (session_close z.kind) b refl)
    | false ↦ λ a. Stays refl refl refl
  ] refl

  settlement_receives : (d : ℕ) (z : Settlement) (readings : Readings) (b : Wire) → b.link ≡ link.Open → Hears c e x b (incoming.Settlement d z) (cond (receives_on (state_of d b)) (settlement_record readings d z) no)
  settlement_receives d z readings b up = elim (receives_on (state_of d b)) as (λ t. Hears c e x b (incoming.Settlement d z) (cond t (settlement_record readings d z) no)) [
    | true ↦ elim (readings.selected d) as (λ t. Hears c e x b (incoming.Settlement d z) (cond t (cond (z.multiple || readings.pending d z.tag) record_.Received (record_.Refused (error.PreconditionFailed z.tag (readings.last d)))) record_.Passed)) [
      | true ↦ elim (z.multiple || readings.pending d z.tag) as (λ t. Hears c e x b (incoming.Settlement d z) (cond t record_.Received (record_.Refused (error.PreconditionFailed z.tag (readings.last d))))) [
        | true ↦ Stays refl refl refl
        | false ↦ failed_moves d z b up
      ]
      | false ↦ Stays refl refl refl
    ]
    | false ↦ unreceived b (incoming.Settlement d z)
  ]

  flow_moves : (d : ℕ) (active : Bool) (b : Wire) → b.link ≡ link.Open → Moves c e x b (after_flow d active b)
  flow_moves d active b up =
      let to : Wire = noted d (method.Channel (channel.FlowOk active)) (record b { phases = with_channel d (phase.Open (not active)) b.phases }) in
      elim (is_open (state_of d b)) as (λ t. is_open (state_of d b) ≡ t → Moves c e x b (cond t to b)) [
        | true ↦ λ a. Stays (alive_moved c d (phase.Open (not active)) b to refl refl (ap is_open (sym (state_up d b up)) ∙ a) refl) refl (noted_same c d (method.Channel (channel.FlowOk active)) b refl)
        | false ↦ λ a. Stays refl refl refl
      ] refl

  -- ---- closes

  close_moves : (d : ℕ) (b : Wire) → Moves c e x b (after_channel_close d (phase_of d b) b)
  close_moves d b = elim (eqb_tells d c) [
    | inl y ↦ subst (λ v. Moves c e x b (after_channel_close v (phase_of v b) b)) (sym y.1) (Ends (kept_none c (phase_of c b) b.requests))
    | inr n ↦ Stays (alive_away c d (after_broker_close (phase_of d b)) b (after_channel_close d (phase_of d b) b) refl refl n.0)
        (kind_on_away reply_kind.ChannelOpenOk c d (kept_at (phase_of d b)) b.requests n.0)
        (waits_same c (filter (is_off method_channel d) b.methods) (note d (method.Channel channel.CloseOk)) refl ∙ waits_away d c b.methods n.0)
  ]

  answered : (d : ℕ) (p : ChannelPhase) (b : Wire) → phase_of d b ≡ p → receives_close_ok (At (d == 0) p) ≡ true → Moves c e x b (after_close_ok d p b)
  answered d (phase.Closing who sent) b q a = elim (eqb_tells d c) [
    | inl y ↦ subst (λ v. Moves c e x b (after_close_ok v (phase.Closing who sent) b)) (sym y.1) (Ends (kind_none reply_kind.ChannelOpenOk c b.requests))
    | inr n ↦ Stays (alive_away c d phase.Closed b (after_close_ok d (phase.Closing who sent) b) refl refl n.0) (kind_on_away reply_kind.ChannelOpenOk c d no_requests b.requests n.0) (waits_away d c b.methods n.0)
  ]
  answered d phase.Crossed b q a = elim (eqb_tells d c) [
    | inl y ↦ Idles (subst (λ v. live v b ≡ false) y.1 (ap (λ v. is_up b.link && is_live v) q ∙ and_false (is_up b.link))) (kind_on_other reply_kind.ChannelOpenOk c d reply_kind.ChannelCloseOk b.requests refl)
    | inr n ↦ Stays (alive_away c d phase.Closed b (after_close_ok d phase.Crossed b) refl refl n.0) (kind_on_other reply_kind.ChannelOpenOk c d reply_kind.ChannelCloseOk b.requests refl) refl
  ]
  answered d phase.Closed b q a = absurd (closed_hears_no_ok (d == 0) a)
  answered d phase.Opening b q a = absurd (opening_hears_no_ok (d == 0) a)
  answered d (phase.Open paused) b q a = absurd (never (d == 0) a)
    where
      never : (z : Bool) → receives_close_ok (At z (phase.Open paused)) ≡ true → ⊥
      never true h = cc
      never false h = cc

  -- ---- contents and consumers

  part_moves : (d : ℕ) (p : ContentPart) (b : Wire) → Hears c e x b (incoming.Content d p) record_.Received
  part_moves d (part.GetOk s) b = Stays refl (kind_without reply_kind.ChannelOpenOk c d reply_kind.BasicGetOk b.requests refl) refl
  part_moves d (part.Return s) b = Stays refl refl refl
  part_moves d (part.Deliver tag s) b = Stays refl refl refl
  part_moves d (part.Header s) b = Stays refl refl refl
  part_moves d (part.Body bytes) b = Stays refl refl refl

  cancel_moves : (d : ℕ) (tag : List ℕ) (t : Bool) (b : Wire) → Moves c e x b (cond t (noted d (method.Basic (basic.CancelOk tag)) b) b)
  cancel_moves d tag true b = Stays refl refl (noted_same c d (method.Basic (basic.CancelOk tag)) b refl)
  cancel_moves d tag false b = Stays refl refl refl

  consumer_moves : (d : ℕ) (p : ConsumerPart) (b : Wire) → Hears c e x b (incoming.Consumer d p) record_.Received
  consumer_moves d (consumer.ConsumeOk tag) b = reply_moves d reply_kind.BasicConsumeOk b
  consumer_moves d (consumer.CancelOk tag) b = reply_moves d reply_kind.BasicCancelOk b
  consumer_moves d consumer.RecoverOk b = reply_moves d reply_kind.BasicRecoverOk b
  consumer_moves d (consumer.Cancel tag nowait) b = cancel_moves d tag (is_open (state_of d b) && not nowait) b

  -- ---- all frames

  fell : (b : Wire) → Moves c e x b (noted 0 (method.Connection connection.CloseOk) (down link.Closed b))
  fell b = Ends refl

  up_receives : (b : Wire) (readings : Readings) (i : Incoming) → b.link ≡ link.Open → Hears c e x b i (incoming_up b readings no i)
  up_receives b readings (incoming.Reply d k a) up = received_if (receives_reply d k b) b (incoming.Reply d k a) (λ h. reply_moves d k b)
  up_receives b readings (incoming.Settlement d z) up = settlement_receives d z readings b up
  up_receives b readings (incoming.Content d p) up = received_if (receives_part d p b) b (incoming.Content d p) (λ h. part_moves d p b)
  up_receives b readings (incoming.Consumer d p) up = received_if (receives_consumer d p b) b (incoming.Consumer d p) (λ h. consumer_moves d p b)
  up_receives b readings (incoming.Flow d active) up = received_if (receives_on (state_of d b)) b (incoming.Flow d active) (λ _. flow_moves d active b up)
  up_receives b readings (incoming.ChannelClose d code) up = received_if (receives_close (state_of d b)) b (incoming.ChannelClose d code) (λ _. close_moves d b)
  up_receives b readings (incoming.ChannelCloseOk d) up = received_if (receives_close_ok (state_of d b)) b (incoming.ChannelCloseOk d) (λ a. answered d (phase_of d b) b refl (ap receives_close_ok (sym (state_up d b up)) ∙ a))
  up_receives b readings (incoming.ConnectionClose code) up = subst (λ l. Moves c e x b (after_connection_close l b)) (sym up) (fell b)
  up_receives b readings incoming.ConnectionCloseOk up = unreceived b incoming.ConnectionCloseOk
  up_receives b readings incoming.Other up = unreceived b incoming.Other

  passed : (b : Wire) → Moves c e x b b
  passed b = Stays refl refl refl

  down_receives : (l : ConnectionPhase) (b : Wire) (i : Incoming) → b.link ≡ l → is_up l ≡ false → Hears c e x b i (cond (receives_down l i) record_.Received record_.Passed)
  down_receives link.Open b i q d = absurd cc
  down_receives link.Closed b i q d = passed b
  down_receives link.Lost b i q d = passed b
  down_receives (link.Closing s) b incoming.ConnectionCloseOk q d = Idles (no_live c b (ap is_up q)) (kind_on_other reply_kind.ChannelOpenOk c 0 reply_kind.ConnectionCloseOk b.requests refl)
  down_receives (link.Closing stage.Crossed) b (incoming.ConnectionClose code) q d = passed b
  down_receives (link.Closing stage.Sent) b (incoming.ConnectionClose code) q d = subst (λ l. Moves c e x b (after_connection_close l b)) (sym q) (Idles (no_live c b (ap is_up q)) refl)
  down_receives (link.Closing stage.Queued) b (incoming.ConnectionClose code) q d = subst (λ l. Moves c e x b (after_connection_close l b)) (sym q) (fell b)
  down_receives (link.Closing s) b (incoming.Reply d k a) q z = passed b
  down_receives (link.Closing s) b (incoming.Settlement d k) q z = passed b
  down_receives (link.Closing s) b (incoming.Content d p) q z = passed b
  down_receives (link.Closing s) b (incoming.Consumer d p) q z = passed b
  down_receives (link.Closing s) b (incoming.Flow d active) q z = passed b
  down_receives (link.Closing s) b (incoming.ChannelClose d code) q z = passed b
  down_receives (link.Closing s) b (incoming.ChannelCloseOk d) q z = passed b
  down_receives (link.Closing s) b incoming.Other q z = passed b

  incoming_move : (l : ConnectionPhase) (b : Wire) (readings : Readings) (i : Incoming) → b.link ≡ l → Moves c e x b (incoming_wire i (incoming_record b readings no i) b)
  incoming_move l b readings i q = subst (Hears c e x b i) (sym is) (elim (is_up l) as (λ t. is_up l ≡ t → Hears c e x b i (cond t (incoming_up b readings no i) (cond (receives_down l i) record_.Received record_.Passed))) [
    | true ↦ λ u. up_receives b readings i (q ∙ up_open l u)
    | false ↦ λ u. down_receives l b i q u
  ] refl)
    where
      is : incoming_record b readings no i ≡ cond (is_up l) (incoming_up b readings no i) (cond (receives_down l i) record_.Received record_.Passed)
      is = ap (λ l. cond (is_up l) (incoming_up b readings no i) (cond (receives_down l i) record_.Received record_.Passed)) q

-- ---- a loss

lost_move : (c : ℕ) (e : Event) (x : Record) (b : Wire) → Moves c e x b (after_lost b)
lost_move c e x b = elim (is_lost b.link) as (λ t. Moves c e x b (cond t b (down link.Lost b))) [ true ↦ Stays refl refl refl | false ↦ Ends refl ]

-- ---- every event but a frame request

pub event_move : (c : ℕ) (b : Wire) (readings : Readings) (e : Event) → is_next e ≡ false → Moves c e (record_of b readings e) b (after_event b e (record_of b readings e))
event_move c b readings (event.Call d k) h = call_move c d k b readings
event_move c b readings (event.Next flow) h = absurd cc
event_move c b readings (event.Receive f) h = incoming_move c (event.Receive f) (record_of b readings (event.Receive f)) (frame_class f) (frame_method f) b.link b readings (incoming_of f) refl
event_move c b readings (event.Acker n k) h = acker_move c (event.Acker n k) _ (usable_at n b) k b
event_move c b readings (event.DropConsumer n) h = let_go_move c (event.DropConsumer n) _ (consumer_at n b.deliveries.subscriptions) b
event_move c b readings event.Lost h = lost_move c event.Lost _ b
event_move c b readings (event.PollTicket n) h = Stays refl refl refl
event_move c b readings (event.PollConfirm n) h = Stays refl refl refl
event_move c b readings (event.PollConsumer n) h = Stays refl refl refl
event_move c b readings (event.PollWait d) h = Stays refl refl refl
event_move c b readings (event.AsideTicket n) h = Stays refl refl refl
event_move c b readings (event.AsideConfirm n) h = Stays refl refl refl
event_move c b readings (event.Delegate n) h = Stays refl refl refl
event_move c b readings event.NextJob h = Stays refl refl refl
event_move c b readings (event.State d) h = Stays refl refl refl
