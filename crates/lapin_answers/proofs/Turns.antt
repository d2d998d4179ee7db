-- What an event but a frame request does to what a channel asks for: six kinds, and which calls are which.
use Rattle.std.proofs.Common.{◌≡◌, ◌∙◌, ℕ, ◌+◌, ◌==◌, Bool, true, false, cond, ◌&&◌, List, [], ◌∷◌, ◌++◌, Option, Some, None, inl, inr, refl, sym, ap, subst, eq-eqb}
use Rattle.std.specs.List.{filter}
use Rattle.std.proofs.lemmas.Bool.{and_parts}
use Rattle.std.proofs.lemmas.Bool.Decides.{eqb_tells}
use Rattle.lapin_types.specs.declared.acker_call.AckerCall.{AckerCall}
use Rattle.lapin_types.specs.declared.event.Event.{Event}
use Rattle.lapin_types.specs.declared.event.Event.TheVariants as event
use Rattle.lapin_types.specs.declared.call.Call.{Call}
use Rattle.lapin_types.specs.declared.leaving.Left.{Left}
use Rattle.lapin_types.specs.declared.record.Record.{Record}
use Rattle.lapin_types.specs.declared.record.Record.TheVariants as record_
use Rattle.lapin_types.specs.declared.request.Request.{Request}
use Rattle.lapin_types.specs.declared.request.Reply.{Reply}
use Rattle.lapin_types.specs.declared.request.Reply.TheVariants as reply
use Rattle.lapin_types.specs.declared.request.ReplyKind.{ReplyKind}
use Rattle.lapin_types.specs.Requests.{kind_of}
use Rattle.lapin_types.specs.Types.{Method, ChannelState, Error}
use Rattle.lapin_types.specs.Types.frame
use Rattle.lapin_types.specs.Types.method
use Rattle.lapin_types.specs.Types.channel
use Rattle.lapin_types.specs.Types.error
use Rattle.lapin_types.specs.Types.channel_state as state
use Rattle.lapin_rules.specs.declared.broker_frames.Incoming.{Incoming}
use Rattle.lapin_rules.specs.declared.calls.Answered.{Answered}
use Rattle.lapin_rules.specs.declared.calls.Answered.TheVariants as answered
use Rattle.lapin_rules.specs.declared.calls.Asked.{Asked}
use Rattle.lapin_rules.specs.declared.calls.Asked.TheVariants as ask
use Rattle.lapin_rules.specs.declared.phases.ChannelPhase.{ChannelPhase}
use Rattle.lapin_rules.specs.declared.phases.ChannelPhase.TheVariants as phase
use Rattle.lapin_rules.specs.declared.phases.ConnectionPhase.TheVariants as link
use Rattle.lapin_rules.specs.declared.phases.Closer.TheVariants as closer
use Rattle.lapin_rules.specs.Words.{with_channel}
use Rattle.lapin_rules.specs.Frames.{MethodEntry, left_method}
use Rattle.lapin_rules.specs.Phases.{is_up, channel_state}
use Rattle.lapin_tables.specs.ByChannel.{at_channel}
use Rattle.lapin_rules.specs.Requests.{requests_in, with_request, without_kind}
use Rattle.lapin_rules.specs.Wire.{Wire, phase_of, state_of, receives_on, is_open, is_closed, queued}
use Rattle.lapin_rules.specs.Opening.{after_open_call}
use Rattle.lapin_rules.specs.Calls.{asked, is_try, awaited_by}
use Rattle.lapin_rules.specs.ChannelClose.{own_close}
use Rattle.lapin_rules.specs.ConnectionClose.{own_connection_close}
use Rattle.lapin_rules.specs.Asking.{is_allowed, is_held, is_outstanding, asked_by, accepted_record, call_record, call_told, after_call, asked_wire}
use Rattle.lapin_rules.specs.Ackers.{acker_method, acked_wire}
use Rattle.lapin_rules.specs.Consumers.{lets_go_of, cancel_noted, after_let_go, let_go_cancel}
use Rattle.lapin_rules.specs.Readings.{Readings}
use Rattle.lapin_content.specs.Contents.{Expected}
use Rattle.lapin_content.specs.Channels.{expected_on}
use Rattle.lapin_consumer.specs.Subscriptions.{Consumer, is_idle}
use Rattle.lapin_broker.specs.declared.request.RequestKind.{RequestKind}
use Rattle.lapin_broker.specs.declared.request.RequestKind.TheVariants as kind
use Rattle.lapin_broker.specs.declared.frames.ClientFrame.TheVariants as client
use Rattle.lapin_broker.specs.Frames.{client_frame}
use Rattle.lapin_pairs.specs.Channel.{BOpenOk, BReply}
use Rattle.lapin_pairs.specs.Every.{ToD}
use Rattle.lapin_concord.specs.Frames.{number}
use Rattle.lapin_concord.specs.Wires.{reply_number, is_asked}
use Rattle.lapin_concord.specs.Incomes.{income_as}
use Rattle.lapin_concord.proofs.Views.{phase_at, phase_with, phase_away, requests_at}
use Rattle.lapin_effects.specs.Effects.{live, hears}
use Rattle.lapin_verdicts.specs.Answers.{awaits_as, kind_asked}
use Rattle.lapin_answers.specs.Calls.{IsCall}
use Rattle.lapin_answers.proofs.Rows.{Row, RowOf, row_of, acker_row, IsAskFor, asked_awaits, is_reply_down}
use Rattle.lapin_answers.proofs.Lists.{asks, open_asks, is_ask_on, waiting_asks, with_other, with_away, with_here, quiet_ask, away_ask, waits_same, waits_grow}
use Rattle.lapin_tables.proofs.Bools.{and_false}
use Rattle.lapin_rules.proofs.PhaseLaws.{allowed_up}
use Rattle.lapin_verdicts.proofs.Saying.{plain_record}

-- ---- the kinds

-- the frame, if one comes, is no reply on the channel
abbrev pub Calm : ℕ → Option Incoming → Type 0
Calm c None = Unit {0}
Calm c (Some i) = is_reply_down c (income_as i) ≡ false

-- a reply of this kind comes on the channel
abbrev pub Comes : ℕ → ReplyKind → Option Incoming → Type 0
Comes c k None = ⊥
Comes c k (Some i) = (content : Bool) × (income_as i ≡ ToD c (BReply (reply_number k) content))

-- open-ok comes on the channel
abbrev pub Opens : ℕ → Option Incoming → Type 0
Opens c None = ⊥
Opens c (Some i) = income_as i ≡ ToD c BOpenOk

-- the frame asks for the request's reply, under its ticket; where somebody holds that the event is the call
pub record IsFresh (c : ℕ) (e : Event) (x : Record) (l : Left) (r : Request) : Type 0 where
  pub ticket : l.ticket ≡ r.ticket
  pub kind : RequestKind
  pub kind_is : kind_asked (client_frame l.frame) ≡ Some kind
  pub same : number kind ≡ reply_number (kind_of r.reply)
  pub call : (n : ℕ) → r.ticket ≡ Some n → (m : Method) × IsCall n c m e x × (l.frame ≡ frame.Method c m)

-- What an event does on a channel with a live opening or without one, that comes to the second of each pair: whether the session hears it, its open requests that ask, and the
-- methods that wait on it and ask. What ends an opening drops the contents that were expected.
pub data Turn (c : ℕ) (e : Event) (x : Record) (i : Option Incoming) (alive u v : Bool) (rs rs' : List Request) (ws ws' : List Left) (es' : List Expected) : Type 0 where
  Stays : (calm : Calm c i) (hear : v ≡ u) (open_ : rs' ≡ rs) (waits : ws' ≡ ws) → Turn c e x i alive u v rs rs' ws ws' es'
  Grows : (calm : Calm c i) (heard : u ≡ true) (hear : v ≡ true) (l : Left) (r : Request) (open_ : rs' ≡ rs ++ r ∷ []) (waits : ws' ≡ ws ++ l ∷ []) (fresh : IsFresh c e x l r) → Turn c e x i alive u v rs rs' ws ws' es'
  Shrinks : (k : ReplyKind) (comes : Comes c k i) (asked : is_asked k ≡ true) (heard : u ≡ true) (hear : v ≡ true) (open_ : rs' ≡ without_kind k rs) (waits : ws' ≡ ws) → Turn c e x i alive u v rs rs' ws ws' es'
  Begins : (opens : Opens c i) (lives : alive ≡ true) (heard : u ≡ false) (hear : v ≡ true) (open_ : rs' ≡ rs) (waits : ws' ≡ ws) → Turn c e x i alive u v rs rs' ws ws' es'
  Ends : (over : v ≡ false) (open_ : rs' ≡ []) (waits : ws' ≡ []) (dropped : es' ≡ []) → Turn c e x i alive u v rs rs' ws ws' es'
  Sinks : (heard : u ≡ false) (over : v ≡ false) (open_ : rs ≡ [] → rs' ≡ []) (waits : ws ≡ [] → ws' ≡ []) → Turn c e x i alive u v rs rs' ws ws' es'

-- the same of a session's states and lists
abbrev pub Turns : ℕ → Event → Record → Option Incoming → Wire → Wire → Type 0
Turns c e x i b b' = Turn c e x i (live c b) (hears c b) (hears c b') (open_asks c b) (open_asks c b') (waiting_asks c b) (waiting_asks c b') (expected_on c b'.contents)

-- ---- states

abbrev pub At : Bool → ChannelPhase → ChannelState
At z p = cond z state.Base (channel_state p)

pub hears_at : (c : ℕ) (b : Wire) (p : ChannelPhase) → b.link ≡ link.Open → phase_of c b ≡ p → hears c b ≡ receives_on (At (c == 0) p)
hears_at c b p e q = ap (λ l. receives_on (cond (is_up l) (At (c == 0) (phase_of c b)) state.Down)) e ∙ ap (λ v. receives_on (At (c == 0) v)) q

pub hears_down : (c : ℕ) (b : Wire) → is_up b.link ≡ false → hears c b ≡ false
hears_down c b h = ap (λ v. receives_on (cond v (At (c == 0) (phase_of c b)) state.Down)) h

-- the phase of one channel moves: another is heard as before
pub hear_away : (c d : ℕ) (p : ChannelPhase) (b b' : Wire) → b'.link ≡ b.link → b'.phases ≡ with_channel d p b.phases → (d == c) ≡ false → hears c b' ≡ hears c b
hear_away c d p b b' l ps n =
    ap (λ v. receives_on (cond (is_up v) (At (c == 0) (phase_of c b')) state.Down)) l
    ∙ ap (λ v. receives_on (cond (is_up b.link) (At (c == 0) v) state.Down)) (ap (phase_at c) ps ∙ phase_away d c p b.phases n)

-- and the channel itself as its new phase says
pub hear_here : (c : ℕ) (p : ChannelPhase) (b b' : Wire) → b.link ≡ link.Open → b'.link ≡ b.link → b'.phases ≡ with_channel c p b.phases → hears c b' ≡ receives_on (At (c == 0) p)
hear_here c p b b' e l ps = hears_at c b' p (l ∙ e) (ap (phase_at c) ps ∙ phase_with c p b.phases)

closed_deaf : (z : Bool) (p : ChannelPhase) → is_closed (At z p) ≡ true → receives_on (At z p) ≡ false
closed_deaf true p h = absurd cc
closed_deaf false phase.Closed h = refl
closed_deaf false _ h = absurd cc

pub open_heard : (z : Bool) (p : ChannelPhase) → is_open (At z p) ≡ true → (z ≡ false) × (receives_on (At z p) ≡ true)
open_heard true p h = absurd cc
open_heard false (phase.Open paused) h = (refl, refl)
open_heard false _ h = absurd cc

opening_deaf : (z : Bool) → receives_on (At z phase.Opening) ≡ false
opening_deaf true = refl
opening_deaf false = refl

-- ---- calls

open_quiet : (d : ℕ) → awaits_as (client_frame (frame.Method d (method.Channel channel.Open))) ≡ false
open_quiet d = elim (d == 0) as (λ v. awaits_as (cond v client.Other client.Open) ≡ false) [ true ↦ refl | false ↦ refl ]

close_quiet : (d code : ℕ) (text : List ℕ) → awaits_as (client_frame (frame.Method d (own_connection_close code text))) ≡ false
close_quiet d code text = elim (d == 0) as (λ v. awaits_as (cond v client.ConnectionClose client.Other) ≡ false) [ true ↦ refl | false ↦ refl ]

abbrev pub wanted : Option ℕ → Reply → Request
wanted t r = record { ticket = t; reply = r }

abbrev pub entry : ℕ → Method → Option ℕ → MethodEntry
entry d m t = record { channel = d; method = m; ticket = t }

-- a request alone among all channels, of a kind that doesn't ask
lone_none : (c d : ℕ) (r : Request) → asks r ≡ false → filter asks (requests_in (at_channel c ((d, r ∷ []) ∷ []))) ≡ []
lone_none c d r h = elim (d == c) as (λ v. filter asks (requests_in (cond v (Some (r ∷ [])) None)) ≡ []) [ true ↦ rw h refl | false ↦ refl ]

opens_turn : (c d : ℕ) (e : Event) (x : Record) (b : Wire) → b.link ≡ link.Open → is_closed (At (d == 0) (phase_of d b)) ≡ true → Turns c e x None b (after_open_call d b)
opens_turn c d e x b up al = Stays tt hear (with_other c d (wanted (Some (b.tickets + 1)) reply.ChannelOpenOk) b.requests refl) (waits_same c b.methods (entry d (method.Channel channel.Open) (Some (b.tickets + 1))) (quiet_ask c (entry d (method.Channel channel.Open) (Some (b.tickets + 1))) (open_quiet d)))
  where
    hear : hears c (after_open_call d b) ≡ hears c b
    hear = elim (eqb_tells d c) [
      | inl y ↦
          let al' : is_closed (At (c == 0) (phase_of c b)) ≡ true = subst (λ v. is_closed (At (v == 0) (phase_of v b)) ≡ true) y.1 al in
          let now : hears c (after_open_call c b) ≡ false = hear_here c phase.Opening b (after_open_call c b) up refl refl ∙ opening_deaf (c == 0) in
          let was : hears c b ≡ false = hears_at c b (phase_of c b) up refl ∙ closed_deaf (c == 0) (phase_of c b) al' in
          subst (λ v. hears c (after_open_call v b) ≡ hears c b) (sym y.1) (now ∙ sym was)
      | inr n ↦ hear_away c d phase.Opening b (after_open_call d b) refl refl n.0
    ]

-- an open channel comes to another phase in which it is heard too
pub moved_turn : (c d : ℕ) (p : ChannelPhase) (b b' : Wire) → b.link ≡ link.Open → b'.link ≡ b.link → b'.phases ≡ with_channel d p b.phases → is_open (At (d == 0) (phase_of d b)) ≡ true → receives_on (channel_state p) ≡ true → hears c b' ≡ hears c b
moved_turn c d p b b' up l ps al h = elim (eqb_tells d c) [
  | inl y ↦
      let al' : is_open (At (c == 0) (phase_of c b)) ≡ true = subst (λ v. is_open (At (v == 0) (phase_of v b)) ≡ true) y.1 al in
      let o = open_heard (c == 0) (phase_of c b) al' in
      let now : hears c b' ≡ true = hear_here c p b b' up l (subst (λ v. b'.phases ≡ with_channel v p b.phases) y.1 ps) ∙ (ap (λ v. receives_on (At v p)) o.0 ∙ h) in
      let was : hears c b ≡ true = hears_at c b (phase_of c b) up refl ∙ o.1 in
      now ∙ sym was
  | inr n ↦ hear_away c d p b b' l ps n.0
]

-- a method that asks for this reply is queued under the next ticket
asking_turn : (c d : ℕ) (k : Call) (m : Method) (r : Reply) (b : Wire) → asked k ≡ ask.Method (record { method = m; answered = answered.ByReply r }) → b.link ≡ link.Open → is_open (At (d == 0) (phase_of d b)) ≡ true → IsAskFor (client_frame (frame.Method d m)) r → Turns c (event.Call d k) (record_.Ticket (b.tickets + 1)) None b (queued d m (Some r) b)
asking_turn c d k m r b is up al f = elim (eqb_tells d c) [
  | inl y ↦
      let P : ℕ → Type 0 = λ v. is_open (At (v == 0) (phase_of v b)) ≡ true → IsAskFor (client_frame (frame.Method v m)) r → Turns c (event.Call v k) (record_.Ticket (b.tickets + 1)) None b (queued v m (Some r) b) in
      subst P (sym y.1) here al f
  | inr n ↦ Stays tt refl (with_away c d (wanted (Some (b.tickets + 1)) r) b.requests n.0) (waits_same c b.methods (entry d m (Some (b.tickets + 1))) (away_ask c (entry d m (Some (b.tickets + 1))) n.0))
]
  where
    here : is_open (At (c == 0) (phase_of c b)) ≡ true → IsAskFor (client_frame (frame.Method c m)) r → Turns c (event.Call c k) (record_.Ticket (b.tickets + 1)) None b (queued c m (Some r) b)
    here al f =
        let heard : hears c b ≡ true = hears_at c b (phase_of c b) up refl ∙ (open_heard (c == 0) (phase_of c b) al).1 in
        let on : is_ask_on c (left_method (entry c m (Some (b.tickets + 1)))) ≡ true = ap (λ v. (c == c) && v) (asked_awaits _ f.kind f.kind_is) ∙ ap (λ v. v && true) (eq-eqb c c refl) in
        Grows tt heard heard (left_method (entry c m (Some (b.tickets + 1)))) (record { ticket = Some (b.tickets + 1); reply = r }) (with_here c (wanted (Some (b.tickets + 1)) r) b.requests f.asks) (waits_grow c b.methods (entry c m (Some (b.tickets + 1))) on) (record {
          ticket = refl;
          kind = f.kind;
          kind_is = f.kind_is;
          same = f.same;
          call = λ n t. (m, record { call = k; awaited = r; is = refl; given = ap record_.Ticket (let w : b.tickets + 1 ≡ n = cc in w); asks = is }, refl);
        })

row_turn : (c d : ℕ) (k : Call) (m : Method) (w : Answered) (b : Wire) → asked k ≡ ask.Method (record { method = m; answered = w }) → b.link ≡ link.Open → is_open (At (d == 0) (phase_of d b)) ≡ true → Row d m (awaited_by w) → Turns c (event.Call d k) (record_.Ticket (b.tickets + 1)) None b (queued d m (awaited_by w) b)
row_turn c d k m (answered.ByReply r) b is up al f = asking_turn c d k m r b is up al f
row_turn c d k m (answered.AtOnce r a) b is up al f = Stays tt refl refl (waits_same c b.methods (entry d m (Some (b.tickets + 1))) (quiet_ask c (entry d m (Some (b.tickets + 1))) f))
row_turn c d k m (answered.AsItLeaves l) b is up al f = Stays tt refl refl (waits_same c b.methods (entry d m (Some (b.tickets + 1))) (quiet_ask c (entry d m (Some (b.tickets + 1))) f))

accepted_turn : (c d : ℕ) (k : Call) (a : Asked) (b : Wire) → asked k ≡ a → b.link ≡ link.Open → is_allowed a (At (d == 0) (phase_of d b)) ≡ true → RowOf d a → Turns c (event.Call d k) (accepted_record a b) None b (after_call d a b)
accepted_turn c d k ask.Open b is up al f = opens_turn c d (event.Call d k) _ b up al
accepted_turn c d k (ask.CloseChannel code text) b is up al f = Stays tt (moved_turn c d (phase.Closing closer.Application false) b (after_call d (ask.CloseChannel code text) b) up refl refl al refl) (with_other c d (wanted (Some (b.tickets + 1)) reply.ChannelCloseOk) b.requests refl) (waits_same c b.methods (entry d (own_close code text) (Some (b.tickets + 1))) (quiet_ask c (entry d (own_close code text) (Some (b.tickets + 1))) refl))
accepted_turn c d k (ask.CloseConnection code text) b is up al f = Ends refl (lone_none c d (wanted (Some (b.tickets + 1)) reply.ConnectionCloseOk) refl) (waits_same c [] (entry d (own_connection_close code text) (Some (b.tickets + 1))) (quiet_ask c (entry d (own_connection_close code text) (Some (b.tickets + 1))) (close_quiet d code text))) refl
accepted_turn c d k (ask.Publish exchange key o payload properties) b is up al f = Stays tt refl refl refl
accepted_turn c d k (ask.Consume m tag queue o) b is up al f = Stays tt refl refl (waits_same c b.methods (entry d m (Some (b.tickets + 1))) (quiet_ask c (entry d m (Some (b.tickets + 1))) f))
accepted_turn c d k (ask.Limit limit) b is up al f = Stays tt refl refl refl
accepted_turn c d k ask.Nothing b is up al f = absurd cc
accepted_turn c d k (ask.Method row) b is up al f = row_turn c d k row.method row.answered b is up al f

asked_turn : (c d : ℕ) (k : Call) (b : Wire) (x : Error) → Turns c (event.Call d k) (cond (is_allowed (asked k) (state_of d b)) (accepted_record (asked k) b) (record_.Refused x)) None b (asked_wire d (asked k) b)
asked_turn c d k b x = elim (is_allowed (asked k) (state_of d b)) as (λ t. is_allowed (asked k) (state_of d b) ≡ t → Turns c (event.Call d k) (cond t (accepted_record (asked k) b) (record_.Refused x)) None b (cond t (after_call d (asked k) b) b)) [
  | true ↦ λ a. let e = allowed_up b.link (asked k) (At (d == 0) (phase_of d b)) a in accepted_turn c d k (asked k) b refl e (rw e at a) (row_of d k)
  | false ↦ λ a. Stays tt refl refl refl
] refl

pub call_turn : (c d : ℕ) (k : Call) (b : Wire) (readings : Readings) → Turns c (event.Call d k) (call_told d k b readings) None b (asked_wire d (asked_by k (call_told d k b readings)) b)
call_turn c d k b readings =
    let no : Record = record_.Refused (error.ConfirmsOutstanding (readings.limit d)) in
    let yes : Record = call_record d (asked k) b in
    let E : Record → Asked → Type 0 = λ r a. Turns c (event.Call d k) r None b (asked_wire d a b) in
    elim (is_held d k b readings) as (λ v. is_held d k b readings ≡ v → E (cond v no yes) (asked_by k (cond v no yes))) [
      | true ↦ λ h.
          let tries : is_try k ≡ true = (and_parts (is_try k) _ h).0 in
          let none : asked_by k no ≡ ask.Nothing = ap (λ v. cond (v && true) ask.Nothing (asked k)) tries in
          subst (E no) (sym none) (Stays tt refl refl refl)
      | false ↦ λ h.
          let plain : is_outstanding yes ≡ false = plain_record (is_allowed (asked k) (state_of d b)) (asked k) b (error.InvalidChannelState (state_of d b)) refl in
          let same : asked_by k yes ≡ asked k = ap (λ v. cond (is_try k && v) ask.Nothing (asked k)) plain ∙ ap (λ v. cond v ask.Nothing (asked k)) (and_false (is_try k)) in
          subst (E yes) (sym same) (asked_turn c d k b (error.InvalidChannelState (state_of d b)))
    ] refl

-- ---- ackers, and consumers that are let go

pub acker_turn : (c : ℕ) (e : Event) (x : Record) (o : Option (ℕ × ℕ)) (k : AckerCall) (b : Wire) → Turns c e x None b (acked_wire o k b)
acker_turn c e x None k b = Stays tt refl refl refl
acker_turn c e x (Some y) k b = elim (is_open (state_of y.0 b)) as (λ v. Turns c e x None b (cond v (queued y.0 (acker_method k y.1) None b) b)) [
  | true ↦ Stays tt refl refl (waits_same c b.methods (entry y.0 (acker_method k y.1) (Some (b.tickets + 1))) (quiet_ask c (entry y.0 (acker_method k y.1) (Some (b.tickets + 1))) (acker_row y.0 y.1 k)))
  | false ↦ Stays tt refl refl refl
]

open_up : (d : ℕ) (b : Wire) → is_open (state_of d b) ≡ true → hears d b ≡ true
open_up d b h = rw h refl

let_go_here : (c : ℕ) (e : Event) (x : Record) (y : Consumer) (b : Wire) → y.channel ≡ c → hears c b ≡ true → Turns c e x None b (cancel_noted y b)
let_go_here c e x y b is heard =
    let l : Left = left_method (entry y.channel (let_go_cancel y) None) in
    let r : Request = record { ticket = None; reply = reply.BasicCancelOk } in
    let on : is_ask_on c l ≡ true = ap (λ v. (v == c) && true) is ∙ ap (λ v. v && true) (eq-eqb c c refl) in
    let more : open_asks c (cancel_noted y b) ≡ open_asks c b ++ r ∷ [] = subst (λ v. filter asks (requests_at c (with_request v r b.requests)) ≡ open_asks c b ++ r ∷ []) (sym is) (with_here c r b.requests refl) in
    Grows tt heard heard l r more (waits_grow c b.methods (entry y.channel (let_go_cancel y) None) on) (record { ticket = refl; kind = kind.Cancel; kind_is = refl; same = refl; call = λ n t. absurd cc })

pub let_go_turn : (c : ℕ) (e : Event) (x : Record) (o : Option Consumer) (b : Wire) → Turns c e x None b (after_let_go o b)
let_go_turn c e x None b = Stays tt refl refl refl
let_go_turn c e x (Some y) b = elim (lets_go_of y b) as (λ v. lets_go_of y b ≡ v → Turns c e x None b (cond v (cancel_noted y b) b)) [
  | true ↦ λ a.
      let heard : hears y.channel b ≡ true = open_up y.channel b ((and_parts (is_idle y) _ a).1) in
      elim (eqb_tells y.channel c) [
        | inl z ↦ let_go_here c e x y b z.1 (subst (λ v. hears v b ≡ true) z.1 heard)
        | inr n ↦ Stays tt refl (with_away c y.channel (wanted None reply.BasicCancelOk) b.requests n.0) (waits_same c b.methods (entry y.channel (let_go_cancel y) None) (away_ask c (entry y.channel (let_go_cancel y) None) n.0))
      ]
  | false ↦ λ a. Stays tt refl refl refl
] refl
