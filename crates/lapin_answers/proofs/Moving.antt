-- What an event but a frame request does to where a channel stands, to the request of its close, and to the closes that wait. First
-- the calls.
use Rattle.std.proofs.Common.{◌≡◌, ◌∙◌, ℕ, ◌+◌, ◌==◌, Bool, true, false, cond, ◌&&◌, List, [], ◌∷◌, ◌++◌, Option, Some, None, inl, inr, refl, sym, ap, subst}
use Rattle.std.proofs.lemmas.Bool.{and_parts}
use Rattle.std.proofs.lemmas.Bool.Decides.{eqb_tells}
use Rattle.lapin_types.specs.declared.acker_call.AckerCall.{AckerCall}
use Rattle.lapin_types.specs.declared.acker_call.AckerCall.TheVariants as acker_call
use Rattle.lapin_types.specs.declared.answer.Answer.{Answer}
use Rattle.lapin_types.specs.declared.event.Event.{Event}
use Rattle.lapin_types.specs.declared.event.Event.TheVariants as event
use Rattle.lapin_types.specs.declared.call.Call.{Call}
use Rattle.lapin_types.specs.declared.call.Call.TheVariants as call
use Rattle.lapin_types.specs.declared.leaving.Left.{Left}
use Rattle.lapin_types.specs.declared.record.Record.{Record}
use Rattle.lapin_types.specs.declared.record.Record.TheVariants as record_
use Rattle.lapin_types.specs.declared.request.Request.{Request}
use Rattle.lapin_types.specs.declared.request.Reply.{Reply}
use Rattle.lapin_types.specs.declared.request.Reply.TheVariants as reply
use Rattle.lapin_types.specs.declared.request.ReplyKind.TheVariants as reply_kind
use Rattle.lapin_types.specs.Requests.{kind_of}
use Rattle.lapin_types.specs.Types.{Method, Error}
use Rattle.lapin_types.specs.Types.frame
use Rattle.lapin_types.specs.Types.method
use Rattle.lapin_types.specs.Types.channel
use Rattle.lapin_types.specs.Types.basic
use Rattle.lapin_types.specs.Types.error
use Rattle.lapin_rules.specs.declared.broker_frames.Incoming.{Incoming}
use Rattle.lapin_rules.specs.declared.broker_frames.Incoming.TheVariants as incoming
use Rattle.lapin_rules.specs.declared.calls.Asked.{Asked}
use Rattle.lapin_rules.specs.declared.calls.Asked.TheVariants as ask
use Rattle.lapin_rules.specs.declared.phases.ChannelPhase.{ChannelPhase}
use Rattle.lapin_rules.specs.declared.phases.ChannelPhase.TheVariants as phase
use Rattle.lapin_rules.specs.declared.phases.ConnectionPhase.TheVariants as link
use Rattle.lapin_rules.specs.declared.phases.Closer.{Closer}
use Rattle.lapin_rules.specs.declared.phases.Closer.TheVariants as closer
use Rattle.lapin_rules.specs.Words.{with_channel}
use Rattle.lapin_rules.specs.Frames.{MethodEntry, left_method}
use Rattle.lapin_rules.specs.Phases.{is_up}
use Rattle.lapin_rules.specs.Wire.{Wire, phase_of, state_of, is_open, is_closed, queued}
use Rattle.lapin_rules.specs.Opening.{after_open_call}
use Rattle.lapin_rules.specs.Calls.{asked, is_try, awaited_by, awaiting, unless_nowait}
use Rattle.lapin_rules.specs.ChannelClose.{own_close, after_broker_close, has_sent_close}
use Rattle.lapin_rules.specs.Asking.{is_allowed, is_held, is_outstanding, asked_by, accepted_record, call_record, call_told, after_call, asked_wire}
use Rattle.lapin_rules.specs.Ackers.{acker_method, acked_wire}
use Rattle.lapin_rules.specs.Consumers.{lets_go_of, cancel_noted, after_let_go, let_go_cancel}
use Rattle.lapin_rules.specs.Readings.{Readings}
use Rattle.lapin_consumer.specs.Subscriptions.{Consumer}
use Rattle.lapin_concord.proofs.Views.{phase_at, phase_with, phase_away}
use Rattle.lapin_concord.specs.Wires.{is_asked}
use Rattle.lapin_concord.proofs.Incomes.{kinds_tell}
use Rattle.lapin_answers.specs.Closes.{is_close, is_end, IsClose}
use Rattle.lapin_answers.proofs.Rows.{Row, RowOf, row_of}
use Rattle.lapin_answers.proofs.Shuts.{asked_apart, close_requests, waiting_closes, first_of, rest_of, shuts, shut_with_here, shut_with_away, shut_with_other, closes_same, closes_grow, no_close, close_off, close_on}
use Rattle.lapin_answers.proofs.Turns.{At, entry, wanted}
use Rattle.lapin_tables.proofs.Bools.{and_false}
use Rattle.lapin_verdicts.proofs.Saying.{plain_record}
use Rattle.lapin_rules.proofs.PhaseLaws.{allowed_up}

-- ---- where a channel stands while the connection is open

abbrev pub place_in : Bool → ChannelPhase → Option ChannelPhase
place_in true p = Some p
place_in false p = None

abbrev pub place_of : ℕ → Wire → Option ChannelPhase
place_of c b = place_in (is_up b.link) (phase_of c b)

-- no close of this side is under way
abbrev pub is_unshut : ChannelPhase → Bool
is_unshut (phase.Closing who sent) = false
is_unshut phase.Crossed = false
is_unshut _ = true

-- the two closes crossed
abbrev pub is_crossed_at : ChannelPhase → Bool
is_crossed_at phase.Crossed = true
is_crossed_at _ = false

-- the frame that comes is close-ok of the channel
abbrev pub is_close_ok_in : ℕ → Option Incoming → Bool
is_close_ok_in c (Some (incoming.ChannelCloseOk d)) = d == c
is_close_ok_in c _ = false

-- the request is that of the frame's call
pub record IsShutting (c : ℕ) (e : Event) (x : Record) (l : Left) (r : Request) : Type 0 where
  pub ticket : l.ticket ≡ r.ticket
  pub call : (n : ℕ) → r.ticket ≡ Some n → (m : Method) × IsClose n c m e x × (l.frame ≡ frame.Method c m)

-- ---- the kinds

pub data Move (c : ℕ) (e : Event) (x : Record) (i : Option Incoming) (o o' : Option ChannelPhase) (rs rs' : List Request) (ws ws' : List Left) : Type 0 where
  Stays : (calm : is_close_ok_in c i ≡ false) (place : o' ≡ o) (requests : rs' ≡ rs) (waits : ws' ≡ ws) → Move c e x i o o' rs rs' ws ws'
  Passes : (calm : is_close_ok_in c i ≡ false) (p q : ChannelPhase) (was : o ≡ Some p) (now : o' ≡ Some q) (before : is_unshut p ≡ true) (after : is_unshut q ≡ true) (requests : rs' ≡ rs) (waits : ws' ≡ ws) → Move c e x i o o' rs rs' ws ws'
  Shuts : (calm : is_close_ok_in c i ≡ false) (v : Bool) (l : Left) (r : Request) (was : o ≡ Some (phase.Open v)) (now : o' ≡ Some (phase.Closing closer.Application false)) (requests : rs' ≡ rs ++ r ∷ []) (waits : ws' ≡ ws ++ l ∷ []) (is : IsShutting c e x l r) → Move c e x i o o' rs rs' ws ws'
  Breaks : (calm : is_close_ok_in c i ≡ false) (v : Bool) (l : Left) (was : o ≡ Some (phase.Open v)) (now : o' ≡ Some (phase.Closing closer.Session false)) (requests : rs' ≡ rs) (waits : ws' ≡ ws ++ l ∷ []) → Move c e x i o o' rs rs' ws ws'
  Ends : (calm : is_close_ok_in c i ≡ false) (p : ChannelPhase) (apart : is_crossed_at p ≡ false) (was : o ≡ Some p) (now : o' ≡ Some (after_broker_close p)) (requests : rs' ≡ cond (has_sent_close p) (first_of rs) []) (waits : ws' ≡ []) → Move c e x i o o' rs rs' ws ws'
  Closes : (comes : is_close_ok_in c i ≡ true) (who : Closer) (sent : Bool) (was : o ≡ Some (phase.Closing who sent)) (now : o' ≡ Some phase.Closed) (requests : rs' ≡ []) (waits : ws' ≡ []) → Move c e x i o o' rs rs' ws ws'
  Uncrosses : (comes : is_close_ok_in c i ≡ true) (was : o ≡ Some phase.Crossed) (now : o' ≡ Some phase.Closed) (requests : rs' ≡ rest_of rs) (waits : ws' ≡ ws) → Move c e x i o o' rs rs' ws ws'
  Falls : (now : o' ≡ None) → Move c e x i o o' rs rs' ws ws'

abbrev pub Moves : ℕ → Event → Record → Option Incoming → Wire → Wire → Type 0
Moves c e x i b b' = Move c e x i (place_of c b) (place_of c b') (close_requests c b) (close_requests c b') (waiting_closes c b) (waiting_closes c b')

-- ---- places

pub place_up : (c : ℕ) (b : Wire) → b.link ≡ link.Open → place_of c b ≡ Some (phase_of c b)
place_up c b up = ap (λ l. place_in (is_up l) (phase_of c b)) up

pub place_down : (c : ℕ) (b : Wire) → is_up b.link ≡ false → place_of c b ≡ None
place_down c b d = ap (λ v. place_in v (phase_of c b)) d

pub place_here : (c : ℕ) (p : ChannelPhase) (b b' : Wire) → b.link ≡ link.Open → b'.link ≡ b.link → b'.phases ≡ with_channel c p b.phases → place_of c b' ≡ Some p
place_here c p b b' up l ps = place_up c b' (l ∙ up) ∙ ap Some (ap (phase_at c) ps ∙ phase_with c p b.phases)

pub place_away : (c d : ℕ) (p : ChannelPhase) (b b' : Wire) → b'.link ≡ b.link → b'.phases ≡ with_channel d p b.phases → (d == c) ≡ false → place_of c b' ≡ place_of c b
place_away c d p b b' l ps n = ap (λ v. place_in (is_up v) (phase_of c b')) l ∙ ap (place_in (is_up b.link)) (ap (phase_at c) ps ∙ phase_away d c p b.phases n)

-- ---- calls

-- the method of a call that neither opens nor closes is no close, of a channel or of the connection
abbrev pub IsInner : Asked → Type 0
IsInner (ask.Method row) = (is_close row.method ≡ false) × (is_end row.method ≡ false)
IsInner (ask.Consume m tag queue o) = (is_close m ≡ false) × (is_end m ≡ false)
IsInner _ = Unit {0}

line_inner : (m : Method) (t : Bool) (r : Reply) (a : Answer) → (is_close m ≡ false) × (is_end m ≡ false) → IsInner (unless_nowait m t r a)
line_inner m true r a h = h
line_inner m false r a h = h

pub inner : (k : Call) → IsInner (asked k)
inner call.OpenChannel = tt
inner (call.ChannelClose code text) = tt
inner (call.ConnectionClose code text) = tt
inner (call.BasicPublish exchange key o payload properties) = tt
inner (call.TryBasicPublish exchange key o payload properties) = tt
inner (call.ConfirmLimit limit) = tt
inner (call.ExchangeDeclare name k o more) = line_inner _ o.nowait _ _ (refl, refl)
inner (call.ExchangeDelete name o) = line_inner _ o.nowait _ _ (refl, refl)
inner (call.ExchangeBind to from key o more) = line_inner _ o.nowait _ _ (refl, refl)
inner (call.ExchangeUnbind to from key o more) = line_inner _ o.nowait _ _ (refl, refl)
inner (call.QueueDeclare name o more) = line_inner _ o.nowait _ _ (refl, refl)
inner (call.QueueBind name from key o more) = line_inner _ o.nowait _ _ (refl, refl)
inner (call.QueuePurge name o) = line_inner _ o.nowait _ _ (refl, refl)
inner (call.QueueDelete name o) = line_inner _ o.nowait _ _ (refl, refl)
inner (call.BasicConsume name tag o more) = consumes o.nowait
  where
    consumes : (t : Bool) → IsInner (cond t (ask.Consume (method.Basic (basic.Consume name tag o.no_local o.no_ack o.exclusive t more)) tag name o) (awaiting (method.Basic (basic.Consume name tag o.no_local o.no_ack o.exclusive t more)) (reply.BasicConsumeOk name o)))
    consumes true = (refl, refl)
    consumes false = (refl, refl)
inner (call.BasicCancel tag o) = line_inner _ o.nowait _ _ (refl, refl)
inner (call.ConfirmSelect o) = line_inner _ o.nowait _ _ (refl, refl)
inner _ = (refl, refl)

acker_inner : (tag : ℕ) (k : AckerCall) → is_close (acker_method k tag) ≡ false
acker_inner tag (acker_call.Ack o) = refl
acker_inner tag (acker_call.Nack o) = refl
acker_inner tag (acker_call.Reject o) = refl

pub closed_is : (z : Bool) (p : ChannelPhase) → is_closed (At z p) ≡ true → p ≡ phase.Closed
closed_is true p h = absurd cc
closed_is false phase.Closed h = refl
closed_is false _ h = absurd cc

pub open_is : (z : Bool) (p : ChannelPhase) → is_open (At z p) ≡ true → (v : Bool) × (p ≡ phase.Open v)
open_is true p h = absurd cc
open_is false (phase.Open v) h = (v, refl)
open_is false _ h = absurd cc

open_call : (c d : ℕ) (e : Event) (x : Record) (b : Wire) → b.link ≡ link.Open → is_closed (At (d == 0) (phase_of d b)) ≡ true → Moves c e x None b (after_open_call d b)
open_call c d e x b up al =
    let rs : close_requests c (after_open_call d b) ≡ close_requests c b = shut_with_other c d (wanted (Some (b.tickets + 1)) reply.ChannelOpenOk) b.requests refl in
    let ws : waiting_closes c (after_open_call d b) ≡ waiting_closes c b = closes_same c b.methods (entry d (method.Channel channel.Open) (Some (b.tickets + 1))) (no_close c (entry d (method.Channel channel.Open) (Some (b.tickets + 1))) refl) in
    elim (eqb_tells d c) [
      | inl y ↦
          let al' : is_closed (At (c == 0) (phase_of c b)) ≡ true = subst (λ v. is_closed (At (v == 0) (phase_of v b)) ≡ true) y.1 al in
          let now : place_of c (after_open_call d b) ≡ Some phase.Opening = subst (λ v. place_of v (after_open_call d b) ≡ Some phase.Opening) y.1 (place_here d phase.Opening b (after_open_call d b) up refl refl) in
          Passes refl phase.Closed phase.Opening (place_up c b up ∙ ap Some (closed_is (c == 0) (phase_of c b) al')) now refl refl rs ws
      | inr n ↦ Stays refl (place_away c d phase.Opening b (after_open_call d b) refl refl n.0) rs ws
    ]

close_call : (c d : ℕ) (k : Call) (code : ℕ) (text : List ℕ) (b : Wire) → asked k ≡ ask.CloseChannel code text → b.link ≡ link.Open → is_open (At (d == 0) (phase_of d b)) ≡ true → Moves c (event.Call d k) (record_.Ticket (b.tickets + 1)) None b (after_call d (ask.CloseChannel code text) b)
close_call c d k code text b is up al = elim (eqb_tells d c) [
  | inl y ↦
      let P : ℕ → Type 0 = λ v. Moves c (event.Call v k) (record_.Ticket (b.tickets + 1)) None b (after_call v (ask.CloseChannel code text) b) in
      let al' : is_open (At (c == 0) (phase_of c b)) ≡ true = subst (λ v. is_open (At (v == 0) (phase_of v b)) ≡ true) y.1 al in
      let o = open_is (c == 0) (phase_of c b) al' in
      let m : MethodEntry = entry c (own_close code text) (Some (b.tickets + 1)) in
      let r : Request = wanted (Some (b.tickets + 1)) reply.ChannelCloseOk in
      subst P (sym y.1) (Shuts refl o.0 (left_method m) r (place_up c b up ∙ ap Some o.1) (place_here c (phase.Closing closer.Application false) b (after_call c (ask.CloseChannel code text) b) up refl refl) (shut_with_here c r b.requests refl) (closes_grow c b.methods m (close_on c m refl refl)) (record {
        ticket = refl;
        call = λ n t. (own_close code text, record { call = k; code = code; text = text; is = refl; given = ap record_.Ticket (let w : b.tickets + 1 ≡ n = cc in w); asks = is; queues = refl }, refl);
      }))
  | inr n ↦ Stays refl (place_away c d (phase.Closing closer.Application false) b (after_call d (ask.CloseChannel code text) b) refl refl n.0) (shut_with_away c d (wanted (Some (b.tickets + 1)) reply.ChannelCloseOk) b.requests n.0) (closes_same c b.methods (entry d (own_close code text) (Some (b.tickets + 1))) (close_off c (entry d (own_close code text) (Some (b.tickets + 1))) n.0))
]

-- a request that asks for something else
asks_apart : (t : Option ℕ) (r : Reply) → is_asked (kind_of r) ≡ true → shuts (wanted t r) ≡ false
asks_apart t r h = sym (kinds_tell (kind_of r) reply_kind.ChannelCloseOk) ∙ asked_apart (kind_of r) h

-- a method is queued that is no close
line_call : (c d : ℕ) (e : Event) (x : Record) (m : Method) (o : Option Reply) (b : Wire) → is_close m ≡ false → Row d m o → Moves c e x None b (queued d m o b)
line_call c d e x m None b n f = Stays refl refl refl (closes_same c b.methods (entry d m (Some (b.tickets + 1))) (no_close c (entry d m (Some (b.tickets + 1))) n))
line_call c d e x m (Some r) b n f = Stays refl refl (shut_with_other c d (wanted (Some (b.tickets + 1)) r) b.requests (asks_apart (Some (b.tickets + 1)) r f.asks)) (closes_same c b.methods (entry d m (Some (b.tickets + 1))) (no_close c (entry d m (Some (b.tickets + 1))) n))

accepted_call : (c d : ℕ) (k : Call) (a : Asked) (b : Wire) → asked k ≡ a → b.link ≡ link.Open → is_allowed a (At (d == 0) (phase_of d b)) ≡ true → IsInner a → RowOf d a → Moves c (event.Call d k) (accepted_record a b) None b (after_call d a b)
accepted_call c d k ask.Open b is up al n f = open_call c d (event.Call d k) (record_.Ticket (b.tickets + 1)) b up al
accepted_call c d k (ask.CloseChannel code text) b is up al n f = close_call c d k code text b is up al
accepted_call c d k (ask.CloseConnection code text) b is up al n f = Falls refl
accepted_call c d k (ask.Publish exchange key o payload properties) b is up al n f = Stays refl refl refl refl
accepted_call c d k (ask.Consume m tag queue o) b is up al n f = line_call c d (event.Call d k) _ m None b n.0 f
accepted_call c d k (ask.Limit limit) b is up al n f = Stays refl refl refl refl
accepted_call c d k ask.Nothing b is up al n f = absurd cc
accepted_call c d k (ask.Method row) b is up al n f = line_call c d (event.Call d k) _ row.method (awaited_by row.answered) b n.0 f

asked_move : (c d : ℕ) (k : Call) (b : Wire) (x : Error) → Moves c (event.Call d k) (cond (is_allowed (asked k) (state_of d b)) (accepted_record (asked k) b) (record_.Refused x)) None b (asked_wire d (asked k) b)
asked_move c d k b x = elim (is_allowed (asked k) (state_of d b)) as (λ t. is_allowed (asked k) (state_of d b) ≡ t → Moves c (event.Call d k) (cond t (accepted_record (asked k) b) (record_.Refused x)) None b (cond t (after_call d (asked k) b) b)) [
  | true ↦ λ a. let e = allowed_up b.link (asked k) (At (d == 0) (phase_of d b)) a in accepted_call c d k (asked k) b refl e (rw e at a) (inner k) (row_of d k)
  | false ↦ λ a. Stays refl refl refl refl
] refl

pub call_move : (c d : ℕ) (k : Call) (b : Wire) (readings : Readings) → Moves c (event.Call d k) (call_told d k b readings) None b (asked_wire d (asked_by k (call_told d k b readings)) b)
call_move c d k b readings =
    let no : Record = record_.Refused (error.ConfirmsOutstanding (readings.limit d)) in
    let yes : Record = call_record d (asked k) b in
    let E : Record → Asked → Type 0 = λ r a. Moves c (event.Call d k) r None b (asked_wire d a b) in
    elim (is_held d k b readings) as (λ v. is_held d k b readings ≡ v → E (cond v no yes) (asked_by k (cond v no yes))) [
      | true ↦ λ h.
          let tries : is_try k ≡ true = (and_parts (is_try k) _ h).0 in
          let none : asked_by k no ≡ ask.Nothing = ap (λ v. cond (v && true) ask.Nothing (asked k)) tries in
          subst (E no) (sym none) (Stays refl refl refl refl)
      | false ↦ λ h.
          let plain : is_outstanding yes ≡ false = plain_record (is_allowed (asked k) (state_of d b)) (asked k) b (error.InvalidChannelState (state_of d b)) refl in
          let same : asked_by k yes ≡ asked k = ap (λ v. cond (is_try k && v) ask.Nothing (asked k)) plain ∙ ap (λ v. cond v ask.Nothing (asked k)) (and_false (is_try k)) in
          subst (E yes) (sym same) (asked_move c d k b (error.InvalidChannelState (state_of d b)))
    ] refl

-- ---- ackers, and consumers that are let go

pub acker_move : (c : ℕ) (e : Event) (x : Record) (o : Option (ℕ × ℕ)) (k : AckerCall) (b : Wire) → Moves c e x None b (acked_wire o k b)
acker_move c e x None k b = Stays refl refl refl refl
acker_move c e x (Some y) k b = elim (is_open (state_of y.0 b)) as (λ v. Moves c e x None b (cond v (queued y.0 (acker_method k y.1) None b) b)) [
  | true ↦ Stays refl refl refl (closes_same c b.methods (entry y.0 (acker_method k y.1) (Some (b.tickets + 1))) (no_close c (entry y.0 (acker_method k y.1) (Some (b.tickets + 1))) (acker_inner y.1 k)))
  | false ↦ Stays refl refl refl refl
]

pub let_go_move : (c : ℕ) (e : Event) (x : Record) (o : Option Consumer) (b : Wire) → Moves c e x None b (after_let_go o b)
let_go_move c e x None b = Stays refl refl refl refl
let_go_move c e x (Some y) b = elim (lets_go_of y b) as (λ v. Moves c e x None b (cond v (cancel_noted y b) b)) [
  | true ↦ Stays refl refl (shut_with_other c y.channel (wanted None reply.BasicCancelOk) b.requests refl) (closes_same c b.methods (entry y.channel (let_go_cancel y) None) (no_close c (entry y.channel (let_go_cancel y) None) refl))
  | false ↦ Stays refl refl refl refl
]
