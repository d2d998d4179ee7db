-- What an event but a frame request does to the close of the connection: whether one is under way, its request, and whether it waits.
use Rattle.std.proofs.Common.{append-nil, ◌≡◌, ◌∙◌, ℕ, ◌==◌, Bool, true, false, cond, not, ◌&&◌, ◌||◌, List, Some, None, inl, inr, refl, sym, ap, subst, ◌+◌, [], ◌∷◌, ◌++◌, Option}
use Rattle.std.specs.List.{filter}
use Rattle.std.proofs.lemmas.Bool.{and_parts}
use Rattle.std.proofs.lemmas.Bool.Decides.{eqb_tells}
use Rattle.lapin_types.specs.declared.event.Event.{Event}
use Rattle.lapin_types.specs.declared.record.Record.{Record}
use Rattle.lapin_types.specs.declared.request.ReplyKind.{ReplyKind}
use Rattle.lapin_types.specs.Types.{Method, Error}
use Rattle.lapin_rules.specs.declared.marks.Settlement.{Settlement}
use Rattle.lapin_rules.specs.declared.broker_frames.ConsumerPart.{ConsumerPart}
use Rattle.lapin_rules.specs.declared.broker_frames.ContentPart.{ContentPart}
use Rattle.lapin_rules.specs.declared.broker_frames.Incoming.{Incoming}
use Rattle.lapin_rules.specs.declared.phases.ChannelPhase.{ChannelPhase}
use Rattle.lapin_rules.specs.declared.phases.ConnectionPhase.{ConnectionPhase}
use Rattle.lapin_rules.specs.Words.{with_channel}
use Rattle.lapin_rules.specs.Phases.{is_up, is_lost}
use Rattle.lapin_rules.specs.Frames.{MethodEntry, left_method}
use Rattle.lapin_rules.specs.Drops.{is_off, method_channel}
use Rattle.lapin_rules.specs.Requests.{first_request, without_kind, no_requests}
use Rattle.lapin_rules.specs.Ends.{down}
use Rattle.lapin_rules.specs.Readings.{Readings}
use Rattle.lapin_rules.specs.Wire.{Wire, requests_of, state_of, phase_of, is_open, noted, receives_on, queued}
use Rattle.lapin_rules.specs.ChannelClose.{kept_at, closing, after_close_ok, after_channel_close, receives_close, receives_close_ok, own_close, has_sent_close}
use Rattle.lapin_rules.specs.ConnectionClose.{receives_down, after_connection_close}
use Rattle.lapin_rules.specs.Settlement.{settlement_record, session_close}
use Rattle.lapin_rules.specs.Reply.{receives_reply, after_reply}
use Rattle.lapin_rules.specs.Flow.{after_flow}
use Rattle.lapin_rules.specs.Content.{receives_part, after_get_ok}
use Rattle.lapin_rules.specs.Consumers.{receives_consumer, lets_go_of, cancel_noted, after_let_go, let_go_cancel}
use Rattle.lapin_rules.specs.Unexpected.{refused}
use Rattle.lapin_rules.specs.Loss.{after_lost}
use Rattle.lapin_rules.specs.Receiving.{when, incoming_up, incoming_record, incoming_wire}
use Rattle.lapin_concord.specs.Wires.{reply_number, is_asked}
use Rattle.lapin_concord.proofs.Views.{requests_at}
use Rattle.lapin_rules.specs.Ackers.{usable_at, acker_method, acked_wire}
use Rattle.lapin_rules.specs.Incoming.{incoming_of, frame_class, frame_method}
use Rattle.lapin_rules.specs.Events.{record_of, after_event}
use Rattle.lapin_consumer.specs.Subscriptions.{consumer_at, Consumer, is_idle}
use Rattle.lapin_effects.specs.Effects.{is_next}
use Rattle.lapin_answers.proofs.Lists.{lefts_of}
use Rattle.lapin_answers.proofs.Turns.{At, entry, wanted}
use Rattle.lapin_types.specs.declared.acker_call.AckerCall.{AckerCall}
use Rattle.lapin_types.specs.declared.call.Call.{Call}
use Rattle.lapin_types.specs.declared.leaving.Left.{Left}
use Rattle.lapin_types.specs.declared.request.Request.{Request}
use Rattle.lapin_types.specs.declared.request.Reply.{Reply}
use Rattle.lapin_types.specs.Requests.{kind_of}
use Rattle.lapin_rules.specs.declared.calls.Asked.{Asked}
use Rattle.lapin_rules.specs.Calls.{asked, is_try, awaited_by}
use Rattle.lapin_rules.specs.Asking.{is_allowed, is_held, is_outstanding, asked_by, accepted_record, call_record, call_told, after_call, asked_wire}
use Rattle.lapin_concord.proofs.Incomes.{kinds_tell}
use Rattle.lapin_answers.proofs.Rows.{Row, RowOf, row_of}
use Rattle.lapin_types.specs.declared.record.Record.TheVariants as record_
use Rattle.lapin_types.specs.declared.request.ReplyKind.TheVariants as reply_kind
use Rattle.lapin_types.specs.Types.frame
use Rattle.lapin_types.specs.Types.method
use Rattle.lapin_types.specs.Types.basic
use Rattle.lapin_types.specs.Types.channel
use Rattle.lapin_types.specs.Types.connection
use Rattle.lapin_types.specs.Types.error
use Rattle.lapin_rules.specs.declared.broker_frames.ConsumerPart.TheVariants as consumer
use Rattle.lapin_rules.specs.declared.broker_frames.ContentPart.TheVariants as part
use Rattle.lapin_rules.specs.declared.broker_frames.Incoming.TheVariants as incoming
use Rattle.lapin_rules.specs.declared.phases.ChannelPhase.TheVariants as phase
use Rattle.lapin_rules.specs.declared.phases.ConnectionPhase.TheVariants as link
use Rattle.lapin_rules.specs.declared.phases.CloseStage.TheVariants as stage
use Rattle.lapin_rules.specs.declared.phases.Closer.TheVariants as closer
use Rattle.lapin_types.specs.declared.event.Event.TheVariants as event
use Rattle.lapin_types.specs.declared.acker_call.AckerCall.TheVariants as acker_call
use Rattle.lapin_types.specs.declared.request.Reply.TheVariants as reply
use Rattle.lapin_rules.specs.declared.calls.Asked.TheVariants as ask
use Rattle.lapin_rules.specs.ConnectionClose.{own_connection_close}
use Rattle.lapin_rules.specs.Wire.{is_base}
use Rattle.lapin_rules.specs.Requests.{is_kind, with_request, without_request, close_alone, request_alone}
use Rattle.lapin_tables.specs.ByChannel.{on_channel}
use Rattle.lapin_rules.specs.ChannelClose.{has_sent_close}
use Rattle.lapin_concord.proofs.Views.{requests_with_here, requests_away, requests_on_here, requests_on_away}
use Rattle.std.proofs.lemmas.List.{map-append}
use Rattle.std.proofs.lemmas.List.Elements.{filter-append}
use Rattle.lapin_rules.specs.Unexpected.{unexpected_close}
use Rattle.lapin_answers.specs.Closes.{is_end, is_end_left, IsEnd}
use Rattle.lapin_answers.proofs.Moving.{IsInner, inner}
use Rattle.lapin_tables.proofs.Bools.{and_false}
use Rattle.lapin_rules.proofs.PhaseLaws.{kept_none, up_open, allowed_up}
use Rattle.lapin_verdicts.proofs.Saying.{plain_record}

-- ---- what is looked at

-- the request is that of a close of the connection
abbrev pub ends_it : Request → Bool
ends_it r = is_kind reply_kind.ConnectionCloseOk r

abbrev pub end_requests : Wire → List Request
end_requests b = filter ends_it (requests_of 0 b)

-- the closes of the connection that wait
abbrev pub waiting_ends : Wire → List Left
waiting_ends b = filter is_end_left (lefts_of b.methods)

-- none is under way
pub record IdleIn (qs : List (ℕ × List Request)) (ms : List MethodEntry) : Type 0 where
  pub requests : filter ends_it (requests_at 0 qs) ≡ []
  pub waits : filter is_end_left (lefts_of ms) ≡ []

abbrev pub is_gone : ConnectionPhase → Bool
is_gone link.Closed = true
is_gone link.Lost = true
is_gone _ = false

-- the request is that of the frame's call
pub record IsEnding (e : Event) (x : Record) (l : Left) (r : Request) : Type 0 where
  pub ticket : l.ticket ≡ r.ticket
  pub call : (n : ℕ) → r.ticket ≡ Some n → (c : ℕ) × (m : Method) × IsEnd n c m e x × (l.frame ≡ frame.Method c m)

pub data Turn (e : Event) (x : Record) (k k' : ConnectionPhase) (qs qs' : List (ℕ × List Request)) (ms ms' : List MethodEntry) : Type 0 where
  Same : (links : k' ≡ k) (requests : qs' ≡ qs) (methods : ms' ≡ ms) → Turn e x k k' qs qs' ms ms'
  Calm : (was : k ≡ link.Open) (now : k' ≡ link.Open) (idle : IdleIn qs ms → IdleIn qs' ms') → Turn e x k k' qs qs' ms ms'
  Ends : (was : k ≡ link.Open) (now : k' ≡ link.Closing stage.Queued) (l : Left) (r : Request) (requests : filter ends_it (requests_at 0 qs') ≡ r ∷ []) (waits : filter is_end_left (lefts_of ms') ≡ l ∷ []) (is : IsEnding e x l r) → Turn e x k k' qs qs' ms ms'
  Breaks : (was : k ≡ link.Open) (now : k' ≡ link.Closing stage.Queued) (l : Left) (requests : filter ends_it (requests_at 0 qs') ≡ []) (waits : filter is_end_left (lefts_of ms') ≡ l ∷ []) → Turn e x k k' qs qs' ms ms'
  Crosses : (was : k ≡ link.Closing stage.Sent) (now : k' ≡ link.Closing stage.Crossed) (requests : qs' ≡ qs) (waits : filter is_end_left (lefts_of ms') ≡ filter is_end_left (lefts_of ms)) → Turn e x k k' qs qs' ms ms'
  Gone : (now : is_gone k' ≡ true) → Turn e x k k' qs qs' ms ms'

abbrev pub Ending : Event → Record → Wire → Wire → Type 0
Ending e x b b' = Turn e x b.link b'.link b.requests b'.requests b.methods b'.methods

-- ---- lists that stay empty

apart_number : (k : ReplyKind) → is_asked k ≡ true → (reply_number k == 22) ≡ false
apart_number reply_kind.ChannelOpenOk h = absurd cc
apart_number reply_kind.ChannelCloseOk h = absurd cc
apart_number reply_kind.ConnectionCloseOk h = absurd cc
apart_number _ h = refl

asks_apart : (t : Option ℕ) (r : Reply) → is_asked (kind_of r) ≡ true → ends_it (wanted t r) ≡ false
asks_apart t r h = sym (kinds_tell (kind_of r) reply_kind.ConnectionCloseOk) ∙ apart_number (kind_of r) h

no_more : {X : Type 0} (p : X → Bool) (xs : List X) (x : X) → p x ≡ false → filter p xs ≡ [] → filter p (xs ++ x ∷ []) ≡ []
no_more p xs x h e = filter-append p xs (x ∷ []) ∙ (ap (λ v. filter p xs ++ cond v (x ∷ []) []) h ∙ ap (λ v. v ++ []) e)

no_more_methods : (ms : List MethodEntry) (m : MethodEntry) → is_end m.method ≡ false → filter is_end_left (lefts_of ms) ≡ [] → filter is_end_left (lefts_of (ms ++ m ∷ [])) ≡ []
no_more_methods ms m h e = ap (filter is_end_left) (map-append left_method ms (m ∷ [])) ∙ no_more is_end_left (lefts_of ms) (left_method m) h e

fewer_methods : (d : ℕ) (ms : List MethodEntry) → filter is_end_left (lefts_of ms) ≡ [] → filter is_end_left (lefts_of (filter (is_off method_channel d) ms)) ≡ []
fewer_methods d [] e = refl
fewer_methods d (m ∷ ms) e = by (fewer_methods d ms) (is_end m.method) refl (m.channel == d) refl
  where
    by : (filter is_end_left (lefts_of ms) ≡ [] → filter is_end_left (lefts_of (filter (is_off method_channel d) ms)) ≡ []) → (v : Bool) → is_end m.method ≡ v → (w : Bool) → (m.channel == d) ≡ w → filter is_end_left (lefts_of (cond (not (m.channel == d)) (m ∷ filter (is_off method_channel d) ms) (filter (is_off method_channel d) ms))) ≡ []
    by go true q w f = let z : left_method m ∷ filter is_end_left (lefts_of ms) ≡ [] = ap (λ y. cond y (left_method m ∷ filter is_end_left (lefts_of ms)) (filter is_end_left (lefts_of ms))) (sym q) ∙ e in absurd cc
    by go false q true f = rw f (go (ap (λ y. cond y (left_method m ∷ filter is_end_left (lefts_of ms)) (filter is_end_left (lefts_of ms))) (sym q) ∙ e))
    by go false q false f = rw (f, q) (go (ap (λ y. cond y (left_method m ∷ filter is_end_left (lefts_of ms)) (filter is_end_left (lefts_of ms))) (sym q) ∙ e))

no_more_requests : (d : ℕ) (r : Request) (all : List (ℕ × List Request)) → ends_it r ≡ false → filter ends_it (requests_at 0 all) ≡ [] → filter ends_it (requests_at 0 (with_request d r all)) ≡ []
no_more_requests d r all h e = elim (eqb_tells d 0) [
  | inl y ↦ subst (λ v. filter ends_it (requests_at 0 (with_request v r all)) ≡ []) (sym y.1) (ap (filter ends_it) (requests_with_here 0 (requests_at 0 all ++ r ∷ []) all) ∙ no_more ends_it (requests_at 0 all) r h e)
  | inr n ↦ ap (filter ends_it) (requests_away d 0 (requests_at d all ++ r ∷ []) all n.0) ∙ e
]

fewer_kind : (k : ReplyKind) (rs : List Request) → filter ends_it rs ≡ [] → filter ends_it (without_kind k rs) ≡ []
fewer_kind k [] e = refl
fewer_kind k (r ∷ rs) e = by (fewer_kind k rs) (ends_it r) refl (is_kind k r) refl
  where
    by : (filter ends_it rs ≡ [] → filter ends_it (without_kind k rs) ≡ []) → (v : Bool) → ends_it r ≡ v → (w : Bool) → is_kind k r ≡ w → filter ends_it (cond (is_kind k r) rs (r ∷ without_kind k rs)) ≡ []
    by go true q w f = let z : r ∷ filter ends_it rs ≡ [] = ap (λ y. cond y (r ∷ filter ends_it rs) (filter ends_it rs)) (sym q) ∙ e in absurd cc
    by go false q true f = rw f (ap (λ y. cond y (r ∷ filter ends_it rs) (filter ends_it rs)) (sym q) ∙ e)
    by go false q false f = rw (f, q) (go (ap (λ y. cond y (r ∷ filter ends_it rs) (filter ends_it rs)) (sym q) ∙ e))

fewer_requests : (d : ℕ) (k : ReplyKind) (all : List (ℕ × List Request)) → filter ends_it (requests_at 0 all) ≡ [] → filter ends_it (requests_at 0 (without_request d k all)) ≡ []
fewer_requests d k all e = elim (eqb_tells d 0) [
  | inl y ↦ subst (λ v. filter ends_it (requests_at 0 (without_request v k all)) ≡ []) (sym y.1) (ap (filter ends_it) (requests_with_here 0 (without_kind k (requests_at 0 all)) all) ∙ fewer_kind k (requests_at 0 all) e)
  | inr n ↦ ap (filter ends_it) (requests_away d 0 (without_kind k (requests_at d all)) all n.0) ∙ e
]

fewer_on : (d : ℕ) (f : List Request → List Request) (all : List (ℕ × List Request)) → f [] ≡ [] → ((rs : List Request) → filter ends_it rs ≡ [] → filter ends_it (f rs) ≡ []) → filter ends_it (requests_at 0 all) ≡ [] → filter ends_it (requests_at 0 (on_channel d f all)) ≡ []
fewer_on d f all z h e = elim (eqb_tells d 0) [
  | inl y ↦ subst (λ v. filter ends_it (requests_at 0 (on_channel v f all)) ≡ []) (sym y.1) (ap (filter ends_it) (requests_on_here 0 f all z) ∙ h (requests_at 0 all) e)
  | inr n ↦ ap (filter ends_it) (requests_on_away d 0 f all n.0) ∙ e
]

alone_fewer : (rs : List Request) → filter ends_it rs ≡ [] → filter ends_it (close_alone rs) ≡ []
alone_fewer [] e = refl
alone_fewer (r ∷ rs) e = by (alone_fewer rs) (ends_it r) refl (is_kind reply_kind.ChannelCloseOk r)
  where
    by : (filter ends_it rs ≡ [] → filter ends_it (close_alone rs) ≡ []) → (v : Bool) → ends_it r ≡ v → (w : Bool) → filter ends_it (request_alone (cond w (Some r) (first_request reply_kind.ChannelCloseOk rs))) ≡ []
    by go true q w = let z : r ∷ filter ends_it rs ≡ [] = ap (λ y. cond y (r ∷ filter ends_it rs) (filter ends_it rs)) (sym q) ∙ e in absurd cc
    by go false q true = rw q refl
    by go false q false = go (ap (λ y. cond y (r ∷ filter ends_it rs) (filter ends_it rs)) (sym q) ∙ e)

kept_fewer : (p : ChannelPhase) (rs : List Request) → filter ends_it rs ≡ [] → filter ends_it (kept_at p rs) ≡ []
kept_fewer p rs e = elim (has_sent_close p) as (λ v. filter ends_it (cond v (close_alone rs) (no_requests rs)) ≡ []) [ true ↦ alone_fewer rs e | false ↦ refl ]

-- ---- calls

base_is : (d : ℕ) (z : Bool) (p : ChannelPhase) → (d == 0) ≡ z → is_base (At z p) ≡ true → d ≡ 0
base_is d true p e h = elim (eqb_tells d 0) [ inl y ↦ y.1 | inr n ↦ let w : true ≡ false = sym e ∙ n.0 in absurd cc ]
base_is d false phase.Closed e h = absurd cc
base_is d false phase.Opening e h = absurd cc
base_is d false (phase.Open v) e h = absurd cc
base_is d false (phase.Closing who sent) e h = absurd cc
base_is d false phase.Crossed e h = absurd cc

line_ending : (d : ℕ) (e : Event) (x : Record) (m : Method) (o : Option Reply) (b : Wire) → b.link ≡ link.Open → is_end m ≡ false → Row d m o → Ending e x b (queued d m o b)
line_ending d e x m None b up n f = Calm up up (λ i. record { requests = i.requests; waits = no_more_methods b.methods (entry d m (Some (b.tickets + 1))) n i.waits })
line_ending d e x m (Some r) b up n f = Calm up up (λ i. record { requests = no_more_requests d (wanted (Some (b.tickets + 1)) r) b.requests (asks_apart (Some (b.tickets + 1)) r f.asks) i.requests; waits = no_more_methods b.methods (entry d m (Some (b.tickets + 1))) n i.waits })

end_call : (d : ℕ) (k : Call) (code : ℕ) (text : List ℕ) (b : Wire) → asked k ≡ ask.CloseConnection code text → b.link ≡ link.Open → d ≡ 0 → Ending (event.Call d k) (record_.Ticket (b.tickets + 1)) b (after_call d (ask.CloseConnection code text) b)
end_call d k code text b is up z =
    let m : MethodEntry = entry d (own_connection_close code text) (Some (b.tickets + 1)) in
    let r : Request = wanted (Some (b.tickets + 1)) reply.ConnectionCloseOk in
    Ends up refl (left_method m) r (subst (λ v. filter ends_it (requests_at 0 ((v, r ∷ []) ∷ [])) ≡ r ∷ []) (sym z) refl) refl (record {
      ticket = refl;
      call = λ n t. (d, own_connection_close code text, record { call = k; code = code; text = text; is = refl; given = ap record_.Ticket (let w : b.tickets + 1 ≡ n = cc in w); asks = is; queues = refl }, refl);
    })

accepted_ending : (d : ℕ) (k : Call) (a : Asked) (b : Wire) → asked k ≡ a → b.link ≡ link.Open → is_allowed a (At (d == 0) (phase_of d b)) ≡ true → IsInner a → RowOf d a → Ending (event.Call d k) (accepted_record a b) b (after_call d a b)
accepted_ending d k ask.Open b is up al n f = Calm up up (λ i. record { requests = no_more_requests d (wanted (Some (b.tickets + 1)) reply.ChannelOpenOk) b.requests refl i.requests; waits = no_more_methods b.methods (entry d (method.Channel channel.Open) (Some (b.tickets + 1))) refl i.waits })
accepted_ending d k (ask.CloseChannel code text) b is up al n f = Calm up up (λ i. record { requests = no_more_requests d (wanted (Some (b.tickets + 1)) reply.ChannelCloseOk) b.requests refl i.requests; waits = no_more_methods b.methods (entry d (own_close code text) (Some (b.tickets + 1))) refl i.waits })
accepted_ending d k (ask.CloseConnection code text) b is up al n f = end_call d k code text b is up (base_is d (d == 0) (phase_of d b) refl al)
accepted_ending d k (ask.Publish exchange key o payload properties) b is up al n f = Same refl refl refl
accepted_ending d k (ask.Consume m tag queue o) b is up al n f = line_ending d (event.Call d k) _ m None b up n.1 f
accepted_ending d k (ask.Limit limit) b is up al n f = Same refl refl refl
accepted_ending d k ask.Nothing b is up al n f = absurd cc
accepted_ending d k (ask.Method row) b is up al n f = line_ending d (event.Call d k) _ row.method (awaited_by row.answered) b up n.1 f

asked_ending : (d : ℕ) (k : Call) (b : Wire) (x : Error) → Ending (event.Call d k) (cond (is_allowed (asked k) (state_of d b)) (accepted_record (asked k) b) (record_.Refused x)) b (asked_wire d (asked k) b)
asked_ending d k b x = elim (is_allowed (asked k) (state_of d b)) as (λ t. is_allowed (asked k) (state_of d b) ≡ t → Ending (event.Call d k) (cond t (accepted_record (asked k) b) (record_.Refused x)) b (cond t (after_call d (asked k) b) b)) [
  | true ↦ λ a. let e = allowed_up b.link (asked k) (At (d == 0) (phase_of d b)) a in accepted_ending d k (asked k) b refl e (rw e at a) (inner k) (row_of d k)
  | false ↦ λ a. Same refl refl refl
] refl

call_ending : (d : ℕ) (k : Call) (b : Wire) (readings : Readings) → Ending (event.Call d k) (call_told d k b readings) b (asked_wire d (asked_by k (call_told d k b readings)) b)
call_ending d k b readings =
    let no : Record = record_.Refused (error.ConfirmsOutstanding (readings.limit d)) in
    let yes : Record = call_record d (asked k) b in
    let E : Record → Asked → Type 0 = λ r a. Ending (event.Call d k) r b (asked_wire d a b) in
    elim (is_held d k b readings) as (λ v. is_held d k b readings ≡ v → E (cond v no yes) (asked_by k (cond v no yes))) [
      | true ↦ λ h.
          let tries : is_try k ≡ true = (and_parts (is_try k) _ h).0 in
          let none : asked_by k no ≡ ask.Nothing = ap (λ v. cond (v && true) ask.Nothing (asked k)) tries in
          subst (E no) (sym none) (Same refl refl refl)
      | false ↦ λ h.
          let plain : is_outstanding yes ≡ false = plain_record (is_allowed (asked k) (state_of d b)) (asked k) b (error.InvalidChannelState (state_of d b)) refl in
          let same : asked_by k yes ≡ asked k = ap (λ v. cond (is_try k && v) ask.Nothing (asked k)) plain ∙ ap (λ v. cond v ask.Nothing (asked k)) (and_false (is_try k)) in
          subst (E yes) (sym same) (asked_ending d k b (error.InvalidChannelState (state_of d b)))
    ] refl

acker_end : (tag : ℕ) (k : AckerCall) → is_end (acker_method k tag) ≡ false
acker_end tag (acker_call.Ack o) = refl
acker_end tag (acker_call.Nack o) = refl
acker_end tag (acker_call.Reject o) = refl

open_link : (d : ℕ) (b : Wire) → is_open (state_of d b) ≡ true → b.link ≡ link.Open
open_link d b a = allowed_up b.link (ask.Limit 0) (At (d == 0) (phase_of d b)) a

acker_ending : (e : Event) (x : Record) (o : Option (ℕ × ℕ)) (k : AckerCall) (b : Wire) → Ending e x b (acked_wire o k b)
acker_ending e x None k b = Same refl refl refl
acker_ending e x (Some y) k b = elim (is_open (state_of y.0 b)) as (λ v. is_open (state_of y.0 b) ≡ v → Ending e x b (cond v (queued y.0 (acker_method k y.1) None b) b)) [
  | true ↦ λ a. Calm (open_link y.0 b a) (open_link y.0 b a) (λ i. record { requests = i.requests; waits = no_more_methods b.methods (entry y.0 (acker_method k y.1) (Some (b.tickets + 1))) (acker_end y.1 k) i.waits })
  | false ↦ λ _. Same refl refl refl
] refl

let_go_ending : (e : Event) (x : Record) (o : Option Consumer) (b : Wire) → Ending e x b (after_let_go o b)
let_go_ending e x None b = Same refl refl refl
let_go_ending e x (Some y) b = elim (lets_go_of y b) as (λ v. lets_go_of y b ≡ v → Ending e x b (cond v (cancel_noted y b) b)) [
  | true ↦ λ a.
      let up : b.link ≡ link.Open = open_link y.channel b ((and_parts (is_idle y) _ a).1) in
      Calm up up (λ i. record { requests = no_more_requests y.channel (wanted None reply.BasicCancelOk) b.requests refl i.requests; waits = no_more_methods b.methods (entry y.channel (let_go_cancel y) None) refl i.waits })
  | false ↦ λ _. Same refl refl refl
] refl

-- ---- frames of the broker

abbrev note : ℕ → Method → MethodEntry
note d m = entry d m None

abbrev Hears : Event → Record → Wire → Incoming → Record → Type 0
Hears e x b i r = Ending e x b (incoming_wire i r b)

module _ (e : Event) (x : Record) (class number : ℕ) where
  abbrev no : Record
  no = refused class number

  unreceived : (b : Wire) (i : Incoming) → b.link ≡ link.Open → Hears e x b i no
  unreceived b i up = Breaks up refl (left_method (note 0 (unexpected_close class number))) refl refl

  received_if : (t : Bool) (b : Wire) (i : Incoming) → b.link ≡ link.Open → Hears e x b i record_.Received → Hears e x b i (when t no)
  received_if true b i up h = h
  received_if false b i up h = unreceived b i up

  noted_calm : (d : ℕ) (m : Method) (b b' : Wire) → b.link ≡ link.Open → is_end m ≡ false → b'.link ≡ b.link → b'.requests ≡ b.requests → b'.methods ≡ b.methods ++ note d m ∷ [] → Ending e x b b'
  noted_calm d m b b' up h l rs ms = Calm up (l ∙ up) (λ i. record { requests = ap (λ v. filter ends_it (requests_at 0 v)) rs ∙ i.requests; waits = ap (λ v. filter is_end_left (lefts_of v)) ms ∙ no_more_methods b.methods (note d m) h i.waits })

  taken : (d : ℕ) (k : ReplyKind) (b b' : Wire) → b.link ≡ link.Open → b'.link ≡ b.link → b'.requests ≡ (after_reply d k b).requests → b'.methods ≡ b.methods → Ending e x b b'
  taken d k b b' up l rs ms = Calm up (l ∙ up) (λ i. record { requests = ap (λ v. filter ends_it (requests_at 0 v)) rs ∙ fewer_requests d k b.requests i.requests; waits = ap (λ v. filter is_end_left (lefts_of v)) ms ∙ i.waits })

  failed_receives : (d tag current : ℕ) (z : Settlement) (b : Wire) → b.link ≡ link.Open → Hears e x b (incoming.Settlement d z) (record_.Refused (error.PreconditionFailed tag current))
  failed_receives d tag current z b up = elim (is_open (state_of d b)) as (λ t. Ending e x b (cond t (noted d (session_close z.kind) (closing d closer.Session b)) b)) [
    | true ↦ noted_calm d (session_close z.kind) b (noted d (session_close z.kind) (closing d closer.Session b)) up refl refl refl refl
    | false ↦ Same refl refl refl
  ]

  settlement_receives : (d : ℕ) (z : Settlement) (readings : Readings) (b : Wire) → b.link ≡ link.Open → Hears e x b (incoming.Settlement d z) (cond (receives_on (state_of d b)) (settlement_record readings d z) no)
  settlement_receives d z readings b up = elim (receives_on (state_of d b)) as (λ t. Hears e x b (incoming.Settlement d z) (cond t (settlement_record readings d z) no)) [
    | true ↦ elim (readings.selected d) as (λ t. Hears e x b (incoming.Settlement d z) (cond t (cond (z.multiple || readings.pending d z.tag) record_.Received (record_.Refused (error.PreconditionFailed z.tag (readings.last d)))) record_.Passed)) [
      | true ↦ elim (z.multiple || readings.pending d z.tag) as (λ t. Hears e x b (incoming.Settlement d z) (cond t record_.Received (record_.Refused (error.PreconditionFailed z.tag (readings.last d))))) [
        | true ↦ Same refl refl refl
        | false ↦ failed_receives d z.tag (readings.last d) z b up
      ]
      | false ↦ Same refl refl refl
    ]
    | false ↦ unreceived b (incoming.Settlement d z) up
  ]

  flow_ending : (d : ℕ) (active : Bool) (b : Wire) → b.link ≡ link.Open → Ending e x b (after_flow d active b)
  flow_ending d active b up = elim (is_open (state_of d b)) as (λ t. Ending e x b (cond t (noted d (method.Channel (channel.FlowOk active)) (record b { phases = with_channel d (phase.Open (not active)) b.phases })) b)) [
    | true ↦ noted_calm d (method.Channel (channel.FlowOk active)) b (noted d (method.Channel (channel.FlowOk active)) (record b { phases = with_channel d (phase.Open (not active)) b.phases })) up refl refl refl refl
    | false ↦ Same refl refl refl
  ]

  close_ending : (d : ℕ) (p : ChannelPhase) (b : Wire) → b.link ≡ link.Open → Ending e x b (after_channel_close d p b)
  close_ending d p b up = Calm up up (λ i. record {
    requests = fewer_on d (kept_at p) b.requests (kept_none p) (kept_fewer p) i.requests;
    waits = no_more_methods (filter (is_off method_channel d) b.methods) (note d (method.Channel channel.CloseOk)) refl (fewer_methods d b.methods i.waits);
  })

  close_ok_ending : (d : ℕ) (p : ChannelPhase) (b : Wire) → b.link ≡ link.Open → Ending e x b (after_close_ok d p b)
  close_ok_ending d (phase.Closing who sent) b up = Calm up up (λ i. record { requests = fewer_on d no_requests b.requests refl (λ rs h. refl) i.requests; waits = fewer_methods d b.methods i.waits })
  close_ok_ending d phase.Closed b up = Calm up up (λ i. record { requests = fewer_on d (without_kind reply_kind.ChannelCloseOk) b.requests refl (fewer_kind reply_kind.ChannelCloseOk) i.requests; waits = i.waits })
  close_ok_ending d phase.Opening b up = Calm up up (λ i. record { requests = fewer_on d (without_kind reply_kind.ChannelCloseOk) b.requests refl (fewer_kind reply_kind.ChannelCloseOk) i.requests; waits = i.waits })
  close_ok_ending d (phase.Open v) b up = Calm up up (λ i. record { requests = fewer_on d (without_kind reply_kind.ChannelCloseOk) b.requests refl (fewer_kind reply_kind.ChannelCloseOk) i.requests; waits = i.waits })
  close_ok_ending d phase.Crossed b up = Calm up up (λ i. record { requests = fewer_on d (without_kind reply_kind.ChannelCloseOk) b.requests refl (fewer_kind reply_kind.ChannelCloseOk) i.requests; waits = i.waits })

  part_receives : (d : ℕ) (p : ContentPart) (b : Wire) → b.link ≡ link.Open → Hears e x b (incoming.Content d p) record_.Received
  part_receives d (part.GetOk s) b up = taken d reply_kind.BasicGetOk b (after_get_ok d s b) up refl refl refl
  part_receives d (part.Return s) b up = Same refl refl refl
  part_receives d (part.Deliver tag s) b up = Same refl refl refl
  part_receives d (part.Header s) b up = Same refl refl refl
  part_receives d (part.Body bytes) b up = Same refl refl refl

  cancel_ending : (d : ℕ) (tag : List ℕ) (t : Bool) (b : Wire) → b.link ≡ link.Open → Ending e x b (cond t (noted d (method.Basic (basic.CancelOk tag)) b) b)
  cancel_ending d tag true b up = noted_calm d (method.Basic (basic.CancelOk tag)) b (noted d (method.Basic (basic.CancelOk tag)) b) up refl refl refl refl
  cancel_ending d tag false b up = Same refl refl refl

  consumer_receives : (d : ℕ) (p : ConsumerPart) (b : Wire) → b.link ≡ link.Open → Hears e x b (incoming.Consumer d p) record_.Received
  consumer_receives d (consumer.ConsumeOk tag) b up = taken d reply_kind.BasicConsumeOk b (after_reply d reply_kind.BasicConsumeOk b) up refl refl refl
  consumer_receives d (consumer.CancelOk tag) b up = taken d reply_kind.BasicCancelOk b (after_reply d reply_kind.BasicCancelOk b) up refl refl refl
  consumer_receives d consumer.RecoverOk b up = taken d reply_kind.BasicRecoverOk b (after_reply d reply_kind.BasicRecoverOk b) up refl refl refl
  consumer_receives d (consumer.Cancel tag nowait) b up = cancel_ending d tag (is_open (state_of d b) && not nowait) b up

  up_receives : (b : Wire) (readings : Readings) (i : Incoming) → b.link ≡ link.Open → Hears e x b i (incoming_up b readings no i)
  up_receives b readings (incoming.Reply d k a) up = received_if (receives_reply d k b) b (incoming.Reply d k a) up (taken d k b (after_reply d k b) up refl refl refl)
  up_receives b readings (incoming.Settlement d z) up = settlement_receives d z readings b up
  up_receives b readings (incoming.Content d p) up = received_if (receives_part d p b) b (incoming.Content d p) up (part_receives d p b up)
  up_receives b readings (incoming.Consumer d p) up = received_if (receives_consumer d p b) b (incoming.Consumer d p) up (consumer_receives d p b up)
  up_receives b readings (incoming.Flow d active) up = received_if (receives_on (state_of d b)) b (incoming.Flow d active) up (flow_ending d active b up)
  up_receives b readings (incoming.ChannelClose d code) up = received_if (receives_close (state_of d b)) b (incoming.ChannelClose d code) up (close_ending d (phase_of d b) b up)
  up_receives b readings (incoming.ChannelCloseOk d) up = received_if (receives_close_ok (state_of d b)) b (incoming.ChannelCloseOk d) up (close_ok_ending d (phase_of d b) b up)
  up_receives b readings (incoming.ConnectionClose code) up = subst (λ l. Ending e x b (after_connection_close l b)) (sym up) (Gone refl)
  up_receives b readings incoming.ConnectionCloseOk up = unreceived b incoming.ConnectionCloseOk up
  up_receives b readings incoming.Other up = unreceived b incoming.Other up

  down_receives : (l : ConnectionPhase) (b : Wire) (i : Incoming) → b.link ≡ l → is_up l ≡ false → Hears e x b i (cond (receives_down l i) record_.Received record_.Passed)
  down_receives link.Open b i q d = absurd cc
  down_receives link.Closed b i q d = Same refl refl refl
  down_receives link.Lost b i q d = Same refl refl refl
  down_receives (link.Closing s) b incoming.ConnectionCloseOk q d = Gone refl
  down_receives (link.Closing stage.Crossed) b (incoming.ConnectionClose code) q d = Same refl refl refl
  down_receives (link.Closing stage.Sent) b (incoming.ConnectionClose code) q d = subst (λ l. Ending e x b (after_connection_close l b)) (sym q) (Crosses q refl refl crossed)
    where
      crossed : filter is_end_left (lefts_of (b.methods ++ note 0 (method.Connection connection.CloseOk) ∷ [])) ≡ waiting_ends b
      crossed = ap (filter is_end_left) (map-append left_method b.methods (note 0 (method.Connection connection.CloseOk) ∷ [])) ∙ (filter-append is_end_left (lefts_of b.methods) (left_method (note 0 (method.Connection connection.CloseOk)) ∷ []) ∙ append-nil (waiting_ends b))
  down_receives (link.Closing stage.Queued) b (incoming.ConnectionClose code) q d = subst (λ l. Ending e x b (after_connection_close l b)) (sym q) (Gone refl)
  down_receives (link.Closing s) b (incoming.Reply d k a) q z = Same refl refl refl
  down_receives (link.Closing s) b (incoming.Settlement d k) q z = Same refl refl refl
  down_receives (link.Closing s) b (incoming.Content d p) q z = Same refl refl refl
  down_receives (link.Closing s) b (incoming.Consumer d p) q z = Same refl refl refl
  down_receives (link.Closing s) b (incoming.Flow d active) q z = Same refl refl refl
  down_receives (link.Closing s) b (incoming.ChannelClose d code) q z = Same refl refl refl
  down_receives (link.Closing s) b (incoming.ChannelCloseOk d) q z = Same refl refl refl
  down_receives (link.Closing s) b incoming.Other q z = Same refl refl refl

  incoming_ending : (l : ConnectionPhase) (b : Wire) (readings : Readings) (i : Incoming) → b.link ≡ l → Ending e x b (incoming_wire i (incoming_record b readings no i) b)
  incoming_ending l b readings i q = subst (Hears e x b i) (sym is) (elim (is_up l) as (λ t. is_up l ≡ t → Hears e x b i (cond t (incoming_up b readings no i) (cond (receives_down l i) record_.Received record_.Passed))) [
    | true ↦ λ u. up_receives b readings i (q ∙ up_open l u)
    | false ↦ λ u. down_receives l b i q u
  ] refl)
    where
      is : incoming_record b readings no i ≡ cond (is_up l) (incoming_up b readings no i) (cond (receives_down l i) record_.Received record_.Passed)
      is = ap (λ l. cond (is_up l) (incoming_up b readings no i) (cond (receives_down l i) record_.Received record_.Passed)) q

lost_ending : (e : Event) (x : Record) (b : Wire) → Ending e x b (after_lost b)
lost_ending e x b = elim (is_lost b.link) as (λ t. Ending e x b (cond t b (down link.Lost b))) [ true ↦ Same refl refl refl | false ↦ Gone refl ]

pub event_ending : (b : Wire) (readings : Readings) (e : Event) → is_next e ≡ false → Ending e (record_of b readings e) b (after_event b e (record_of b readings e))
event_ending b readings (event.Call d k) h = call_ending d k b readings
event_ending b readings (event.Next flow) h = absurd cc
event_ending b readings (event.Receive f) h = incoming_ending (event.Receive f) (record_of b readings (event.Receive f)) (frame_class f) (frame_method f) b.link b readings (incoming_of f) refl
event_ending b readings (event.PollTicket n) h = Same refl refl refl
event_ending b readings (event.PollConfirm n) h = Same refl refl refl
event_ending b readings (event.PollConsumer n) h = Same refl refl refl
event_ending b readings (event.PollWait d) h = Same refl refl refl
event_ending b readings (event.AsideTicket n) h = Same refl refl refl
event_ending b readings (event.AsideConfirm n) h = Same refl refl refl
event_ending b readings (event.Acker n k) h = acker_ending (event.Acker n k) _ (usable_at n b) k b
event_ending b readings (event.Delegate n) h = Same refl refl refl
event_ending b readings (event.DropConsumer n) h = let_go_ending (event.DropConsumer n) _ (consumer_at n b.deliveries.subscriptions) b
event_ending b readings event.NextJob h = Same refl refl refl
event_ending b readings (event.State d) h = Same refl refl refl
event_ending b readings event.Lost h = lost_ending event.Lost _ b
