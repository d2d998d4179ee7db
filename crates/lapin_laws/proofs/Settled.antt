-- On a channel without a live opening no request is open but that of a close that crossed.
use Rattle.std.proofs.Common.{◌≡◌, ◌≢◌, ℕ, ◌+◌, ◌==◌, ◌&&◌, ◌||◌, Bool, true, false, cond, not, List, [], ◌∷◌, Option, Some, None, refl, sym, ◌∙◌, ap, subst, inl, inr, eq-eqb, ne_eqb}
use Rattle.std.specs.Prelude.{find}
use Rattle.std.specs.List.{fold}
use Rattle.std.specs.Option.{option_map}
use Rattle.std.proofs.lemmas.Bool.Decides.{eqb_tells}
use Rattle.lapin_tables.specs.ByChannel.{at_channel, on_channel}
use Rattle.lapin_types.specs.declared.event.Event.{Event}
use Rattle.lapin_types.specs.declared.event.Event.TheVariants as event
use Rattle.lapin_types.specs.declared.record.Record.{Record}
use Rattle.lapin_types.specs.declared.record.Record.TheVariants as record_
use Rattle.lapin_types.specs.declared.leaving.Left.{Left}
use Rattle.lapin_types.specs.declared.request.Request.{Request}
use Rattle.lapin_types.specs.declared.request.Reply.{Reply}
use Rattle.lapin_types.specs.declared.request.ReplyKind.{ReplyKind}
use Rattle.lapin_types.specs.declared.request.ReplyKind.TheVariants as reply_kind
use Rattle.lapin_types.specs.Types.method
use Rattle.lapin_types.specs.Types.channel
use Rattle.lapin_types.specs.Types.error
use Rattle.lapin_types.specs.Types.channel_state as state
use Rattle.lapin_types.specs.declared.acker_call.AckerCall.{AckerCall}
use Rattle.lapin_types.specs.Types.basic
use Rattle.lapin_consumer.specs.Subscriptions.{Consumer, consumer_at, is_idle}
use Rattle.lapin_rules.specs.declared.calls.Asked.{Asked}
use Rattle.lapin_rules.specs.declared.calls.Asked.TheVariants as ask
use Rattle.lapin_rules.specs.declared.marks.Settlement.{Settlement}
use Rattle.lapin_rules.specs.declared.phases.ChannelPhase.{ChannelPhase}
use Rattle.lapin_rules.specs.declared.phases.ChannelPhase.TheVariants as phase
use Rattle.lapin_rules.specs.declared.phases.ConnectionPhase.{ConnectionPhase}
use Rattle.lapin_rules.specs.declared.phases.ConnectionPhase.TheVariants as link
use Rattle.lapin_rules.specs.declared.phases.CloseStage.TheVariants as stage
use Rattle.lapin_rules.specs.declared.phases.Closer.TheVariants as closer
use Rattle.lapin_rules.specs.declared.broker_frames.Incoming.{Incoming}
use Rattle.lapin_rules.specs.declared.broker_frames.Incoming.TheVariants as incoming
use Rattle.lapin_rules.specs.Calls.{awaited_by}
use Rattle.lapin_rules.specs.Incoming.{incoming_of, frame_class, frame_method}
use Rattle.lapin_rules.specs.Words.{is_some, without_first, with_channel}
use Rattle.lapin_rules.specs.Phases.{is_up, is_lost, is_live, channel_state}
use Rattle.lapin_rules.specs.Requests.{requests_in, is_kind, first_request, without_kind, no_requests, close_alone, request_alone, without_request}
use Rattle.lapin_rules.specs.Readings.{Readings}
use Rattle.lapin_rules.specs.Ends.{down}
use Rattle.lapin_rules.specs.Wire.{Wire, requests_of, state_of, phase_of, is_open, is_opening, requests_with, noted, receives_on}
use Rattle.lapin_rules.specs.Opening.{opens}
use Rattle.lapin_rules.specs.declared.broker_frames.ContentPart.{ContentPart}
use Rattle.lapin_rules.specs.declared.broker_frames.ContentPart.TheVariants as part
use Rattle.lapin_rules.specs.Content.{receives_part}
use Rattle.lapin_rules.specs.ChannelClose.{has_sent_close, kept_at, phases_sent, closing, after_close_ok, receives_close, receives_close_ok}
use Rattle.lapin_rules.specs.ConnectionClose.{link_sent, receives_down, after_connection_close}
use Rattle.lapin_rules.specs.Settlement.{settlement_record, session_close}
use Rattle.lapin_rules.specs.Loss.{after_lost}
use Rattle.lapin_rules.specs.Reply.{receives, receives_reply, after_reply}
use Rattle.lapin_rules.specs.Unexpected.{refused}
use Rattle.lapin_rules.specs.Asking.{is_allowed, asked_by, after_call, after_asking}
use Rattle.lapin_rules.specs.Receiving.{when, incoming_up, incoming_record, after_incoming}
use Rattle.lapin_rules.specs.Handing.{sent, handed_as}
use Rattle.lapin_rules.specs.Events.{record_of, after_event}
use Rattle.lapin_rules.specs.declared.broker_frames.ConsumerPart.{ConsumerPart}
use Rattle.lapin_rules.specs.declared.broker_frames.ConsumerPart.TheVariants as consumer
use Rattle.lapin_rules.specs.Ackers.{acker_asked, usable_at, acked_wire}
use Rattle.lapin_rules.specs.Consumers.{receives_consumer, lets_go_of, cancel_noted, after_let_go}
use Rattle.lapin_rules.proofs.ChannelLaws.{at-on, at-with}
use Rattle.lapin_machine.specs.Tied.{is_live_on}
use Rattle.lapin_machine.specs.World.{World, new_world, next, readings_of}
use Rattle.lapin_machine.proofs.Back.{next_keeps}
use Rattle.lapin_laws.specs.Runs.{world_after}
use Rattle.lapin_laws.proofs.Alive.{live_at, live-with}
use Rattle.lapin_laws.proofs.Moving.{open_up, state_up, open_here}
use Rattle.lapin_laws.proofs.FrameMoves.{incoming_is}
use Rattle.lapin_laws.proofs.Going.{live_sent}
use Rattle.lapin_rules.proofs.PhaseLaws.{kept_none, up_open, base_here, allowed_up}
use Rattle.lapin_tables.proofs.Bools.{and_first, and_second}
use Rattle.lapin_machine.proofs.Shut.{frame_left}

-- ---- the requests of each channel after a write

pub requests-away : (c d : ℕ) (xs : List Request) (rs : List (ℕ × List Request)) → c ≢ d → requests_in (at_channel d (with_channel c xs rs)) ≡ requests_in (at_channel d rs)
requests-away c d xs rs n = ap requests_in (at-with c d xs rs) ∙ (let off : (c == d) ≡ false = ne_eqb c d n in rw off refl)

pub on-here : (c : ℕ) (f : List Request → List Request) (rs : List (ℕ × List Request)) → f [] ≡ [] → requests_in (at_channel c (on_channel c f rs)) ≡ f (requests_in (at_channel c rs))
on-here c f rs e = ap requests_in (at-on c c f rs) ∙ (let here : (c == c) ≡ true = eq-eqb c c refl in rw here (elim (at_channel c rs) as (λ o. requests_in (option_map f o) ≡ f (requests_in o)) [ None ↦ sym e | Some x ↦ refl ]))

pub on-away : (c d : ℕ) (f : List Request → List Request) (rs : List (ℕ × List Request)) → c ≢ d → requests_in (at_channel d (on_channel c f rs)) ≡ requests_in (at_channel d rs)
on-away c d f rs n = ap requests_in (at-on c d f rs) ∙ (let off : (c == d) ≡ false = ne_eqb c d n in rw off refl)

-- the requests of a channel but for a close of this side
abbrev unclosing : ℕ → List (ℕ × List Request) → List Request
unclosing c rs = without_kind reply_kind.ChannelCloseOk (requests_in (at_channel c rs))

abbrev SettledBy : ConnectionPhase → List (ℕ × ChannelPhase) → List (ℕ × List Request) → Type 0
SettledBy l ps rs = (c : ℕ) → (c == 0) ≡ false → is_live_on l (at_channel c ps) ≡ false → unclosing c rs ≡ []

abbrev pub Settled : Wire → Type 0
Settled b = SettledBy b.link b.phases b.requests

abbrev Others : ℕ → List (ℕ × List Request) → List (ℕ × List Request) → Type 0
Others c rs ss = (d : ℕ) → c ≢ d → requests_in (at_channel d ss) ≡ requests_in (at_channel d rs)

kept_left : (rs ss : List (ℕ × List Request)) (d : ℕ) → requests_in (at_channel d ss) ≡ requests_in (at_channel d rs) → unclosing d rs ≡ [] → unclosing d ss ≡ []
kept_left rs ss d e h = ap (without_kind reply_kind.ChannelCloseOk) e ∙ h

-- the channel's phase moves to a live one
to_live : (c : ℕ) (p : ChannelPhase) (l : ConnectionPhase) (ps : List (ℕ × ChannelPhase)) (rs ss : List (ℕ × List Request)) → l ≡ link.Open → is_live p ≡ true → Others c rs ss → SettledBy l ps rs → SettledBy l (with_channel c p ps) ss
to_live c p l ps rs ss e live others h d z dead = elim (eqb_tells c d) [
  | inl y ↦
      let here : is_live_on l (at_channel d (with_channel c p ps)) ≡ true = ap (λ t. is_up l && t) (live-with c d p ps) ∙ rw (y.0, e, live) refl in
      let x : true ≡ false = sym here ∙ dead in absurd cc
  | inr n ↦
      let same : is_live_on l (at_channel d (with_channel c p ps)) ≡ is_live_on l (at_channel d ps) = ap (λ t. is_up l && t) (live-with c d p ps ∙ rw n.0 refl) in
      kept_left rs ss d (others d n.1) (h d z (sym same ∙ dead))
]

-- or to another, and its requests with it
to_dead : (c : ℕ) (p : ChannelPhase) (l : ConnectionPhase) (ps : List (ℕ × ChannelPhase)) (rs ss : List (ℕ × List Request)) → ((c == 0) ≡ false → unclosing c ss ≡ []) → Others c rs ss → SettledBy l ps rs → SettledBy l (with_channel c p ps) ss
to_dead c p l ps rs ss none others h d z dead = elim (eqb_tells c d) [
  | inl y ↦ subst (λ k. (k == 0) ≡ false → unclosing k ss ≡ []) y.1 none z
  | inr n ↦
      let same : is_live_on l (at_channel d (with_channel c p ps)) ≡ is_live_on l (at_channel d ps) = ap (λ t. is_up l && t) (live-with c d p ps ∙ rw n.0 refl) in
      kept_left rs ss d (others d n.1) (h d z (sym same ∙ dead))
]

-- the requests of a channel with a live opening
of_live : (c : ℕ) (l : ConnectionPhase) (ps : List (ℕ × ChannelPhase)) (rs ss : List (ℕ × List Request)) → l ≡ link.Open → live_at c ps ≡ true → Others c rs ss → SettledBy l ps rs → SettledBy l ps ss
of_live c l ps rs ss e live others h d z dead = elim (eqb_tells c d) [
  | inl y ↦
      let there : live_at d ps ≡ true = subst (λ k. live_at k ps ≡ true) y.1 live in
      let here : is_live_on l (at_channel d ps) ≡ true = rw (e, there) refl in
      let x : true ≡ false = sym here ∙ dead in absurd cc
  | inr n ↦ kept_left rs ss d (others d n.1) (h d z dead)
]

-- ---- states

receives_live : (t : Bool) (p : ChannelPhase) → receives_on (cond t state.Base (channel_state p)) ≡ true → is_live p ≡ true
receives_live true p h = absurd cc
receives_live false phase.Closed h = absurd cc
receives_live false phase.Opening h = absurd cc
receives_live false (phase.Open paused) h = refl
receives_live false (phase.Closing who sent) h = refl
receives_live false phase.Crossed h = absurd cc

-- ---- calls

awaits_away : (c k : ℕ) (o : Option Reply) (rs : List (ℕ × List Request)) → Others c rs (requests_with c k o rs)
awaits_away c k None rs d n = refl
awaits_away c k (Some r) rs d n = requests-away c d _ rs n

call_up : (c : ℕ) (k : Asked) (b : Wire) → b.link ≡ link.Open → is_allowed k (cond (c == 0) state.Base (channel_state (phase_of c b))) ≡ true → Settled b → Settled (after_call c k b)
call_up c ask.Open b e a h = to_live c phase.Opening b.link b.phases b.requests _ e refl (λ d n. requests-away c d _ b.requests n) h
call_up c (ask.CloseChannel code text) b e a h = to_live c (phase.Closing closer.Application false) b.link b.phases b.requests _ e refl (λ d n. requests-away c d _ b.requests n) h
call_up c (ask.CloseConnection code text) b e a h = λ d z dead.
    let zero : (c == 0) ≡ true = base_here (c == 0) (phase_of c b) a in
    let apart : c ≢ d = λ x. let y : (d == 0) ≡ true = ap (λ k. k == 0) (sym x) ∙ zero in let w : true ≡ false = sym y ∙ z in cc in
    ap (without_kind reply_kind.ChannelCloseOk) (requests-away c d _ [] apart)
call_up c (ask.Publish exchange key o payload properties) b e a h = h
call_up c (ask.Method row) b e a h = of_live c b.link b.phases b.requests _ e (open_here (c == 0) (phase_of c b) a) (awaits_away c (b.tickets + 1) (awaited_by row.answered) b.requests) h
call_up c (ask.Consume m tag queue o) b e a h = h
call_up c (ask.Limit limit) b e a h = h
call_up c ask.Nothing b e a h = h

call_settled : (c : ℕ) (k : Asked) (b : Wire) → Settled b → Settled (after_asking c k b)
call_settled c k b h = elim (is_allowed k (state_of c b)) as (λ t. is_allowed k (state_of c b) ≡ t → Settled (cond t (after_call c k b) b)) [
  | true ↦ λ a. let e = allowed_up b.link k (cond (c == 0) state.Base (channel_state (phase_of c b))) a in call_up c k b e (rw e at a) h
  | false ↦ λ a. h
] refl

-- ---- ackers, and consumers that are let go

acked_settled : (o : Option (ℕ × ℕ)) (k : AckerCall) (b : Wire) → Settled b → Settled (acked_wire o k b)
acked_settled None k b h = h
acked_settled (Some x) k b h = call_settled x.0 (acker_asked k x.1) b h

let_go_settled : (x : Consumer) (b : Wire) → Settled b → Settled (cond (lets_go_of x b) (cancel_noted x b) b)
let_go_settled x b h = elim (lets_go_of x b) as (λ t. lets_go_of x b ≡ t → Settled (cond t (cancel_noted x b) b)) [
  | true ↦ λ a. let free = and_second (is_idle x) _ a in let e = open_up b.link _ free in of_live x.channel b.link b.phases b.requests _ e (open_here (x.channel == 0) (phase_of x.channel b) (rw (state_up x.channel b e) at free)) (λ d n. requests-away x.channel d _ b.requests n) h
  | false ↦ λ a. h
] refl

dropped_settled : (o : Option Consumer) (b : Wire) → Settled b → Settled (after_let_go o b)
dropped_settled None b h = h
dropped_settled (Some x) b h = let_go_settled x b h

-- ---- frames that leave

sent_settled : (o : Option Left) (b : Wire) → Settled b → Settled (sent o b)
sent_settled None b h = h
sent_settled (Some x) b h = λ c z dead.
    let same : is_live_on (link_sent x.frame b.link) (at_channel c (phases_sent x.frame b.phases)) ≡ is_live_on b.link (at_channel c b.phases) = ap (λ t. t && live_at c (phases_sent x.frame b.phases)) (frame_left x.frame b.link) ∙ ap (λ t. is_up b.link && t) (live_sent x.frame b.phases c) in
    h c z (sym same ∙ dead)

-- ---- frames of the broker

abbrev Hears : Wire → Incoming → Record → Type 0
Hears b i r = Settled b → Settled (after_incoming i r b)

unreceived : (class number : ℕ) (b : Wire) (i : Incoming) → Hears b i (refused class number)
unreceived class number b i h = λ c z dead. refl

find_kind : (f : Request → Bool) (rs : List Request) → without_first f (request_alone (find f rs)) ≡ []
find_kind f [] = refl
find_kind f (r ∷ rs) = elim (f r) as (λ t. f r ≡ t → without_first f (request_alone (cond t (Some r) (find f rs))) ≡ []) [ true ↦ λ e. rw e refl | false ↦ λ e. find_kind f rs ] refl

kept_at_left : (p : ChannelPhase) (rs : List Request) → without_kind reply_kind.ChannelCloseOk (kept_at p rs) ≡ []
kept_at_left p rs = elim (has_sent_close p) as (λ t. without_kind reply_kind.ChannelCloseOk (cond t (close_alone rs) (no_requests rs)) ≡ []) [ true ↦ find_kind (is_kind reply_kind.ChannelCloseOk) rs | false ↦ refl ]

reply_taken : (t : Bool) (c : ℕ) (k : ReplyKind) (b : Wire) → b.link ≡ link.Open → cond t (is_opening (cond (c == 0) state.Base (channel_state (phase_of c b)))) (receives_on (cond (c == 0) state.Base (channel_state (phase_of c b)))) ≡ true → Settled b → SettledBy b.link (cond t (with_channel c (phase.Open false) b.phases) b.phases) (without_request c k b.requests)
reply_taken true c k b e a h = to_live c (phase.Open false) b.link b.phases b.requests _ e refl (λ d n. requests-away c d _ b.requests n) h
reply_taken false c k b e a h = of_live c b.link b.phases b.requests _ e (receives_live (c == 0) (phase_of c b) a) (λ d n. requests-away c d _ b.requests n) h

flow_receives : (c : ℕ) (active : Bool) (b : Wire) → b.link ≡ link.Open → Hears b (incoming.Flow c active) record_.Received
flow_receives c active b e h =
    let to : Wire = noted c (method.Channel (channel.FlowOk active)) (record b { phases = with_channel c (phase.Open (not active)) b.phases }) in
    elim (is_open (state_of c b)) as (λ u. Settled (cond u to b)) [
      | true ↦ to_live c (phase.Open (not active)) b.link b.phases b.requests b.requests e refl (λ d n. refl) h
      | false ↦ h
    ]

close_receives : (c code : ℕ) (b : Wire) → Hears b (incoming.ChannelClose c code) record_.Received
close_receives c code b h = to_dead c _ b.link b.phases b.requests _ (λ z. ap (without_kind reply_kind.ChannelCloseOk) (on-here c (kept_at (phase_of c b)) b.requests (kept_none (phase_of c b))) ∙ kept_at_left (phase_of c b) (requests_of c b)) (λ d n. on-away c d (kept_at (phase_of c b)) b.requests n) h

crossed_answered : (c : ℕ) (b : Wire) → live_at c b.phases ≡ false → Settled b → SettledBy b.link (with_channel c phase.Closed b.phases) (on_channel c (without_kind reply_kind.ChannelCloseOk) b.requests)
crossed_answered c b dead h = to_dead c phase.Closed b.link b.phases b.requests _ (λ z.
    let shut : is_live_on b.link (at_channel c b.phases) ≡ false = rw dead (elim (is_up b.link) as (λ t. (t && false) ≡ false) [ true ↦ refl | false ↦ refl ]) in
    ap (without_kind reply_kind.ChannelCloseOk) (on-here c (without_kind reply_kind.ChannelCloseOk) b.requests refl ∙ h c z shut)) (λ d n. on-away c d (without_kind reply_kind.ChannelCloseOk) b.requests n) h

answered : (c : ℕ) (p : ChannelPhase) (b : Wire) → phase_of c b ≡ p → receives_close_ok (cond (c == 0) state.Base (channel_state p)) ≡ true → Settled b → Settled (after_close_ok c p b)
answered c (phase.Closing who s) b q a h = to_dead c phase.Closed b.link b.phases b.requests _ (λ z. ap (without_kind reply_kind.ChannelCloseOk) (on-here c no_requests b.requests refl)) (λ d n. on-away c d no_requests b.requests n) h
answered c phase.Crossed b q a h = crossed_answered c b (ap is_live q) h
answered c phase.Closed b q a h = crossed_answered c b (ap is_live q) h
answered c phase.Opening b q a h = absurd (elim (c == 0) as (λ t. receives_close_ok (cond t state.Base state.Opening) ≡ true → ⊥) [ true ↦ λ x. cc | false ↦ λ x. cc ] a)
answered c (phase.Open paused) b q a h = absurd (elim (c == 0) as (λ t. receives_close_ok (cond t state.Base state.Open) ≡ true → ⊥) [ true ↦ λ x. cc | false ↦ λ x. cc ] a)

failed_receives : (c tag current : ℕ) (z : Settlement) (b : Wire) → b.link ≡ link.Open → Hears b (incoming.Settlement c z) (record_.Refused (error.PreconditionFailed tag current))
failed_receives c tag current z b e h = elim (is_open (state_of c b)) as (λ u. Settled (cond u (noted c (session_close z.kind) (closing c closer.Session b)) b)) [
  | true ↦ to_live c (phase.Closing closer.Session false) b.link b.phases b.requests b.requests e refl (λ d n. refl) h
  | false ↦ h
]

-- a connection that is not open has no live opening before or behind
sinks : (b : Wire) (l : ConnectionPhase) (rs : List (ℕ × List Request)) → is_up b.link ≡ false → Others 0 b.requests rs → Settled b → SettledBy l b.phases rs
sinks b l rs shut others h c z dead =
    let apart : 0 ≢ c = λ x. let y : (c == 0) ≡ true = eq-eqb c 0 (sym x) in let w : true ≡ false = sym y ∙ z in cc in
    kept_left b.requests rs c (others c apart) (h c z (rw shut refl))

down_receives : (l : ConnectionPhase) (b : Wire) (i : Incoming) → b.link ≡ l → is_up l ≡ false → Hears b i (cond (receives_down l i) record_.Received record_.Passed)
down_receives link.Open b i e d = absurd cc
down_receives link.Closed b i e d = λ h. h
down_receives link.Lost b i e d = λ h. h
down_receives (link.Closing x) b incoming.ConnectionCloseOk e d = sinks b link.Closed _ (rw e refl) (λ c n. on-away 0 c (without_kind reply_kind.ConnectionCloseOk) b.requests n)
down_receives (link.Closing stage.Crossed) b (incoming.ConnectionClose code) e d = λ h. h
down_receives (link.Closing stage.Sent) b (incoming.ConnectionClose code) e d = subst (λ l. Settled b → Settled (after_connection_close l b)) (sym e) (sinks b (link.Closing stage.Crossed) b.requests (rw e refl) (λ c n. refl))
down_receives (link.Closing stage.Queued) b (incoming.ConnectionClose code) e d = subst (λ l. Settled b → Settled (after_connection_close l b)) (sym e) (λ h c z dead. refl)
down_receives (link.Closing x) b (incoming.Reply c k a) e d = λ h. h
down_receives (link.Closing x) b (incoming.Settlement c z) e d = λ h. h
down_receives (link.Closing x) b (incoming.Content c p) e d = λ h. h
down_receives (link.Closing x) b (incoming.Consumer c p) e d = λ h. h
down_receives (link.Closing x) b (incoming.Flow c active) e d = λ h. h
down_receives (link.Closing x) b (incoming.ChannelClose c code) e d = λ h. h
down_receives (link.Closing x) b (incoming.ChannelCloseOk c) e d = λ h. h
down_receives (link.Closing x) b incoming.Other e d = λ h. h

module _ (class number : ℕ) where
  abbrev no : Record
  no = refused class number

  settlement_receives : (c : ℕ) (z : Settlement) (readings : Readings) (b : Wire) → b.link ≡ link.Open → Hears b (incoming.Settlement c z) (cond (receives_on (state_of c b)) (settlement_record readings c z) no)
  settlement_receives c z readings b e = elim (receives_on (state_of c b)) as (λ t. Hears b (incoming.Settlement c z) (cond t (settlement_record readings c z) no)) [
    | true ↦ elim (readings.selected c) as (λ t. Hears b (incoming.Settlement c z) (cond t (cond (z.multiple || readings.pending c z.tag) record_.Received (record_.Refused (error.PreconditionFailed z.tag (readings.last c)))) record_.Passed)) [
      | true ↦ elim (z.multiple || readings.pending c z.tag) as (λ t. Hears b (incoming.Settlement c z) (cond t record_.Received (record_.Refused (error.PreconditionFailed z.tag (readings.last c))))) [
        | true ↦ λ h. h
        | false ↦ failed_receives c z.tag (readings.last c) z b e
      ]
      | false ↦ λ h. h
    ]
    | false ↦ unreceived class number b (incoming.Settlement c z)
  ]

  when_receives : (u : Bool) (b : Wire) (i : Incoming) → (u ≡ true → Hears b i record_.Received) → Hears b i (when u no)
  when_receives true b i h = h refl
  when_receives false b i h = unreceived class number b i

  replied : (c : ℕ) (k : ReplyKind) (b : Wire) → b.link ≡ link.Open → receives_reply c k b ≡ true → Settled b → Settled (after_reply c k b)
  replied c k b e h = reply_taken (opens k) c k b e (rw (state_up c b e) at (and_first (receives k (state_of c b)) (is_some (first_request k (requests_of c b))) h))

  part_receives : (c : ℕ) (p : ContentPart) (b : Wire) → b.link ≡ link.Open → receives_part c p b ≡ true → Hears b (incoming.Content c p) record_.Received
  part_receives c (part.GetOk x) b e h = replied c reply_kind.BasicGetOk b e h
  part_receives c (part.Return x) b e h = λ k. k
  part_receives c (part.Deliver tag x) b e h = λ k. k
  part_receives c (part.Header x) b e h = λ k. k
  part_receives c (part.Body bytes) b e h = λ k. k

  cancel_settled : (c : ℕ) (tag : List ℕ) (t : Bool) (b : Wire) → Settled b → Settled (cond t (noted c (method.Basic (basic.CancelOk tag)) b) b)
  cancel_settled c tag true b h = h
  cancel_settled c tag false b h = h

  consumer_receives : (c : ℕ) (p : ConsumerPart) (b : Wire) → b.link ≡ link.Open → receives_consumer c p b ≡ true → Hears b (incoming.Consumer c p) record_.Received
  consumer_receives c (consumer.ConsumeOk tag) b e h = replied c reply_kind.BasicConsumeOk b e h
  consumer_receives c (consumer.CancelOk tag) b e h = replied c reply_kind.BasicCancelOk b e h
  consumer_receives c consumer.RecoverOk b e h = replied c reply_kind.BasicRecoverOk b e h
  consumer_receives c (consumer.Cancel tag nowait) b e h = cancel_settled c tag (is_open (state_of c b) && not nowait) b

  up_receives : (b : Wire) (readings : Readings) (i : Incoming) → b.link ≡ link.Open → Hears b i (incoming_up b readings no i)
  up_receives b readings (incoming.Reply c k a) e = when_receives (receives_reply c k b) b (incoming.Reply c k a) (λ h. replied c k b e h)
  up_receives b readings (incoming.Settlement c z) e = settlement_receives c z readings b e
  up_receives b readings (incoming.Content c p) e = when_receives (receives_part c p b) b (incoming.Content c p) (λ h. part_receives c p b e h)
  up_receives b readings (incoming.Consumer c p) e = when_receives (receives_consumer c p b) b (incoming.Consumer c p) (λ h. consumer_receives c p b e h)
  up_receives b readings (incoming.Flow c active) e = when_receives (receives_on (state_of c b)) b (incoming.Flow c active) (λ a. flow_receives c active b e)
  up_receives b readings (incoming.ChannelClose c code) e = when_receives (receives_close (state_of c b)) b (incoming.ChannelClose c code) (λ a. close_receives c code b)
  up_receives b readings (incoming.ChannelCloseOk c) e = when_receives (receives_close_ok (state_of c b)) b (incoming.ChannelCloseOk c) (λ a. answered c (phase_of c b) b refl (rw (state_up c b e) at a))
  up_receives b readings (incoming.ConnectionClose code) e = subst (λ l. Settled b → Settled (after_connection_close l b)) (sym e) (λ h c z dead. refl)
  up_receives b readings incoming.ConnectionCloseOk e = unreceived class number b incoming.ConnectionCloseOk
  up_receives b readings incoming.Other e = unreceived class number b incoming.Other

  incoming_settled : (l : ConnectionPhase) (b : Wire) (readings : Readings) (i : Incoming) → b.link ≡ l → Hears b i (incoming_record b readings no i)
  incoming_settled l b readings i e = subst (Hears b i) (sym (incoming_is class number b readings i l e)) (elim (is_up l) as (λ t. is_up l ≡ t → Hears b i (cond t (incoming_up b readings no i) (cond (receives_down l i) record_.Received record_.Passed))) [
    | true ↦ λ u. up_receives b readings i (e ∙ up_open l u)
    | false ↦ λ u. down_receives l b i e u
  ] refl)

-- ---- every event

lost_settled : (b : Wire) → Settled b → Settled (after_lost b)
lost_settled b h = elim (is_lost b.link) as (λ t. Settled (cond t b (down link.Lost b))) [ true ↦ h | false ↦ λ c z dead. refl ]

settled-next : (b : Wire) (readings : Readings) (e : Event) → Settled b → Settled (after_event b e (record_of b readings e))
settled-next b readings (event.Call c k) h = call_settled c (asked_by k (record_of b readings (event.Call c k))) b h
settled-next b readings (event.Next flow) h = sent_settled (handed_as (record_of b readings (event.Next flow)) b) _ h
settled-next b readings (event.Receive f) h = incoming_settled (frame_class f) (frame_method f) b.link b readings (incoming_of f) refl h
settled-next b readings (event.PollTicket k) h = h
settled-next b readings (event.PollConfirm k) h = h
settled-next b readings (event.PollWait c) h = h
settled-next b readings (event.AsideTicket k) h = h
settled-next b readings (event.AsideConfirm k) h = h
settled-next b readings (event.PollConsumer k) h = h
settled-next b readings (event.Acker m k) h = acked_settled (usable_at m b) k b h
settled-next b readings (event.Delegate k) h = h
settled-next b readings (event.DropConsumer k) h = dropped_settled (consumer_at k b.deliveries.subscriptions) b h
settled-next b readings event.NextJob h = h
settled-next b readings (event.State c) h = h
settled-next b readings event.Lost h = lost_settled b h

settled_from : (w : World) (es : List Event) → Settled w.wire → Settled (fold next w es).wire
settled_from w [] h = h
settled_from w (e ∷ es) h = settled_from (next w e) es (next_keeps (λ v. Settled v.wire) w e (settled-next w.wire (readings_of w.confirm_state w.slots) e h) h)

pub settled_after : (n : ℕ) (es : List Event) → Settled (world_after n es).wire
settled_after n es = settled_from (new_world n) es (λ c z dead. refl)
