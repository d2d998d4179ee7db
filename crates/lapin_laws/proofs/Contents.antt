-- What is expected after every list of events is what happened to contents, and on a channel without a live opening it is nothing.
use Rattle.std.proofs.Common.{◌≡◌, ◌≢◌, ℕ, ◌==◌, ◌&&◌, ◌||◌, Bool, true, false, cond, not, List, [], ◌∷◌, ◌++◌, map, zip, Option, Some, None, refl, sym, ◌∙◌, ap, subst, inl, inr, append-nil, append_assoc}
use Rattle.std.specs.List.{fold, list_any}
use Rattle.std.proofs.lemmas.Bool.Decides.{eqb_tells}
use Rattle.lapin_tables.specs.ByChannel.{at_channel, on_channel}
use Rattle.lapin_types.specs.declared.event.Event.{Event}
use Rattle.lapin_types.specs.declared.event.Event.TheVariants as event
use Rattle.lapin_types.specs.declared.record.Record.{Record}
use Rattle.lapin_types.specs.declared.record.Record.TheVariants as record_
use Rattle.lapin_types.specs.declared.leaving.Left.{Left}
use Rattle.lapin_types.specs.declared.request.ReplyKind.TheVariants as reply_kind
use Rattle.lapin_types.specs.Types.{Error}
use Rattle.lapin_types.specs.Types.error
use Rattle.lapin_types.specs.Types.method
use Rattle.lapin_types.specs.Types.channel
use Rattle.lapin_types.specs.declared.acker_call.AckerCall.{AckerCall}
use Rattle.lapin_types.specs.Types.basic
use Rattle.lapin_content.specs.Contents.{Expected, expected, after_header, after_body, for_ticket, for_consumer}
use Rattle.lapin_content.specs.Channels.{Channels, expected_on, after_mark}
use Rattle.lapin_content.specs.Follows.{Follows}
use Rattle.lapin_content.specs.Marks.{ContentMark}
use Rattle.lapin_content.specs.Marks as content
use Rattle.lapin_content.specs.declared.start.Start.{Start}
use Rattle.lapin_content.proofs.Following.{follows-push}
use Rattle.lapin_consumer.specs.Subscriptions.{Consumer, consumer_at, found}
use Rattle.lapin_delivery.specs.Marks.{DeliveryMark}
use Rattle.lapin_delivery.specs.Marks as deliveries
use Rattle.lapin_rules.specs.declared.calls.Asked.{Asked}
use Rattle.lapin_rules.specs.declared.calls.Asked.TheVariants as ask
use Rattle.lapin_rules.specs.declared.marks.Settlement.{Settlement}
use Rattle.lapin_rules.specs.declared.phases.ChannelPhase.{ChannelPhase}
use Rattle.lapin_rules.specs.declared.phases.ChannelPhase.TheVariants as phase
use Rattle.lapin_rules.specs.declared.phases.ConnectionPhase.{ConnectionPhase}
use Rattle.lapin_rules.specs.declared.phases.ConnectionPhase.TheVariants as link
use Rattle.lapin_rules.specs.declared.phases.CloseStage.TheVariants as stage
use Rattle.lapin_rules.specs.declared.phases.Closer.TheVariants as closer
use Rattle.lapin_rules.specs.declared.broker_frames.ContentPart.{ContentPart}
use Rattle.lapin_rules.specs.declared.broker_frames.ContentPart.TheVariants as part
use Rattle.lapin_rules.specs.declared.broker_frames.Incoming.{Incoming}
use Rattle.lapin_rules.specs.declared.broker_frames.Incoming.TheVariants as incoming
use Rattle.lapin_rules.specs.Words.{with_channel}
use Rattle.lapin_rules.specs.Incoming.{incoming_of, frame_class, frame_method}
use Rattle.lapin_rules.specs.Phases.{is_up, is_lost, is_live}
use Rattle.lapin_rules.specs.Readings.{Readings}
use Rattle.lapin_rules.specs.Opening.{opens}
use Rattle.lapin_rules.specs.Polls.{is_confirmed, is_returned, is_aside, wait_record}
use Rattle.lapin_rules.specs.Select.{is_select}
use Rattle.lapin_rules.specs.Ends.{live_channels, ends_all, end_with, down}
use Rattle.lapin_rules.specs.Wire.{Wire, state_of, phase_of, is_open, receives_on, noted, queued, with_deliveries}
use Rattle.lapin_rules.specs.Content.{content_class, get_ticket, receives_part, after_part, whole_on}
use Rattle.lapin_rules.specs.ChannelClose.{after_broker_close, close_marks, close_ok_end, closing, after_close_ok, receives_close, receives_close_ok, phases_sent}
use Rattle.lapin_rules.specs.ConnectionClose.{link_sent, receives_down, after_connection_close}
use Rattle.lapin_rules.specs.Settlement.{settlement_record, session_close}
use Rattle.lapin_rules.specs.Flow.{after_flow}
use Rattle.lapin_rules.specs.Loss.{after_lost, lost_deliveries}
use Rattle.lapin_rules.specs.Reply.{receives, receives_reply}
use Rattle.lapin_rules.specs.Unexpected.{refused}
use Rattle.lapin_rules.specs.Asking.{is_allowed, asked_by, after_call, call_marks, asking_marks, asked_wire, asking_deliveries}
use Rattle.lapin_rules.specs.Handing.{sent, handed_as}
use Rattle.lapin_rules.specs.Receiving.{when, incoming_up, incoming_record, incoming_marks, incoming_wire, incoming_deliveries}
use Rattle.lapin_rules.specs.Events.{record_of, after_event}
use Rattle.lapin_rules.specs.History.{History, Past, longer, past, rec, run_from, run, readings_of}
use Rattle.lapin_rules.specs.declared.broker_frames.ConsumerPart.{ConsumerPart}
use Rattle.lapin_rules.specs.declared.broker_frames.ConsumerPart.TheVariants as consumer
use Rattle.lapin_rules.specs.Ackers.{acker_method, usable_at, acked_wire, acker_deliveries}
use Rattle.lapin_rules.specs.Consumers.{receives_consumer, lets_go_of, cancel_noted, after_let_go, after_drop, drop_deliveries, delegate_deliveries, job_deliveries}
use Rattle.lapin_machine.specs.Stands.{IsShut}
use Rattle.lapin_machine.specs.Tied.{is_live_on}
use Rattle.lapin_machine.proofs.Openings.{heard_opening, reply_opening, crossed_over}
use Rattle.lapin_machine.proofs.Shut.{shut-next, frame_left}
use Rattle.lapin_machine.proofs.Standing.{past-push}
use Rattle.lapin_laws.specs.Contents.{heard_contents, content_marks, contents_on, content_history}
use Rattle.lapin_laws.specs.Outgoing.{ended_in, is_channel}
use Rattle.lapin_laws.specs.Runs.{world_after}
use Rattle.lapin_laws.proofs.Alive.{live_at, live-with}
use Rattle.lapin_laws.proofs.Cuts.{ended-ends, live-in}
use Rattle.lapin_laws.proofs.Expecting.{expected-here, expected-away, joined-away}
use Rattle.lapin_laws.proofs.Going.{live_sent, left_quiet}
use Rattle.lapin_laws.proofs.Moving.{queued_quiet}
use Rattle.lapin_laws.proofs.FrameMoves.{no_ends, whole_quiet, incoming_is}
use Rattle.lapin_laws.proofs.EventMoves.{taken_quiet, drained_quiet, laid_quiet}
use Rattle.lapin_laws.proofs.Traces.{stands_after}
use Rattle.lapin_tables.proofs.Bools.{and_false, and_first}
use Rattle.lapin_rules.proofs.PhaseLaws.{up_open, lost_down, allowed_up}

-- ---- on a channel without a live opening nothing is expected

abbrev Quiet : ConnectionPhase → List (ℕ × ChannelPhase) → Channels → Type 0
Quiet l ps cs = (c : ℕ) → is_live_on l (at_channel c ps) ≡ false → expected_on c cs ≡ []

-- nothing more is expected on the other channels
abbrev Others : ℕ → Channels → Channels → Type 0
Others c cs ds = (d : ℕ) → c ≢ d → expected_on d ds ≡ expected_on d cs

module _ (c : ℕ) (p : ChannelPhase) (l : ConnectionPhase) (ps : List (ℕ × ChannelPhase)) (cs ds : Channels) (others : Others c cs ds) (quiet : Quiet l ps cs) where
  away : (d : ℕ) → c ≢ d → (c == d) ≡ false → is_live_on l (at_channel d (with_channel c p ps)) ≡ false → expected_on d ds ≡ []
  away d apart off dead =
      let same : is_live_on l (at_channel d (with_channel c p ps)) ≡ is_live_on l (at_channel d ps) = ap (λ t. is_up l && t) (live-with c d p ps ∙ rw off refl) in
      others d apart ∙ quiet d (sym same ∙ dead)

  -- the channel's phase moves to a live one
  quiet_live : is_up l ≡ true → is_live p ≡ true → Quiet l (with_channel c p ps) ds
  quiet_live up live d dead = elim (eqb_tells c d) [
    | inl y ↦
        let here : is_live_on l (at_channel d (with_channel c p ps)) ≡ true = ap (λ t. is_up l && t) (live-with c d p ps) ∙ rw (y.0, up, live) refl in
        let x : true ≡ false = sym here ∙ dead in absurd cc
    | inr n ↦ away d n.1 n.0 dead
  ]

  -- or to another, and nothing is expected there
  quiet_dead : expected_on c ds ≡ [] → Quiet l (with_channel c p ps) ds
  quiet_dead none d dead = elim (eqb_tells c d) [
    | inl y ↦ subst (λ k. expected_on k ds ≡ []) y.1 none
    | inr n ↦ away d n.1 n.0 dead
  ]

-- what a channel with a live opening expects
quiet_here : (c : ℕ) (l : ConnectionPhase) (ps : List (ℕ × ChannelPhase)) (cs ds : Channels) → is_live_on l (at_channel c ps) ≡ true → Others c cs ds → Quiet l ps cs → Quiet l ps ds
quiet_here c l ps cs ds live others quiet d dead = elim (eqb_tells c d) [
  | inl y ↦
      let there : is_live_on l (at_channel d ps) ≡ true = subst (λ k. is_live_on l (at_channel k ps) ≡ true) y.1 live in
      let x : true ≡ false = sym there ∙ dead in absurd cc
  | inr n ↦ others d n.1 ∙ quiet d dead
]

quiet_down : (l m : ConnectionPhase) (ps qs : List (ℕ × ChannelPhase)) (cs : Channels) → is_up l ≡ false → Quiet l ps cs → Quiet m qs cs
quiet_down l m ps qs cs shut quiet c dead = quiet c (rw shut refl)

-- ---- what an event does

record Expects (b : Wire) (ms : List ContentMark) : Type 0 where
  follows : Follows ms b.contents
  quiet : Quiet b.link b.phases b.contents

abbrev Moved : Wire → Wire → List ℕ → List ContentMark → Type 0
Moved b b' cs new = (ms : List ContentMark) → Expects b ms → Expects b' (ms ++ (map content.Dropped cs ++ new))

-- consumers and ackers have no part in it
inboxed : (ns : List DeliveryMark) (b : Wire) (ms : List ContentMark) → Expects b ms → Expects (with_deliveries ns b) ms
inboxed ns b ms x = record { follows = x.follows; quiet = x.quiet }

-- contents stay
stays : (b b' : Wire) → b'.contents ≡ b.contents → (Quiet b.link b.phases b.contents → Quiet b'.link b'.phases b.contents) → Moved b b' [] []
stays b b' e keeps ms x =
    let P : List ContentMark → Type 0 = λ ys. Follows ys b'.contents in
    let Q : Channels → Type 0 = Follows ms in
    let R : Channels → Type 0 = Quiet b'.link b'.phases in
    record { follows = subst P (sym (append-nil ms)) (subst Q (sym e) x.follows); quiet = subst R (sym e) (keeps x.quiet) }

-- one mark
one : (b b' : Wire) (m : ContentMark) → b'.contents ≡ after_mark b.contents m → (Quiet b.link b.phases b.contents → Quiet b'.link b'.phases (after_mark b.contents m)) → (ms : List ContentMark) → Expects b ms → Expects b' (ms ++ m ∷ [])
one b b' m e keeps ms x =
    let Q : Channels → Type 0 = Follows (ms ++ m ∷ []) in
    let R : Channels → Type 0 = Quiet b'.link b'.phases in
    record { follows = subst Q (sym e) (follows-push ms b.contents m x.follows); quiet = subst R (sym e) (keeps x.quiet) }

-- all that is expected is dropped
drops : (cs : List ℕ) (ms : List ContentMark) (all : Channels) → Follows ms all → Follows (ms ++ map content.Dropped cs) (fold after_mark all (map content.Dropped cs))
drops [] ms all f = let P : List ContentMark → Type 0 = λ xs. Follows xs all in subst P (sym (append-nil ms)) f
drops (c ∷ cs) ms all f =
    let next : Channels = after_mark all (content.Dropped c) in
    let P : List ContentMark → Type 0 = λ xs. Follows xs (fold after_mark next (map content.Dropped cs)) in
    subst P (append_assoc ms (content.Dropped c ∷ []) (map content.Dropped cs)) (drops cs (ms ++ content.Dropped c ∷ []) next (follows-push ms all (content.Dropped c) f))

emptied : (cs : List ℕ) (all : Channels) (c : ℕ) → expected_on c all ≡ [] → expected_on c (fold after_mark all (map content.Dropped cs)) ≡ []
emptied [] all c h = h
emptied (d ∷ cs) all c h = emptied cs (on_channel d (λ _. []) all) c (elim (eqb_tells d c) [
  | inl y ↦ subst (λ k. expected_on k (on_channel d (λ _. []) all) ≡ []) y.1 (expected-here d (λ _. []) all refl)
  | inr n ↦ expected-away d c (λ _. []) all n.1 ∙ h
])

dropped : (cs : List ℕ) (all : Channels) (c : ℕ) → list_any (is_channel c) cs ≡ true → expected_on c (fold after_mark all (map content.Dropped cs)) ≡ []
dropped [] all c h = absurd cc
dropped (d ∷ cs) all c h = elim (eqb_tells d c) [
  | inl y ↦ emptied cs (on_channel d (λ _. []) all) c (subst (λ k. expected_on k (on_channel d (λ _. []) all) ≡ []) y.1 (expected-here d (λ _. []) all refl))
  | inr n ↦ dropped cs (on_channel d (λ _. []) all) c (rw n.0 at h)
]

falls : (x : Error) (b b' : Wire) → b'.contents ≡ [] → Moved b b' (ended_in (ends_all x b)) []
falls x b b' gone ms e =
    let cs : List ℕ = live_channels b.phases in
    let all : Channels = fold after_mark b.contents (map content.Dropped cs) in
    let empty : (c : ℕ) → expected_on c all ≡ [] = λ c.
    elim (live_at c b.phases) as (λ t. live_at c b.phases ≡ t → expected_on c all ≡ []) [
      | true ↦ λ live. dropped cs b.contents c (live-in c b.phases live)
      | false ↦ λ dead. emptied cs b.contents c (e.quiet c (rw dead (and_false (is_up b.link))))
    ] refl in
    let new : Follows (ms ++ map content.Dropped cs) [] = λ c. sym (empty c) ∙ drops cs ms b.contents e.follows c in
    let P : List ContentMark → Type 0 = λ xs. Follows (ms ++ xs) [] in
    let Q : List ℕ → Type 0 = λ ds. Follows (ms ++ (map content.Dropped ds ++ [])) [] in
    let R : Channels → Type 0 = λ ds. Follows (ms ++ (map content.Dropped (ended_in (ends_all x b)) ++ [])) ds in
    let S : Channels → Type 0 = Quiet b'.link b'.phases in
    record {
      follows = subst R (sym gone) (subst Q (sym (ended-ends x cs)) (subst P (sym (append-nil (map content.Dropped cs))) new));
      quiet = subst S (sym gone) (λ c dead. refl);
    }

-- ---- calls

up_by : (l : ConnectionPhase) → l ≡ link.Open → is_up l ≡ true
up_by l e = ap is_up e

call_moved : (c : ℕ) (k : Asked) (b : Wire) → b.link ≡ link.Open → Moved b (after_call c k b) (ended_in (call_marks c k b)) []
call_moved c ask.Open b e = stays b _ refl (λ q. quiet_live c phase.Opening b.link b.phases b.contents b.contents (λ d n. refl) q (up_by b.link e) refl)
call_moved c (ask.CloseChannel code text) b e = stays b _ refl (λ q. quiet_live c (phase.Closing closer.Application false) b.link b.phases b.contents b.contents (λ d n. refl) q (up_by b.link e) refl)
call_moved c (ask.CloseConnection code text) b e = falls _ b _ refl
call_moved c (ask.Publish exchange key o payload properties) b e = stays b _ refl (λ q. q)
call_moved c (ask.Consume m tag queue o) b e = stays b _ refl (λ q. q)
call_moved c (ask.Limit limit) b e = stays b _ refl (λ q. q)
call_moved c ask.Nothing b e = stays b _ refl (λ q. q)
call_moved c (ask.Method row) b e = subst (λ cs. Moved b (after_call c (ask.Method row) b) cs []) (sym (queued_quiet (is_select row.method) c)) (stays b _ refl (λ q. q))

asked_moved : (c : ℕ) (k : Asked) (b : Wire) → Moved b (asked_wire c k b) (ended_in (asking_marks c k b)) []
asked_moved c k b = elim (is_allowed k (state_of c b)) as (λ t. is_allowed k (state_of c b) ≡ t → Moved b (cond t (after_call c k b) b) (ended_in (cond t (call_marks c k b) [])) []) [
  | true ↦ λ a. call_moved c k b (allowed_up b.link k _ a)
  | false ↦ λ a. stays b b refl (λ q. q)
] refl

-- ---- ackers, and consumers that are let go

choose_moved : (t : Bool) (b b' : Wire) → b'.contents ≡ b.contents → b'.link ≡ b.link → b'.phases ≡ b.phases → Moved b (cond t b' b) [] []
choose_moved true b b' e l p = stays b b' e (λ q. rw (l, p) q)
choose_moved false b b' e l p = stays b b refl (λ q. q)

acked_moved : (o : Option (ℕ × ℕ)) (k : AckerCall) (b : Wire) → Moved b (acked_wire o k b) [] []
acked_moved None k b = stays b b refl (λ q. q)
acked_moved (Some x) k b = choose_moved (is_open (state_of x.0 b)) b (queued x.0 (acker_method k x.1) None b) refl refl refl

dropped_moved : (o : Option Consumer) (b : Wire) → Moved b (after_let_go o b) [] []
dropped_moved None b = stays b b refl (λ q. q)
dropped_moved (Some x) b = choose_moved (lets_go_of x b) b (cancel_noted x b) refl refl refl

-- ---- frames that leave

sent_moved : (o : Option Left) (b : Wire) → Moved b (sent o b) [] []
sent_moved None b = stays b b refl (λ q. q)
sent_moved (Some x) b = stays b _ refl (λ q c dead.
    let same : is_live_on (link_sent x.frame b.link) (at_channel c (phases_sent x.frame b.phases)) ≡ is_live_on b.link (at_channel c b.phases) = ap (λ t. t && live_at c (phases_sent x.frame b.phases)) (frame_left x.frame b.link) ∙ ap (λ t. is_up b.link && t) (live_sent x.frame b.phases c) in
    q c (sym same ∙ dead))

-- ---- frames of the broker

abbrev Hears : Wire → Incoming → Record → Type 0
Hears b i r = Moved b (incoming_wire i r b) (ended_in (incoming_marks i r b)) (heard_contents r i b)

part_moved : (c : ℕ) (p : ContentPart) (b : Wire) → receives_part c p b ≡ true → Hears b (incoming.Content c p) record_.Received
part_moved c (part.GetOk s) b h =
    let e : Expected = expected content_class (for_ticket (get_ticket c b) s) in
    let here = reply_opening b.link c reply_kind.BasicGetOk b.phases (and_first (receives reply_kind.BasicGetOk (state_of c b)) _ h) in
    one b _ (content.Awaited c content_class (for_ticket (get_ticket c b) s)) refl (λ q. quiet_here c b.link b.phases b.contents _ here.live (λ d n. joined-away c d e b.contents (at_channel c b.contents) n) q)
part_moved c (part.Return s) b h =
    let here = heard_opening b.link c b.phases h in
    one b _ (content.Awaited c content_class s) refl (λ q. quiet_here c b.link b.phases b.contents _ here.live (λ d n. joined-away c d (expected content_class s) b.contents (at_channel c b.contents) n) q)
part_moved c (part.Deliver tag s) b h =
    let here = heard_opening b.link c b.phases h in
    let t : Start = for_consumer (found c tag b.deliveries.subscriptions) s in
    one b _ (content.Awaited c content_class t) refl (λ q. quiet_here c b.link b.phases b.contents _ here.live (λ d n. joined-away c d (expected content_class t) b.contents (at_channel c b.contents) n) q)
part_moved c (part.Header x) b h =
    let here = heard_opening b.link c b.phases (and_first (receives_on (state_of c b)) _ h) in
    subst (λ cs. Moved b (after_part c (part.Header x) b) cs (content.Header c x ∷ [])) (sym (whole_quiet c (whole_on c (part.Header x) b)))
    (one b _ (content.Header c x) refl (λ q. quiet_here c b.link b.phases b.contents _ here.live (λ d n. expected-away c d (after_header x) b.contents n) q))
part_moved c (part.Body bytes) b h =
    let here = heard_opening b.link c b.phases (and_first (receives_on (state_of c b)) _ h) in
    subst (λ cs. Moved b (after_part c (part.Body bytes) b) cs (content.Body c bytes ∷ [])) (sym (whole_quiet c (whole_on c (part.Body bytes) b)))
    (one b _ (content.Body c bytes) refl (λ q. quiet_here c b.link b.phases b.contents _ here.live (λ d n. expected-away c d (after_body bytes) b.contents n) q))

reply_moved : (t : Bool) (c : ℕ) (b : Wire) → is_up b.link ≡ true → Quiet b.link b.phases b.contents → Quiet b.link (cond t (with_channel c (phase.Open false) b.phases) b.phases) b.contents
reply_moved true c b up q = quiet_live c (phase.Open false) b.link b.phases b.contents b.contents (λ d n. refl) q up refl
reply_moved false c b up q = q

consumer_moved : (c : ℕ) (p : ConsumerPart) (b : Wire) → b.link ≡ link.Open → Hears b (incoming.Consumer c p) record_.Received
consumer_moved c (consumer.ConsumeOk tag) b e = stays b _ refl (λ q. q)
consumer_moved c (consumer.CancelOk tag) b e = stays b _ refl (λ q. q)
consumer_moved c consumer.RecoverOk b e = stays b _ refl (λ q. q)
consumer_moved c (consumer.Cancel tag nowait) b e = choose_moved (is_open (state_of c b) && not nowait) b (noted c (method.Basic (basic.CancelOk tag)) b) refl refl refl

-- the opening of a channel ends
ended_moved : (c : ℕ) (p : ChannelPhase) (b b' : Wire) → b'.link ≡ b.link → b'.phases ≡ with_channel c p b.phases → b'.contents ≡ on_channel c (λ _. []) b.contents → Moved b b' (c ∷ []) []
ended_moved c p b b' l ph cs = one b b' (content.Dropped c) cs (λ q. rw (l, ph) (quiet_dead c p b.link b.phases b.contents (on_channel c (λ _. []) b.contents) (λ d n. expected-away c d (λ _. []) b.contents n) q (expected-here c (λ _. []) b.contents refl)))

-- or a crossed close ended it before
crossed_moved : (c : ℕ) (p : ChannelPhase) (b : Wire) → phase_of c b ≡ p → close_ok_end p ≡ None → receives_close_ok (state_of c b) ≡ true → Quiet b.link b.phases b.contents → Quiet b.link (with_channel c phase.Closed b.phases) b.contents
crossed_moved c p b is none h q = quiet_dead c phase.Closed b.link b.phases b.contents b.contents (λ d n. refl) q (q c (crossed_over b.link c b.phases (ap close_ok_end is ∙ none) h))

close_ok_moved : (c : ℕ) (p : ChannelPhase) (b : Wire) → phase_of c b ≡ p → receives_close_ok (state_of c b) ≡ true → Moved b (after_close_ok c p b) (ended_in (end_with c (close_ok_end p))) []
close_ok_moved c (phase.Closing who s) b is h = ended_moved c phase.Closed b _ refl refl refl
close_ok_moved c phase.Closed b is h = stays b _ refl (crossed_moved c phase.Closed b is refl h)
close_ok_moved c phase.Opening b is h = stays b _ refl (crossed_moved c phase.Opening b is refl h)
close_ok_moved c (phase.Open paused) b is h = stays b _ refl (crossed_moved c (phase.Open paused) b is refl h)
close_ok_moved c phase.Crossed b is h = stays b _ refl (crossed_moved c phase.Crossed b is refl h)

flow_moved : (c : ℕ) (active : Bool) (b : Wire) → b.link ≡ link.Open → Moved b (after_flow c active b) [] []
flow_moved c active b e =
    let to : Wire = noted c (method.Channel (channel.FlowOk active)) (record b { phases = with_channel c (phase.Open (not active)) b.phases }) in
    elim (is_open (state_of c b)) as (λ t. Moved b (cond t to b) [] []) [
      | true ↦ stays b _ refl (λ q. quiet_live c (phase.Open (not active)) b.link b.phases b.contents b.contents (λ d n. refl) q (up_by b.link e) refl)
      | false ↦ stays b b refl (λ q. q)
    ]

failed_moved : (c tag current : ℕ) (z : Settlement) (b : Wire) → b.link ≡ link.Open → Hears b (incoming.Settlement c z) (record_.Refused (error.PreconditionFailed tag current))
failed_moved c tag current z b e = elim (is_open (state_of c b)) as (λ t. Moved b (cond t (noted c (session_close z.kind) (closing c closer.Session b)) b) (ended_in (cond t (close_marks c closer.Session) [])) []) [
  | true ↦ stays b _ refl (λ q. quiet_live c (phase.Closing closer.Session false) b.link b.phases b.contents b.contents (λ d n. refl) q (up_by b.link e) refl)
  | false ↦ stays b b refl (λ q. q)
]

module _ (class number : ℕ) where
  abbrev no : Record
  no = refused class number

  unreceived : (b : Wire) (i : Incoming) → Hears b i no
  unreceived b i = falls _ b _ refl

  when_moved : (t : Bool) (b : Wire) (i : Incoming) → (t ≡ true → Hears b i record_.Received) → Hears b i (when t no)
  when_moved true b i h = h refl
  when_moved false b i h = unreceived b i

  settlement_moved : (c : ℕ) (z : Settlement) (readings : Readings) (b : Wire) → b.link ≡ link.Open → Hears b (incoming.Settlement c z) (cond (receives_on (state_of c b)) (settlement_record readings c z) no)
  settlement_moved c z readings b e = elim (receives_on (state_of c b)) as (λ t. Hears b (incoming.Settlement c z) (cond t (settlement_record readings c z) no)) [
    | true ↦ elim (readings.selected c) as (λ t. Hears b (incoming.Settlement c z) (cond t (cond (z.multiple || readings.pending c z.tag) record_.Received (record_.Refused (error.PreconditionFailed z.tag (readings.last c)))) record_.Passed)) [
      | true ↦ elim (z.multiple || readings.pending c z.tag) as (λ t. Hears b (incoming.Settlement c z) (cond t record_.Received (record_.Refused (error.PreconditionFailed z.tag (readings.last c))))) [
        | true ↦ stays b b refl (λ q. q)
        | false ↦ failed_moved c z.tag (readings.last c) z b e
      ]
      | false ↦ stays b b refl (λ q. q)
    ]
    | false ↦ unreceived b (incoming.Settlement c z)
  ]

  up_moved : (b : Wire) (readings : Readings) (i : Incoming) → b.link ≡ link.Open → Hears b i (incoming_up b readings no i)
  up_moved b readings (incoming.Reply c k a) e = when_moved (receives_reply c k b) b (incoming.Reply c k a) (λ h. stays b _ refl (reply_moved (opens k) c b (up_by b.link e)))
  up_moved b readings (incoming.Settlement c z) e = settlement_moved c z readings b e
  up_moved b readings (incoming.Content c p) e = when_moved (receives_part c p b) b (incoming.Content c p) (λ h. part_moved c p b h)
  up_moved b readings (incoming.Consumer c p) e = when_moved (receives_consumer c p b) b (incoming.Consumer c p) (λ h. consumer_moved c p b e)
  up_moved b readings (incoming.Flow c active) e = when_moved (receives_on (state_of c b)) b (incoming.Flow c active) (λ h. flow_moved c active b e)
  up_moved b readings (incoming.ChannelClose c code) e = when_moved (receives_close (state_of c b)) b (incoming.ChannelClose c code) (λ h. ended_moved c (after_broker_close (phase_of c b)) b _ refl refl refl)
  up_moved b readings (incoming.ChannelCloseOk c) e = when_moved (receives_close_ok (state_of c b)) b (incoming.ChannelCloseOk c) (λ h. close_ok_moved c (phase_of c b) b refl h)
  up_moved b readings (incoming.ConnectionClose code) e = subst (λ l. Moved b (after_connection_close l b) (ended_in (ends_all (error.ProtocolError code) b)) []) (sym e) (falls (error.ProtocolError code) b _ refl)
  up_moved b readings incoming.ConnectionCloseOk e = unreceived b incoming.ConnectionCloseOk
  up_moved b readings incoming.Other e = unreceived b incoming.Other

  down_moved : (l : ConnectionPhase) (b : Wire) (i : Incoming) → b.link ≡ l → is_up l ≡ false → b.phases ≡ [] → Hears b i (cond (receives_down l i) record_.Received record_.Passed)
  down_moved link.Open b i e d none = absurd cc
  down_moved link.Closed b i e d none = stays b b refl (λ q. q)
  down_moved link.Lost b i e d none = stays b b refl (λ q. q)
  down_moved (link.Closing x) b incoming.ConnectionCloseOk e d none = stays b _ refl (quiet_down b.link link.Closed b.phases b.phases b.contents (rw e refl))
  down_moved (link.Closing stage.Crossed) b (incoming.ConnectionClose code) e d none = stays b b refl (λ q. q)
  down_moved (link.Closing stage.Sent) b (incoming.ConnectionClose code) e d none =
      let shut : is_up b.link ≡ false = rw e refl in
      let D : ConnectionPhase → List ℕ → Type 0 = λ l cs. Moved b (after_connection_close l b) cs [] in
      subst (D b.link) (no_ends (error.ProtocolError code) b none) (subst (λ l. D l []) (sym e) (stays b _ refl (quiet_down b.link (link.Closing stage.Crossed) b.phases b.phases b.contents shut)))
  down_moved (link.Closing stage.Queued) b (incoming.ConnectionClose code) e d none =
      let D : ConnectionPhase → Type 0 = λ l. Moved b (after_connection_close l b) (ended_in (ends_all (error.ProtocolError code) b)) [] in
      subst D (sym e) (falls (error.ProtocolError code) b _ refl)
  down_moved (link.Closing x) b (incoming.Reply c k a) e d none = stays b b refl (λ q. q)
  down_moved (link.Closing x) b (incoming.Settlement c z) e d none = stays b b refl (λ q. q)
  down_moved (link.Closing x) b (incoming.Content c p) e d none = stays b b refl (λ q. q)
  down_moved (link.Closing x) b (incoming.Consumer c p) e d none = stays b b refl (λ q. q)
  down_moved (link.Closing x) b (incoming.Flow c active) e d none = stays b b refl (λ q. q)
  down_moved (link.Closing x) b (incoming.ChannelClose c code) e d none = stays b b refl (λ q. q)
  down_moved (link.Closing x) b (incoming.ChannelCloseOk c) e d none = stays b b refl (λ q. q)
  down_moved (link.Closing x) b incoming.Other e d none = stays b b refl (λ q. q)

  incoming_moved : (l : ConnectionPhase) (b : Wire) (readings : Readings) (i : Incoming) → b.link ≡ l → IsShut b → Hears b i (incoming_record b readings no i)
  incoming_moved l b readings i e shut = subst (Hears b i) (sym (incoming_is class number b readings i l e)) (elim (is_up l) as (λ t. is_up l ≡ t → Hears b i (cond t (incoming_up b readings no i) (cond (receives_down l i) record_.Received record_.Passed))) [
    | true ↦ λ u. up_moved b readings i (e ∙ up_open l u)
    | false ↦ λ u. down_moved l b i e u (shut (ap is_up e ∙ u))
  ] refl)

-- ---- every event

lost_moved : (b : Wire) → IsShut b → Moved b (after_lost b) (ended_in (ends_all error.ConnectionLost b)) []
lost_moved b shut = elim (is_lost b.link) as (λ t. is_lost b.link ≡ t → Moved b (cond t b (down link.Lost b)) (ended_in (ends_all error.ConnectionLost b)) []) [
  | true ↦ λ h. subst (λ cs. Moved b b cs []) (no_ends error.ConnectionLost b (shut (lost_down b.link h))) (stays b b refl (λ q. q))
  | false ↦ λ h. falls error.ConnectionLost b _ refl
] refl

quietly : (b : Wire) (cs : List ℕ) → cs ≡ [] → Moved b b cs []
quietly b cs none = subst (λ ds. Moved b b ds []) (sym none) (stays b b refl (λ q. q))

event_moved : (b : Wire) (readings : Readings) (e : Event) (ms : List ContentMark) → IsShut b → Expects b ms → Expects (after_event b e (record_of b readings e)) (ms ++ content_marks b e (record_of b readings e))
event_moved b readings (event.Call c k) ms shut x =
    let a : Asked = asked_by k (record_of b readings (event.Call c k)) in
    inboxed (asking_deliveries c a b) (asked_wire c a b) _ (asked_moved c a b ms x)
event_moved b readings (event.Next flow) ms shut x =
    let r : Record = record_of b readings (event.Next flow) in
    subst (λ cs. Moved b (after_event b (event.Next flow) r) cs []) (sym (left_quiet (handed_as r b))) (λ xs y. sent_moved (handed_as r b) _ xs (record { follows = y.follows; quiet = y.quiet })) ms x
event_moved b readings (event.Receive f) ms shut x =
    let i : Incoming = incoming_of f in
    let r : Record = incoming_record b readings (refused (frame_class f) (frame_method f)) i in
    inboxed (incoming_deliveries i r b) (incoming_wire i r b) _ (incoming_moved (frame_class f) (frame_method f) b.link b readings i refl shut ms x)
event_moved b readings (event.PollTicket n) ms shut x = stays b b refl (λ q. q) ms x
event_moved b readings (event.PollConfirm n) ms shut x = quietly b _ (taken_quiet (is_confirmed (readings.confirm n)) n) ms x
event_moved b readings (event.PollWait c) ms shut x = quietly b _ (drained_quiet (is_returned (wait_record c b readings)) c) ms x
event_moved b readings (event.AsideTicket n) ms shut x = stays b b refl (λ q. q) ms x
event_moved b readings (event.AsideConfirm n) ms shut x = quietly b _ (laid_quiet (is_aside (readings.confirm_aside n)) n) ms x
event_moved b readings (event.PollConsumer n) ms shut x = inboxed (deliveries.Polled n ∷ []) b _ (stays b b refl (λ q. q) ms x)
event_moved b readings (event.Acker n k) ms shut x = inboxed (acker_deliveries n k b) (acked_wire (usable_at n b) k b) _ (acked_moved (usable_at n b) k b ms x)
event_moved b readings (event.Delegate n) ms shut x = inboxed (delegate_deliveries n b) b _ (stays b b refl (λ q. q) ms x)
event_moved b readings (event.DropConsumer n) ms shut x = inboxed (drop_deliveries n b) (after_drop n b) _ (dropped_moved (consumer_at n b.deliveries.subscriptions) b ms x)
event_moved b readings event.NextJob ms shut x = inboxed (job_deliveries b) b _ (stays b b refl (λ q. q) ms x)
event_moved b readings (event.State c) ms shut x = stays b b refl (λ q. q) ms x
event_moved b readings event.Lost ms shut x = inboxed (lost_deliveries b) (after_lost b) _ (lost_moved b shut ms x)

-- ---- every list of events

record Run (n : ℕ) (h : History) (ms : List ContentMark) : Type 0 where
  shut : IsShut (past n h).wire
  expects : Expects (past n h).wire ms

expects_run : (n : ℕ) (h : History) (es : List Event) (ms : List ContentMark) → Run n h ms → Run n (h ++ zip es (run_from n h es)) (ms ++ contents_on (past n h) (zip es (run_from n h es)))
expects_run n h [] ms x = let P : History → Type 0 = λ k. Run n k (ms ++ []) in let Q : List ContentMark → Type 0 = λ ys. Run n h ys in subst P (sym (append-nil h)) (subst Q (sym (append-nil ms)) x)
expects_run n h (e ∷ es) ms x =
    let before : Past = past n h in
    let readings : Readings = readings_of before.confirms before.tickets in
    let r : Record = rec n h e in
    let h' : History = h ++ (e, r) ∷ [] in
    let new : List ContentMark = content_marks before.wire e r in
    let long : past n h' ≡ longer before e r = past-push _ h e r in
    let more : History = zip es (run_from n h' es) in
    let S : Past → Type 0 = λ q. IsShut q.wire in
    let T : Past → Type 0 = λ q. Expects q.wire (ms ++ new) in
    let step : Run n h' (ms ++ new) = record { shut = subst S (sym long) (shut-next before.wire readings e x.shut); expects = subst T (sym long) (event_moved before.wire readings e ms x.shut x.expects) } in
    let rest : Run n (h' ++ more) ((ms ++ new) ++ contents_on (past n h') more) = expects_run n h' es (ms ++ new) step in
    let H : History → Type 0 = λ k. Run n k (ms ++ (new ++ contents_on (longer before e r) more)) in
    let M : List ContentMark → Type 0 = λ ys. Run n (h' ++ more) ys in
    subst H (append_assoc h ((e, r) ∷ []) more) (subst M (ap (λ q. (ms ++ new) ++ contents_on q more) long ∙ append_assoc ms new (contents_on (longer before e r) more)) rest)

run_expects : (n : ℕ) (es : List Event) → Run n (zip es (run n es)) (content_history n (zip es (run n es)))
run_expects n es = expects_run n [] es [] (record { shut = λ _. refl; expects = record { follows = λ c. refl; quiet = λ c dead. refl } })

pub contents_follow : (n : ℕ) (es : List Event) → Follows (content_history n (zip es (run n es))) (world_after n es).wire.contents
contents_follow n es = let P : Wire → Type 0 = λ b. Follows (content_history n (zip es (run n es))) b.contents in subst P (sym (stands_after n es).wire) (run_expects n es).expects.follows

pub contents_live : (n : ℕ) (es : List Event) (c : ℕ) → is_live_on (world_after n es).wire.link (at_channel c (world_after n es).wire.phases) ≡ false → expected_on c (world_after n es).wire.contents ≡ []
contents_live n es = let P : Wire → Type 0 = λ b. Quiet b.link b.phases b.contents in subst P (sym (stands_after n es).wire) (run_expects n es).expects.quiet
