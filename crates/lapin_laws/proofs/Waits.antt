-- What waits in the publishes is what is queued in the confirms.
use Rattle.std.proofs.Common.{◌≡◌, ℕ, ◌+◌, Bool, true, false, cond, not, List, [], ◌∷◌, ◌++◌, length, refl, sym, subst, ◌∙◌, ap, Option, Some, None, Err, ◌&&◌}
use Rattle.std.specs.List.{fold, find}
use Rattle.std.specs.Option.{option_map}
use Rattle.lapin_tables.specs.Numbered.{under}
use Rattle.lapin_types.specs.declared.event.Event.{Event}
use Rattle.lapin_types.specs.declared.event.Event.TheVariants as event
use Rattle.lapin_types.specs.declared.record.Record.{Record}
use Rattle.lapin_types.specs.declared.record.Record.TheVariants as record_
use Rattle.lapin_types.specs.declared.leaving.Publish.{Publish}
use Rattle.lapin_types.specs.declared.leaving.Left.{Left}
use Rattle.lapin_types.specs.Types.{Error}
use Rattle.lapin_types.specs.Types.error
use Rattle.lapin_types.specs.Types.method
use Rattle.lapin_types.specs.Types.channel
use Rattle.lapin_rules.specs.declared.calls.Asked.{Asked}
use Rattle.lapin_rules.specs.declared.calls.Asked.TheVariants as ask
use Rattle.lapin_rules.specs.declared.phases.ChannelPhase.{ChannelPhase}
use Rattle.lapin_rules.specs.declared.phases.ChannelPhase.TheVariants as phase
use Rattle.lapin_rules.specs.declared.phases.ConnectionPhase.{ConnectionPhase}
use Rattle.lapin_rules.specs.declared.phases.ConnectionPhase.TheVariants as link
use Rattle.lapin_rules.specs.declared.phases.CloseStage.TheVariants as stage
use Rattle.lapin_rules.specs.declared.phases.Closer.TheVariants as closer
use Rattle.lapin_rules.specs.declared.broker_frames.Incoming.{Incoming}
use Rattle.lapin_rules.specs.declared.broker_frames.Incoming.TheVariants as incoming
use Rattle.lapin_rules.specs.ConfirmMarks.{ConfirmMark}
use Rattle.lapin_rules.specs.ConfirmMarks as mark
use Rattle.lapin_rules.specs.Words.{with_channel, without_first}
use Rattle.lapin_rules.specs.Frames.{MethodEntry, RestEntry, left_publish}
use Rattle.lapin_rules.specs.Leaving.{may_begin, handed_of, left_of}
use Rattle.lapin_rules.specs.Phases.{is_up, is_lost}
use Rattle.lapin_rules.specs.Incoming.{incoming_of}
use Rattle.lapin_rules.specs.Select.{is_select}
use Rattle.lapin_rules.specs.Ends.{ends_all, end_with, live_channels, down}
use Rattle.lapin_rules.specs.Wire.{Wire, state_of, phase_of, is_open, noted, queued}
use Rattle.lapin_rules.specs.ChannelClose.{closing, close_marks, close_ok_end, after_close_ok}
use Rattle.lapin_rules.specs.ConnectionClose.{after_connection_close, after_connection_close_ok}
use Rattle.lapin_rules.specs.Settlement.{session_close}
use Rattle.lapin_rules.specs.Loss.{after_lost, lost_marks}
use Rattle.lapin_rules.specs.Polls.{is_confirmed, is_returned, is_aside}
use Rattle.lapin_rules.specs.Asking.{is_allowed, asked_by, after_call, after_asking, call_marks, asking_marks}
use Rattle.lapin_rules.specs.Handing.{sent, handed_as, began_on, left_marks}
use Rattle.lapin_rules.specs.Receiving.{after_received, received_marks, after_failed, failed_marks, after_refused, refused_marks, after_incoming, incoming_marks}
use Rattle.lapin_rules.specs.History.{History}
use Rattle.lapin_confirm.specs.Answers.{answer_in, answer_with, is_unknown}
use Rattle.lapin_confirm.specs.PublishStates.{is_queued, is_resolved, cell_with}
use Rattle.lapin_confirm.specs.ConfirmState.{ConfirmState, return_lists_at, message_of}
use Rattle.lapin_confirm.specs.Machine.{after_mark}
use Rattle.lapin_confirm.specs.Aside.{is_set_aside, kept_by, laid_by}
use Rattle.lapin_confirm.specs.Drain.{remaining, over_aside}
use Rattle.lapin_types.specs.declared.message.BasicReturnMessage.{BasicReturnMessage}
use Rattle.lapin_types.specs.Types.basic
use Rattle.lapin_types.specs.declared.acker_call.AckerCall.{AckerCall}
use Rattle.lapin_rules.specs.declared.broker_frames.ContentPart.{ContentPart}
use Rattle.lapin_rules.specs.declared.broker_frames.ContentPart.TheVariants as part
use Rattle.lapin_content.specs.declared.start.Start.{Start}
use Rattle.lapin_content.specs.declared.start.Start.TheVariants as start
use Rattle.lapin_content.specs.declared.start.Whole.{Whole}
use Rattle.lapin_consumer.specs.Subscriptions.{Consumer, consumer_at}
use Rattle.lapin_rules.specs.Content.{after_part, part_marks, start_marks, whole_marks, whole_on}
use Rattle.lapin_rules.specs.declared.broker_frames.ConsumerPart.{ConsumerPart}
use Rattle.lapin_rules.specs.declared.broker_frames.ConsumerPart.TheVariants as consumer
use Rattle.lapin_rules.specs.Ackers.{acker_method, usable_at, acked_wire}
use Rattle.lapin_rules.specs.Consumers.{after_consumer, lets_go_of, cancel_noted, after_let_go}
use Rattle.lapin_confirm.specs.declared.cell.Cell.{Cell}
use Rattle.lapin_confirm.specs.declared.cell.Cell.TheVariants as cell
use Rattle.lapin_machine.specs.Stands.{Stands}
use Rattle.lapin_machine.specs.World.{World, new_world, next, told_by, outcome_record, next_anew, told_anew}
use Rattle.lapin_machine.proofs.Brought.{none_begins}
use Rattle.lapin_machine.proofs.Back.{given_none, next_none, still_none as still_unreturned}
use Rattle.lapin_laws.specs.Runs.{world_after}
use Rattle.lapin_laws.specs.Queue.{queued_in, waiting}
use Rattle.lapin_laws.proofs.Alive.{AreAlive, none_alive}
use Rattle.lapin_laws.proofs.Cuts.{live-in}
use Rattle.lapin_laws.proofs.Places.{Place, place_of, waiting-both}
use Rattle.lapin_laws.proofs.Moving.{start_sound}
use Rattle.lapin_laws.proofs.Queue.{still, gone_queue, less_queue, out, joined, settled_queue, closed_queue, ended_queue, AreOn, ends_queue}
use Rattle.lapin_laws.proofs.Traces.{stands_new, stands_next}
use Rattle.lapin_laws.proofs.Kept.{Kept, kept-next}
use Rattle.lapin_rules.proofs.PhaseLaws.{lost_down}

-- these confirms are queued for these publishes
abbrev Waits : List Publish → ConfirmState → Type 0
Waits ps k = queued_in k.publish_states.cells ≡ waiting ps

all_on : (l : ConnectionPhase) (ps : List (ℕ × ChannelPhase)) (qs : List Publish) → AreAlive l ps qs → AreOn (live_channels ps) qs
all_on l ps [] a = tt
all_on l ps (q ∷ qs) a = (live-in q.channel ps a.0.1, all_on l ps qs a.1)

choose_waits : (t : Bool) (x y : Wire) (ms ns : List ConfirmMark) (k : ConfirmState) → Waits x.publishes (fold after_mark k ms) → Waits y.publishes (fold after_mark k ns) → Waits (cond t x y).publishes (fold after_mark k (cond t ms ns))
choose_waits true x y ms ns k h g = h
choose_waits false x y ms ns k h g = g

same_waits : (t : Bool) (x y : Wire) (k : ConfirmState) → Waits x.publishes k → Waits y.publishes k → Waits (cond t x y).publishes k
same_waits true x y k h g = h
same_waits false x y k h g = g

select_waits : (t : Bool) (m : ConfirmMark) (ps : List Publish) (k : ConfirmState) → (after_mark k m).publish_states.cells ≡ k.publish_states.cells → Waits ps k → Waits ps (fold after_mark k (cond t (m ∷ []) []))
select_waits true m ps k e h = ap queued_in e ∙ h
select_waits false m ps k e h = h

module _ (b : Wire) (k : ConfirmState) (alive : AreAlive b.link b.phases b.publishes) (count : b.published ≡ length k.publish_states.cells) (h : Waits b.publishes k) where
  falls : (x : Error) → Waits [] (fold after_mark k (ends_all x b))
  falls x = ends_queue x (live_channels b.phases) b.publishes k (all_on b.link b.phases b.publishes alive) h

  none : is_up b.link ≡ false → b.publishes ≡ []
  none d = none_alive b.link b.phases b.publishes d alive

  -- ---- calls

  called : (c : ℕ) (a : Asked) → Waits (after_call c a b).publishes (fold after_mark k (call_marks c a b))
  called c ask.Open = less_queue (return_lists_at c k).aside (remaining k.publish_states.cells k.origins) ∙ h
  called c (ask.CloseChannel code text) = closed_queue c _ b.publishes k.publish_states h
  called c (ask.CloseConnection code text) = falls _
  called c (ask.Publish exchange key o payload properties) = joined k.publish_states.cells b.publishes _ (ap (λ n. n + 1) count) h
  called c (ask.Consume m tag queue o) = h
  called c (ask.Limit limit) = h
  called c ask.Nothing = h
  called c (ask.Method row) = select_waits (is_select row.method) (mark.SelectCalled c) b.publishes k refl h

  asked_waits : (c : ℕ) (a : Asked) → Waits (after_asking c a b).publishes (fold after_mark k (asking_marks c a b))
  asked_waits c a = choose_waits (is_allowed a (state_of c b)) (after_call c a b) b (call_marks c a b) [] k (called c a) h

  -- ---- frames of the broker

  closed_waits : (c : ℕ) (p : ChannelPhase) → Waits (after_close_ok c p b).publishes (fold after_mark k (end_with c (close_ok_end p)))
  closed_waits c phase.Closed = h
  closed_waits c phase.Opening = h
  closed_waits c (phase.Open paused) = h
  closed_waits c (phase.Closing who x) = ended_queue c _ b.publishes k.publish_states h
  closed_waits c phase.Crossed = h

  -- of a connection that is not open nothing waits
  still_none : (x : Error) → is_up b.link ≡ false → Waits b.publishes (fold after_mark k (ends_all x b))
  still_none x d = falls x ∙ ap waiting (sym (none d))

  close_waits : (code : ℕ) (l : ConnectionPhase) → b.link ≡ l → Waits (after_connection_close l b).publishes (fold after_mark k (ends_all (error.ProtocolError code) b))
  close_waits code link.Open e = falls _
  close_waits code (link.Closing stage.Queued) e = falls _
  close_waits code (link.Closing s) e = still_none _ (ap is_up e)
  close_waits code link.Closed e = falls _
  close_waits code link.Lost e = falls _

  close_ok_waits : (l : ConnectionPhase) → b.link ≡ l → Waits (after_connection_close_ok b).publishes k
  close_ok_waits link.Open e = rw e h
  close_ok_waits (link.Closing stage.Queued) e = let empty : b.publishes ≡ [] = none (ap is_up e) in rw e (h ∙ ap waiting empty)
  close_ok_waits (link.Closing s) e = rw e h
  close_ok_waits link.Closed e = rw e h
  close_ok_waits link.Lost e = rw e h

  -- a whole content is nothing to tags and outcomes
  start_waits : (c : ℕ) (x : Start) (y : Whole) → Waits b.publishes (fold after_mark k (start_marks c x y))
  start_waits c (start.Return code text exchange key) y = h
  start_waits c (start.Get ticket tag exchange key redelivered n) y = h
  start_waits c (start.Deliver consumer tag exchange key redelivered) y = h

  whole_waits : (c : ℕ) (y : Option Whole) → Waits b.publishes (fold after_mark k (whole_marks c y))
  whole_waits c None = h
  whole_waits c (Some y) = start_waits c y.start y

  part_waits : (c : ℕ) (p : ContentPart) → Waits (after_part c p b).publishes (fold after_mark k (part_marks c p b))
  part_waits c (part.GetOk x) = h
  part_waits c (part.Return x) = h
  part_waits c (part.Deliver tag x) = h
  part_waits c (part.Header x) = whole_waits c (whole_on c (part.Header x) b)
  part_waits c (part.Body bytes) = whole_waits c (whole_on c (part.Body bytes) b)

  consumer_waits : (c : ℕ) (p : ConsumerPart) → Waits (after_consumer c p b).publishes k
  consumer_waits c (consumer.ConsumeOk tag) = h
  consumer_waits c (consumer.CancelOk tag) = h
  consumer_waits c consumer.RecoverOk = h
  consumer_waits c (consumer.Cancel tag nowait) = same_waits (is_open (state_of c b) && not nowait) (noted c (method.Basic (basic.CancelOk tag)) b) b k h h

  received : (i : Incoming) → Waits (after_received i b).publishes (fold after_mark k (received_marks i b))
  received (incoming.Reply c x a) = h
  received (incoming.Settlement c z) = settled_queue c z k.publish_states.cells ∙ h
  received (incoming.Content c p) = part_waits c p
  received (incoming.Consumer c p) = consumer_waits c p
  received (incoming.Flow c active) = same_waits (is_open (state_of c b)) (noted c (method.Channel (channel.FlowOk active)) (record b { phases = with_channel c (phase.Open (not active)) b.phases })) b k h h
  received (incoming.ChannelClose c code) = ended_queue c _ b.publishes k.publish_states h
  received (incoming.ChannelCloseOk c) = closed_waits c (phase_of c b)
  received (incoming.ConnectionClose code) = close_waits code b.link refl
  received incoming.ConnectionCloseOk = close_ok_waits b.link refl
  received incoming.Other = h

  failed : (i : Incoming) → Waits (after_failed i b).publishes (fold after_mark k (failed_marks i b))
  failed (incoming.Settlement c z) = choose_waits (is_open (state_of c b)) (noted c (session_close z.kind) (closing c closer.Session b)) b (close_marks c closer.Session) [] k (closed_queue c _ b.publishes k.publish_states h) h
  failed _ = h

  refused : (i : Incoming) (x : Error) → Waits (after_refused i x b).publishes (fold after_mark k (refused_marks i x b))
  refused i (error.UnexpectedFrame class number) = falls _
  refused i (error.PreconditionFailed tag current) = failed i
  refused i _ = h

  incoming_waits : (i : Incoming) (r : Record) → Waits (after_incoming i r b).publishes (fold after_mark k (incoming_marks i r b))
  incoming_waits i (record_.Refused x) = refused i x
  incoming_waits i record_.Received = received i
  incoming_waits i _ = h

  -- ---- ackers, and consumers that are let go

  acked_waits : (o : Option (ℕ × ℕ)) (x : AckerCall) → Waits (acked_wire o x b).publishes k
  acked_waits None x = h
  acked_waits (Some y) x = same_waits (is_open (state_of y.0 b)) (queued y.0 (acker_method x y.1) None b) b k h h

  dropped_waits : (o : Option Consumer) → Waits (after_let_go o b).publishes k
  dropped_waits None = h
  dropped_waits (Some x) = same_waits (lets_go_of x b) (cancel_noted x b) b k h h

  -- ---- a loss

  lost_waits : Waits (after_lost b).publishes (fold after_mark k (lost_marks b))
  lost_waits = elim (is_lost b.link) as (λ t. is_lost b.link ≡ t → Waits (cond t b (down link.Lost b)).publishes (fold after_mark k (lost_marks b))) [
    | true ↦ λ e. still_none _ (lost_down b.link e)
    | false ↦ λ e. falls _
  ] refl

-- ---- a frame request

tagged_queued : (c : ℕ) (t : Option ℕ) → is_queued (Some (cell_with c t)) ≡ false
tagged_queued c None = refl
tagged_queued c (Some t) = refl

sent_publishes : (o : Option Left) (b : Wire) → (sent o b).publishes ≡ b.publishes
sent_publishes None b = refl
sent_publishes (Some l) b = refl

left_waits : (n : ℕ) (t : ℕ → Bool) (rest : List RestEntry) (methods : List MethodEntry) (publishes : List Publish) (k : ConfirmState) → Waits publishes k → Waits (left_of n t rest methods publishes).publishes (fold after_mark k (left_marks (handed_of t rest methods publishes)))
left_waits n t (f ∷ fs) methods publishes k h = h
left_waits n t [] (m ∷ ms) publishes k h = select_waits (is_select m.method) (mark.SelectLeft m.channel) publishes k refl h
left_waits n t [] [] publishes k h = at (find (may_begin t) publishes) refl
  where
    at : (o : Option Publish) → find (may_begin t) publishes ≡ o → Waits (without_first (may_begin t) publishes) (fold after_mark k (left_marks (option_map left_publish o)))
    at None e = h ∙ ap waiting (sym (none_begins (may_begin t) publishes e))
    at (Some p) e =
        let place : Place (may_begin t) p publishes = place_of (may_begin t) p publishes e in
        out p.confirm p.channel k.publish_states.cells (waiting place.before) (waiting place.behind) _ (tagged_queued p.channel _) (h ∙ ap waiting place.all ∙ waiting-both place.before (p ∷ place.behind))
        ∙ sym (ap waiting place.stay ∙ waiting-both place.before place.behind)

-- ---- a poll, a wait, or setting aside: of what is queued all is kept

known : (a u : Bool) (m : Option BasicReturnMessage) (o : Option Cell) → is_confirmed (outcome_record (cond a (Err error.AlreadyTaken) (answer_with m (cond u (Err error.UnknownTicket) (answer_in o))))) ≡ true → is_queued o ≡ false
known true u m o h = cc
known false true m o h = cc
known false false m None h = refl
known false false m (Some (cell.Queued d)) h = cc
known false false m (Some (cell.Pending d t)) h = refl
known false false m (Some (cell.Resolved x)) h = refl

taken_waits : (t : Bool) (n : ℕ) (ps : List Publish) (k : ConfirmState) → (t ≡ true → is_queued (under n k.publish_states.cells) ≡ false) → Waits ps k → Waits ps (fold after_mark k (cond t (mark.Taken n ∷ []) []))
taken_waits true n ps k may h = still n k.publish_states.cells None (may refl) refl ∙ h
taken_waits false n ps k may h = h

drained_waits : (t : Bool) (c : ℕ) (ps : List Publish) (k : ConfirmState) → Waits ps k → Waits ps (fold after_mark k (cond t (mark.Drained c ∷ []) []))
drained_waits true c ps k h = less_queue (over_aside c k) (remaining k.publish_states.cells k.origins) ∙ h
drained_waits false c ps k h = h

put_waits : (n : ℕ) (ps : List Publish) (k : ConfirmState) → Waits ps k → Waits ps (after_mark k (mark.SetAside n))
put_waits n ps k h =
    elim (is_resolved (under n k.publish_states.cells)) as (λ b. is_resolved (under n k.publish_states.cells) ≡ b → Waits ps (cond b (kept_by n k) (laid_by n k)))
    [ true ↦ λ e. gone_queue n k.publish_states.cells e ∙ h | false ↦ λ e. h ] refl

laid_waits : (t : Bool) (n : ℕ) (ps : List Publish) (k : ConfirmState) → Waits ps k → Waits ps (fold after_mark k (cond t (mark.SetAside n ∷ []) []))
laid_waits true n ps k h = put_waits n ps k h
laid_waits false n ps k h = h

-- ---- every event

waits-anew : (n : ℕ) (w : World) (e : Event) → Kept n w.wire → w.wire.published ≡ length w.confirm_state.publish_states.cells → Waits w.wire.publishes w.confirm_state → Waits (next_anew w e).wire.publishes (next_anew w e).confirm_state
waits-anew n w (event.Call c x) kept count h = asked_waits w.wire w.confirm_state kept.sound.publishes count h c (asked_by x (told_anew w (event.Call c x)))
waits-anew n w (event.Next flow) kept count h =
    let t : ℕ → Bool = began_on (told_anew w (event.Next flow)) in
    let o : Option Left = handed_as (told_anew w (event.Next flow)) w.wire in
    let left : Waits (left_of w.wire.frame_max t w.wire.rest w.wire.methods w.wire.publishes).publishes (fold after_mark w.confirm_state (left_marks o)) = left_waits w.wire.frame_max t w.wire.rest w.wire.methods w.wire.publishes w.confirm_state h in
    left ∙ ap waiting (sym (sent_publishes o _))
waits-anew n w (event.Receive f) kept count h = incoming_waits w.wire w.confirm_state kept.sound.publishes count h (incoming_of f) (told_anew w (event.Receive f))
waits-anew n w (event.PollTicket m) kept count h = h
waits-anew n w (event.PollConfirm m) kept count h = taken_waits (is_confirmed (told_anew w (event.PollConfirm m))) m w.wire.publishes w.confirm_state (known (is_set_aside m w.confirm_state) (is_unknown m w.confirm_state.publish_states) (message_of m w.confirm_state) (under m w.confirm_state.publish_states.cells)) h
waits-anew n w (event.PollWait c) kept count h = drained_waits (is_returned (told_anew w (event.PollWait c))) c w.wire.publishes w.confirm_state h
waits-anew n w (event.AsideTicket m) kept count h = h
waits-anew n w (event.AsideConfirm m) kept count h = laid_waits (is_aside (told_anew w (event.AsideConfirm m))) m w.wire.publishes w.confirm_state h
waits-anew n w (event.PollConsumer m) kept count h = h
waits-anew n w (event.Acker m x) kept count h = acked_waits w.wire w.confirm_state kept.sound.publishes count h (usable_at m w.wire) x
waits-anew n w (event.Delegate m) kept count h = h
waits-anew n w (event.DropConsumer m) kept count h = dropped_waits w.wire w.confirm_state kept.sound.publishes count h (consumer_at m w.wire.deliveries.subscriptions)
waits-anew n w event.NextJob kept count h = h
waits-anew n w (event.State c) kept count h = h
waits-anew n w event.Lost kept count h = lost_waits w.wire w.confirm_state kept.sound.publishes count h

waits_from : (n : ℕ) (h : History) (w : World) (es : List Event) → w.returned ≡ None → Stands n h w → Kept n w.wire → Waits w.wire.publishes w.confirm_state → Waits (fold next w es).wire.publishes (fold next w es).confirm_state
waits_from n h w [] none stands kept q = q
waits_from n h w (e ∷ es) none stands kept q =
    let count : w.wire.published ≡ length w.confirm_state.publish_states.cells = stands.confirms.published ∙ sym stands.confirms.confirm_state.count in
    let P : World → Type 0 = λ v. Waits v.wire.publishes v.confirm_state in
    waits_from n (h ++ (e, told_by w e) ∷ []) (next w e) es (still_unreturned w e none) (stands_next n h w e (given_none w.returned e none) stands) (kept-next n w e kept) (subst P (sym (next_none w e none)) (waits-anew n w e kept count q))

pub waits_after : (n : ℕ) (es : List Event) → queued_in (world_after n es).confirm_state.publish_states.cells ≡ waiting (world_after n es).wire.publishes
waits_after n es = waits_from n [] (new_world n) es refl (stands_new n) (record { sound = start_sound n; shut = λ _. refl }) refl
