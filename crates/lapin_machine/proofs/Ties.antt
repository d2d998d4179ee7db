-- What ties a session's parts together is kept by every event.
use Rattle.std.proofs.Common.{◌≡◌, ℕ, ◌+◌, Bool, true, false, cond, not, ◌||◌, ◌&&◌, List, [], ◌∷◌, length, Option, Some, None, Err, refl, sym, ◌∙◌, ap, subst}
use Rattle.std.specs.List.{fold, filter}
use Rattle.lapin_types.specs.declared.event.Event.{Event}
use Rattle.lapin_types.specs.declared.event.Event.TheVariants as event
use Rattle.lapin_types.specs.declared.acker_call.AckerCall.{AckerCall}
use Rattle.lapin_types.specs.declared.leaving.Left.{Left}
use Rattle.lapin_types.specs.declared.leaving.Publish.{Publish}
use Rattle.lapin_types.specs.declared.record.Record.{Record}
use Rattle.lapin_types.specs.declared.record.Record.TheVariants as record_
use Rattle.lapin_types.specs.Types.{Error}
use Rattle.lapin_types.specs.declared.request.ReplyKind.TheVariants as reply_kind
use Rattle.lapin_types.specs.Types.error
use Rattle.lapin_tables.specs.ByChannel.{at_channel}
use Rattle.lapin_tables.specs.Numbered.{under}
use Rattle.lapin_rules.specs.ConfirmMarks.{ConfirmMark}
use Rattle.lapin_rules.specs.ConfirmMarks as mark
use Rattle.lapin_rules.specs.declared.calls.Asked.{Asked}
use Rattle.lapin_rules.specs.declared.calls.Asked.TheVariants as ask
use Rattle.lapin_rules.specs.declared.broker_frames.Incoming.{Incoming}
use Rattle.lapin_rules.specs.declared.broker_frames.Incoming.TheVariants as incoming
use Rattle.lapin_rules.specs.declared.marks.Settlement.{Settlement}
use Rattle.lapin_rules.specs.declared.phases.Closer.{Closer}
use Rattle.lapin_rules.specs.declared.phases.Closer.TheVariants as closer
use Rattle.lapin_rules.specs.declared.phases.ConnectionPhase.{ConnectionPhase}
use Rattle.lapin_rules.specs.declared.phases.CloseStage.{CloseStage}
use Rattle.lapin_rules.specs.declared.phases.ConnectionPhase.TheVariants as link
use Rattle.lapin_rules.specs.declared.phases.CloseStage.TheVariants as stage
use Rattle.lapin_rules.specs.declared.phases.ChannelPhase.{ChannelPhase}
use Rattle.lapin_rules.specs.declared.phases.ChannelPhase.TheVariants as phase
use Rattle.lapin_rules.specs.Words.{is_some, with_channel}
use Rattle.lapin_rules.specs.Readings.{Readings}
use Rattle.lapin_rules.specs.Incoming.{incoming_of, frame_class, frame_method}
use Rattle.lapin_rules.specs.Phases.{is_up, close_has_left}
use Rattle.lapin_rules.specs.Polls.{is_confirmed, is_returned, is_aside}
use Rattle.lapin_rules.specs.Leaving.{left_lists}
use Rattle.lapin_rules.specs.Drops.{is_off, publish_channel}
use Rattle.lapin_rules.specs.Wire.{Wire, state_of, phase_of, is_open, receives_on, lists_of, with_lists}
use Rattle.lapin_rules.specs.Asking.{asked_by, is_allowed, after_call, call_marks}
use Rattle.lapin_rules.specs.Ends.{ends, live_channels, end_with}
use Rattle.lapin_rules.specs.Loss.{after_lost}
use Rattle.lapin_rules.specs.Reply.{receives, receives_reply}
use Rattle.lapin_rules.specs.ChannelClose.{failed_at_close, receives_close, receives_close_ok, after_broker_close, close_ok_end, after_close_ok, failed_at_close_ok}
use Rattle.lapin_rules.specs.ConnectionClose.{failed_at_connection_close, unless_sent}
use Rattle.lapin_rules.specs.Unexpected.{refused, failed_at_unexpected}
use Rattle.lapin_rules.specs.Settlement.{settlement_record}
use Rattle.lapin_rules.specs.Receiving.{incoming_up, incoming_record, after_incoming, incoming_marks}
use Rattle.lapin_rules.specs.Handing.{sent, left_marks, handed_as, began_on}
use Rattle.lapin_confirm.specs.declared.cell.Cell.{Cell}
use Rattle.lapin_confirm.specs.declared.cell.Cell.TheVariants as cell
use Rattle.lapin_content.specs.declared.start.Start.{Start}
use Rattle.lapin_content.specs.declared.start.Start.TheVariants as start
use Rattle.lapin_content.specs.declared.start.Whole.{Whole}
use Rattle.lapin_types.specs.declared.message.BasicReturnMessage.{BasicReturnMessage}
use Rattle.lapin_rules.specs.declared.broker_frames.ContentPart.{ContentPart}
use Rattle.lapin_rules.specs.declared.broker_frames.ContentPart.TheVariants as part
use Rattle.lapin_rules.specs.Content.{receives_part, after_part, part_marks, start_marks, whole_marks, whole_on}
use Rattle.lapin_rules.specs.declared.broker_frames.ConsumerPart.{ConsumerPart}
use Rattle.lapin_rules.specs.declared.broker_frames.ConsumerPart.TheVariants as consumer
use Rattle.lapin_consumer.specs.Subscriptions.{Consumer, consumer_at}
use Rattle.lapin_rules.specs.Consumers.{receives_consumer, after_consumer, lets_go_of, cancel_noted, after_let_go}
use Rattle.lapin_rules.specs.Ackers.{acker_asked, usable_at, acked_wire}
use Rattle.lapin_confirm.specs.Answers.{answer_at, answer_in, answer_with, is_unknown}
use Rattle.lapin_confirm.specs.Aside.{is_set_aside, taken_answer}
use Rattle.lapin_confirm.specs.PublishStates.{closed_here, ended, is_resolved}
use Rattle.lapin_confirm.specs.ConfirmState.{ConfirmState, message_of}
use Rattle.lapin_confirm.specs.Machine.{after_mark}
use Rattle.lapin_outstanding.proofs.Waiting.{queue-closed, queue-ended}
use Rattle.lapin_machine.specs.Tied.{IsTied}
use Rattle.lapin_machine.specs.World.{World, next, next_anew, readings_of, outcome_record, told_anew}
use Rattle.lapin_machine.proofs.Back.{next_keeps}
use Rattle.lapin_machine.proofs.Keeping.{tied_opened, tied_closing, tied_ended, tied_closed, tied_down, tied_further, tied_dropped, tied_publish, tied_called, tied_leaves, tied_sent, tied_settled, tied_limited, tied_taken, tied_drained, tied_aside}
use Rattle.lapin_machine.proofs.Openings.{open_opening, receives_opening, reply_opening, tied_replied, tied_paused, close_ok_some, closed_over, crossed_over}
use Rattle.lapin_tables.proofs.Bools.{and_first}
use Rattle.lapin_confirm.proofs.Closing.{all-end}

abbrev T : Wire → ConfirmState → Type 0
T b k = IsTied b.link b.phases b.publishes k.publish_states

-- ---- which of two

choose_base : (t : Bool) (x y : Wire) (k : ConfirmState) → (t ≡ true → T x k) → T y k → T (cond t x y) k
choose_base t x y k h other = elim t as (λ s. t ≡ s → T (cond s x y) k) [ true ↦ λ e. h e | false ↦ λ e. other ] refl

choose_marks : (t : Bool) (x y : Wire) (ms : List ConfirmMark) (k : ConfirmState) → (t ≡ true → T x (fold after_mark k ms)) → T y k → T (cond t x y) (fold after_mark k (cond t ms []))
choose_marks t x y ms k h other = elim t as (λ s. t ≡ s → T (cond s x y) (fold after_mark k (cond s ms []))) [ true ↦ λ e. h e | false ↦ λ e. other ] refl

abbrev H : Incoming → Record → Wire → ConfirmState → Type 0
H i r b k = T (after_incoming i r b) (fold after_mark k (incoming_marks i r b))

choose_incoming : (t : Bool) (i : Incoming) (x y : Record) (b : Wire) (k : ConfirmState) → (t ≡ true → H i x b k) → H i y b k → H i (cond t x y) b k
choose_incoming t i x y b k h other = elim t as (λ s. t ≡ s → H i (cond s x y) b k) [ true ↦ λ e. h e | false ↦ λ e. other ] refl

-- ---- calls

-- this side closes a channel
closing_tied : (c : ℕ) (who : Closer) (b : Wire) (k : ConfirmState) → is_open (state_of c b) ≡ true → T b k → IsTied b.link (with_channel c (phase.Closing who false) b.phases) (filter (is_off publish_channel c) b.publishes) (closed_here c (failed_at_close who) k.publish_states)
closing_tied c who b k h t =
    let here = open_opening b.link c b.phases h in
    tied_closing b.link c who (failed_at_close who) b.phases b.publishes (filter (is_off publish_channel c) b.publishes) k.publish_states here.up here.some (queue-closed c (failed_at_close who) k.publish_states.cells b.publishes t.queued) t

call_tied : (c : ℕ) (a : Asked) (b : Wire) (k : ConfirmState) → b.published ≡ length k.publish_states.cells → T b k → is_allowed a (state_of c b) ≡ true → T (after_call c a b) (fold after_mark k (call_marks c a b))
call_tied c ask.Open b k n t h = tied_opened b.link c b.phases b.publishes k (closed_over b.link c b.phases h).0 t
call_tied c (ask.CloseChannel code text) b k n t h = closing_tied c closer.Application b k h t
call_tied c (ask.CloseConnection code text) b k n t h = tied_down b.link (link.Closing stage.Queued) failed_at_connection_close b.phases b.publishes k t
call_tied c (ask.Method row) b k n t h = tied_called b.link c row.method b.phases b.publishes k t
call_tied c (ask.Consume m tag queue o) b k n t h = t
call_tied c (ask.Limit limit) b k n t h = tied_limited b.link c limit b.phases b.publishes k.publish_states t
call_tied c ask.Nothing b k n t h = t
call_tied c (ask.Publish exchange key o payload properties) b k n t h =
    let p : Publish = record { confirm = b.published + 1; ticket = b.tickets + 1; channel = c; exchange = exchange; routing_key = key; options = o; payload = payload; properties = properties } in
    tied_publish b.link c b.phases b.publishes k.publish_states p (open_opening b.link c b.phases h).live (ap (λ i. i + 1) n) refl t

-- ---- frames that leave

sent_tied : (o : Option Left) (b : Wire) (k : ConfirmState) → T b k → T (sent o b) k
sent_tied None b k t = t
sent_tied (Some l) b k t = tied_sent l.frame b.link b.phases b.publishes k.publish_states t

-- ---- frames of the broker

unheard_tied : (b : Wire) (k : ConfirmState) → T b k → IsTied (link.Closing stage.Queued) [] [] (fold after_mark k (ends failed_at_unexpected (live_channels b.phases))).publish_states
unheard_tied b k t = tied_down b.link (link.Closing stage.Queued) failed_at_unexpected b.phases b.publishes k t

-- the opening of a channel ends
ended_tied : (c : ℕ) (p : ChannelPhase) (e : Error) (b : Wire) (k : ConfirmState) → is_up b.link ≡ true → is_some (at_channel c b.phases) ≡ true → T b k → IsTied b.link (with_channel c p b.phases) (filter (is_off publish_channel c) b.publishes) (ended c e k.publish_states)
ended_tied c p e b k up some t =
    let stay : List Publish = filter (is_off publish_channel c) b.publishes in
    let queued = queue-ended c e b.publishes stay (after_mark k (mark.ClosedHere c e)) (after_mark k (mark.Ended c e)) refl (sym (all-end c e k)) (queue-closed c e k.publish_states.cells b.publishes t.queued) in
    tied_ended b.link c p e b.phases b.publishes stay k.publish_states up some queued t

-- or a crossed close ended it before
crossed_tied : (c : ℕ) (p : ChannelPhase) (b : Wire) (k : ConfirmState) → phase_of c b ≡ p → close_ok_end p ≡ None → receives_close_ok (state_of c b) ≡ true → T b k → IsTied b.link (with_channel c phase.Closed b.phases) b.publishes k.publish_states
crossed_tied c p b k is none h t =
    let here = close_ok_some b.link c b.phases h in
    tied_closed b.link c b.phases b.publishes k.publish_states here.0 (crossed_over b.link c b.phases (ap close_ok_end is ∙ none) h) here.1 t

close_ok_tied : (c : ℕ) (p : ChannelPhase) (b : Wire) (k : ConfirmState) → phase_of c b ≡ p → receives_close_ok (state_of c b) ≡ true → T b k → T (after_close_ok c p b) (fold after_mark k (end_with c (close_ok_end p)))
close_ok_tied c (phase.Closing who s) b k is h t = let here = close_ok_some b.link c b.phases h in ended_tied c phase.Closed (failed_at_close_ok who) b k here.0 here.1 t
close_ok_tied c phase.Closed b k is h t = crossed_tied c phase.Closed b k is refl h t
close_ok_tied c phase.Opening b k is h t = crossed_tied c phase.Opening b k is refl h t
close_ok_tied c (phase.Open paused) b k is h t = crossed_tied c (phase.Open paused) b k is refl h t
close_ok_tied c phase.Crossed b k is h t = crossed_tied c phase.Crossed b k is refl h t

failed_tied : (c : ℕ) (s : Settlement) (tag current : ℕ) (b : Wire) (k : ConfirmState) → T b k → H (incoming.Settlement c s) (record_.Refused (error.PreconditionFailed tag current)) b k
failed_tied c s tag current b k t = choose_marks (is_open (state_of c b)) _ b (mark.ClosedHere c (failed_at_close closer.Session) ∷ []) k (λ h. closing_tied c closer.Session b k h t) t

settlement_tied : (readings : Readings) (c : ℕ) (s : Settlement) (b : Wire) (k : ConfirmState) → T b k → H (incoming.Settlement c s) (settlement_record readings c s) b k
settlement_tied readings c s b k t =
    choose_incoming (readings.selected c) (incoming.Settlement c s) (cond (s.multiple || readings.pending c s.tag) record_.Received (record_.Refused (error.PreconditionFailed s.tag (readings.last c)))) record_.Passed b k
    (λ _. choose_incoming (s.multiple || readings.pending c s.tag) (incoming.Settlement c s) record_.Received (record_.Refused (error.PreconditionFailed s.tag (readings.last c))) b k
    (λ _. tied_settled b.link c s b.phases b.publishes k.publish_states t)
    (failed_tied c s s.tag (readings.last c) b k t))
    t

-- contents: a whole one is nothing to tags and outcomes
start_tied : (c : ℕ) (s : Start) (w : Whole) (b : Wire) (k : ConfirmState) → T b k → T b (fold after_mark k (start_marks c s w))
start_tied c (start.Return code text exchange key) w b k t = t
start_tied c (start.Get ticket tag exchange key redelivered count) w b k t = t
start_tied c (start.Deliver consumer tag exchange key redelivered) w b k t = t

whole_tied : (c : ℕ) (w : Option Whole) (b : Wire) (k : ConfirmState) → T b k → T b (fold after_mark k (whole_marks c w))
whole_tied c None b k t = t
whole_tied c (Some w) b k t = start_tied c w.start w b k t

part_tied : (c : ℕ) (p : ContentPart) (b : Wire) (k : ConfirmState) → receives_part c p b ≡ true → T b k → T (after_part c p b) (fold after_mark k (part_marks c p b))
part_tied c (part.GetOk s) b k h t = tied_replied b.link c reply_kind.BasicGetOk b.phases b.publishes k.publish_states (reply_opening b.link c reply_kind.BasicGetOk b.phases (and_first (receives reply_kind.BasicGetOk (state_of c b)) _ h)) t
part_tied c (part.Return s) b k h t = t
part_tied c (part.Deliver tag s) b k h t = t
part_tied c (part.Header x) b k h t = whole_tied c (whole_on c (part.Header x) b) b k t
part_tied c (part.Body bytes) b k h t = whole_tied c (whole_on c (part.Body bytes) b) b k t

-- consumers: none of the three replies opens a channel
consumer_tied : (c : ℕ) (p : ConsumerPart) (b : Wire) (k : ConfirmState) → T b k → T (after_consumer c p b) k
consumer_tied c (consumer.ConsumeOk tag) b k t = t
consumer_tied c (consumer.CancelOk tag) b k t = t
consumer_tied c consumer.RecoverOk b k t = t
consumer_tied c (consumer.Cancel tag nowait) b k t = choose_base (is_open (state_of c b) && not nowait) _ b k (λ _. t) t

-- while the connection is open
open_tied : (readings : Readings) (class number : ℕ) (i : Incoming) (b : Wire) (k : ConfirmState) → b.link ≡ link.Open → T b k → H i (incoming_up b readings (refused class number) i) b k
open_tied readings class number (incoming.Reply c r a) b k e t =
    choose_incoming (receives_reply c r b) (incoming.Reply c r a) record_.Received (refused class number) b k
    (λ h. tied_replied b.link c r b.phases b.publishes k.publish_states (reply_opening b.link c r b.phases (and_first (receives r (state_of c b)) _ h)) t)
    (unheard_tied b k t)
open_tied readings class number (incoming.Settlement c s) b k e t = choose_incoming (receives_on (state_of c b)) (incoming.Settlement c s) (settlement_record readings c s) (refused class number) b k (λ _. settlement_tied readings c s b k t) (unheard_tied b k t)
open_tied readings class number (incoming.Content c p) b k e t = choose_incoming (receives_part c p b) (incoming.Content c p) record_.Received (refused class number) b k (λ h. part_tied c p b k h t) (unheard_tied b k t)
open_tied readings class number (incoming.Consumer c p) b k e t = choose_incoming (receives_consumer c p b) (incoming.Consumer c p) record_.Received (refused class number) b k (λ _. consumer_tied c p b k t) (unheard_tied b k t)
open_tied readings class number (incoming.Flow c active) b k e t =
    choose_incoming (receives_on (state_of c b)) (incoming.Flow c active) record_.Received (refused class number) b k
    (λ _. choose_base (is_open (state_of c b)) _ b k (λ h. tied_paused b.link c (not active) b.phases b.publishes k.publish_states (open_opening b.link c b.phases h) t) t)
    (unheard_tied b k t)
open_tied readings class number (incoming.ChannelClose c code) b k e t =
    choose_incoming (receives_close (state_of c b)) (incoming.ChannelClose c code) record_.Received (refused class number) b k
    (λ h. let here = receives_opening b.link c b.phases h in ended_tied c (after_broker_close (phase_of c b)) (error.ProtocolError code) b k here.up here.some t)
    (unheard_tied b k t)
open_tied readings class number (incoming.ChannelCloseOk c) b k e t =
    choose_incoming (receives_close_ok (state_of c b)) (incoming.ChannelCloseOk c) record_.Received (refused class number) b k
    (λ h. close_ok_tied c (phase_of c b) b k refl h t)
    (unheard_tied b k t)
open_tied readings class number (incoming.ConnectionClose code) b k e t = rw e (tied_down b.link link.Closed (error.ProtocolError code) b.phases b.publishes k t)
open_tied readings class number incoming.ConnectionCloseOk b k e t = unheard_tied b k t
open_tied readings class number incoming.Other b k e t = unheard_tied b k t

-- once it is not
at_link : (l : ConnectionPhase) (b : Wire) (k : ConfirmState) → b.link ≡ l → T b k → IsTied l b.phases b.publishes k.publish_states
at_link l b k e t = let P : ConnectionPhase → Type 0 = λ x. IsTied x b.phases b.publishes k.publish_states in subst P e t

no_ends : (e : Error) (b : Wire) (k : ConfirmState) → b.phases ≡ [] → fold after_mark k (ends e (live_channels b.phases)) ≡ k
no_ends e b k none = ap (λ ps. fold after_mark k (ends e (live_channels ps))) none

unsent_tied : (s : Bool) (l m : ConnectionPhase) (b : Wire) (k : ConfirmState) → is_up l ≡ false → IsTied l b.phases b.publishes k.publish_states → IsTied m b.phases (unless_sent s (lists_of b)).publishes k.publish_states
unsent_tied true l m b k down t = tied_further l m b.phases b.publishes k.publish_states down t
unsent_tied false l m b k down t = tied_dropped l m b.phases b.publishes k.publish_states down t

closing_incoming : (s : CloseStage) (readings : Readings) (r : Record) (i : Incoming) (b : Wire) (k : ConfirmState) → b.link ≡ link.Closing s → T b k → H i (incoming_record b readings r i) b k
closing_incoming s readings r incoming.ConnectionCloseOk b k e t = let down : is_up b.link ≡ false = ap is_up e in rw e (unsent_tied (close_has_left s) b.link link.Closed b k down t)
closing_incoming stage.Crossed readings r (incoming.ConnectionClose code) b k e t = rw e (at_link (link.Closing stage.Crossed) b k e t)
closing_incoming stage.Sent readings r (incoming.ConnectionClose code) b k e t =
    let down : is_up b.link ≡ false = ap is_up e in
    let P : ConfirmState → Type 0 = λ x. IsTied (link.Closing stage.Crossed) b.phases b.publishes x.publish_states in
    rw e (subst P (sym (no_ends (error.ProtocolError code) b k (t.down down))) (tied_further b.link (link.Closing stage.Crossed) b.phases b.publishes k.publish_states down t))
closing_incoming stage.Queued readings r (incoming.ConnectionClose code) b k e t = rw e (tied_down b.link link.Closed (error.ProtocolError code) b.phases b.publishes k t)
closing_incoming s readings r (incoming.Reply c q a) b k e t = rw e (at_link (link.Closing s) b k e t)
closing_incoming s readings r (incoming.Settlement c x) b k e t = rw e (at_link (link.Closing s) b k e t)
closing_incoming s readings r (incoming.Content c p) b k e t = rw e (at_link (link.Closing s) b k e t)
closing_incoming s readings r (incoming.Consumer c p) b k e t = rw e (at_link (link.Closing s) b k e t)
closing_incoming s readings r (incoming.ChannelClose c code) b k e t = rw e (at_link (link.Closing s) b k e t)
closing_incoming s readings r (incoming.ChannelCloseOk c) b k e t = rw e (at_link (link.Closing s) b k e t)
closing_incoming s readings r (incoming.Flow c active) b k e t = rw e (at_link (link.Closing s) b k e t)
closing_incoming s readings r incoming.Other b k e t = rw e (at_link (link.Closing s) b k e t)

incoming_tied : (l : ConnectionPhase) (readings : Readings) (class number : ℕ) (i : Incoming) (b : Wire) (k : ConfirmState) → b.link ≡ l → T b k → H i (incoming_record b readings (refused class number) i) b k
incoming_tied link.Open readings class number i b k e t =
    let up : is_up b.link ≡ true = ap is_up e in
    let same : incoming_record b readings (refused class number) i ≡ incoming_up b readings (refused class number) i = rw up refl in
    let P : Record → Type 0 = λ r. H i r b k in
    subst P (sym same) (open_tied readings class number i b k e t)
incoming_tied (link.Closing s) readings class number i b k e t = closing_incoming s readings (refused class number) i b k e t
incoming_tied link.Closed readings class number i b k e t = rw e (at_link link.Closed b k e t)
incoming_tied link.Lost readings class number i b k e t = rw e (at_link link.Lost b k e t)

-- ---- the loss, and polls

lost_tied : (l : ConnectionPhase) (b : Wire) (k : ConfirmState) → b.link ≡ l → T b k → T (after_lost b) (fold after_mark k (ends error.ConnectionLost (live_channels b.phases)))
lost_tied link.Lost b k e t =
    let P : ConfirmState → Type 0 = λ x. IsTied link.Lost b.phases b.publishes x.publish_states in
    rw e (subst P (sym (no_ends error.ConnectionLost b k (t.down (ap is_up e)))) (at_link link.Lost b k e t))
lost_tied link.Open b k e t = rw e (tied_down b.link link.Lost error.ConnectionLost b.phases b.publishes k t)
lost_tied (link.Closing s) b k e t = rw e (tied_down b.link link.Lost error.ConnectionLost b.phases b.publishes k t)
lost_tied link.Closed b k e t = rw e (tied_down b.link link.Lost error.ConnectionLost b.phases b.publishes k t)

-- a result that is given is there
confirmed_resolved : (n : ℕ) (k : ConfirmState) → is_confirmed (outcome_record (taken_answer n k)) ≡ true → is_resolved (under n k.publish_states.cells) ≡ true
confirmed_resolved n k =
    elim (is_set_aside n k) as (λ a. is_confirmed (outcome_record (cond a (Err error.AlreadyTaken) (answer_with (message_of n k) (answer_at n k.publish_states)))) ≡ true → is_resolved (under n k.publish_states.cells) ≡ true) [
      | true ↦ λ h. cc
      | false ↦ elim (is_unknown n k.publish_states) as (λ u. is_confirmed (outcome_record (answer_with (message_of n k) (cond u (Err error.UnknownTicket) (answer_in (under n k.publish_states.cells))))) ≡ true → is_resolved (under n k.publish_states.cells) ≡ true) [
        | true ↦ λ h. cc
        | false ↦ at (message_of n k) (under n k.publish_states.cells)
      ]
    ]
  where
    at : (m : Option BasicReturnMessage) (o : Option Cell) → is_confirmed (outcome_record (answer_with m (answer_in o))) ≡ true → is_resolved o ≡ true
    at m None h = cc
    at m (Some (cell.Queued c)) h = cc
    at m (Some (cell.Pending c t)) h = cc
    at m (Some (cell.Resolved x)) h = refl

-- marks that only a poll, a wait or a set-aside makes
choose_mark : (t : Bool) (m : ConfirmMark) (b : Wire) (k : ConfirmState) → (t ≡ true → T b (after_mark k m)) → T b k → T b (fold after_mark k (cond t (m ∷ []) []))
choose_mark t m b k h other = elim t as (λ s. t ≡ s → T b (fold after_mark k (cond s (m ∷ []) []))) [ true ↦ λ e. h e | false ↦ λ e. other ] refl

poll_tied : (n : ℕ) (b : Wire) (k : ConfirmState) → T b k → T b (fold after_mark k (cond (is_confirmed (outcome_record (taken_answer n k))) (mark.Taken n ∷ []) []))
poll_tied n b k t = choose_mark (is_confirmed (outcome_record (taken_answer n k))) (mark.Taken n) b k (λ h. tied_taken n b.link b.phases b.publishes k.publish_states (confirmed_resolved n k h) t) t

-- ---- ackers, and consumers that are let go

acked_tied : (o : Option (ℕ × ℕ)) (a : AckerCall) (b : Wire) (k : ConfirmState) → T b k → T (acked_wire o a b) k
acked_tied None a b k t = t
acked_tied (Some x) a b k t = choose_base (is_allowed (acker_asked a x.1) (state_of x.0 b)) (after_call x.0 (acker_asked a x.1) b) b k (λ _. t) t

let_go_tied : (o : Option Consumer) (b : Wire) (k : ConfirmState) → T b k → T (after_let_go o b) k
let_go_tied None b k t = t
let_go_tied (Some x) b k t = choose_base (lets_go_of x b) (cancel_noted x b) b k (λ _. t) t

-- ---- every event

pub tied_anew : (w : World) (e : Event) → w.wire.published ≡ length w.confirm_state.publish_states.cells → T w.wire w.confirm_state → T (next_anew w e).wire (next_anew w e).confirm_state
tied_anew w (event.Call c k) n t =
    let a : Asked = asked_by k (told_anew w (event.Call c k)) in
    choose_marks (is_allowed a (state_of c w.wire)) (after_call c a w.wire) w.wire (call_marks c a w.wire) w.confirm_state (call_tied c a w.wire w.confirm_state n t) t
tied_anew w (event.Next flow) n t =
    let r : Record = told_anew w (event.Next flow) in
    sent_tied (handed_as r w.wire) (with_lists (left_lists w.wire.frame_max (began_on r) (lists_of w.wire)) w.wire) (fold after_mark w.confirm_state (left_marks (handed_as r w.wire)))
    (tied_leaves w.wire.frame_max (began_on r) w.wire.rest w.wire.methods w.wire.publishes w.wire.link w.wire.phases w.confirm_state t)
tied_anew w (event.Receive f) n t = incoming_tied w.wire.link (readings_of w.confirm_state w.slots) (frame_class f) (frame_method f) (incoming_of f) w.wire w.confirm_state refl t
tied_anew w (event.PollTicket k) n t = t
tied_anew w (event.PollConfirm k) n t = poll_tied k w.wire w.confirm_state t
tied_anew w (event.PollConsumer k) n t = t
tied_anew w (event.PollWait c) n t = choose_mark (is_returned (told_anew w (event.PollWait c))) (mark.Drained c) w.wire w.confirm_state (λ _. tied_drained c w.wire.link w.wire.phases w.wire.publishes w.confirm_state t) t
tied_anew w (event.AsideTicket k) n t = t
tied_anew w (event.AsideConfirm k) n t = choose_mark (is_aside (told_anew w (event.AsideConfirm k))) (mark.SetAside k) w.wire w.confirm_state (λ _. tied_aside k w.wire.link w.wire.phases w.wire.publishes w.confirm_state t) t
tied_anew w (event.Acker a k) n t = acked_tied (usable_at a w.wire) k w.wire w.confirm_state t
tied_anew w (event.Delegate k) n t = t
tied_anew w (event.DropConsumer k) n t = let_go_tied (consumer_at k w.wire.deliveries.subscriptions) w.wire w.confirm_state t
tied_anew w event.NextJob n t = t
tied_anew w (event.State c) n t = t
tied_anew w event.Lost n t = lost_tied w.wire.link w.wire w.confirm_state refl t

-- A tied session, whose counter of publishes is that of its confirms, is tied after any event. A session that stands for a history
-- has that counter.
pub tied_next : (w : World) (e : Event) → w.wire.published ≡ length w.confirm_state.publish_states.cells → IsTied w.wire.link w.wire.phases w.wire.publishes w.confirm_state.publish_states → IsTied (next w e).wire.link (next w e).wire.phases (next w e).wire.publishes (next w e).confirm_state.publish_states
tied_next w e n t = next_keeps (λ v. T v.wire v.confirm_state) w e (tied_anew w e n t) t
