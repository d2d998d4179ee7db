-- A frame that was given back is gone as the opening of its channel ends, or as all that waits is dropped.
use Rattle.std.proofs.Common.{◌≡◌, ℕ, Bool, true, false, cond, not, ◌||◌, ◌&&◌, List, [], ◌∷◌, Option, Some, None, refl, sym, ◌∙◌, ap, subst}
use Rattle.lapin_types.specs.declared.event.Event.{Event}
use Rattle.lapin_types.specs.declared.event.Event.TheVariants as event
use Rattle.lapin_types.specs.declared.acker_call.AckerCall.{AckerCall}
use Rattle.lapin_types.specs.declared.leaving.Left.{Left}
use Rattle.lapin_types.specs.declared.record.Record.{Record}
use Rattle.lapin_types.specs.declared.record.Record.TheVariants as record_
use Rattle.lapin_types.specs.Types.{Error, ChannelState}
use Rattle.lapin_types.specs.Types.error
use Rattle.lapin_types.specs.Types.method
use Rattle.lapin_types.specs.Types.channel
use Rattle.lapin_types.specs.Types.basic
use Rattle.lapin_types.specs.Types.channel_state as state
use Rattle.lapin_rules.specs.ConfirmMarks.{ConfirmMark}
use Rattle.lapin_rules.specs.ConfirmMarks as mark
use Rattle.lapin_rules.specs.declared.calls.Asked.{Asked}
use Rattle.lapin_rules.specs.declared.calls.Asked.TheVariants as ask
use Rattle.lapin_rules.specs.declared.broker_frames.Incoming.{Incoming}
use Rattle.lapin_rules.specs.declared.broker_frames.Incoming.TheVariants as incoming
use Rattle.lapin_rules.specs.declared.marks.Settlement.{Settlement}
use Rattle.lapin_rules.specs.declared.phases.Closer.TheVariants as closer
use Rattle.lapin_rules.specs.declared.phases.ConnectionPhase.{ConnectionPhase}
use Rattle.lapin_rules.specs.declared.phases.CloseStage.{CloseStage}
use Rattle.lapin_rules.specs.declared.phases.ConnectionPhase.TheVariants as link
use Rattle.lapin_rules.specs.declared.phases.CloseStage.TheVariants as stage
use Rattle.lapin_rules.specs.declared.phases.ChannelPhase.{ChannelPhase}
use Rattle.lapin_rules.specs.declared.phases.ChannelPhase.TheVariants as phase
use Rattle.lapin_rules.specs.Readings.{Readings}
use Rattle.lapin_rules.specs.Incoming.{incoming_of, frame_class, frame_method}
use Rattle.lapin_rules.specs.Phases.{is_up, is_lost}
use Rattle.lapin_rules.specs.Polls.{is_confirmed, is_returned, is_aside}
use Rattle.lapin_rules.specs.Select.{is_select}
use Rattle.lapin_rules.specs.declared.broker_frames.ContentPart.{ContentPart}
use Rattle.lapin_rules.specs.declared.broker_frames.ContentPart.TheVariants as part
use Rattle.lapin_content.specs.declared.start.Start.{Start}
use Rattle.lapin_content.specs.declared.start.Start.TheVariants as start
use Rattle.lapin_content.specs.declared.start.Whole.{Whole}
use Rattle.lapin_rules.specs.Content.{receives_part, start_marks, whole_marks, whole_on}
use Rattle.lapin_rules.specs.declared.broker_frames.ConsumerPart.{ConsumerPart}
use Rattle.lapin_rules.specs.declared.broker_frames.ConsumerPart.TheVariants as consumer
use Rattle.lapin_consumer.specs.Subscriptions.{Consumer, consumer_at}
use Rattle.lapin_rules.specs.Consumers.{receives_consumer, lets_go_of, cancel_noted, after_let_go}
use Rattle.lapin_rules.specs.Ackers.{acker_asked, acked_wire, usable_at}
use Rattle.lapin_rules.specs.Words.{with_channel}
use Rattle.lapin_rules.specs.Wire.{Wire, state_of, phase_of, is_open, is_base, receives_on, noted}
use Rattle.lapin_rules.specs.Asking.{asked_by, is_allowed, after_call, call_marks}
use Rattle.lapin_rules.specs.Ends.{ends, live_channels, end_with}
use Rattle.lapin_rules.specs.Reply.{receives_reply}
use Rattle.lapin_rules.specs.ChannelClose.{closing, failed_at_close, receives_close, receives_close_ok, close_ok_end, after_close_ok}
use Rattle.lapin_rules.specs.Unexpected.{refused}
use Rattle.lapin_rules.specs.Settlement.{settlement_record, session_close}
use Rattle.lapin_rules.specs.Receiving.{incoming_up, incoming_record, after_incoming, incoming_marks}
use Rattle.lapin_rules.specs.Handing.{left_marks, handed_as}
use Rattle.lapin_rules.specs.Loss.{after_lost, lost_marks}
use Rattle.lapin_rules.specs.Events.{confirm_marks}
use Rattle.lapin_machine.specs.Returned.{given_back, is_emptied, without_ended, after_ends}
use Rattle.lapin_machine.specs.Returned as back
use Rattle.lapin_machine.specs.Stands.{IsShut}
use Rattle.lapin_machine.specs.World.{World, next, next_anew, next_or, told_by, told_anew, readings_of}
use Rattle.lapin_machine.proofs.Back.{told_step, next_step}
use Rattle.lapin_rules.proofs.PhaseLaws.{lost_down}

-- a connection that stays where it is drops nothing
stays : (l : ConnectionPhase) → is_emptied l l ≡ false
stays (link.Closing stage.Queued) = refl
stays _ = refl

-- an event that drops nothing and ends no opening
quiet : (l : ConnectionPhase) (r : Option Left) → r ≡ after_ends l l [] r
quiet l r = rw (stays l) refl

quiet_at : (l m : ConnectionPhase) (r : Option Left) → m ≡ l → r ≡ after_ends l m [] r
quiet_at l m r same = rw same (quiet l r)

quiet_marks : (l : ConnectionPhase) (ms : List ConfirmMark) (r : Option Left) → without_ended ms r ≡ r → r ≡ after_ends l l ms r
quiet_marks l ms r h = rw (stays l) (sym h)

none_ended : (ms : List ConfirmMark) → without_ended ms None ≡ None
none_ended [] = refl
none_ended (mark.Begun c ∷ ms) = none_ended ms
none_ended (mark.Added c ∷ ms) = none_ended ms
none_ended (mark.SelectLeft c ∷ ms) = none_ended ms
none_ended (mark.SelectCalled c ∷ ms) = none_ended ms
none_ended (mark.LimitSet c n ∷ ms) = none_ended ms
none_ended (mark.Left c n ∷ ms) = none_ended ms
none_ended (mark.Settled c s ∷ ms) = none_ended ms
none_ended (mark.ClosedHere c e ∷ ms) = none_ended ms
none_ended (mark.Ended c e ∷ ms) = none_ended ms
none_ended (mark.Taken n ∷ ms) = none_ended ms
none_ended (mark.SetAside n ∷ ms) = none_ended ms
none_ended (mark.Arrived c m ∷ ms) = none_ended ms
none_ended (mark.Drained c ∷ ms) = none_ended ms

none_goes : (old new : ConnectionPhase) (ms : List ConfirmMark) → None ≡ after_ends old new ms None
none_goes old new ms = elim (is_emptied old new) as (λ t. None ≡ cond t None (without_ended ms None)) [ true ↦ refl | false ↦ sym (none_ended ms) ]

-- ---- calls

select_quiet : (s : Bool) (m : ConfirmMark) (r : Option Left) → without_ended (m ∷ []) r ≡ r → without_ended (cond s (m ∷ []) []) r ≡ r
select_quiet true m r h = h
select_quiet false m r h = refl

base_up : (l : ConnectionPhase) (s : ChannelState) → is_base (cond (is_up l) s state.Down) ≡ true → l ≡ link.Open
base_up link.Open s h = refl
base_up (link.Closing _) s h = cc
base_up link.Closed s h = cc
base_up link.Lost s h = cc

called : (c : ℕ) (a : Asked) (b : Wire) (r : Option Left) (t : Bool) → is_allowed a (state_of c b) ≡ t → back.after_asked c a b r ≡ after_ends b.link (cond t (after_call c a b) b).link (cond t (call_marks c a b) []) r
called c ask.Open b r true h = quiet_marks b.link (mark.Begun c ∷ []) r refl
called c ask.Open b r false h = quiet b.link r
called c (ask.CloseChannel code text) b r true h = quiet_marks b.link (mark.ClosedHere c (failed_at_close closer.Application) ∷ []) r refl
called c (ask.CloseChannel code text) b r false h = quiet b.link r
called c (ask.CloseConnection code text) b r true h = let up : b.link ≡ link.Open = base_up b.link _ h in rw h (rw up refl)
called c (ask.CloseConnection code text) b r false h = rw h (quiet b.link r)
called c (ask.Method row) b r true h = quiet_marks b.link (call_marks c (ask.Method row) b) r (select_quiet (is_select row.method) (mark.SelectCalled c) r refl)
called c (ask.Method row) b r false h = quiet b.link r
called c (ask.Consume m tag queue o) b r true h = quiet b.link r
called c (ask.Consume m tag queue o) b r false h = quiet b.link r
called c (ask.Limit limit) b r true h = quiet_marks b.link (mark.LimitSet c limit ∷ []) r refl
called c (ask.Limit limit) b r false h = quiet b.link r
called c ask.Nothing b r true h = quiet b.link r
called c ask.Nothing b r false h = quiet b.link r
called c (ask.Publish exchange key o payload properties) b r true h = quiet_marks b.link (mark.Added c ∷ []) r refl
called c (ask.Publish exchange key o payload properties) b r false h = quiet b.link r

-- ---- frames of the broker

abbrev G : Incoming → Record → Wire → Option Left → Type 0
G i x b r = back.after_incoming i x b r ≡ after_ends b.link (after_incoming i x b).link (incoming_marks i x b) r

choose_goes : (t : Bool) (i : Incoming) (x y : Record) (b : Wire) (r : Option Left) → G i x b r → G i y b r → G i (cond t x y) b r
choose_goes true i x y b r h k = h
choose_goes false i x y b r h k = k

unheard_goes : (i : Incoming) (class number : ℕ) (b : Wire) (r : Option Left) → b.link ≡ link.Open → G i (refused class number) b r
unheard_goes i class number b r e = rw e refl

choose_link : (t : Bool) (x y : Wire) (l : ConnectionPhase) → x.link ≡ l → y.link ≡ l → (cond t x y).link ≡ l
choose_link true x y l h k = h
choose_link false x y l h k = k

failed_goes : (c : ℕ) (s : Settlement) (tag current : ℕ) (b : Wire) (r : Option Left) → G (incoming.Settlement c s) (record_.Refused (error.PreconditionFailed tag current)) b r
failed_goes c s tag current b r = elim (is_open (state_of c b)) as (λ t. r ≡ after_ends b.link (cond t (noted c (session_close s.kind) (closing c closer.Session b)) b).link (cond t (mark.ClosedHere c (failed_at_close closer.Session) ∷ []) []) r) [
  | true ↦ quiet_marks b.link (mark.ClosedHere c (failed_at_close closer.Session) ∷ []) r refl
  | false ↦ quiet b.link r
]

flow_goes : (c : ℕ) (active : Bool) (b : Wire) (r : Option Left) → G (incoming.Flow c active) record_.Received b r
flow_goes c active b r = elim (is_open (state_of c b)) as (λ t. r ≡ after_ends b.link (cond t (noted c (method.Channel (channel.FlowOk active)) (record b { phases = with_channel c (phase.Open (not active)) b.phases })) b).link [] r) [ true ↦ quiet b.link r | false ↦ quiet b.link r ]

close_ok_goes : (c : ℕ) (p : ChannelPhase) (b : Wire) (r : Option Left) → back.unless_crossed c (close_ok_end p) r ≡ after_ends b.link (after_close_ok c p b).link (end_with c (close_ok_end p)) r
close_ok_goes c (phase.Closing who sent) b r = rw (stays b.link) refl
close_ok_goes c phase.Closed b r = quiet b.link r
close_ok_goes c phase.Opening b r = quiet b.link r
close_ok_goes c (phase.Open paused) b r = quiet b.link r
close_ok_goes c phase.Crossed b r = quiet b.link r

-- a whole content ends no opening
start_stays : (c : ℕ) (s : Start) (w : Whole) (r : Option Left) → without_ended (start_marks c s w) r ≡ r
start_stays c (start.Return code text exchange key) w r = refl
start_stays c (start.Get ticket tag exchange key redelivered count) w r = refl
start_stays c (start.Deliver consumer tag exchange key redelivered) w r = refl

whole_stays : (c : ℕ) (w : Option Whole) (r : Option Left) → without_ended (whole_marks c w) r ≡ r
whole_stays c None r = refl
whole_stays c (Some w) r = start_stays c w.start w r

part_goes : (c : ℕ) (p : ContentPart) (b : Wire) (r : Option Left) → G (incoming.Content c p) record_.Received b r
part_goes c (part.GetOk s) b r = quiet b.link r
part_goes c (part.Return s) b r = quiet b.link r
part_goes c (part.Deliver tag s) b r = quiet b.link r
part_goes c (part.Header h) b r = quiet_marks b.link (whole_marks c (whole_on c (part.Header h) b)) r (whole_stays c (whole_on c (part.Header h) b) r)
part_goes c (part.Body bytes) b r = quiet_marks b.link (whole_marks c (whole_on c (part.Body bytes) b)) r (whole_stays c (whole_on c (part.Body bytes) b) r)

consumer_goes : (c : ℕ) (p : ConsumerPart) (b : Wire) (r : Option Left) → G (incoming.Consumer c p) record_.Received b r
consumer_goes c (consumer.ConsumeOk tag) b r = quiet b.link r
consumer_goes c (consumer.CancelOk tag) b r = quiet b.link r
consumer_goes c consumer.RecoverOk b r = quiet b.link r
consumer_goes c (consumer.Cancel tag nowait) b r = quiet_at b.link _ r (choose_link (is_open (state_of c b) && not nowait) (noted c (method.Basic (basic.CancelOk tag)) b) b b.link refl refl)

open_goes : (readings : Readings) (class number : ℕ) (i : Incoming) (b : Wire) (r : Option Left) → b.link ≡ link.Open → G i (incoming_up b readings (refused class number) i) b r
open_goes readings class number (incoming.Reply c q a) b r e = choose_goes (receives_reply c q b) (incoming.Reply c q a) record_.Received (refused class number) b r (quiet b.link r) (unheard_goes (incoming.Reply c q a) class number b r e)
open_goes readings class number (incoming.Settlement c s) b r e =
    choose_goes (receives_on (state_of c b)) (incoming.Settlement c s) (settlement_record readings c s) (refused class number) b r
    (choose_goes (readings.selected c) (incoming.Settlement c s) (cond (s.multiple || readings.pending c s.tag) record_.Received (record_.Refused (error.PreconditionFailed s.tag (readings.last c)))) record_.Passed b r
    (choose_goes (s.multiple || readings.pending c s.tag) (incoming.Settlement c s) record_.Received (record_.Refused (error.PreconditionFailed s.tag (readings.last c))) b r
    (quiet_marks b.link (mark.Settled c s ∷ []) r refl)
    (failed_goes c s s.tag (readings.last c) b r))
    (quiet b.link r))
    (unheard_goes (incoming.Settlement c s) class number b r e)
open_goes readings class number (incoming.Content c p) b r e = choose_goes (receives_part c p b) (incoming.Content c p) record_.Received (refused class number) b r (part_goes c p b r) (unheard_goes (incoming.Content c p) class number b r e)
open_goes readings class number (incoming.Consumer c p) b r e = choose_goes (receives_consumer c p b) (incoming.Consumer c p) record_.Received (refused class number) b r (consumer_goes c p b r) (unheard_goes (incoming.Consumer c p) class number b r e)
open_goes readings class number (incoming.Flow c active) b r e = choose_goes (receives_on (state_of c b)) (incoming.Flow c active) record_.Received (refused class number) b r (flow_goes c active b r) (unheard_goes (incoming.Flow c active) class number b r e)
open_goes readings class number (incoming.ChannelClose c code) b r e = choose_goes (receives_close (state_of c b)) (incoming.ChannelClose c code) record_.Received (refused class number) b r (rw (stays b.link) refl) (unheard_goes (incoming.ChannelClose c code) class number b r e)
open_goes readings class number (incoming.ChannelCloseOk c) b r e = choose_goes (receives_close_ok (state_of c b)) (incoming.ChannelCloseOk c) record_.Received (refused class number) b r (close_ok_goes c (phase_of c b) b r) (unheard_goes (incoming.ChannelCloseOk c) class number b r e)
open_goes readings class number (incoming.ConnectionClose code) b r e = rw e refl
open_goes readings class number incoming.ConnectionCloseOk b r e = unheard_goes incoming.ConnectionCloseOk class number b r e
open_goes readings class number incoming.Other b r e = unheard_goes incoming.Other class number b r e

-- once it is not open there is no opening to end
no_ends : (e : Error) (b : Wire) (r : Option Left) → b.phases ≡ [] → without_ended (ends e (live_channels b.phases)) r ≡ r
no_ends e b r none = ap (λ ps. without_ended (ends e (live_channels ps)) r) none

closing_goes : (s : CloseStage) (readings : Readings) (x : Record) (i : Incoming) (b : Wire) (r : Option Left) → b.link ≡ link.Closing s → IsShut b → G i (incoming_record b readings x i) b r
closing_goes stage.Queued readings x incoming.ConnectionCloseOk b r e shut = rw e refl
closing_goes stage.Sent readings x incoming.ConnectionCloseOk b r e shut = rw e refl
closing_goes stage.Crossed readings x incoming.ConnectionCloseOk b r e shut = rw e refl
closing_goes stage.Crossed readings x (incoming.ConnectionClose code) b r e shut = rw e (quiet (link.Closing stage.Crossed) r)
closing_goes stage.Sent readings x (incoming.ConnectionClose code) b r e shut = rw e (sym (no_ends (error.ProtocolError code) b r (shut (ap is_up e))))
closing_goes stage.Queued readings x (incoming.ConnectionClose code) b r e shut = rw e refl
closing_goes s readings x (incoming.Reply c q a) b r e shut = rw e (quiet (link.Closing s) r)
closing_goes s readings x (incoming.Settlement c y) b r e shut = rw e (quiet (link.Closing s) r)
closing_goes s readings x (incoming.Content c p) b r e shut = rw e (quiet (link.Closing s) r)
closing_goes s readings x (incoming.Consumer c p) b r e shut = rw e (quiet (link.Closing s) r)
closing_goes s readings x (incoming.ChannelClose c code) b r e shut = rw e (quiet (link.Closing s) r)
closing_goes s readings x (incoming.ChannelCloseOk c) b r e shut = rw e (quiet (link.Closing s) r)
closing_goes s readings x (incoming.Flow c active) b r e shut = rw e (quiet (link.Closing s) r)
closing_goes s readings x incoming.Other b r e shut = rw e (quiet (link.Closing s) r)

incoming_goes : (l : ConnectionPhase) (readings : Readings) (class number : ℕ) (i : Incoming) (b : Wire) (r : Option Left) → b.link ≡ l → IsShut b → G i (incoming_record b readings (refused class number) i) b r
incoming_goes link.Open readings class number i b r e shut =
    let up : is_up b.link ≡ true = ap is_up e in
    let same : incoming_record b readings (refused class number) i ≡ incoming_up b readings (refused class number) i = rw up refl in
    let P : Record → Type 0 = λ x. G i x b r in
    subst P (sym same) (open_goes readings class number i b r e)
incoming_goes (link.Closing s) readings class number i b r e shut = closing_goes s readings (refused class number) i b r e shut
incoming_goes link.Closed readings class number i b r e shut = rw e refl
incoming_goes link.Lost readings class number i b r e shut = rw e refl

-- ---- the loss

lost_goes : (l : ConnectionPhase) (b : Wire) (r : Option Left) → b.link ≡ l → IsShut b → cond (is_lost b.link) r None ≡ after_ends b.link (after_lost b).link (lost_marks b) r
lost_goes link.Open b r e shut = rw e refl
lost_goes (link.Closing s) b r e shut = rw e refl
lost_goes link.Closed b r e shut = rw e refl
lost_goes link.Lost b r e shut = rw e (sym (no_ends error.ConnectionLost b r (shut (ap is_up e))))

-- ---- ackers, and consumers that are let go

acked_link : (o : Option (ℕ × ℕ)) (k : AckerCall) (b : Wire) → (acked_wire o k b).link ≡ b.link
acked_link None k b = refl
acked_link (Some x) k b = choose_link (is_allowed (acker_asked k x.1) (state_of x.0 b)) (after_call x.0 (acker_asked k x.1) b) b b.link refl refl

let_go_link : (o : Option Consumer) (b : Wire) → (after_let_go o b).link ≡ b.link
let_go_link None b = refl
let_go_link (Some x) b = choose_link (lets_go_of x b) (cancel_noted x b) b b.link refl refl

-- ---- every event

goes_anew : (w : World) (e : Event) → given_back w.returned e ≡ None → IsShut w.wire → (next_anew w e).returned ≡ after_ends w.wire.link (next_anew w e).wire.link (confirm_marks w.wire e (told_anew w e)) w.returned
goes_anew w (event.Call c k) step shut =
    let a : Asked = asked_by k (told_anew w (event.Call c k)) in
    called c a w.wire w.returned (is_allowed a (state_of c w.wire)) refl
goes_anew w (event.Next flow) step shut =
    let L : ConnectionPhase = (next_anew w (event.Next flow)).wire.link in
    let marks : List ConfirmMark = left_marks (handed_as (told_anew w (event.Next flow)) w.wire) in
    let P : Option Left → Type 0 = λ r. r ≡ after_ends w.wire.link L marks r in
    subst P (sym step) (none_goes w.wire.link L marks)
goes_anew w (event.Receive f) step shut = incoming_goes w.wire.link (readings_of w.confirm_state w.slots) (frame_class f) (frame_method f) (incoming_of f) w.wire w.returned refl shut
goes_anew w (event.PollTicket n) step shut = quiet w.wire.link w.returned
goes_anew w (event.PollConfirm n) step shut = quiet_marks w.wire.link (confirm_marks w.wire (event.PollConfirm n) (told_anew w (event.PollConfirm n))) w.returned (select_quiet (is_confirmed (told_anew w (event.PollConfirm n))) (mark.Taken n) w.returned refl)
goes_anew w (event.PollConsumer n) step shut = quiet w.wire.link w.returned
goes_anew w (event.PollWait c) step shut = quiet_marks w.wire.link (confirm_marks w.wire (event.PollWait c) (told_anew w (event.PollWait c))) w.returned (select_quiet (is_returned (told_anew w (event.PollWait c))) (mark.Drained c) w.returned refl)
goes_anew w (event.AsideTicket n) step shut = quiet w.wire.link w.returned
goes_anew w (event.AsideConfirm n) step shut = quiet_marks w.wire.link (confirm_marks w.wire (event.AsideConfirm n) (told_anew w (event.AsideConfirm n))) w.returned (select_quiet (is_aside (told_anew w (event.AsideConfirm n))) (mark.SetAside n) w.returned refl)
goes_anew w (event.Acker n k) step shut = quiet_at w.wire.link _ w.returned (acked_link (usable_at n w.wire) k w.wire)
goes_anew w (event.Delegate n) step shut = quiet w.wire.link w.returned
goes_anew w (event.DropConsumer n) step shut = quiet_at w.wire.link _ w.returned (let_go_link (consumer_at n w.wire.deliveries.subscriptions) w.wire)
goes_anew w event.NextJob step shut = quiet w.wire.link w.returned
goes_anew w (event.State c) step shut = quiet w.wire.link w.returned
goes_anew w event.Lost step shut = lost_goes w.wire.link w.wire w.returned refl shut

pub goes_with_ends : (w : World) (e : Event) → given_back w.returned e ≡ None → IsShut w.wire → (next w e).returned ≡ after_ends w.wire.link (next w e).wire.link (confirm_marks w.wire e (told_by w e)) w.returned
goes_with_ends w e step shut =
    let P : World → Type 0 = λ v. v.returned ≡ after_ends w.wire.link v.wire.link (confirm_marks w.wire e (told_by w e)) w.returned in
    let Q : Record → Type 0 = λ x. (next_anew w e).returned ≡ after_ends w.wire.link (next_anew w e).wire.link (confirm_marks w.wire e x) w.returned in
    subst P (sym (next_step w e step)) (subst Q (sym (told_step w e step)) (goes_anew w e step shut))

-- ---- after a loss

lost_empties : (old new : ConnectionPhase) (ms : List ConfirmMark) (r : Option Left) → (is_lost old ≡ true → r ≡ None) → is_lost new ≡ true → after_ends old new ms r ≡ None
lost_empties link.Open new ms r silent h = rw (lost_down new h) refl
lost_empties (link.Closing _) new ms r silent h = rw h refl
lost_empties link.Closed new ms r silent h = rw h refl
lost_empties link.Lost new ms r silent h = ap (after_ends link.Lost new ms) (silent refl) ∙ sym (none_goes link.Lost new ms)

-- where none is given back after a loss, none is after any event
pub lost_none : (w : World) (e : Event) → IsShut w.wire → (is_lost w.wire.link ≡ true → w.returned ≡ None) → is_lost (next w e).wire.link ≡ true → (next w e).returned ≡ None
lost_none w e shut silent h = at (given_back w.returned e) refl
  where
    at : (o : Option Left) → given_back w.returned e ≡ o → (next w e).returned ≡ None
    at None step = goes_with_ends w e step shut ∙ lost_empties w.wire.link (next w e).wire.link (confirm_marks w.wire e (told_by w e)) w.returned silent h
    at (Some l) again = ap (λ g. (next_or g (next_anew w e) w).returned) again
