-- After a loss no ticket is open.
use Rattle.std.proofs.Common.{◌≡◌, ℕ, zero, suc, Bool, true, false, cond, not, List, [], ◌∷◌, map, Option, Some, None, Result, Err, refl, sym, subst, ◌∙◌, ap, ◌++◌, ◌&&◌}
use Rattle.std.specs.Prelude.{slice_set, slice_index_or}
use Rattle.std.specs.List.{fold}
use Rattle.std.proofs.lemmas.List.Sums.{fold-append}
use Rattle.lapin_tables.specs.Numbered.{under, with_under}
use Rattle.lapin_types.specs.declared.answer.Answer.{Answer}
use Rattle.lapin_types.specs.declared.event.Event.{Event}
use Rattle.lapin_types.specs.declared.event.Event.TheVariants as event
use Rattle.lapin_types.specs.declared.record.Record.{Record}
use Rattle.lapin_types.specs.declared.record.Record.TheVariants as record_
use Rattle.lapin_types.specs.declared.leaving.Left.{Left}
use Rattle.lapin_types.specs.Types.{Error}
use Rattle.lapin_types.specs.Types.error
use Rattle.lapin_types.specs.Types.method
use Rattle.lapin_types.specs.Types.channel
use Rattle.lapin_types.specs.Types.basic
use Rattle.lapin_types.specs.declared.acker_call.AckerCall.{AckerCall}
use Rattle.lapin_consumer.specs.Subscriptions.{consumer_at}
use Rattle.lapin_rules.specs.declared.calls.Asked.{Asked}
use Rattle.lapin_rules.specs.declared.calls.Asked.TheVariants as ask
use Rattle.lapin_rules.specs.declared.phases.ChannelPhase.{ChannelPhase}
use Rattle.lapin_rules.specs.declared.phases.ChannelPhase.TheVariants as phase
use Rattle.lapin_rules.specs.declared.phases.ConnectionPhase.{ConnectionPhase}
use Rattle.lapin_rules.specs.declared.phases.ConnectionPhase.TheVariants as link
use Rattle.lapin_rules.specs.declared.phases.CloseStage.TheVariants as stage
use Rattle.lapin_rules.specs.declared.phases.Closer.TheVariants as closer
use Rattle.lapin_rules.specs.declared.broker_frames.Incoming.{Incoming}
use Rattle.lapin_rules.specs.declared.broker_frames.Incoming.TheVariants as incoming
use Rattle.lapin_rules.specs.TicketReadings.{TicketMark}
use Rattle.lapin_rules.specs.TicketReadings as ticket
use Rattle.lapin_rules.specs.Words.{with_channel}
use Rattle.lapin_rules.specs.declared.broker_frames.ContentPart.{ContentPart}
use Rattle.lapin_rules.specs.declared.broker_frames.ContentPart.TheVariants as part
use Rattle.lapin_rules.specs.Content.{after_part}
use Rattle.lapin_rules.specs.Phases.{is_lost}
use Rattle.lapin_rules.specs.Incoming.{incoming_of, frame_class, frame_method}
use Rattle.lapin_rules.specs.Wire.{Wire, state_of, phase_of, is_open, noted}
use Rattle.lapin_rules.specs.ChannelClose.{closing, after_close_ok}
use Rattle.lapin_rules.specs.ConnectionClose.{after_connection_close}
use Rattle.lapin_rules.specs.Settlement.{session_close}
use Rattle.lapin_rules.specs.Unexpected.{refused}
use Rattle.lapin_rules.specs.Readings.{Readings}
use Rattle.lapin_rules.specs.Asking.{is_allowed, asked_by, after_call, call_tickets}
use Rattle.lapin_rules.specs.Handing.{handed_out, handed_as, began_on, sent}
use Rattle.lapin_rules.specs.Receiving.{after_received, after_failed, after_refused, after_incoming, incoming_record, incoming_tickets}
use Rattle.lapin_rules.specs.declared.broker_frames.ConsumerPart.{ConsumerPart}
use Rattle.lapin_rules.specs.declared.broker_frames.ConsumerPart.TheVariants as consumer
use Rattle.lapin_rules.specs.Ackers.{acker_asked, usable_at, acked_wire, acked_tickets}
use Rattle.lapin_rules.specs.Consumers.{after_consumer}
use Rattle.lapin_rules.specs.Ends.{live_channels, cancels_on}
use Rattle.lapin_rules.specs.Ends as ends
use Rattle.lapin_rules.specs.Loss.{lost_tickets}
use Rattle.lapin_ticket.specs.declared.Slot.{Slot}
use Rattle.lapin_ticket.specs.declared.Slot.TheVariants as slot
use Rattle.lapin_ticket.specs.Slots.{answered_slot, after_mark, is_awaited}
use Rattle.lapin_machine.specs.World.{World, new_world, next, readings_of, next_anew, told_anew}
use Rattle.lapin_machine.proofs.Back.{next_none, still_none}
use Rattle.lapin_laws.specs.Runs.{world_after}
use Rattle.lapin_laws.proofs.Moving.{Sound, start_sound}
use Rattle.lapin_laws.proofs.Going.{lost_sent}
use Rattle.lapin_laws.proofs.Kept.{Kept, kept-next, no_rest, no_publishes, is_link_lost, dropped_link}
use Rattle.lapin_rules.proofs.PhaseLaws.{lost_down, allowed_up}

abbrev NoneOpen : List (Option Slot) → Type 0
NoneOpen slots = (t : ℕ) → is_awaited (under t slots) ≡ false

-- ---- one mark

not_awaited : (a : Result Answer Error) (o : Option Slot) → is_awaited (answered_slot a o) ≡ false
not_awaited a None = refl
not_awaited a (Some (slot.Open c l b)) = refl
not_awaited a (Some (slot.Held x)) = refl

failed_at : (a : Result Answer Error) (slots : List (Option Slot)) (j : ℕ) → is_awaited (slice_index_or (map (answered_slot a) slots) j None) ≡ false
failed_at a [] j = refl
failed_at a (x ∷ xs) zero = not_awaited a x
failed_at a (x ∷ xs) (suc j) = failed_at a xs j

all_failed : (e : Error) (slots : List (Option Slot)) → NoneOpen (after_mark slots (ticket.AllFailed e))
all_failed e slots zero = refl
all_failed e slots (suc t) = failed_at (Err e) slots t

gone_at : (slots : List (Option Slot)) (i j : ℕ) → is_awaited (slice_index_or slots j None) ≡ false → is_awaited (slice_index_or (slice_set slots i None) j None) ≡ false
gone_at [] i j h = refl
gone_at (x ∷ xs) zero zero h = refl
gone_at (x ∷ xs) zero (suc j) h = h
gone_at (x ∷ xs) (suc i) zero h = h
gone_at (x ∷ xs) (suc i) (suc j) h = gone_at xs i j h

gone : (n : ℕ) (slots : List (Option Slot)) → NoneOpen slots → NoneOpen (with_under n None slots)
gone zero slots h t = h t
gone (suc n) slots h zero = refl
gone (suc n) slots h (suc t) = gone_at slots n t (h (suc t))

polled_none : (u : Bool) (n : ℕ) (m : TicketMark) (slots : List (Option Slot)) → after_mark slots m ≡ with_under n None slots → NoneOpen slots → NoneOpen (fold after_mark slots (cond u (m ∷ []) []))
polled_none true n m slots e h = λ t. ap (λ s. is_awaited (under t s)) e ∙ gone n slots h t
polled_none false n m slots e h = h

-- ---- only a loss loses the connection

abbrev NotLost : Wire → Type 0
NotLost b = is_lost b.link ≡ false

either : (t : Bool) (x y : Wire) → NotLost x → NotLost y → NotLost (cond t x y)
either true x y h k = h
either false x y h k = k

called : (c : ℕ) (k : Asked) (b : Wire) → b.link ≡ link.Open → NotLost (after_call c k b)
called c ask.Open b e = rw e refl
called c (ask.CloseChannel code text) b e = rw e refl
called c (ask.CloseConnection code text) b e = refl
called c (ask.Publish exchange key o payload properties) b e = rw e refl
called c (ask.Method row) b e = rw e refl
called c (ask.Consume m tag queue o) b e = rw e refl
called c (ask.Limit limit) b e = rw e refl
called c ask.Nothing b e = rw e refl

close_answered : (c : ℕ) (p : ChannelPhase) (b : Wire) → NotLost b → NotLost (after_close_ok c p b)
close_answered c phase.Closed b h = h
close_answered c phase.Opening b h = h
close_answered c (phase.Open paused) b h = h
close_answered c (phase.Closing who x) b h = h
close_answered c phase.Crossed b h = h

connection_closed : (l : ConnectionPhase) (b : Wire) → NotLost (after_connection_close l b)
connection_closed (link.Closing stage.Queued) b = refl
connection_closed _ b = refl

part_received : (c : ℕ) (p : ContentPart) (b : Wire) → NotLost b → NotLost (after_part c p b)
part_received c (part.GetOk x) b h = h
part_received c (part.Return x) b h = h
part_received c (part.Deliver tag x) b h = h
part_received c (part.Header x) b h = h
part_received c (part.Body bytes) b h = h

consumer_received : (c : ℕ) (p : ConsumerPart) (b : Wire) → NotLost b → NotLost (after_consumer c p b)
consumer_received c (consumer.ConsumeOk tag) b h = h
consumer_received c (consumer.CancelOk tag) b h = h
consumer_received c consumer.RecoverOk b h = h
consumer_received c (consumer.Cancel tag nowait) b h = either (is_open (state_of c b) && not nowait) (noted c (method.Basic (basic.CancelOk tag)) b) b h h

received : (i : Incoming) (b : Wire) → NotLost b → NotLost (after_received i b)
received (incoming.Reply c k a) b h = h
received (incoming.Settlement c z) b h = h
received (incoming.Content c p) b h = part_received c p b h
received (incoming.Consumer c p) b h = consumer_received c p b h
received (incoming.Flow c active) b h = either (is_open (state_of c b)) (noted c (method.Channel (channel.FlowOk active)) (record b { phases = with_channel c (phase.Open (not active)) b.phases })) b h h
received (incoming.ChannelClose c code) b h = h
received (incoming.ChannelCloseOk c) b h = close_answered c (phase_of c b) b h
received (incoming.ConnectionClose code) b h = connection_closed b.link b
received incoming.ConnectionCloseOk b h = refl
received incoming.Other b h = h

failed : (i : Incoming) (b : Wire) → NotLost b → NotLost (after_failed i b)
failed (incoming.Settlement c z) b h = either (is_open (state_of c b)) (noted c (session_close z.kind) (closing c closer.Session b)) b h h
failed _ b h = h

turned_away : (i : Incoming) (x : Error) (b : Wire) → NotLost b → NotLost (after_refused i x b)
turned_away i (error.UnexpectedFrame class number) b h = refl
turned_away i (error.PreconditionFailed tag current) b h = failed i b h
turned_away i _ b h = h

incoming_not_lost : (i : Incoming) (r : Record) (b : Wire) → NotLost b → NotLost (after_incoming i r b)
incoming_not_lost i (record_.Refused x) b h = turned_away i x b h
incoming_not_lost i record_.Received b h = received i b h
incoming_not_lost i _ b h = h

-- ---- every event

-- once the connection is lost, no ticket is open
abbrev Answered : Wire → List (Option Slot) → Type 0
Answered b slots = is_lost b.link ≡ true → NoneOpen slots

call_answered : (c : ℕ) (k : Asked) (b : Wire) (slots : List (Option Slot)) → Answered b slots → Answered (cond (is_allowed k (state_of c b)) (after_call c k b) b) (fold after_mark slots (cond (is_allowed k (state_of c b)) (call_tickets c k b) []))
call_answered c k b slots h = elim (is_allowed k (state_of c b)) as (λ t. is_allowed k (state_of c b) ≡ t → Answered (cond t (after_call c k b) b) (fold after_mark slots (cond t (call_tickets c k b) []))) [
  | true ↦ λ a l. let z : true ≡ false = sym l ∙ called c k b (allowed_up b.link k _ a) in absurd cc
  | false ↦ λ a. h
] refl

acked_answered : (o : Option (ℕ × ℕ)) (k : AckerCall) (b : Wire) (slots : List (Option Slot)) → Answered b slots → Answered (acked_wire o k b) (fold after_mark slots (acked_tickets o k b))
acked_answered None k b slots h = h
acked_answered (Some x) k b slots h = call_answered x.0 (acker_asked k x.1) b slots h

passed : (i : Incoming) (readings : Readings) (r : Record) (b : Wire) → b.link ≡ link.Lost → incoming_record b readings r i ≡ record_.Passed
passed i readings r b e = rw e refl

incoming_answered : (i : Incoming) (readings : Readings) (r : Record) (b : Wire) (slots : List (Option Slot)) → Answered b slots → Answered (after_incoming i (incoming_record b readings r i) b) (fold after_mark slots (incoming_tickets i (incoming_record b readings r i) b))
incoming_answered i readings r b slots h = elim (is_lost b.link) as (λ t. is_lost b.link ≡ t → Answered (after_incoming i (incoming_record b readings r i) b) (fold after_mark slots (incoming_tickets i (incoming_record b readings r i) b))) [
  | true ↦ λ e _. let none : incoming_record b readings r i ≡ record_.Passed = passed i readings r b (is_link_lost b.link e) in rw none (h e)
  | false ↦ λ e l. let z : true ≡ false = sym l ∙ incoming_not_lost i (incoming_record b readings r i) b e in absurd cc
] refl

ended_all : (ms : List TicketMark) (e : Error) (slots : List (Option Slot)) → NoneOpen (fold after_mark slots (ms ++ ticket.AllFailed e ∷ []))
ended_all ms e slots = subst NoneOpen (sym (fold-append after_mark slots ms (ticket.AllFailed e ∷ []))) (all_failed e (fold after_mark slots ms))

lost_answered : (b : Wire) (slots : List (Option Slot)) → Answered b slots → NoneOpen (fold after_mark slots (lost_tickets b))
lost_answered b slots h = elim (is_lost b.link) as (λ t. is_lost b.link ≡ t → NoneOpen (fold after_mark slots (cond t [] (ends.all_failed error.ConnectionLost b)))) [ true ↦ λ e. h e | false ↦ λ e. ended_all (cancels_on (live_channels b.phases) b.requests) error.ConnectionLost slots ] refl

handed_none : (n : ℕ) (t : ℕ → Bool) (w : World) → Sound n w.wire → is_lost w.wire.link ≡ true → handed_out t w.wire ≡ None
handed_none n t w s l =
    let d = lost_down w.wire.link l in
    let rest : w.wire.rest ≡ [] = no_rest n w s d in
    let methods : w.wire.methods ≡ [] = s.lost l in
    let publishes : w.wire.publishes ≡ [] = no_publishes n w s d in
    rw (rest, methods, publishes) refl

sent_back : (o : Option Left) (b : Wire) → is_lost (sent o b).link ≡ true → is_lost b.link ≡ true
sent_back None b l = l
sent_back (Some x) b l = sym (lost_sent x.frame b.link) ∙ l

answered-anew : (n : ℕ) (w : World) (e : Event) → Sound n w.wire → Answered w.wire w.slots → Answered (next_anew w e).wire (next_anew w e).slots
answered-anew n w (event.Call c k) s h = call_answered c (asked_by k (told_anew w (event.Call c k))) w.wire w.slots h
answered-anew n w (event.Next flow) s h = λ l.
    let r : Record = told_anew w (event.Next flow) in
    let was : is_lost w.wire.link ≡ true = sent_back (handed_as r w.wire) _ l in
    let none : handed_as r w.wire ≡ None = handed_none n (began_on r) w s was in
    rw none (h was)
answered-anew n w (event.Receive f) s h = incoming_answered (incoming_of f) (readings_of w.confirm_state w.slots) (refused (frame_class f) (frame_method f)) w.wire w.slots h
answered-anew n w (event.PollTicket m) s h = λ l. polled_none _ m (ticket.Collected m) w.slots refl (h l)
answered-anew n w (event.AsideTicket m) s h = λ l. polled_none _ m (ticket.SetAside m) w.slots refl (h l)
answered-anew n w (event.PollConfirm m) s h = h
answered-anew n w (event.PollWait c) s h = h
answered-anew n w (event.AsideConfirm m) s h = h
answered-anew n w (event.PollConsumer m) s h = h
answered-anew n w (event.Acker m k) s h = acked_answered (usable_at m w.wire) k w.wire w.slots h
answered-anew n w (event.Delegate m) s h = h
answered-anew n w (event.DropConsumer m) s h = λ l. h (ap is_lost (sym (dropped_link (consumer_at m w.wire.deliveries.subscriptions) w.wire)) ∙ l)
answered-anew n w event.NextJob s h = h
answered-anew n w (event.State c) s h = h
answered-anew n w event.Lost s h = λ l. lost_answered w.wire w.slots h

answered_from : (n : ℕ) (w : World) (es : List Event) → Kept n w.wire → w.returned ≡ None → Answered w.wire w.slots → Answered (fold next w es).wire (fold next w es).slots
answered_from n w [] k none h = h
answered_from n w (e ∷ es) k none h =
    let P : World → Type 0 = λ v. Answered v.wire v.slots in
    answered_from n (next w e) es (kept-next n w e k) (still_none w e none) (subst P (sym (next_none w e none)) (answered-anew n w e k.sound h))

pub answered_after : (n : ℕ) (es : List Event) → Answered (world_after n es).wire (world_after n es).slots
answered_after n es = answered_from n (new_world n) es (record { sound = start_sound n; shut = λ _. refl }) refl (λ l. let z : false ≡ true = l in absurd cc)
