-- Tickets stand for the longer history after each event.
use Rattle.std.proofs.Common.{◌≡◌, ℕ, ◌+◌, Bool, true, false, cond, List, [], ◌∷◌, ◌++◌, Option, Some, None, Result, refl, sym, ◌∙◌, ap, subst, append_assoc, append-nil}
use Rattle.std.specs.List.{fold, filter}
use Rattle.lapin_types.specs.declared.answer.Answer.{Answer}
use Rattle.lapin_rules.specs.declared.calls.Asked.{Asked}
use Rattle.lapin_rules.specs.declared.calls.Asked.TheVariants as ask
use Rattle.lapin_types.specs.declared.event.Event.{Event}
use Rattle.lapin_types.specs.declared.event.Event.TheVariants as event
use Rattle.lapin_types.specs.declared.acker_call.AckerCall.{AckerCall}
use Rattle.lapin_types.specs.declared.leaving.Left.{Left}
use Rattle.lapin_types.specs.declared.record.Record.{Record}
use Rattle.lapin_types.specs.declared.record.Record.TheVariants as record_
use Rattle.lapin_types.specs.declared.request.Request.{Request}
use Rattle.lapin_types.specs.declared.request.ReplyKind.TheVariants as reply_kind
use Rattle.lapin_tables.specs.ByChannel.{at_channel}
use Rattle.lapin_types.specs.Types.{Error}
use Rattle.lapin_types.specs.Types.error
use Rattle.lapin_rules.specs.declared.broker_frames.Incoming.{Incoming}
use Rattle.lapin_rules.specs.declared.broker_frames.Incoming.TheVariants as incoming
use Rattle.lapin_rules.specs.declared.phases.ConnectionPhase.{ConnectionPhase}
use Rattle.lapin_rules.specs.declared.phases.ConnectionPhase.TheVariants as link
use Rattle.lapin_rules.specs.declared.phases.CloseStage.TheVariants as stage
use Rattle.lapin_rules.specs.Phases.{is_lost}
use Rattle.lapin_rules.specs.declared.phases.Closer.TheVariants as closer
use Rattle.lapin_rules.specs.ChannelClose.{failed_at_close, close_ok_end}
use Rattle.lapin_rules.specs.TicketReadings.{TicketMark, Given, ClosedHere, OpeningFailed, AllFailed, Collected, SetAside, gives, given}
use Rattle.lapin_rules.specs.Incoming.{incoming_of}
use Rattle.lapin_content.specs.declared.start.Start.{Start}
use Rattle.lapin_content.specs.declared.start.Start.TheVariants as start
use Rattle.lapin_content.specs.declared.start.Whole.{Whole}
use Rattle.lapin_rules.specs.Content.{next_acker, start_tickets, whole_tickets, whole_on}
use Rattle.lapin_rules.specs.Wire.{Wire, state_of, phase_of, is_open, with_deliveries}
use Rattle.lapin_rules.specs.Asking.{asked_by, is_allowed, after_call}
use Rattle.lapin_rules.specs.Events.{after_event}
use Rattle.lapin_rules.specs.Receiving.{after_incoming}
use Rattle.lapin_rules.specs.Handing.{handed_as}
use Rattle.lapin_rules.specs.declared.marks.AtLeaving.{AtLeaving}
use Rattle.lapin_rules.specs.Events.{ticket_marks}
use Rattle.lapin_rules.specs.Asking.{made_answer, made_marks, leaving_answer, call_tickets}
use Rattle.lapin_rules.specs.Asking.{closing_tickets, asking_deliveries, asked_wire, asking_tickets}
use Rattle.lapin_rules.specs.Handing.{begun_ticket, last_ticket, left_tickets}
use Rattle.lapin_rules.specs.Requests.{is_kind, requests_in, resolved_with}
use Rattle.lapin_rules.specs.Ends.{live_channels, done_with, cancels_at, cancels_on, end_tickets, all_failed}
use Rattle.lapin_rules.specs.ConnectionClose.{failed_at_connection_close, connection_close_tickets}
use Rattle.lapin_rules.specs.Unexpected.{failed_at_unexpected}
use Rattle.lapin_rules.specs.Loss.{after_lost, lost_deliveries}
use Rattle.lapin_rules.specs.declared.broker_frames.ConsumerPart.{ConsumerPart}
use Rattle.lapin_rules.specs.declared.broker_frames.ConsumerPart.TheVariants as consumer
use Rattle.lapin_consumer.specs.Subscriptions.{consumer_at}
use Rattle.lapin_delivery.specs.Marks.{DeliveryMark}
use Rattle.lapin_rules.specs.Consumers.{consumer_tickets}
use Rattle.lapin_rules.specs.Ackers.{acker_asked, usable_at, acked_wire, acker_deliveries, acked_tickets}
use Rattle.lapin_rules.specs.Receiving.{received_tickets, failed_tickets, refused_tickets, incoming_tickets}
use Rattle.lapin_rules.specs.Polls.{is_answer, is_aside}
use Rattle.lapin_rules.proofs.TicketLaws.{given-push}
use Rattle.lapin_ticket.specs.declared.Slot.{Slot}
use Rattle.lapin_ticket.specs.Slots.{after_mark}
use Rattle.lapin_ticket.specs.Follows.{Follows}
use Rattle.lapin_ticket.proofs.Following.{follows-push}
use Rattle.lapin_machine.specs.Stands.{TicketsStand}
use Rattle.lapin_machine.proofs.Counting.{incoming_counts, next_counts, let_go_counts}

-- tickets follow, whatever marks come
follows_fold : (ms new : List TicketMark) (slots : List (Option Slot)) → Follows ms slots → Follows (ms ++ new) (fold after_mark slots new)
follows_fold ms [] slots f = let P : List TicketMark → Type 0 = λ xs. Follows xs slots in subst P (sym (append-nil ms)) f
follows_fold ms (m ∷ new) slots f =
    let P : List TicketMark → Type 0 = λ xs. Follows xs (fold after_mark (after_mark slots m) new) in
    subst P (append_assoc ms (m ∷ []) new) (follows_fold (ms ++ m ∷ []) new (after_mark slots m) (follows-push ms slots m f))

-- marks that give no ticket
abbrev gives_none : List TicketMark → Type 0
gives_none [] = Unit {0}
gives_none (m ∷ ms) = (gives m ≡ false) × gives_none ms

given-none : (ms new : List TicketMark) → gives_none new → given (ms ++ new) ≡ given ms
given-none ms [] h = ap given (append-nil ms)
given-none ms (m ∷ new) h = ap given (sym (append_assoc ms (m ∷ []) new)) ∙ given-none (ms ++ m ∷ []) new h.1 ∙ given-push ms m ∙ rw h.0 refl

join_none : (xs ys : List TicketMark) → gives_none xs → gives_none ys → gives_none (xs ++ ys)
join_none [] ys h k = k
join_none (x ∷ xs) ys h k = (h.0, join_none xs ys h.1 k)

resolved_none : (a : Result Answer Error) (t : Option ℕ) → gives_none (resolved_with a t)
resolved_none a None = tt
resolved_none a (Some n) = (refl, tt)

made_none : (n : ℕ) (a : Option Answer) → gives_none (made_marks n a)
made_none n None = tt
made_none n (Some a) = (refl, tt)

begun_none : (first : Bool) (t n : Option ℕ) → gives_none (begun_ticket first t n)
begun_none true (Some t) (Some n) = (refl, tt)
begun_none true (Some t) None = tt
begun_none true None n = tt
begun_none false t n = tt

last_none : (last : Bool) (t : Option ℕ) → gives_none (last_ticket last t)
last_none true (Some t) = (refl, tt)
last_none true None = tt
last_none false t = tt

left_none : (o : Option Left) → gives_none (left_tickets o)
left_none None = tt
left_none (Some l) = join_none (begun_ticket l.first l.ticket l.publish) (last_ticket l.last l.ticket) (begun_none l.first l.ticket l.publish) (last_none l.last l.ticket)

choose_none : (t : Bool) (xs ys : List TicketMark) → gives_none xs → gives_none ys → gives_none (cond t xs ys)
choose_none true xs ys h k = h
choose_none false xs ys h k = k

done_none : (rs : List Request) → gives_none (done_with rs)
done_none [] = tt
done_none (r ∷ rs) = join_none (resolved_with _ r.ticket) (done_with rs) (resolved_none _ r.ticket) (done_none rs)

cancels_none : (c : ℕ) (all : List (ℕ × List Request)) → gives_none (cancels_at c all)
cancels_none c all = done_none (filter (is_kind reply_kind.BasicCancelOk) (requests_in (at_channel c all)))

on_none : (cs : List ℕ) (all : List (ℕ × List Request)) → gives_none (cancels_on cs all)
on_none [] all = tt
on_none (c ∷ cs) all = join_none (cancels_at c all) (cancels_on cs all) (cancels_none c all) (on_none cs all)

-- every open ticket fails, or is that of a cancel
failed_all_none : (e : Error) (b : Wire) → gives_none (all_failed e b)
failed_all_none e b = join_none (cancels_on (live_channels b.phases) b.requests) (AllFailed e ∷ []) (on_none (live_channels b.phases) b.requests) (refl, tt)

call_none : (c : ℕ) (k : Asked) (b : Wire) → gives_none (closing_tickets c k b)
call_none c ask.Open b = tt
call_none c (ask.CloseChannel code text) b = (refl, tt)
call_none c (ask.CloseConnection code text) b = failed_all_none failed_at_connection_close b
call_none c (ask.Method row) b = tt
call_none c (ask.Consume m tag queue o) b = tt
call_none c (ask.Limit limit) b = tt
call_none c ask.Nothing b = tt
call_none c (ask.Publish exchange key o payload properties) b = tt

end_none : (c : ℕ) (e : Option Error) (b : Wire) → gives_none (end_tickets c e b)
end_none c None b = tt
end_none c (Some e) b = join_none (cancels_at c b.requests) (OpeningFailed c None e ∷ []) (cancels_none c b.requests) (refl, tt)

connection_close_none : (l : ConnectionPhase) (code : ℕ) (b : Wire) → gives_none (connection_close_tickets l code b)
connection_close_none (link.Closing stage.Sent) code b = tt
connection_close_none (link.Closing stage.Crossed) code b = tt
connection_close_none _ code b = failed_all_none (error.ProtocolError code) b

start_none : (c n : ℕ) (s : Start) (w : Whole) → gives_none (start_tickets c n s w)
start_none c n (start.Get ticket tag exchange key redelivered count) w = resolved_none _ ticket
start_none c n (start.Return code text exchange key) w = tt
start_none c n (start.Deliver consumer tag exchange key redelivered) w = tt

whole_none : (c n : ℕ) (w : Option Whole) → gives_none (whole_tickets c n w)
whole_none c n None = tt
whole_none c n (Some w) = start_none c n w.start w

consumer_none : (c : ℕ) (p : ConsumerPart) (b : Wire) → gives_none (consumer_tickets c p b)
consumer_none c (consumer.ConsumeOk tag) b = resolved_none _ _
consumer_none c (consumer.CancelOk tag) b = resolved_none _ _
consumer_none c consumer.RecoverOk b = resolved_none _ _
consumer_none c (consumer.Cancel tag nowait) b = tt

received_none : (i : Incoming) (b : Wire) → gives_none (received_tickets i b)
received_none (incoming.Reply c k a) b = resolved_none _ _
received_none (incoming.Settlement c s) b = tt
received_none (incoming.Content c p) b = whole_none c (next_acker b.deliveries) (whole_on c p b)
received_none (incoming.Consumer c p) b = consumer_none c p b
received_none (incoming.ChannelClose c code) b = join_none (cancels_at c b.requests) (OpeningFailed c _ (error.ProtocolError code) ∷ []) (cancels_none c b.requests) (refl, tt)
received_none (incoming.ChannelCloseOk c) b = join_none _ (end_tickets c (close_ok_end (phase_of c b)) b) (resolved_none _ _) (end_none c (close_ok_end (phase_of c b)) b)
received_none (incoming.ConnectionClose code) b = connection_close_none b.link code b
received_none incoming.ConnectionCloseOk b = resolved_none _ _
received_none (incoming.Flow c active) b = tt
received_none incoming.Other b = tt

failed_none : (i : Incoming) (b : Wire) → gives_none (failed_tickets i b)
failed_none (incoming.Settlement c s) b = choose_none (is_open (state_of c b)) (ClosedHere c (failed_at_close closer.Session) ∷ []) [] (refl, tt) tt
failed_none (incoming.Reply c k a) b = tt
failed_none (incoming.Content c p) b = tt
failed_none (incoming.Consumer c p) b = tt
failed_none (incoming.ChannelClose c code) b = tt
failed_none (incoming.ChannelCloseOk c) b = tt
failed_none (incoming.ConnectionClose code) b = tt
failed_none incoming.ConnectionCloseOk b = tt
failed_none (incoming.Flow c active) b = tt
failed_none incoming.Other b = tt

refused_none : (i : Incoming) (e : Error) (b : Wire) → gives_none (refused_tickets i e b)
refused_none i (error.UnexpectedFrame class number) b = failed_all_none failed_at_unexpected b
refused_none i (error.PreconditionFailed tag current) b = failed_none i b
refused_none i error.NoMemory b = tt
refused_none i error.NumbersUsedUp b = tt
refused_none i (error.InvalidChannelState x) b = tt
refused_none i (error.ProtocolError code) b = tt
refused_none i error.ConnectionLost b = tt
refused_none i error.AlreadyTaken b = tt
refused_none i error.UnknownTicket b = tt
refused_none i (error.ConfirmsOutstanding limit) b = tt

incoming_none : (i : Incoming) (r : Record) (b : Wire) → gives_none (incoming_tickets i r b)
incoming_none i (record_.Refused e) b = refused_none i e b
incoming_none i record_.Received b = received_none i b
incoming_none i _ b = tt

-- an event that gives no ticket
stand_quiet : (b d : Wire) (ms new : List TicketMark) (slots : List (Option Slot)) → TicketsStand b ms slots → gives_none new → d.tickets ≡ b.tickets → TicketsStand d (ms ++ new) (fold after_mark slots new)
stand_quiet b d ms new slots s h e = record { kept = follows_fold ms new slots s.kept; given = e ∙ s.given ∙ sym (given-none ms new h) }

call_tickets_more : (c : ℕ) (k : Asked) (b : Wire) → (after_call c k b).tickets ≡ b.tickets + 1
call_tickets_more c ask.Open b = refl
call_tickets_more c (ask.CloseChannel code text) b = refl
call_tickets_more c (ask.CloseConnection code text) b = refl
call_tickets_more c (ask.Method row) b = refl
call_tickets_more c (ask.Consume m tag queue o) b = refl
call_tickets_more c (ask.Limit limit) b = refl
call_tickets_more c ask.Nothing b = refl
call_tickets_more c (ask.Publish exchange key o payload properties) b = refl

-- marks that give one ticket
given-one : (c : ℕ) (l : AtLeaving) (ms before made : List TicketMark) → gives_none before → gives_none made → given (ms ++ (before ++ (Given c l ∷ made))) ≡ given ms + 1
given-one c l ms before made h k =
    ap given (sym (append_assoc ms before (Given c l ∷ made)))
    ∙ ap given (sym (append_assoc (ms ++ before) (Given c l ∷ []) made))
    ∙ given-none ((ms ++ before) ++ Given c l ∷ []) made k
    ∙ given-push (ms ++ before) (Given c l)
    ∙ ap (λ n. n + 1) (given-none ms before h)

stand_call : (c : ℕ) (k : Asked) (b : Wire) (ms : List TicketMark) (slots : List (Option Slot)) → TicketsStand b ms slots → TicketsStand (after_call c k b) (ms ++ call_tickets c k b) (fold after_mark slots (call_tickets c k b))
stand_call c k b ms slots s =
    let all : given (ms ++ call_tickets c k b) ≡ given ms + 1 = given-one c (leaving_answer k b) ms (closing_tickets c k b) (made_marks (b.tickets + 1) (made_answer k b)) (call_none c k b) (made_none (b.tickets + 1) (made_answer k b)) in
    record { kept = follows_fold ms (call_tickets c k b) slots s.kept; given = call_tickets_more c k b ∙ ap (λ n. n + 1) s.given ∙ sym all }

choose_call : (t : Bool) (x b : Wire) (ms new : List TicketMark) (slots : List (Option Slot)) → TicketsStand x (ms ++ new) (fold after_mark slots new) → TicketsStand b ms slots → TicketsStand (cond t x b) (ms ++ cond t new []) (fold after_mark slots (cond t new []))
choose_call true x b ms new slots h s = h
choose_call false x b ms new slots h s = stand_quiet b b ms [] slots s tt refl

stand_lost : (l : ConnectionPhase) (b d : Wire) (ms new : List TicketMark) (slots : List (Option Slot)) → d.tickets ≡ b.tickets → gives_none new → TicketsStand b ms slots → TicketsStand (cond (is_lost l) b d) (ms ++ cond (is_lost l) [] new) (fold after_mark slots (cond (is_lost l) [] new))
stand_lost link.Lost b d ms new slots same none s = stand_quiet b b ms [] slots s tt refl
stand_lost _ b d ms new slots same none s = stand_quiet b d ms new slots s none same

-- what happens to consumers and ackers is nothing to the tickets
stand_boxed : (xs : List DeliveryMark) (b : Wire) (ms : List TicketMark) (slots : List (Option Slot)) → TicketsStand b ms slots → TicketsStand (with_deliveries xs b) ms slots
stand_boxed xs b ms slots s = record { kept = s.kept; given = s.given }

stand_asked : (c : ℕ) (k : Asked) (b : Wire) (ms : List TicketMark) (slots : List (Option Slot)) → TicketsStand b ms slots → TicketsStand (asked_wire c k b) (ms ++ asking_tickets c k b) (fold after_mark slots (asking_tickets c k b))
stand_asked c k b ms slots s = choose_call (is_allowed k (state_of c b)) (after_call c k b) b ms (call_tickets c k b) slots (stand_call c k b ms slots s) s

stand_acked : (o : Option (ℕ × ℕ)) (k : AckerCall) (b : Wire) (ms : List TicketMark) (slots : List (Option Slot)) → TicketsStand b ms slots → TicketsStand (acked_wire o k b) (ms ++ acked_tickets o k b) (fold after_mark slots (acked_tickets o k b))
stand_acked None k b ms slots s = stand_quiet b b ms [] slots s tt refl
stand_acked (Some x) k b ms slots s = stand_asked x.0 (acker_asked k x.1) b ms slots s

pub tickets-next : (b : Wire) (ms : List TicketMark) (slots : List (Option Slot)) (e : Event) (r : Record) → TicketsStand b ms slots → TicketsStand (after_event b e r) (ms ++ ticket_marks b e r) (fold after_mark slots (ticket_marks b e r))
tickets-next b ms slots (event.Call c k) r s = stand_boxed (asking_deliveries c (asked_by k r) b) (asked_wire c (asked_by k r) b) _ _ (stand_asked c (asked_by k r) b ms slots s)
tickets-next b ms slots (event.Next flow) r s = stand_quiet b (after_event b (event.Next flow) r) ms (left_tickets (handed_as r b)) slots s (left_none (handed_as r b)) (next_counts r b).0
tickets-next b ms slots (event.Receive f) r s = stand_quiet b (after_incoming (incoming_of f) r b) ms (incoming_tickets (incoming_of f) r b) slots s (incoming_none (incoming_of f) r b) (incoming_counts (incoming_of f) r b).0
tickets-next b ms slots (event.PollTicket n) r s = stand_quiet b b ms (cond (is_answer r) (Collected n ∷ []) []) slots s (choose_none (is_answer r) (Collected n ∷ []) [] (refl, tt) tt) refl
tickets-next b ms slots (event.AsideTicket n) r s = stand_quiet b b ms (cond (is_aside r) (SetAside n ∷ []) []) slots s (choose_none (is_aside r) (SetAside n ∷ []) [] (refl, tt) tt) refl
tickets-next b ms slots (event.PollConfirm n) r s = stand_quiet b b ms [] slots s tt refl
tickets-next b ms slots (event.PollConsumer n) r s = stand_quiet b (after_event b (event.PollConsumer n) r) ms [] slots s tt refl
tickets-next b ms slots (event.PollWait c) r s = stand_quiet b b ms [] slots s tt refl
tickets-next b ms slots (event.AsideConfirm n) r s = stand_quiet b b ms [] slots s tt refl
tickets-next b ms slots (event.Acker n k) r s = stand_boxed (acker_deliveries n k b) (acked_wire (usable_at n b) k b) _ _ (stand_acked (usable_at n b) k b ms slots s)
tickets-next b ms slots (event.Delegate n) r s = stand_quiet b (after_event b (event.Delegate n) r) ms [] slots s tt refl
tickets-next b ms slots (event.DropConsumer n) r s = stand_quiet b (after_event b (event.DropConsumer n) r) ms [] slots s tt (let_go_counts (consumer_at n b.deliveries.subscriptions) b).0
tickets-next b ms slots event.NextJob r s = stand_quiet b (after_event b event.NextJob r) ms [] slots s tt refl
tickets-next b ms slots (event.State c) r s = stand_quiet b b ms [] slots s tt refl
tickets-next b ms slots event.Lost r s = stand_boxed (lost_deliveries b) (after_lost b) _ _ (stand_lost b.link b _ ms (all_failed error.ConnectionLost b) slots refl (failed_all_none error.ConnectionLost b) s)
