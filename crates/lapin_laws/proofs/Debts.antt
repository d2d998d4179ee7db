-- Each open ticket that awaits a reply has its request, after every list of events.
use Rattle.std.proofs.Common.{◌≡◌, ℕ, zero, suc, ◌+◌, Bool, true, false, cond, not, ◌&&◌, ◌==◌, List, [], ◌∷◌, ◌++◌, length, Option, Some, None, Ok, refl, sym, subst, ◌∙◌, inl, inr}
use Rattle.std.specs.List.{fold}
use Rattle.std.proofs.lemmas.List.Sums.{fold-append}
use Rattle.lapin_tables.specs.ByChannel.{on_channel}
use Rattle.lapin_tables.specs.Numbered.{under, with_under}
use Rattle.lapin_types.specs.declared.event.Event.{Event}
use Rattle.lapin_types.specs.declared.event.Event.TheVariants as event
use Rattle.lapin_types.specs.declared.record.Record.{Record}
use Rattle.lapin_types.specs.declared.record.Record.TheVariants as record_
use Rattle.lapin_types.specs.declared.answer.Answer.{Answer}
use Rattle.lapin_types.specs.declared.answer.Answer.TheVariants as answer
use Rattle.lapin_types.specs.declared.leaving.Left.{Left}
use Rattle.lapin_types.specs.declared.request.Reply.{Reply}
use Rattle.lapin_types.specs.declared.request.Reply.TheVariants as reply
use Rattle.lapin_types.specs.declared.request.ReplyKind.TheVariants as reply_kind
use Rattle.lapin_types.specs.Types.{Error, Frame}
use Rattle.lapin_types.specs.Types.frame
use Rattle.lapin_types.specs.Types.connection
use Rattle.lapin_types.specs.Types.basic
use Rattle.lapin_types.specs.Types.access
use Rattle.lapin_types.specs.Types.exchange
use Rattle.lapin_types.specs.Types.queue
use Rattle.lapin_types.specs.Types.confirm
use Rattle.lapin_types.specs.Types.tx
use Rattle.lapin_types.specs.Types.error
use Rattle.lapin_types.specs.Types.method
use Rattle.lapin_types.specs.Types.channel
use Rattle.lapin_types.specs.declared.acker_call.AckerCall.{AckerCall}
use Rattle.lapin_types.specs.declared.request.Request.{Request}
use Rattle.lapin_rules.specs.declared.marks.AtLeaving.{AtLeaving}
use Rattle.lapin_rules.specs.declared.marks.AtLeaving.TheVariants as leaving
use Rattle.lapin_rules.specs.declared.calls.Asked.{Asked}
use Rattle.lapin_rules.specs.declared.phases.ChannelPhase.{ChannelPhase}
use Rattle.lapin_rules.specs.declared.phases.ChannelPhase.TheVariants as phase
use Rattle.lapin_rules.specs.declared.phases.ConnectionPhase.{ConnectionPhase}
use Rattle.lapin_rules.specs.declared.phases.ConnectionPhase.TheVariants as link
use Rattle.lapin_rules.specs.declared.phases.CloseStage.TheVariants as stage
use Rattle.lapin_rules.specs.declared.phases.Closer.TheVariants as closer
use Rattle.lapin_rules.specs.declared.broker_frames.Incoming.{Incoming}
use Rattle.lapin_rules.specs.declared.broker_frames.Incoming.TheVariants as incoming
use Rattle.lapin_rules.specs.TicketReadings.{TicketMark, answer_at}
use Rattle.lapin_rules.specs.TicketReadings as ticket
use Rattle.lapin_rules.specs.Words.{with_channel, is_some}
use Rattle.lapin_rules.specs.Phases.{is_lost}
use Rattle.lapin_rules.specs.Calls.{awaited_by, made_by, leaving_by}
use Rattle.lapin_rules.specs.Incoming.{incoming_of, frame_class, frame_method}
use Rattle.lapin_rules.specs.declared.broker_frames.ContentPart.{ContentPart}
use Rattle.lapin_rules.specs.declared.broker_frames.ContentPart.TheVariants as part
use Rattle.lapin_content.specs.Contents.{expected, after_header, after_body, for_ticket, for_consumer}
use Rattle.lapin_content.specs.Channels.{Channels, expected_on}
use Rattle.lapin_consumer.specs.Subscriptions.{Consumer, consumer_at, found}
use Rattle.lapin_rules.specs.Content.{content_class, get_ticket, receives_part, after_part, part_tickets, whole_on, next_acker}
use Rattle.lapin_rules.specs.Requests.{first_request, close_alone, no_requests, without_kind, is_kind, resolved_with, with_request}
use Rattle.lapin_rules.specs.Ends.{down, end_tickets, cancels_done, cancels_on, live_channels, all_failed}
use Rattle.lapin_rules.specs.Wire.{Wire, state_of, phase_of, requests_of, is_open, receives_on, requests_with, noted}
use Rattle.lapin_rules.specs.ChannelClose.{has_sent_close, closing, close_tickets, close_ticket, close_ok_end, after_close_ok, failed_at_close, failed_at_close_ok}
use Rattle.lapin_rules.specs.ConnectionClose.{after_connection_close, connection_close_tickets, failed_at_connection_close}
use Rattle.lapin_rules.specs.Settlement.{session_close}
use Rattle.lapin_rules.specs.Polls.{is_answer, is_aside}
use Rattle.lapin_rules.specs.Asking.{is_allowed, asked_by, after_call, made_marks, call_tickets, asked_wire, asking_tickets}
use Rattle.lapin_rules.specs.Handing.{sent, handed_as, left_tickets, begun_ticket, last_ticket}
use Rattle.lapin_rules.specs.Receiving.{after_received, received_tickets, after_failed, failed_tickets, after_refused, refused_tickets, after_incoming, incoming_tickets}
use Rattle.lapin_rules.specs.History.{History}
use Rattle.lapin_rules.specs.declared.calls.Answered.{Answered}
use Rattle.lapin_rules.specs.declared.calls.Answered.TheVariants as answered
use Rattle.lapin_rules.specs.declared.calls.Asked.TheVariants as ask
use Rattle.lapin_rules.specs.declared.broker_frames.ConsumerPart.{ConsumerPart}
use Rattle.lapin_rules.specs.declared.broker_frames.ConsumerPart.TheVariants as consumer
use Rattle.lapin_rules.specs.Consumers.{next_consumer, after_consumer, consumer_tickets, lets_go_of, cancel_noted, after_let_go}
use Rattle.lapin_rules.specs.Ackers.{acker_asked, usable_at, acked_wire, acked_tickets}
use Rattle.lapin_ticket.specs.declared.Slot.{Slot}
use Rattle.lapin_ticket.specs.declared.Slot.TheVariants as slot
use Rattle.lapin_ticket.specs.Slots.{after_mark}
use Rattle.lapin_machine.specs.Stands.{Stands}
use Rattle.lapin_machine.specs.World.{World, new_world, next, next_anew, told_by, told_anew, readings_of}
use Rattle.lapin_machine.proofs.Back.{given_none, next_none, still_none}
use Rattle.lapin_machine.proofs.HeardParts.{IsHeard, is_heard}
use Rattle.lapin_machine.proofs.Counts.{closed-count}
use Rattle.lapin_laws.specs.Runs.{world_after}
use Rattle.lapin_laws.specs.Owed.{IsIn, request_tickets, IsOwed}
use Rattle.lapin_laws.proofs.Traces.{stands_new, stands_next}
use Rattle.lapin_laws.proofs.Opens.{IsOpen, open_begun, open_left, open_closed, open_gone}
use Rattle.lapin_laws.proofs.Expecting.{header_keeps, body_keeps, names_its_get, is_get}
use Rattle.lapin_laws.proofs.Owing.{Table, Owed, in_alone, Fewer, same, asks, gives, makes, answers, answers_on, ends_one, falls, begins, expects, hears, notes}
use Rattle.lapin_laws.proofs.Rows.{IsLine, is_sure, told_line, acker_line}
use Rattle.lapin_laws.proofs.Cancels.{resolved_fewer, cancels_fewer, failing-count}
use Rattle.lapin_tables.proofs.Bools.{and_second}

abbrev Owes : Wire → List (Option Slot) → Type 0
Owes b slots = Owed b.requests b.contents slots

module _ (slots : List (Option Slot)) where
  closed_fewer : (d : ℕ) (e : Error) → Fewer slots (after_mark slots (ticket.ClosedHere d e))
  closed_fewer d e n c a g x = (g, (open_closed c a g n slots d e x).0)

  gone_fewer : (m : ℕ) → Fewer slots (with_under m None slots)
  gone_fewer m n c a g x = (g, open_gone c a g n slots m x)

  begun_fewer : (m : ℕ) → Fewer slots (after_mark slots (ticket.Begun m))
  begun_fewer m n c a g x = elim (open_begun c a g n slots m x) [ inl y ↦ (g, y.1) | inr y ↦ y.2 ]

  left_fewer : (m : ℕ) → Fewer slots (after_mark slots (ticket.LastLeft m))
  left_fewer m n c a g x = (g, (open_left c a g n slots m x).0)

-- ---- calls

abbrev CallOwes : ℕ → Asked → Type 0
CallOwes c k = (b : Wire) (slots : List (Option Slot)) → is_allowed k (state_of c b) ≡ true → b.tickets ≡ length slots → Owes b slots → Owes (after_call c k b) (fold after_mark slots (call_tickets c k b))

-- a line of the table of calls: the reply that it awaits, the answer that it makes, and that of its leaving
abbrev RowOwes : ℕ → Option Reply → Option Answer → AtLeaving → Type 0
RowOwes c r made at = (b : Wire) (slots : List (Option Slot)) → b.tickets ≡ length slots → Owes b slots → Owed (requests_with c (b.tickets + 1) r b.requests) b.contents (fold after_mark slots (ticket.Given c at ∷ made_marks (b.tickets + 1) made))

awaits : (c : ℕ) (r : Reply) → RowOwes c (Some r) None leaving.Nothing
awaits c r b slots n h = asks b.requests b.contents slots b.tickets c n h r

at_once : (c : ℕ) (a : Answer) → RowOwes c None (Some a) leaving.Nothing
at_once c a b slots n h = makes b.requests b.contents slots b.tickets c n h leaving.Nothing (Ok a)

leaves : (c : ℕ) (l : AtLeaving) → is_some (answer_at l) ≡ true → RowOwes c None None l
leaves c l sure b slots n h = gives b.requests b.contents slots b.tickets c n h l (λ e. let z : is_some (answer_at leaving.Nothing) ≡ true = rw e at sure in cc)

row_owes : (c : ℕ) (x : Answered) → is_sure x ≡ true → RowOwes c (awaited_by x) (made_by x) (leaving_by x)
row_owes c (answered.ByReply r) sure = awaits c r
row_owes c (answered.AtOnce r a) sure = at_once c a
row_owes c (answered.AsItLeaves l) sure = leaves c l sure

-- every ticket fails, whatever was done before
all_fall : (ms : List TicketMark) (e : Error) (rs : Table) (cs : Channels) (slots : List (Option Slot)) → Owed rs cs (fold after_mark slots (ms ++ ticket.AllFailed e ∷ []))
all_fall ms e rs cs slots = subst (Owed rs cs) (sym (fold-append after_mark slots ms (ticket.AllFailed e ∷ []))) (falls e rs cs (fold after_mark slots ms))

-- a close of the connection fails every ticket, and gives the next
close_owes : (c : ℕ) (e : Error) (b : Wire) (slots : List (Option Slot)) → b.tickets ≡ length slots → Owed (with_request c (record { ticket = Some (b.tickets + 1); reply = reply.ConnectionCloseOk }) []) [] (fold after_mark slots (all_failed e b ++ (ticket.Given c leaving.Nothing ∷ [])))
close_owes c e b slots n =
    let cancels : List TicketMark = cancels_on (live_channels b.phases) b.requests in
    let rs : Table = with_request c (record { ticket = Some (b.tickets + 1); reply = reply.ConnectionCloseOk }) [] in
    subst (Owed rs []) (sym (fold-append after_mark slots (all_failed e b) (ticket.Given c leaving.Nothing ∷ []))) (asks [] [] (fold after_mark slots (all_failed e b)) b.tickets c (n ∙ sym (failing-count (live_channels b.phases) b.requests e slots)) (all_fall cancels e [] [] slots) reply.ConnectionCloseOk)

call_owes : (c : ℕ) (k : Asked) → IsLine c k → CallOwes c k
call_owes c ask.Open line = λ b slots a n h. asks b.requests b.contents slots b.tickets c n h reply.ChannelOpenOk
call_owes c (ask.CloseChannel code text) line = λ b slots a n h.
    let e : Error = failed_at_close closer.Application in
    asks b.requests b.contents (after_mark slots (ticket.ClosedHere c e)) b.tickets c (n ∙ sym (closed-count c e slots)) (same b.requests b.contents slots _ (closed_fewer slots c e) h) reply.ChannelCloseOk
call_owes c (ask.CloseConnection code text) line = λ b slots a n h. close_owes c failed_at_connection_close b slots n
call_owes c (ask.Publish exchange key o payload properties) line = λ b slots a n h. gives b.requests b.contents slots b.tickets c n h (leaving.Confirm (b.published + 1)) (λ e. cc)
call_owes c (ask.Consume m tag queue o) line = λ b slots a n h. at_once c (answer.Consumer (next_consumer b.deliveries)) b slots n h
call_owes c (ask.Limit limit) line = λ b slots a n h. at_once c answer.Done b slots n h
call_owes c ask.Nothing line = λ b slots a n h. absurd cc
call_owes c (ask.Method row) line = λ b slots a n h. row_owes c row.answered line.1 b slots n h

choose : (t : Bool) (x y : Wire) (ms ns : List TicketMark) (slots : List (Option Slot)) → Owes x (fold after_mark slots ms) → Owes y (fold after_mark slots ns) → Owes (cond t x y) (fold after_mark slots (cond t ms ns))
choose true x y ms ns slots h k = h
choose false x y ms ns slots h k = k

asked_owes : (c : ℕ) (k : Asked) → IsLine c k → (b : Wire) (slots : List (Option Slot)) → b.tickets ≡ length slots → Owes b slots → Owes (asked_wire c k b) (fold after_mark slots (asking_tickets c k b))
asked_owes c k line b slots n h = elim (is_allowed k (state_of c b)) as (λ t. is_allowed k (state_of c b) ≡ t → Owes (cond t (after_call c k b) b) (fold after_mark slots (cond t (call_tickets c k b) []))) [
  | true ↦ λ a. call_owes c k line b slots a n h
  | false ↦ λ a. h
] refl

acked_owes : (o : Option (ℕ × ℕ)) (k : AckerCall) (b : Wire) (slots : List (Option Slot)) → b.tickets ≡ length slots → Owes b slots → Owes (acked_wire o k b) (fold after_mark slots (acked_tickets o k b))
acked_owes None k b slots n h = h
acked_owes (Some x) k b slots n h = asked_owes x.0 (acker_asked k x.1) (acker_line x.0 x.1 k) b slots n h

-- a consumer that is let go: its cancel is a request without a ticket
let_go_owes : (t : Bool) (x : Consumer) (b : Wire) (slots : List (Option Slot)) → Owes b slots → Owes (cond t (cancel_noted x b) b) slots
let_go_owes true x b slots h = notes x.channel reply.BasicCancelOk b.requests b.contents slots h
let_go_owes false x b slots h = h

dropped_owes : (o : Option Consumer) (b : Wire) (slots : List (Option Slot)) → Owes b slots → Owes (after_let_go o b) slots
dropped_owes None b slots h = h
dropped_owes (Some x) b slots h = let_go_owes (lets_go_of x b) x b slots h

-- ---- close-ok of a channel

-- an opening ends, after its cancels were done
ends_done : (c : ℕ) (kept : Option ℕ) (e : Error) (f : List Request → List Request) (b : Wire) (slots : List (Option Slot)) → f [] ≡ [] → ((n : ℕ) → kept ≡ Some n → IsIn (Some n) (request_tickets (f (requests_of c b)))) → Owes b slots → Owed (on_channel c f b.requests) (on_channel c (λ _. []) b.contents) (fold after_mark slots (cancels_done c b ++ ticket.OpeningFailed c kept e ∷ []))
ends_done c kept e f b slots none keeps h =
    let done : List TicketMark = cancels_done c b in
    let rest : Owes b (fold after_mark slots done) = same b.requests b.contents slots _ (cancels_fewer c b.requests slots) h in
    subst (Owed (on_channel c f b.requests) (on_channel c (λ _. []) b.contents)) (sym (fold-append after_mark slots done (ticket.OpeningFailed c kept e ∷ []))) (ends_one c kept e f b.requests b.contents _ none keeps rest)

-- the requests of the channel go, after the close's ticket was answered
all_go : (c : ℕ) (o : Option ℕ) (x : Error) (b : Wire) (slots : List (Option Slot)) → Owes b slots → Owed (on_channel c no_requests b.requests) (on_channel c (λ _. []) b.contents) (fold after_mark slots (resolved_with (Ok answer.Done) o ++ end_tickets c (Some x) b))
all_go c o x b slots h =
    let first : List TicketMark = resolved_with (Ok answer.Done) o in
    let rest : Owes b (fold after_mark slots first) = same b.requests b.contents slots _ (resolved_fewer slots (Ok answer.Done) o) h in
    subst (Owed (on_channel c no_requests b.requests) (on_channel c (λ _. []) b.contents)) (sym (fold-append after_mark slots first (end_tickets c (Some x) b))) (ends_done c None x no_requests b (fold after_mark slots first) refl (λ n e. absurd cc) rest)

one_goes : (c : ℕ) (b : Wire) (slots : List (Option Slot)) → Owes b slots → Owed (on_channel c (without_kind reply_kind.ChannelCloseOk) b.requests) b.contents (fold after_mark slots (resolved_with (Ok answer.Done) (close_ticket c b) ++ []))
one_goes c b slots h = subst (Owed (on_channel c (without_kind reply_kind.ChannelCloseOk) b.requests) b.contents) (sym (fold-append after_mark slots (resolved_with (Ok answer.Done) (close_ticket c b)) [])) (answers_on c (is_kind reply_kind.ChannelCloseOk) (Ok answer.Done) b.requests b.contents slots h)

close_ok_owes : (c : ℕ) (p : ChannelPhase) (b : Wire) (slots : List (Option Slot)) → Owes b slots → Owes (after_close_ok c p b) (fold after_mark slots (resolved_with (Ok answer.Done) (close_ticket c b) ++ end_tickets c (close_ok_end p) b))
close_ok_owes c (phase.Closing who s) b slots h = all_go c (close_ticket c b) (failed_at_close_ok who) b slots h
close_ok_owes c phase.Closed b slots h = one_goes c b slots h
close_ok_owes c phase.Opening b slots h = one_goes c b slots h
close_ok_owes c (phase.Open paused) b slots h = one_goes c b slots h
close_ok_owes c phase.Crossed b slots h = one_goes c b slots h

-- ---- frames of the broker

-- the answer to a get begins the content of one
abbrev IsMade : Incoming → Type 0
IsMade (incoming.Content c (part.GetOk s)) = is_get s ≡ true
IsMade _ = Unit {0}

on_made : (t : Bool) (i : Incoming) → IsMade i → IsMade (cond t i incoming.Other)
on_made true i h = h
on_made false i h = tt

is_made : (f : Frame) → IsMade (incoming_of f)
is_made (frame.Method c (method.Connection (connection.Close code text class number))) = on_made (c == 0) (incoming.ConnectionClose code) tt
is_made (frame.Method c (method.Connection connection.CloseOk)) = on_made (c == 0) incoming.ConnectionCloseOk tt
is_made (frame.Method c (method.Basic (basic.GetOk tag redelivered exchange key count))) = refl
is_made (frame.Method c (method.Channel channel.OpenOk)) = tt
is_made (frame.Method c (method.Access access.RequestOk)) = tt
is_made (frame.Method c (method.Exchange exchange.DeclareOk)) = tt
is_made (frame.Method c (method.Queue queue.BindOk)) = tt
is_made (frame.Method c (method.Confirm confirm.SelectOk)) = tt
is_made (frame.Method c (method.Tx tx.SelectOk)) = tt
is_made _ = tt

module _ (b : Wire) (slots : List (Option Slot)) (h : Owes b slots) where
  kept_none : (s : Bool) → cond s (close_alone []) (no_requests []) ≡ []
  kept_none true = refl
  kept_none false = refl

  kept_has : (s : Bool) (c n : ℕ) → cond s (close_ticket c b) None ≡ Some n → IsIn (Some n) (request_tickets (cond s (close_alone (requests_of c b)) (no_requests (requests_of c b))))
  kept_has true c n e = in_alone n (first_request reply_kind.ChannelCloseOk (requests_of c b)) (sym e)
  kept_has false c n e = absurd cc

  closes : (c : ℕ) (s : Bool) (e : Error) → Owed (on_channel c (λ rs. cond s (close_alone rs) (no_requests rs)) b.requests) (on_channel c (λ _. []) b.contents) (fold after_mark slots (cancels_done c b ++ ticket.OpeningFailed c (cond s (close_ticket c b) None) e ∷ []))
  closes c s e = ends_done c (cond s (close_ticket c b) None) e (λ rs. cond s (close_alone rs) (no_requests rs)) b slots (kept_none s) (kept_has s c) h

  ends_all : (e : Error) → Owed [] [] (fold after_mark slots (all_failed e b))
  ends_all e = all_fall (cancels_on (live_channels b.phases) b.requests) e [] [] slots

  failed_owes : (i : Incoming) → Owes (after_failed i b) (fold after_mark slots (failed_tickets i b))
  failed_owes (incoming.Settlement c z) = choose (is_open (state_of c b)) (noted c (session_close z.kind) (closing c closer.Session b)) b (close_tickets c closer.Session) [] slots (same b.requests b.contents slots _ (closed_fewer slots c _) h) h
  failed_owes _ = h

  refused_owes : (i : Incoming) (x : Error) → Owes (after_refused i x b) (fold after_mark slots (refused_tickets i x b))
  refused_owes i (error.UnexpectedFrame class number) = ends_all _
  refused_owes i (error.PreconditionFailed tag current) = failed_owes i
  refused_owes i _ = h

  connection_owes : (code : ℕ) (l : ConnectionPhase) → Owes (after_connection_close l b) (fold after_mark slots (connection_close_tickets l code b))
  connection_owes code link.Open = ends_all _
  connection_owes code (link.Closing stage.Queued) = ends_all _
  connection_owes code (link.Closing s) = h
  connection_owes code link.Closed = ends_all _
  connection_owes code link.Lost = ends_all _

  lost_owes : (t : Bool) → Owes (cond t b (down link.Lost b)) (fold after_mark slots (cond t [] (all_failed error.ConnectionLost b)))
  lost_owes true = h
  lost_owes false = ends_all _

  flow_owes : (t : Bool) (x : Wire) → x.requests ≡ b.requests → x.contents ≡ b.contents → Owes (cond t x b) slots
  flow_owes true x e f = subst (λ rs. Owed rs x.contents slots) (sym e) (subst (λ cs. Owed b.requests cs slots) (sym f) h)
  flow_owes false x e f = h

  part_owes : (c : ℕ) (p : ContentPart) → receives_part c p b ≡ true → IsMade (incoming.Content c p) → Owes (after_part c p b) (fold after_mark slots (part_tickets c p b))
  part_owes c (part.GetOk s) heard made = begins c content_class (is_kind reply_kind.BasicGetOk) (for_ticket (get_ticket c b) s) b.requests b.contents slots (names_its_get s (get_ticket c b) made) h
  part_owes c (part.Return s) heard made = expects c (expected content_class s) b.requests b.contents slots h
  part_owes c (part.Deliver tag s) heard made = expects c (expected content_class (for_consumer (found c tag b.deliveries.subscriptions) s)) b.requests b.contents slots h
  part_owes c (part.Header x) heard made = hears c (next_acker b.deliveries) (after_header x) (whole_on c (part.Header x) b) b.requests b.contents slots refl (λ n i. header_keeps n x (expected_on c b.contents) (and_second (receives_on (state_of c b)) _ heard) i) h
  part_owes c (part.Body bytes) heard made = hears c (next_acker b.deliveries) (after_body bytes) (whole_on c (part.Body bytes) b) b.requests b.contents slots refl (λ n i. body_keeps n bytes (expected_on c b.contents) (and_second (receives_on (state_of c b)) _ heard) i) h

  consumer_owes : (c : ℕ) (p : ConsumerPart) → Owes (after_consumer c p b) (fold after_mark slots (consumer_tickets c p b))
  consumer_owes c (consumer.ConsumeOk tag) = answers c (is_kind reply_kind.BasicConsumeOk) (Ok (answer.Consumer (next_consumer b.deliveries))) b.requests b.contents slots h
  consumer_owes c (consumer.CancelOk tag) = answers c (is_kind reply_kind.BasicCancelOk) (Ok answer.Done) b.requests b.contents slots h
  consumer_owes c consumer.RecoverOk = answers c (is_kind reply_kind.BasicRecoverOk) (Ok answer.Done) b.requests b.contents slots h
  consumer_owes c (consumer.Cancel tag nowait) = flow_owes (is_open (state_of c b) && not nowait) (noted c (method.Basic (basic.CancelOk tag)) b) refl refl

  received_owes : (i : Incoming) → IsHeard i record_.Received b → IsMade i → Owes (after_received i b) (fold after_mark slots (received_tickets i b))
  received_owes (incoming.Reply c k a) heard made = answers c (is_kind k) (Ok a) b.requests b.contents slots h
  received_owes (incoming.Settlement c z) heard made = h
  received_owes (incoming.Content c p) heard made = part_owes c p heard made
  received_owes (incoming.Consumer c p) heard made = consumer_owes c p
  received_owes (incoming.Flow c active) heard made = flow_owes (is_open (state_of c b)) (noted c (method.Channel (channel.FlowOk active)) (record b { phases = with_channel c (phase.Open (not active)) b.phases })) refl refl
  received_owes (incoming.ChannelClose c code) heard made = closes c (has_sent_close (phase_of c b)) _
  received_owes (incoming.ChannelCloseOk c) heard made = close_ok_owes c (phase_of c b) b slots h
  received_owes (incoming.ConnectionClose code) heard made = connection_owes code b.link
  received_owes incoming.ConnectionCloseOk heard made = answers_on 0 (is_kind reply_kind.ConnectionCloseOk) (Ok answer.Done) b.requests b.contents slots h
  received_owes incoming.Other heard made = h

  incoming_owes : (i : Incoming) (r : Record) → IsHeard i r b → IsMade i → Owes (after_incoming i r b) (fold after_mark slots (incoming_tickets i r b))
  incoming_owes i (record_.Refused x) heard made = refused_owes i x
  incoming_owes i record_.Received heard made = received_owes i heard made
  incoming_owes i _ heard made = h

-- ---- a frame leaves, or a ticket is let go

begun_owes : (rs : Table) (cs : Channels) (slots : List (Option Slot)) (first : Bool) (t p : Option ℕ) → Owed rs cs slots → Owed rs cs (fold after_mark slots (begun_ticket first t p))
begun_owes rs cs slots true (Some t) (Some n) h = same rs cs slots _ (begun_fewer slots t) h
begun_owes rs cs slots true (Some t) None h = h
begun_owes rs cs slots true None p h = h
begun_owes rs cs slots false t p h = h

last_owes : (rs : Table) (cs : Channels) (slots : List (Option Slot)) (last : Bool) (t : Option ℕ) → Owed rs cs slots → Owed rs cs (fold after_mark slots (last_ticket last t))
last_owes rs cs slots true (Some t) h = same rs cs slots _ (left_fewer slots t) h
last_owes rs cs slots true None h = h
last_owes rs cs slots false t h = h

left_owes : (o : Option Left) (b : Wire) (slots : List (Option Slot)) → Owes b slots → Owes (sent o b) (fold after_mark slots (left_tickets o))
left_owes None b slots h = h
left_owes (Some l) b slots h = subst (Owed b.requests b.contents) (sym (fold-append after_mark slots (begun_ticket l.first l.ticket l.publish) (last_ticket l.last l.ticket))) (last_owes b.requests b.contents _ l.last l.ticket (begun_owes b.requests b.contents slots l.first l.ticket l.publish h))

gone_owes : (t : Bool) (n : ℕ) (m : TicketMark) (rs : Table) (cs : Channels) (slots : List (Option Slot)) → after_mark slots m ≡ with_under n None slots → Owed rs cs slots → Owed rs cs (fold after_mark slots (cond t (m ∷ []) []))
gone_owes true n m rs cs slots e h = subst (Owed rs cs) (sym e) (same rs cs slots _ (gone_fewer slots n) h)
gone_owes false n m rs cs slots e h = h

-- ---- every event

owes-anew : (w : World) (e : Event) → w.wire.tickets ≡ length w.slots → Owes w.wire w.slots → Owes (next_anew w e).wire (next_anew w e).slots
owes-anew w (event.Call c k) n h = let r : Record = told_anew w (event.Call c k) in asked_owes c (asked_by k r) (told_line c k r) w.wire w.slots n h
owes-anew w (event.Next flow) n h = left_owes (handed_as (told_anew w (event.Next flow)) w.wire) _ w.slots h
owes-anew w (event.Receive f) n h = incoming_owes w.wire w.slots h (incoming_of f) (told_anew w (event.Receive f)) (is_heard (incoming_of f) (told_anew w (event.Receive f)) w.wire (readings_of w.confirm_state w.slots) (frame_class f) (frame_method f) refl) (is_made f)
owes-anew w (event.PollTicket m) n h = gone_owes (is_answer (told_anew w (event.PollTicket m))) m (ticket.Collected m) w.wire.requests w.wire.contents w.slots refl h
owes-anew w (event.PollConfirm m) n h = h
owes-anew w (event.PollWait c) n h = h
owes-anew w (event.AsideConfirm m) n h = h
owes-anew w (event.AsideTicket m) n h = gone_owes (is_aside (told_anew w (event.AsideTicket m))) m (ticket.SetAside m) w.wire.requests w.wire.contents w.slots refl h
owes-anew w (event.PollConsumer m) n h = h
owes-anew w (event.Acker m k) n h = acked_owes (usable_at m w.wire) k w.wire w.slots n h
owes-anew w (event.Delegate m) n h = h
owes-anew w (event.DropConsumer m) n h = dropped_owes (consumer_at m w.wire.deliveries.subscriptions) w.wire w.slots h
owes-anew w event.NextJob n h = h
owes-anew w (event.State c) n h = h
owes-anew w event.Lost n h = lost_owes w.wire w.slots h (is_lost w.wire.link)

owes_from : (n : ℕ) (h : History) (w : World) (es : List Event) → w.returned ≡ None → Stands n h w → Owes w.wire w.slots → Owes (fold next w es).wire (fold next w es).slots
owes_from n h w [] none stands o = o
owes_from n h w (e ∷ es) none stands o =
    let count : w.wire.tickets ≡ length w.slots = stands.tickets.given ∙ sym stands.tickets.kept.count in
    let P : World → Type 0 = λ v. Owes v.wire v.slots in
    owes_from n (h ++ (e, told_by w e) ∷ []) (next w e) es (still_none w e none) (stands_next n h w e (given_none w.returned e none) stands) (subst P (sym (next_none w e none)) (owes-anew w e count o))

none_given : (n : ℕ) (c : ℕ) (g : Bool) → IsOpen n [] c leaving.Nothing g → ⊥
none_given zero c g x = cc
none_given (suc n) c g x = cc

pub owed_after : (n : ℕ) (es : List Event) (t c : ℕ) (g : Bool) → under t (world_after n es).slots ≡ Some (slot.Open c leaving.Nothing g) → IsOwed t c (world_after n es).wire
owed_after n es = owes_from n [] (new_world n) es refl (stands_new n) (λ t c g x. absurd (none_given t c g x))
