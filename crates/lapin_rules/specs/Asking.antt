-- A call: when it is allowed, its record, what it leaves, and its marks. All of this goes by what the call is in the table of calls.
use Rattle.std.specs.Prelude.{ℕ, ◌+◌, Bool, true, false, ◌&&◌, if◌then◌else◌, List, [], ◌∷◌, ◌++◌, Option, Some, None, Ok}
use Rattle.lapin_types.specs.declared.record.Record.{Record}
use Rattle.lapin_types.specs.declared.call.Call.{Call}
use Rattle.lapin_types.specs.declared.answer.Answer.{Answer}
use Rattle.lapin_types.specs.declared.answer.Answer.TheVariants as answer
use Rattle.lapin_types.specs.Types.{ChannelState}
use Rattle.lapin_types.specs.declared.record.Record.TheVariants as record_
use Rattle.lapin_types.specs.Types.error
use Rattle.lapin_delivery.specs.Marks.{DeliveryMark}
use Rattle.lapin_delivery.specs.Marks as deliveries
use Rattle.lapin_rules.specs.declared.marks.AtLeaving.{AtLeaving}
use Rattle.lapin_rules.specs.declared.marks.AtLeaving.TheVariants as leaving
use Rattle.lapin_rules.specs.declared.phases.Closer.TheVariants as closer
use Rattle.lapin_rules.specs.declared.calls.Asked.{Asked}
use Rattle.lapin_rules.specs.declared.calls.Asked.TheVariants as ask
use Rattle.lapin_rules.specs.ConfirmMarks.{ConfirmMark}
use Rattle.lapin_rules.specs.ConfirmMarks as mark
use Rattle.lapin_rules.specs.TicketReadings.{TicketMark}
use Rattle.lapin_rules.specs.TicketReadings as ticket
use Rattle.lapin_rules.specs.Wire.{Wire, state_of, is_closed, is_base, is_open, queued, with_deliveries}
use Rattle.lapin_rules.specs.Readings.{Readings}
use Rattle.lapin_rules.specs.Calls.{asked, is_try, awaited_by, made_by, leaving_by}
use Rattle.lapin_rules.specs.Consumers.{next_consumer}
use Rattle.lapin_rules.specs.Registry.{line_deliveries}
use Rattle.lapin_rules.specs.Opening.{after_open_call, open_marks}
use Rattle.lapin_rules.specs.ChannelClose.{after_close_call, close_call_deliveries, close_marks, close_tickets}
use Rattle.lapin_rules.specs.ConnectionClose.{after_connection_close_call, connection_close_call_deliveries, connection_close_call_marks, connection_close_call_tickets}
use Rattle.lapin_rules.specs.Select.{queued_marks}

-- `channel.open` is allowed on a closed channel, `connection.close` on channel 0 of an open connection, every other call on an
-- open channel
abbrev pub is_allowed : Asked → ChannelState → Bool
is_allowed ask.Open s = is_closed s
is_allowed (ask.CloseConnection code text) s = is_base s
is_allowed ask.Nothing s = false
is_allowed _ s = is_open s

-- ---- its record

-- an accepted call is answered by the next ticket number, a publish also by the next confirm number
abbrev pub accepted_record : Asked → Wire → Record
accepted_record (ask.Publish exchange key o payload properties) b = record_.Publish (b.tickets + 1) (b.published + 1)
accepted_record _ b = record_.Ticket (b.tickets + 1)

-- one that is not allowed is refused with the state of its channel
abbrev pub call_record : ℕ → Asked → Wire → Record
call_record c k b =
    if is_allowed k (state_of c b)
    then accepted_record k b
    else record_.Refused (error.InvalidChannelState (state_of c b))

-- ---- a publish that its channel's limit refuses

-- A try publish is refused where its channel is open and as many of its publishes wait or are pending as its limit allows; else
-- it is a publish like any other.
abbrev pub is_held : ℕ → Call → Wire → Readings → Bool
is_held c k b readings = is_try k && (is_open (state_of c b) && readings.at_limit c)

-- the record of a call: a publish that its channel's limit refuses is refused as `ConfirmsOutstanding` with the limit,
-- every other call goes by the state of its channel
abbrev pub call_told : ℕ → Call → Wire → Readings → Record
call_told c k b readings =
    if is_held c k b readings
    then record_.Refused (error.ConfirmsOutstanding (readings.limit c))
    else call_record c (asked k) b

-- the record is a refusal by the channel's limit of outstanding confirms
abbrev pub is_outstanding : Record → Bool
is_outstanding (record_.Refused (error.ConfirmsOutstanding limit)) = true
is_outstanding _ = false

-- what a call with this record asks for: nothing, where it is refused by the limit
abbrev pub asked_by : Call → Record → Asked
asked_by k r = if is_try k && is_outstanding r then ask.Nothing else asked k

-- ---- what it leaves

-- an accepted call queues its method, a publish joins the publishes, and what is set at once takes its ticket alone
abbrev pub after_call : ℕ → Asked → Wire → Wire
after_call c ask.Open b = after_open_call c b
after_call c (ask.CloseChannel code text) b = after_close_call c code text b
after_call c (ask.CloseConnection code text) b = after_connection_close_call c code text b
after_call c (ask.Method row) b = queued c row.method (awaited_by row.answered) b
after_call c (ask.Consume m tag queue o) b = queued c m None b
after_call c (ask.Publish exchange key o payload properties) b = record b {
  publishes = b.publishes ++ record {
    confirm = b.published + 1;
    ticket = b.tickets + 1;
    channel = c;
    exchange = exchange;
    routing_key = key;
    options = o;
    payload = payload;
    properties = properties;
  } ∷ [];
  tickets = b.tickets + 1;
  published = b.published + 1;
}
after_call c _ b = record b { tickets = b.tickets + 1 }

-- one that is not allowed changes nothing
abbrev pub asked_wire : ℕ → Asked → Wire → Wire
asked_wire c k b = if is_allowed k (state_of c b) then after_call c k b else b

-- ---- consumers, and what is declared

-- what an accepted call does to consumers and ackers, and to what is declared
abbrev pub call_deliveries : ℕ → Asked → Wire → List DeliveryMark
call_deliveries c ask.Open b = deliveries.Opened c ∷ []
call_deliveries c (ask.CloseChannel code text) b = close_call_deliveries c
call_deliveries c (ask.CloseConnection code text) b = connection_close_call_deliveries b
call_deliveries c (ask.Consume m tag queue o) b = deliveries.Consumed c tag queue ∷ []
call_deliveries c (ask.Method row) b = line_deliveries c row.method row.answered
call_deliveries c _ b = []

-- what a call does to consumers and ackers, and to what is declared: nothing where it is not allowed
abbrev pub asking_deliveries : ℕ → Asked → Wire → List DeliveryMark
asking_deliveries c k b = if is_allowed k (state_of c b) then call_deliveries c k b else []

-- ---- all that it leaves

-- all that a call leaves: the states, lists and requests, the consumers and ackers, and what is declared
abbrev pub after_asking : ℕ → Asked → Wire → Wire
after_asking c k b = with_deliveries (asking_deliveries c k b) (asked_wire c k b)

-- ---- confirms

-- what an accepted call does to confirms: it begins, closes or ends openings, asks for confirms, sets the limit, or adds a publish
abbrev pub call_marks : ℕ → Asked → Wire → List ConfirmMark
call_marks c ask.Open b = open_marks c
call_marks c (ask.CloseChannel code text) b = close_marks c closer.Application
call_marks c (ask.CloseConnection code text) b = connection_close_call_marks b
call_marks c (ask.Publish exchange key o payload properties) b = mark.Added c ∷ []
call_marks c (ask.Method row) b = queued_marks c row.method
call_marks c (ask.Limit limit) b = mark.LimitSet c limit ∷ []
call_marks c _ b = []

-- what a call does to confirms: nothing where it is not allowed
abbrev pub asking_marks : ℕ → Asked → Wire → List ConfirmMark
asking_marks c k b = if is_allowed k (state_of c b) then call_marks c k b else []

-- ---- tickets

-- a close rejects or fails older tickets first
abbrev pub closing_tickets : ℕ → Asked → Wire → List TicketMark
closing_tickets c (ask.CloseChannel code text) b = close_tickets c closer.Application
closing_tickets c (ask.CloseConnection code text) b = connection_close_call_tickets b
closing_tickets c _ b = []

-- the answer that the leaving of its last frame gives: of a publish, its confirm's number
abbrev pub leaving_answer : Asked → Wire → AtLeaving
leaving_answer (ask.Publish exchange key o payload properties) b = leaving.Confirm (b.published + 1)
leaving_answer (ask.Method row) b = leaving_by row.answered
leaving_answer _ b = leaving.Nothing

-- the answer that it makes itself: that of a call without wait, and of a limit
abbrev pub made_answer : Asked → Wire → Option Answer
made_answer (ask.Method row) b = made_by row.answered
made_answer (ask.Consume m tag queue o) b = Some (answer.Consumer (next_consumer b.deliveries))
made_answer (ask.Limit limit) b = Some answer.Done
made_answer _ b = None

-- ticket n was answered by its call, if that makes its answer itself
abbrev pub made_marks : ℕ → Option Answer → List TicketMark
made_marks n None = []
made_marks n (Some a) = ticket.Answered n (Ok a) ∷ []

-- the next ticket is given, and answered where the call makes its answer itself
abbrev pub call_tickets : ℕ → Asked → Wire → List TicketMark
call_tickets c k b = closing_tickets c k b ++ (ticket.Given c (leaving_answer k b) ∷ made_marks (b.tickets + 1) (made_answer k b))

-- what a call does to tickets: nothing where it is not allowed
abbrev pub asking_tickets : ℕ → Asked → Wire → List TicketMark
asking_tickets c k b = if is_allowed k (state_of c b) then call_tickets c k b else []
