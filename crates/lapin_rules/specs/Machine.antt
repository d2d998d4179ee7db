-- The wire machine: the part of a trace that states, lists and confirms determine, and when a trace is the machine's. It says
-- nothing of what the broker's data brings in: the answers that carry it are left out, and so are items, jobs and returned messages.
-- Of a call of an acker it reads only whether it gave a ticket, and of the drop of a consumer whether that one has to be cancelled.
use Rattle.std.specs.Prelude.{◌≡◌, ℕ, Bool, true, false, if◌then◌else◌, List, [], ◌∷◌, ◌++◌, Option, Some, None, Ok}
use Rattle.lapin_types.specs.declared.event.Event.{Event}
use Rattle.lapin_types.specs.declared.record.Record.{Record}
use Rattle.lapin_types.specs.declared.call.Call.{Call}
use Rattle.lapin_types.specs.declared.event.Event.TheVariants as event
use Rattle.lapin_types.specs.declared.record.Record.TheVariants as record_
use Rattle.lapin_types.specs.declared.call.Call.TheVariants as call
use Rattle.lapin_types.specs.declared.confirmation.Confirmation.TheVariants as confirmation
use Rattle.lapin_rules.specs.Words.{nth}
use Rattle.lapin_rules.specs.History.{History, rec}

-- ---- which tickets are the machine's

-- the record gives a ticket
abbrev pub is_ticket : Record → Bool
is_ticket (record_.Ticket t) = true
is_ticket (record_.Publish t n) = true
is_ticket _ = false

-- the event was given a ticket
abbrev pub has_ticket : Event × Record → Bool
has_ticket x = is_ticket x.1

-- the event that was given ticket n: tickets are numbered from 1 in the order in which they are given
abbrev pub given_by : ℕ → History → Option (Event × Record)
given_by n h = nth has_ticket n h

-- the machine knows the answers of opens, of closes of a channel or of the connection, of `confirm.select` and of publishes
abbrev pub is_known : Call → Bool
is_known call.OpenChannel = true
is_known (call.ChannelClose code text) = true
is_known (call.ConnectionClose code text) = true
is_known (call.ConfirmSelect o) = true
is_known (call.BasicPublish exchange key o payload properties) = true
is_known (call.TryBasicPublish exchange key o payload properties) = true
is_known _ = false

-- the event is a call whose answer the machine knows
abbrev pub is_known_call : Event → Bool
is_known_call (event.Call c k) = is_known k
is_known_call _ = false

-- the ticket is of such a call, or was never given
abbrev pub is_known_in : Option (Event × Record) → Bool
is_known_in None = true
is_known_in (Some x) = is_known_call x.0

-- ---- kept records

-- returned messages are left out: an outcome without its message, and an empty list of them
abbrev pub without_message : Record → Record
without_message (record_.Confirmed (Ok (confirmation.Ack m))) = record_.Confirmed (Ok (confirmation.Ack None))
without_message (record_.Confirmed (Ok (confirmation.Nack m))) = record_.Confirmed (Ok (confirmation.Nack None))
without_message (record_.Returned messages) = record_.Returned []
without_message r = r

-- what is kept of the record of a poll of ticket n, or of setting it aside: all where the ticket is the machine's, else nothing
abbrev pub kept_of_ticket : ℕ → History → Record → Option Record
kept_of_ticket n h r = if is_known_in (given_by n h) then Some r else None

-- what the machine keeps of the record of an event after a history: of calls, frame requests, frames of the broker, states and the
-- loss all; of tickets where it knows them; of confirms and waits all but returned messages; and nothing of polls of consumers, calls of
-- ackers, delegates, drops of consumers and jobs
abbrev pub kept : History → Event → Record → Option Record
kept h (event.PollTicket n) r = kept_of_ticket n h r
kept h (event.AsideTicket n) r = kept_of_ticket n h r
kept h (event.PollConfirm n) r = Some (without_message r)
kept h (event.PollWait c) r = Some (without_message r)
kept h (event.PollConsumer n) r = None
kept h (event.Acker n k) r = None
kept h (event.Delegate n) r = None
kept h (event.DropConsumer n) r = None
kept h event.NextJob r = None
kept h _ r = Some r

-- ---- truth values

-- the record says that the consumer has to be cancelled
abbrev pub is_dropped : Record → Bool
is_dropped (record_.Dropped t) = t
is_dropped _ = false

-- what the machine reads of a record that it does not keep: of a call of an acker whether it gave a ticket, of the drop of a consumer
-- whether that one has to be cancelled, and of no other record anything
abbrev pub read : Event → Record → Bool
read (event.Acker n k) r = is_ticket r
read (event.DropConsumer n) r = is_dropped r
read _ r = false

-- ---- traces

-- each record is kept, and its truth value read, as the history of the records before it says
abbrev pub GoesOn : ℕ → History → List Event → List Record → Type 0
GoesOn frame_max h [] [] = Unit {0}
GoesOn frame_max h (e ∷ es) (r ∷ rs) = (kept h e r ≡ kept h e (rec frame_max h e)) × (read e r ≡ read e (rec frame_max h e)) × GoesOn frame_max (h ++ (e, r) ∷ []) es rs
GoesOn frame_max h _ _ = ⊥

-- the trace is the machine's for these events: one record an event, and its kept records and truth values are the machine's
abbrev pub IsTheMachines : ℕ → List Event → List Record → Type 0
IsTheMachines frame_max es rs = GoesOn frame_max [] es rs
