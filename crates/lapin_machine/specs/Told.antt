-- The answers of the public calls, as the records of their events.
use Rattle.std.specs.Prelude.{◌≡◌, Bool, true, false, List, Option, Some, None, Result, Ok, Err}
use Rattle.lapin_types.specs.declared.answer.Answer.{Answer}
use Rattle.lapin_types.specs.declared.confirmation.Confirmation.{Confirmation}
use Rattle.lapin_types.specs.declared.message.BasicReturnMessage.{BasicReturnMessage}
use Rattle.lapin_types.specs.declared.poll.Poll.{Poll}
use Rattle.lapin_types.specs.declared.poll.Poll.TheVariants as poll
use Rattle.lapin_types.specs.declared.record.Record.{Record}
use Rattle.lapin_types.specs.declared.record.Record.TheVariants as record_
use Rattle.lapin_consumer.specs.Subscriptions.{Handed}
use Rattle.lapin_types.specs.Types.{Error}
use Rattle.lapin_types.specs.Types.error
use Rattle.lapin_machine.specs.declared.channel.Ticket.{Ticket}
use Rattle.lapin_machine.specs.declared.channel.Published.{Published}
use Rattle.lapin_machine.specs.declared.channel.Heard.{Heard}
use Rattle.lapin_machine.specs.declared.channel.Heard.TheVariants as heard

-- a call that is refused changes nothing; want of memory and of numbers have no record
abbrev pub IsRefusal : Error → Record → Type 0
IsRefusal error.NoMemory r = Unit {0}
IsRefusal error.NumbersUsedUp r = Unit {0}
IsRefusal e r = r ≡ record_.Refused e

-- a call's ticket
abbrev pub TicketTold : Result Ticket Error → Record → Type 0
TicketTold (Ok t) r = r ≡ record_.Ticket t.number
TicketTold (Err e) r = IsRefusal e r

-- a publish's ticket and confirm
abbrev pub PublishTold : Result Published Error → Record → Type 0
PublishTold (Ok p) r = r ≡ record_.Publish p.ticket.number p.confirm.number
PublishTold (Err e) r = IsRefusal e r

-- what became of a frame of the broker
abbrev pub HeardTold : Result Heard Error → Record → Type 0
HeardTold (Ok heard.Received) r = r ≡ record_.Received
HeardTold (Ok heard.Passed) r = r ≡ record_.Passed
HeardTold (Err e) r = IsRefusal e r

-- p where the frame was received, passed over or refused, q where it was not taken for want of memory or numbers
abbrev pub WasHeard : Result Heard Error → Type 0 → Type 0 → Type 0
WasHeard (Err error.NoMemory) p q = q
WasHeard (Err error.NumbersUsedUp) p q = q
WasHeard _ p q = p

-- what a poll answers
abbrev pub ticket_record : Result (Poll (Result Answer Error)) Error → Record
ticket_record (Ok (poll.Ready a)) = record_.Answer a
ticket_record (Ok poll.Pending) = record_.Pending
ticket_record (Err e) = record_.Refused e

-- what a poll of a confirm answers
abbrev pub confirm_record : Result (Poll (Result Confirmation Error)) Error → Record
confirm_record (Ok (poll.Ready o)) = record_.Confirmed o
confirm_record (Ok poll.Pending) = record_.Pending
confirm_record (Err e) = record_.Refused e

-- setting a confirm aside; want of memory has no record
abbrev pub AsideTold : Result (Unit {0}) Error → Record → Type 0
AsideTold (Ok x) r = r ≡ record_.Aside
AsideTold (Err e) r = IsRefusal e r

-- what a wait answers
abbrev pub wait_told : Poll (List BasicReturnMessage) → Record
wait_told (poll.Ready messages) = record_.Returned messages
wait_told poll.Pending = record_.Pending

-- what a poll of a consumer answers
abbrev pub next_record : Result (Poll Handed) Error → Record
next_record (Ok (poll.Ready y)) = record_.Item y
next_record (Ok poll.Pending) = record_.Pending
next_record (Err e) = record_.Refused e

-- giving a consumer a delegate, and letting go of one; want of memory has no record
abbrev pub DelegateTold : Result (Unit {0}) Error → Record → Type 0
DelegateTold (Ok x) r = r ≡ record_.Delegated
DelegateTold (Err e) r = IsRefusal e r

-- letting go of a consumer: whether its cancel was queued; want of memory has no record
abbrev pub DropTold : Result Bool Error → Record → Type 0
DropTold (Ok b) r = r ≡ record_.Dropped b
DropTold (Err e) r = IsRefusal e r

-- an acker's call
abbrev pub AckTold : Result (Option Ticket) Error → Record → Type 0
AckTold (Ok None) r = r ≡ record_.No
AckTold (Ok (Some t)) r = r ≡ record_.Ticket t.number
AckTold (Err e) r = IsRefusal e r

-- p where a call was made, also where its channel's state refused it, q where it was not for want of memory or numbers
abbrev pub WasMade : {T : Type 0} → Result T Error → Type 0 → Type 0 → Type 0
WasMade (Err error.NoMemory) p q = q
WasMade (Err error.NumbersUsedUp) p q = q
WasMade _ p q = p

-- the record of an acker's call, where it has one: its ticket, no, or the error that refused it
abbrev pub ack_told : Result (Option Ticket) Error → Result Record Error
ack_told (Ok None) = Ok record_.No
ack_told (Ok (Some t)) = Ok (record_.Ticket t.number)
ack_told (Err error.NoMemory) = Err error.NoMemory
ack_told (Err error.NumbersUsedUp) = Err error.NumbersUsedUp
ack_told (Err e) = Ok (record_.Refused e)

-- the record of a call's answer, where it has one
abbrev pub ticket_told : Result Ticket Error → Result Record Error
ticket_told (Ok t) = Ok (record_.Ticket t.number)
ticket_told (Err error.NoMemory) = Err error.NoMemory
ticket_told (Err error.NumbersUsedUp) = Err error.NumbersUsedUp
ticket_told (Err e) = Ok (record_.Refused e)

-- the record of a publish, where it has one: its ticket and its confirm, or the error that refused it
abbrev pub publish_told : Result Published Error → Result Record Error
publish_told (Ok p) = Ok (record_.Publish p.ticket.number p.confirm.number)
publish_told (Err error.NoMemory) = Err error.NoMemory
publish_told (Err error.NumbersUsedUp) = Err error.NumbersUsedUp
publish_told (Err e) = Ok (record_.Refused e)

-- the record says that nothing is there yet
abbrev pub is_pending_record : Record → Bool
is_pending_record record_.Pending = true
is_pending_record _ = false
