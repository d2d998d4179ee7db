-- Replies of calls by their fields and octets, and what a consumer was handed.
use Rattle.std.specs.Prelude.{◌≡◌, ◌⊎◌, ℕ, Bool, true, false, List, [], Option, Some, None, Result, Ok, Err}
use Rattle.lapin_client.specs.declared.message.Message.{Message}
use Rattle.lapin_client.specs.declared.client.Client.{Client}
use Rattle.lapin_client.specs.declared.replies.Fields.{Fields}
use Rattle.lapin_client.specs.declared.status.Status.{Status}
use Rattle.lapin_client.specs.declared.status.Status.TheVariants as status
use Rattle.lapin_client.specs.Answers.{answer_of, tag_of}
use Rattle.lapin_client.specs.Clients.{SameBytes, SameTold}
use Rattle.lapin_client.specs.Parcels.{is_whole, message_bytes, message_of}
use Rattle.lapin_client.specs.Refusals.{Keeps}
use Rattle.lapin_machine.specs.World.{World, next, told_by}
use Rattle.lapin_types.specs.declared.answer.Answer.{Answer}
use Rattle.lapin_types.specs.declared.message.Delivery.{Delivery}
use Rattle.lapin_types.specs.Types.{Error}
use Rattle.lapin_types.specs.declared.answer.Answer.TheVariants as answer
use Rattle.lapin_types.specs.declared.event.Event.TheVariants as event
use Rattle.lapin_types.specs.declared.record.Record.{Record}
use Rattle.lapin_types.specs.declared.record.Record.TheVariants as record_

-- no message
abbrev pub no_message : Message
no_message = record { delivery_tag = 0; acker = 0; exchange = 0; routing_key = 0; properties = 0; body = 0; redelivered = false }

-- a reply of a kind that has no fields
abbrev pub blank : ℕ → Fields
blank kind = record { number = 0; kind = kind; messages = 0; consumers = 0; message = no_message }

-- one that has a number
abbrev pub numbered : ℕ → ℕ → Fields
numbered kind number = record (blank kind) { number = number }

-- whether the broker goes on, by number
abbrev pub flow_number : Bool → ℕ
flow_number true = 1
flow_number false = 0

-- the fields of an answer: the place that its kind has among the answers, from 0, where a get without a message stands behind one with it, and
-- what it says
abbrev pub fields_of : Answer → Fields
fields_of answer.Done = blank 0
fields_of (answer.Channel channel) = numbered 1 channel
fields_of (answer.Confirm n) = numbered 2 n
fields_of (answer.Consumer n) = numbered 3 n
fields_of (answer.Got (Some x)) = record (blank 4) { messages = x.message_count; message = message_of x.delivery }
fields_of (answer.Got None) = blank 5
fields_of (answer.Queue q) = record (blank 6) { messages = q.message_count; consumers = q.consumer_count }
fields_of (answer.Count n) = numbered 7 n
fields_of (answer.Flow active) = numbered 8 (flow_number active)
fields_of answer.Yes = blank 9

-- its octets: of a message, of a queue its name, of a consumer its tag; no other answer has any
abbrev pub answer_bytes : Answer → World → List ℕ
answer_bytes (answer.Consumer n) w = tag_of n w
answer_bytes (answer.Got (Some x)) w = message_bytes x.delivery
answer_bytes (answer.Queue q) w = q.name
answer_bytes _ w = []

-- the message of an answer, if it has one
abbrev pub message_in : Answer → Option Delivery
message_in (answer.Got (Some x)) = Some x.delivery
message_in _ = None

-- an answer has a message whose properties were given by values
abbrev pub IsByValues : Option Delivery → Type 0
IsByValues None = ⊥
IsByValues (Some x) = is_whole x ≡ false

-- An answer is told by its fields, and its octets are the client's answer. Where its message's properties were given by values and there was no
-- memory for their octets, it is lost, and so is the client.
abbrev pub IsAnswered : Result Fields Status → Answer → Client → Client → Type 0
IsAnswered (Ok f) a c d = (f ≡ fields_of a) × (answer_of d ≡ answer_bytes a d.session) × (d.refused ≡ c.refused) × (d.session ≡ c.session) × SameBytes c d
IsAnswered (Err status.NoMemory) a c d = IsByValues (message_in a) × (d.left ≡ 0) × (d.refused ≡ c.refused) × (d.session ≡ c.session) × SameBytes c d
IsAnswered (Err _) a c d = ⊥

-- a poll of a ticket tells this error: the call failed, or there is no such reply
abbrev pub FailsBy : Error → Record → Type 0
FailsBy e r = (r ≡ record_.Answer (Err e)) ⊎ (r ≡ record_.Refused e)

-- What a poll of a ticket gives: the answer of its call, by its fields and its octets; nothing yet; or an error, which is kept.
abbrev pub Replied : Result Fields Status → ℕ → Client → Client → Type 0
Replied (Ok f) ticket c d = ((a : Answer) × (told_by c.session (event.PollTicket ticket) ≡ record_.Answer (Ok a)) × (f ≡ fields_of a) × (answer_of d ≡ answer_bytes a d.session))
    × (d.refused ≡ c.refused) × (d.session ≡ next c.session (event.PollTicket ticket)) × SameBytes c d
Replied (Err status.Pending) ticket c d = (told_by c.session (event.PollTicket ticket) ≡ record_.Pending) × SameTold c d × (d.session ≡ next c.session (event.PollTicket ticket)) × SameBytes c d
Replied (Err status.Refused) ticket c d = ((e : Error) × FailsBy e (told_by c.session (event.PollTicket ticket)) × Keeps e c d) × (d.session ≡ next c.session (event.PollTicket ticket)) × SameBytes c d
Replied (Err status.NoMemory) ticket c d = ((a : Answer) × (told_by c.session (event.PollTicket ticket) ≡ record_.Answer (Ok a)) × IsByValues (message_in a))
    × (d.left ≡ 0) × (d.refused ≡ c.refused) × (d.session ≡ next c.session (event.PollTicket ticket)) × SameBytes c d
Replied (Err status.Ended) ticket c d = (c.left ≡ 0) × (d ≡ c)
Replied (Err _) ticket c d = ⊥

-- a poll of a consumer tells this error: there is no such consumer, or it ended its channel
abbrev pub TellsError : Error → ℕ → World → Type 0
TellsError e consumer w = (told_by w (event.PollConsumer consumer) ≡ record_.Refused e) ⊎ (told_by w (event.PollConsumer consumer) ≡ record_.Item (Err e))

-- What a poll of a consumer gives: a message, whose octets are the answer; nothing yet; its end; or an error, which is kept. Where a message's
-- properties were given by values and there was no memory for their octets, it is lost, and the client ends.
abbrev pub Delivered : Result Message Status → ℕ → Client → Client → Type 0
Delivered (Ok m) consumer c d = ((x : Delivery) × (told_by c.session (event.PollConsumer consumer) ≡ record_.Item (Ok (Some x))) × (m ≡ message_of x) × (answer_of d ≡ message_bytes x))
    × (d.refused ≡ c.refused) × (d.session ≡ next c.session (event.PollConsumer consumer)) × SameBytes c d
Delivered (Err status.Pending) consumer c d = (told_by c.session (event.PollConsumer consumer) ≡ record_.Pending) × SameTold c d × (d.session ≡ next c.session (event.PollConsumer consumer)) × SameBytes c d
Delivered (Err status.Gone) consumer c d = (told_by c.session (event.PollConsumer consumer) ≡ record_.Item (Ok None)) × SameTold c d × (d.session ≡ next c.session (event.PollConsumer consumer)) × SameBytes c d
Delivered (Err status.Refused) consumer c d = ((e : Error) × TellsError e consumer c.session × Keeps e c d) × (d.session ≡ next c.session (event.PollConsumer consumer)) × SameBytes c d
Delivered (Err status.NoMemory) consumer c d = ((x : Delivery) × (told_by c.session (event.PollConsumer consumer) ≡ record_.Item (Ok (Some x))) × (is_whole x ≡ false))
    × (d.left ≡ 0) × (d.refused ≡ c.refused) × (d.session ≡ next c.session (event.PollConsumer consumer)) × SameBytes c d
Delivered (Err status.Ended) consumer c d = (c.left ≡ 0) × (d ≡ c)
Delivered (Err _) consumer c d = ⊥
