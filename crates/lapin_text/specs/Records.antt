-- The lines of records.
use Rattle.std.specs.Prelude.{ℕ, List, [], ◌∷◌, ◌++◌, length, codes, Option, Some, None, Result, Ok, Err}
use Rattle.std.specs.List.{join_with_byte, flat_map}
use Rattle.lapin_types.specs.Types.{Error}
use Rattle.lapin_types.specs.Types.error
use Rattle.lapin_types.specs.Types.{ConnectionState}
use Rattle.lapin_types.specs.Types.connection_state
use Rattle.lapin_types.specs.Types.{ChannelState}
use Rattle.lapin_types.specs.Types.channel_state
use Rattle.lapin_types.specs.declared.answer.Answer.{Answer}
use Rattle.lapin_types.specs.declared.answer.Answer.TheVariants as answer
use Rattle.lapin_types.specs.declared.confirmation.Confirmation.{Confirmation}
use Rattle.lapin_types.specs.declared.confirmation.Confirmation.TheVariants as confirmation
use Rattle.lapin_types.specs.declared.job.Job.{Job}
use Rattle.lapin_types.specs.declared.job.JobKind.{JobKind}
use Rattle.lapin_types.specs.declared.job.JobKind.TheVariants as job_kind
use Rattle.lapin_types.specs.declared.message.Delivery.{Delivery}
use Rattle.lapin_types.specs.declared.message.BasicReturnMessage.{BasicReturnMessage}
use Rattle.lapin_types.specs.declared.record.Record.{Record}
use Rattle.lapin_types.specs.declared.record.Record.TheVariants as record_
use Rattle.lapin_types.specs.declared.message.BasicGetMessage.{BasicGetMessage}
use Rattle.lapin_tokens.specs.Fields.{token, short_number, long_number, wide_number}
use Rattle.lapin_tokens.specs.TokenText.{onto}
use Rattle.lapin_tokens.specs.Fields.Field.{text, bytes, props, flag}
use Rattle.lapin_text.specs.Frames.{frame_tokens}

-- the name of a connection's state
abbrev pub connection_name : ConnectionState → List ℕ
connection_name connection_state.Open = codes "open"
connection_name connection_state.Closing = codes "closing"
connection_name connection_state.Closed = codes "closed"
connection_name connection_state.Lost = codes "lost"

-- the name of a channel's state
abbrev pub state_name : ChannelState → List ℕ
state_name channel_state.Closed = codes "closed"
state_name channel_state.Opening = codes "opening"
state_name channel_state.Open = codes "open"
state_name channel_state.Closing = codes "closing"
state_name channel_state.Crossed = codes "crossed"
state_name channel_state.Base = codes "base"
state_name channel_state.Down = codes "down"

-- an error's name, and what it carries
abbrev pub error_tokens : Error → List (List ℕ)
error_tokens error.NoMemory = codes "NoMemory" ∷ []
error_tokens error.NumbersUsedUp = codes "NumbersUsedUp" ∷ []
error_tokens (error.InvalidChannelState state) = codes "InvalidChannelState" ∷ state_name state ∷ []
error_tokens (error.ProtocolError code) = codes "ProtocolError" ∷ token short_number code ∷ []
error_tokens error.ConnectionLost = codes "ConnectionLost" ∷ []
error_tokens (error.UnexpectedFrame class method) = codes "UnexpectedFrame" ∷ token short_number class ∷ token short_number method ∷ []
error_tokens (error.PreconditionFailed tag current) = codes "PreconditionFailed" ∷ token wide_number tag ∷ token wide_number current ∷ []
error_tokens error.AlreadyTaken = codes "AlreadyTaken" ∷ []
error_tokens error.UnknownTicket = codes "UnknownTicket" ∷ []
error_tokens (error.ConfirmsOutstanding limit) = codes "ConfirmsOutstanding" ∷ token wide_number limit ∷ []

-- a delivery: its tag, exchange, routing key, whether it came before, properties, bytes, and its acker's number
abbrev pub delivery_tokens : Delivery → List (List ℕ)
delivery_tokens d = token wide_number d.delivery_tag ∷ token text d.exchange ∷ token text d.routing_key ∷ token flag d.redelivered ∷ token props d.properties ∷ token bytes d.payload ∷ token wide_number d.acker.number ∷ []

-- a returned message: the delivery, the reply code and the reply text
abbrev pub message_tokens : BasicReturnMessage → List (List ℕ)
message_tokens m = delivery_tokens m.delivery ++ token short_number m.reply_code ∷ token text m.reply_text ∷ []

-- a message, or a dash where there is none
abbrev pub held_tokens : Option BasicReturnMessage → List (List ℕ)
held_tokens None = codes "-" ∷ []
held_tokens (Some message) = message_tokens message

-- how many messages there are, and each of them in order
abbrev pub returned_tokens : List BasicReturnMessage → List (List ℕ)
returned_tokens messages = token wide_number (length messages) ∷ flat_map message_tokens messages

-- the message of a get and how many messages are left, or a dash where there is none
abbrev pub got_tokens : Option BasicGetMessage → List (List ℕ)
got_tokens None = codes "-" ∷ []
got_tokens (Some message) = delivery_tokens message.delivery ++ token long_number message.message_count ∷ []

-- an answer: its word, and what it carries
abbrev pub answer_tokens : Answer → List (List ℕ)
answer_tokens answer.Done = codes "done" ∷ []
answer_tokens (answer.Channel channel) = codes "channel" ∷ token short_number channel ∷ []
answer_tokens (answer.Confirm number) = codes "confirm" ∷ token wide_number number ∷ []
answer_tokens (answer.Consumer number) = codes "consumer" ∷ token wide_number number ∷ []
answer_tokens (answer.Got message) = codes "got" ∷ got_tokens message
answer_tokens (answer.Queue queue) = codes "queue" ∷ token text queue.name ∷ token long_number queue.message_count ∷ token long_number queue.consumer_count ∷ []
answer_tokens (answer.Count count) = codes "count" ∷ token long_number count ∷ []
answer_tokens (answer.Flow active) = codes "flow" ∷ token flag active ∷ []
answer_tokens answer.Yes = codes "yes" ∷ []

-- the outcome of a confirm: ack or nack with the message that came back, or a dash for none; or that none was requested
abbrev pub confirmation_tokens : Confirmation → List (List ℕ)
confirmation_tokens (confirmation.Ack message) = codes "ack" ∷ held_tokens message
confirmation_tokens (confirmation.Nack message) = codes "nack" ∷ held_tokens message
confirmation_tokens confirmation.NotRequested = codes "notrequested" ∷ []

-- the word of a consumer's item: a delivery, its end, or the error that ended its channel
abbrev pub item_word : Result (Option Delivery) Error → List ℕ
item_word (Ok (Some delivery)) = codes "item"
item_word (Ok None) = codes "end"
item_word (Err error) = codes "failed"

-- what a consumer's item carries
abbrev pub carried_tokens : Result (Option Delivery) Error → List (List ℕ)
carried_tokens (Ok (Some delivery)) = delivery_tokens delivery
carried_tokens (Ok None) = []
carried_tokens (Err error) = error_tokens error

-- `item DELIVERY`, `end` or `failed ERROR`
abbrev pub item_tokens : Result (Option Delivery) Error → List (List ℕ)
item_tokens given = item_word given ∷ carried_tokens given

-- what a delegate is called with: an item, or that messages are to be forgotten
abbrev pub kind_tokens : JobKind → List (List ℕ)
kind_tokens (job_kind.Deliver given) = item_tokens given
kind_tokens job_kind.Discard = codes "discard" ∷ []

-- the consumer's number, and what its delegate is called with
abbrev pub job_tokens : Job → List (List ℕ)
job_tokens job = token wide_number job.consumer ∷ kind_tokens job.kind

-- a record: its word, and what it carries
abbrev pub record_tokens : Record → List (List ℕ)
record_tokens (record_.Ticket number) = codes "ticket" ∷ token wide_number number ∷ []
record_tokens (record_.Publish ticket confirm) = codes "publish" ∷ token wide_number ticket ∷ token wide_number confirm ∷ []
record_tokens (record_.Refused error) = codes "refused" ∷ error_tokens error
record_tokens (record_.Frame frame) = codes "frame" ∷ frame_tokens frame
record_tokens record_.NoFrame = codes "noframe" ∷ []
record_tokens record_.Received = codes "received" ∷ []
record_tokens record_.Passed = codes "passed" ∷ []
record_tokens record_.Pending = codes "pending" ∷ []
record_tokens (record_.Answer (Ok answer)) = codes "answer" ∷ answer_tokens answer
record_tokens (record_.Answer (Err error)) = codes "error" ∷ error_tokens error
record_tokens (record_.Confirmed (Ok confirmation)) = codes "confirmed" ∷ confirmation_tokens confirmation
record_tokens (record_.Confirmed (Err error)) = codes "error" ∷ error_tokens error
record_tokens (record_.Item given) = item_tokens given
record_tokens (record_.Returned messages) = codes "returned" ∷ returned_tokens messages
record_tokens record_.Aside = codes "aside" ∷ []
record_tokens record_.No = codes "no" ∷ []
record_tokens record_.Delegated = codes "delegated" ∷ []
record_tokens (record_.Dropped cancels) = codes "dropped" ∷ token flag cancels ∷ []
record_tokens (record_.Job job) = codes "job" ∷ job_tokens job
record_tokens record_.NoJob = codes "nojob" ∷ []
record_tokens (record_.State connection channel) = codes "state" ∷ connection_name connection ∷ state_name channel ∷ []
record_tokens record_.Lost = codes "lost" ∷ []

-- a record's line: its tokens with one space between them
abbrev pub record_line : Record → List ℕ
record_line r = join_with_byte 32 (record_tokens r)

-- the text of records: the line of each, ended by one line feed
abbrev pub records_text : List Record → List ℕ
records_text rs = flat_map (λ r. record_line r ++ 10 ∷ []) rs

-- tokens at the end of a text, with one space between them
abbrev pub line_onto : List ℕ → List (List ℕ) → List ℕ
line_onto out [] = out
line_onto out (t ∷ ts) = onto (out ++ t) ts

-- the lines of records at the end of a text
abbrev pub records_onto : List ℕ → List Record → List ℕ
records_onto out [] = out
records_onto out (r ∷ rs) = records_onto (line_onto out (record_tokens r) ++ 10 ∷ []) rs
