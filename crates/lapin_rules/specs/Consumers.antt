-- Consumers (AMQP 0-9-1, class basic, `consume` and `cancel`): what calls and frames of the broker do to them, and what is asked of
-- them. How a consumer gets its deliveries and its end stands in `lapin_consumer`; when an opening ends stands with the rule that ends
-- it.
use Rattle.std.specs.Prelude.{ℕ, ◌+◌, ◌==◌, Bool, true, false, not, ◌&&◌, if◌then◌else◌, List, [], ◌∷◌, Option, Some, None, Result, Ok, Err, length, slice_get}
use Rattle.lapin_types.specs.declared.request.Request.{Request}
use Rattle.lapin_types.specs.declared.request.Reply.{Reply}
use Rattle.lapin_types.specs.declared.request.Reply.TheVariants as reply
use Rattle.lapin_types.specs.declared.request.ReplyKind.TheVariants as reply_kind
use Rattle.lapin_types.specs.declared.answer.Answer.TheVariants as answer
use Rattle.lapin_types.specs.declared.record.Record.{Record}
use Rattle.lapin_types.specs.declared.record.Record.TheVariants as record_
use Rattle.lapin_types.specs.declared.job.Job.{Job}
use Rattle.lapin_types.specs.Types.{Method, BasicMethod, Error}
use Rattle.lapin_types.specs.Types.method
use Rattle.lapin_types.specs.Types.basic
use Rattle.lapin_types.specs.Types.error
use Rattle.lapin_consumer.specs.Subscriptions.{Handed, Consumer, consumer_at, answered, is_idle}
use Rattle.lapin_delivery.specs.Deliveries.{Deliveries}
use Rattle.lapin_delivery.specs.Marks.{DeliveryMark}
use Rattle.lapin_delivery.specs.Marks as deliveries
use Rattle.lapin_rules.specs.declared.broker_frames.ConsumerPart.{ConsumerPart}
use Rattle.lapin_rules.specs.declared.broker_frames.ConsumerPart.TheVariants as part
use Rattle.lapin_rules.specs.TicketReadings.{TicketMark}
use Rattle.lapin_rules.specs.Requests.{first_request, with_request}
use Rattle.lapin_rules.specs.Wire.{Wire, state_of, requests_of, is_open, receives_on, noted}
use Rattle.lapin_rules.specs.Reply.{receives_reply, after_reply, reply_tickets}

-- the number of the next consumer
abbrev pub next_consumer : Deliveries → ℕ
next_consumer i = length i.subscriptions.consumers + 1

-- ---- calls: what queues one of these methods says something of consumers as it is made

-- an acknowledgement of all there is makes void what was handed on before
abbrev pub all_deliveries : ℕ → ℕ → Bool → List DeliveryMark
all_deliveries c tag multiple = if multiple && tag == 0 then deliveries.Discarded c ∷ [] else []

-- a cancel asks for the end of the consumer of its tag; without wait that is its end
abbrev pub cancel_deliveries : ℕ → List ℕ → Bool → List DeliveryMark
cancel_deliveries c tag nowait = deliveries.CancelAsked c tag ∷ (if nowait then deliveries.Canceled c tag ∷ [] else [])

-- what the call that queues this method does to consumers: a cancel is for the one of its tag,
-- an acknowledgement of everything and `basic.recover-async` discard
abbrev pub called_deliveries : ℕ → BasicMethod → List DeliveryMark
called_deliveries c (basic.Cancel tag nowait) = cancel_deliveries c tag nowait
called_deliveries c (basic.Ack tag multiple) = all_deliveries c tag multiple
called_deliveries c (basic.Nack tag multiple requeue) = all_deliveries c tag multiple
called_deliveries c (basic.RecoverAsync requeue) = deliveries.Discarded c ∷ []
called_deliveries c _ = []

-- ---- frames of the broker: three replies and its own cancel

-- one of these is received on an open and on a closing channel, a reply only where a request of its kind is open there
abbrev pub receives_consumer : ℕ → ConsumerPart → Wire → Bool
receives_consumer c (part.ConsumeOk tag) b = receives_reply c reply_kind.BasicConsumeOk b
receives_consumer c (part.CancelOk tag) b = receives_reply c reply_kind.BasicCancelOk b
receives_consumer c part.RecoverOk b = receives_reply c reply_kind.BasicRecoverOk b
receives_consumer c (part.Cancel tag nowait) b = receives_on (state_of c b)

-- its own cancel is answered on an open channel, unless it asks for no answer
abbrev pub after_cancel : ℕ → List ℕ → Bool → Wire → Wire
after_cancel c tag nowait b = if is_open (state_of c b) && not nowait then noted c (method.Basic (basic.CancelOk tag)) b else b

-- the states, lists and requests after one of these: a reply takes its request, and the broker's cancel may be answered
abbrev pub after_consumer : ℕ → ConsumerPart → Wire → Wire
after_consumer c (part.ConsumeOk tag) b = after_reply c reply_kind.BasicConsumeOk b
after_consumer c (part.CancelOk tag) b = after_reply c reply_kind.BasicCancelOk b
after_consumer c part.RecoverOk b = after_reply c reply_kind.BasicRecoverOk b
after_consumer c (part.Cancel tag nowait) b = after_cancel c tag nowait b

-- what one of these does to tickets: consume-ok answers with the next consumer's number, cancel-ok and recover-ok with Done, a cancel none
abbrev pub consumer_tickets : ℕ → ConsumerPart → Wire → List TicketMark
consumer_tickets c (part.ConsumeOk tag) b = reply_tickets c reply_kind.BasicConsumeOk (answer.Consumer (next_consumer b.deliveries)) b
consumer_tickets c (part.CancelOk tag) b = reply_tickets c reply_kind.BasicCancelOk answer.Done b
consumer_tickets c part.RecoverOk b = reply_tickets c reply_kind.BasicRecoverOk answer.Done b
consumer_tickets c (part.Cancel tag nowait) b = []

-- the queue that a request for a consumer named
abbrev pub queue_in : Reply → List ℕ
queue_in (reply.BasicConsumeOk queue o) = queue
queue_in _ = []

-- the queue that this request for a consumer named, the empty name where there is none
abbrev pub queue_of : Option Request → List ℕ
queue_of None = []
queue_of (Some r) = queue_in r.reply

-- the queue that the oldest open `basic.consume` of the channel named
abbrev pub queue_asked : ℕ → Wire → List ℕ
queue_asked c b = queue_of (first_request reply_kind.BasicConsumeOk (requests_of c b))

-- each goes by the tag that it names
abbrev pub consumer_deliveries : ℕ → ConsumerPart → Wire → List DeliveryMark
consumer_deliveries c (part.ConsumeOk tag) b = deliveries.Consumed c tag (queue_asked c b) ∷ []
consumer_deliveries c (part.CancelOk tag) b = deliveries.Canceled c tag ∷ []
consumer_deliveries c part.RecoverOk b = deliveries.Discarded c ∷ []
consumer_deliveries c (part.Cancel tag nowait) b = deliveries.Canceled c tag ∷ []

-- ---- a poll: the first item, the end where the consumer is canceled, else nothing yet

-- the record of what a poll of a consumer gives: pending where it is nothing yet, else the item, or the refusal
abbrev pub item_record : Result (Option Handed) Error → Record
item_record (Ok None) = record_.Pending
item_record (Ok (Some y)) = record_.Item y
item_record (Err e) = record_.Refused e

-- the record of a poll of the consumer of number n
abbrev pub item_told : ℕ → Wire → Record
item_told n b = item_record (answered (consumer_at n b.deliveries.subscriptions))

-- ---- a delegate, for a number that was given

-- the record of a delegate for a consumer: refused as `UnknownTicket` where the consumer's number was never given, else delegated
abbrev pub delegate_record : Option Consumer → Record
delegate_record None = record_.Refused error.UnknownTicket
delegate_record (Some x) = record_.Delegated

-- the record of a delegate for the consumer of number n
abbrev pub delegate_told : ℕ → Wire → Record
delegate_told n b = delegate_record (consumer_at n b.deliveries.subscriptions)

-- consumer n was given a delegate, where its number was given
abbrev pub delegate_marks : ℕ → Option Consumer → List DeliveryMark
delegate_marks n None = []
delegate_marks n (Some x) = deliveries.Delegated n ∷ []

-- what a delegate for the consumer of number n does to consumers
abbrev pub delegate_deliveries : ℕ → Wire → List DeliveryMark
delegate_deliveries n b = delegate_marks n (consumer_at n b.deliveries.subscriptions)

-- ---- a job is taken from the front

-- the record of the question for the next job: that job, or that there is none
abbrev pub job_record : Option Job → Record
job_record None = record_.NoJob
job_record (Some j) = record_.Job j

-- the record of the question for the next job, which is the oldest that is not taken
abbrev pub job_told : Wire → Record
job_told b = job_record (slice_get b.deliveries.subscriptions.jobs 0)

-- a job was asked for, where there is one to take
abbrev pub job_marks : Option Job → List DeliveryMark
job_marks None = []
job_marks (Some j) = deliveries.JobAsked ∷ []

-- what the question for the next job does to the jobs: the oldest is taken, if there is one
abbrev pub job_deliveries : Wire → List DeliveryMark
job_deliveries b = job_marks (slice_get b.deliveries.subscriptions.jobs 0)

-- ---- a consumer is let go: where it is active and registered and its channel open, it is cancelled by a request without a ticket

-- the consumer is to be cancelled as it is dropped: it is active and registered, and its channel is open
abbrev pub lets_go_of : Consumer → Wire → Bool
lets_go_of x b = is_idle x && is_open (state_of x.channel b)

-- the record of the drop of a consumer: refused as `UnknownTicket` where its number was never given,
-- else dropped, with whether its `basic.cancel` was queued
abbrev pub drop_record : Option Consumer → Wire → Record
drop_record None b = record_.Refused error.UnknownTicket
drop_record (Some x) b = record_.Dropped (lets_go_of x b)

-- the record of the drop of the consumer of number n
abbrev pub drop_told : ℕ → Wire → Record
drop_told n b = drop_record (consumer_at n b.deliveries.subscriptions) b

-- the `basic.cancel` of a consumer that is let go: it names the consumer's tag, and asks for an answer
abbrev pub let_go_cancel : Consumer → Method
let_go_cancel x = method.Basic (basic.Cancel x.tag false)

-- the consumer's `basic.cancel` is queued, with a request for which nobody holds a ticket
abbrev pub cancel_noted : Consumer → Wire → Wire
cancel_noted x b = record (noted x.channel (let_go_cancel x) b) { requests = with_request x.channel (record { ticket = None; reply = reply.BasicCancelOk }) b.requests }

-- the states, lists and requests after a consumer was dropped: its cancel is queued where it is to be cancelled, else nothing changes
abbrev pub after_let_go : Option Consumer → Wire → Wire
after_let_go None b = b
after_let_go (Some x) b = if lets_go_of x b then cancel_noted x b else b

-- the states, lists and requests after the drop of the consumer of number n
abbrev pub after_drop : ℕ → Wire → Wire
after_drop n b = after_let_go (consumer_at n b.deliveries.subscriptions) b

-- consumer n was let go, where it is to be cancelled; else nothing happened to it
abbrev pub let_go_marks : ℕ → Option Consumer → Wire → List DeliveryMark
let_go_marks n None b = []
let_go_marks n (Some x) b = if lets_go_of x b then deliveries.LetGo n ∷ [] else []

-- what the drop of the consumer of number n does to consumers
abbrev pub drop_deliveries : ℕ → Wire → List DeliveryMark
drop_deliveries n b = let_go_marks n (consumer_at n b.deliveries.subscriptions) b
