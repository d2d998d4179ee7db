-- Which records give a frame, and which a job: those of requests for a frame and for a job alone.
use Rattle.std.proofs.Common.{◌≡◌, ℕ, Bool, true, false, cond, ◌||◌, List, refl, Option, Some, None, Result, Ok, Err}
use Rattle.lapin_types.specs.declared.event.Event.{Event}
use Rattle.lapin_types.specs.declared.event.Event.TheVariants as event
use Rattle.lapin_types.specs.declared.call.Call.{Call}
use Rattle.lapin_types.specs.declared.record.Record.{Record}
use Rattle.lapin_types.specs.declared.record.Record.TheVariants as record_
use Rattle.lapin_types.specs.declared.answer.Answer.{Answer}
use Rattle.lapin_types.specs.Types.{Error}
use Rattle.lapin_rules.specs.declared.calls.Asked.{Asked}
use Rattle.lapin_rules.specs.declared.calls.Asked.TheVariants as ask
use Rattle.lapin_types.specs.declared.outcome.Outcome.{Outcome}
use Rattle.lapin_types.specs.declared.outcome.Outcome.TheVariants as outcome
use Rattle.lapin_rules.specs.declared.broker_frames.Incoming.{Incoming}
use Rattle.lapin_rules.specs.declared.broker_frames.Incoming.TheVariants as incoming
use Rattle.lapin_rules.specs.ConfirmMarks.{ConfirmMark}
use Rattle.lapin_rules.specs.TicketReadings.{TicketMark, is_collected, answer_of}
use Rattle.lapin_rules.specs.ConfirmReadings.{outcome_at, is_finished, was_added}
use Rattle.lapin_rules.specs.ReturnReadings.{message_of}
use Rattle.lapin_types.specs.declared.message.BasicReturnMessage.{BasicReturnMessage}
use Rattle.lapin_types.specs.declared.acker_call.AckerCall.{AckerCall}
use Rattle.lapin_types.specs.declared.job.Job.{Job}
use Rattle.lapin_consumer.specs.Subscriptions.{Handed, Consumer, consumer_at, answered}
use Rattle.lapin_rules.specs.Calls.{asked}
use Rattle.lapin_rules.specs.Phases.{is_up}
use Rattle.lapin_rules.specs.Incoming.{incoming_of, frame_class, frame_method}
use Rattle.lapin_rules.specs.Readings.{Readings}
use Rattle.lapin_rules.specs.Wire.{Wire, state_of, receives_on}
use Rattle.lapin_rules.specs.ChannelClose.{receives_close, receives_close_ok}
use Rattle.lapin_rules.specs.ConnectionClose.{receives_down}
use Rattle.lapin_rules.specs.Reply.{receives_reply}
use Rattle.lapin_rules.specs.Content.{receives_part}
use Rattle.lapin_rules.specs.Unexpected.{refused}
use Rattle.lapin_rules.specs.Polls.{confirmed, is_waited_on}
use Rattle.lapin_rules.specs.Asking.{is_allowed, is_held, accepted_record, call_record, call_told}
use Rattle.lapin_rules.specs.Receiving.{incoming_up}
use Rattle.lapin_rules.specs.Events.{record_of}
use Rattle.lapin_rules.specs.History.{polled_outcome, confirm_poll, confirm_aside, polled_answer, was_given, ticket_poll, ticket_aside, readings_of}
use Rattle.lapin_rules.specs.Ackers.{acker_asked, usable_at, acked_record}
use Rattle.lapin_rules.specs.Consumers.{receives_consumer, item_record, delegate_record, drop_record, job_record}
use Rattle.lapin_laws.specs.Outgoing.{given_by}
use Rattle.lapin_laws.specs.Consumers.{job_in}

-- the record gives a frame or a job
abbrev gives : Record → Bool
gives (record_.Frame f) = true
gives (record_.Job j) = true
gives _ = false

abbrev IsOther : Record → Type 0
IsOther r = gives r ≡ false

either : (t : Bool) (x y : Record) → IsOther x → IsOther y → IsOther (cond t x y)
either true x y h k = h
either false x y h k = k

accepted_none : (k : Asked) (b : Wire) → IsOther (accepted_record k b)
accepted_none ask.Open b = refl
accepted_none (ask.CloseChannel code text) b = refl
accepted_none (ask.CloseConnection code text) b = refl
accepted_none (ask.Publish exchange key o payload properties) b = refl
accepted_none (ask.Method row) b = refl
accepted_none (ask.Consume m tag queue o) b = refl
accepted_none (ask.Limit limit) b = refl
accepted_none ask.Nothing b = refl

incoming_none : (b : Wire) (readings : Readings) (class number : ℕ) (i : Incoming) → IsOther (incoming_up b readings (refused class number) i)
incoming_none b readings class number (incoming.Reply c k a) = either (receives_reply c k b) record_.Received (refused class number) refl refl
incoming_none b readings class number (incoming.Settlement c s) = either (receives_on (state_of c b)) _ (refused class number) (either (readings.selected c) _ record_.Passed (either (s.multiple || readings.pending c s.tag) record_.Received _ refl refl) refl) refl
incoming_none b readings class number (incoming.Content c p) = either (receives_part c p b) record_.Received (refused class number) refl refl
incoming_none b readings class number (incoming.Consumer c p) = either (receives_consumer c p b) record_.Received (refused class number) refl refl
incoming_none b readings class number (incoming.Flow c active) = either (receives_on (state_of c b)) record_.Received (refused class number) refl refl
incoming_none b readings class number (incoming.ChannelClose c code) = either (receives_close (state_of c b)) record_.Received (refused class number) refl refl
incoming_none b readings class number (incoming.ChannelCloseOk c) = either (receives_close_ok (state_of c b)) record_.Received (refused class number) refl refl
incoming_none b readings class number (incoming.ConnectionClose code) = refl
incoming_none b readings class number incoming.ConnectionCloseOk = refl
incoming_none b readings class number incoming.Other = refl

call_none : (c : ℕ) (k : Asked) (b : Wire) → IsOther (call_record c k b)
call_none c k b = either (is_allowed k (state_of c b)) (accepted_record k b) _ (accepted_none k b) refl

told_none : (c : ℕ) (k : Call) (b : Wire) (readings : Readings) → IsOther (call_told c k b readings)
told_none c k b readings = either (is_held c k b readings) _ (call_record c (asked k) b) refl (call_none c (asked k) b)

-- consumers and ackers
acked_none : (o : Option (ℕ × ℕ)) (k : AckerCall) (b : Wire) → IsOther (acked_record o k b)
acked_none None k b = refl
acked_none (Some x) k b = call_none x.0 (acker_asked k x.1) b

item_none : (r : Result (Option Handed) Error) → IsOther (item_record r)
item_none (Ok None) = refl
item_none (Ok (Some y)) = refl
item_none (Err e) = refl

delegate_none : (o : Option Consumer) → IsOther (delegate_record o)
delegate_none None = refl
delegate_none (Some x) = refl

drop_none : (o : Option Consumer) (b : Wire) → IsOther (drop_record o b)
drop_none None b = refl
drop_none (Some x) b = refl

confirmed_none : (m : Option BasicReturnMessage) (o : Outcome) → IsOther (confirmed m o)
confirmed_none m outcome.NotRequested = refl
confirmed_none m outcome.Ack = refl
confirmed_none m outcome.Nack = refl
confirmed_none m (outcome.Failed e) = refl

outcome_none : (m : Option BasicReturnMessage) (o : Option Outcome) → IsOther (polled_outcome m o)
outcome_none m None = refl
outcome_none m (Some o) = confirmed_none m o

confirm_none : (ms : List ConfirmMark) (n : ℕ) → IsOther (confirm_poll ms n)
confirm_none ms n = either (was_added n ms) _ _ (either (is_finished n ms) _ _ refl (outcome_none (message_of n ms) (outcome_at n ms))) refl

laid_none : (ms : List ConfirmMark) (n : ℕ) → IsOther (confirm_aside ms n)
laid_none ms n = either (was_added n ms) _ _ (either (is_finished n ms) _ _ refl refl) refl

answer_none : (o : Option (Result Answer Error)) → IsOther (polled_answer o)
answer_none None = refl
answer_none (Some a) = refl

ticket_none : (ms : List TicketMark) (n : ℕ) → IsOther (ticket_poll ms n)
ticket_none ms n = either (was_given n ms) _ _ (either (is_collected n ms) _ _ refl (answer_none (answer_of n ms))) refl

aside_none : (ms : List TicketMark) (n : ℕ) → IsOther (ticket_aside ms n)
aside_none ms n = either (was_given n ms) _ _ (either (is_collected n ms) _ _ refl refl) refl

-- the event asks for a frame or a job
abbrev pub asks_other : Event → Bool
asks_other (event.Next flow) = false
asks_other event.NextJob = false
asks_other _ = true

record_other : (b : Wire) (ms : List ConfirmMark) (ts : List TicketMark) (e : Event) → asks_other e ≡ true → IsOther (record_of b (readings_of ms ts) e)
record_other b ms ts (event.Call c k) h = told_none c k b (readings_of ms ts)
record_other b ms ts (event.Next flow) h = absurd cc
record_other b ms ts (event.Receive f) h =
    either (is_up b.link) _ _ (incoming_none b (readings_of ms ts) (frame_class f) (frame_method f) (incoming_of f)) (either (receives_down b.link (incoming_of f)) record_.Received record_.Passed refl refl)
record_other b ms ts (event.PollTicket n) h = ticket_none ts n
record_other b ms ts (event.PollConfirm n) h = confirm_none ms n
record_other b ms ts (event.PollConsumer n) h = item_none (answered (consumer_at n b.deliveries.subscriptions))
record_other b ms ts (event.PollWait c) h = either (is_waited_on c b (readings_of ms ts)) record_.Pending _ refl refl
record_other b ms ts (event.AsideConfirm n) h = laid_none ms n
record_other b ms ts (event.AsideTicket n) h = aside_none ts n
record_other b ms ts (event.Acker n k) h = acked_none (usable_at n b) k b
record_other b ms ts (event.Delegate n) h = delegate_none (consumer_at n b.deliveries.subscriptions)
record_other b ms ts (event.DropConsumer n) h = drop_none (consumer_at n b.deliveries.subscriptions) b
record_other b ms ts event.NextJob h = absurd cc
record_other b ms ts (event.State c) h = refl
record_other b ms ts event.Lost h = refl

-- ---- what it gives

no_frame : (r : Record) → IsOther r → given_by r ≡ None
no_frame (record_.Frame f) h = absurd cc
no_frame _ h = refl

no_job : (r : Record) → IsOther r → job_in r ≡ None
no_job (record_.Job j) h = absurd cc
no_job _ h = refl

pub other_frame : (b : Wire) (ms : List ConfirmMark) (ts : List TicketMark) (e : Event) → asks_other e ≡ true → given_by (record_of b (readings_of ms ts) e) ≡ None
other_frame b ms ts e h = no_frame (record_of b (readings_of ms ts) e) (record_other b ms ts e h)

pub other_job : (b : Wire) (ms : List ConfirmMark) (ts : List TicketMark) (e : Event) → asks_other e ≡ true → job_in (record_of b (readings_of ms ts) e) ≡ None
other_job b ms ts e h = no_job (record_of b (readings_of ms ts) e) (record_other b ms ts e h)

-- a request for a job gives no frame
pub asked_frame : (o : Option Job) → given_by (job_record o) ≡ None
asked_frame None = refl
asked_frame (Some j) = refl
