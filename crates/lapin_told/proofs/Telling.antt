-- One event of a history that fits: its record has a line, and the history fits with it.
use Rattle.std.proofs.Common.{◌≡◌, ℕ, ◌+◌, ◌^◌, ◌<◌, ◌≤◌, ◌||◌, Bool, true, false, cond, length, Option, Some, None, Ok, Err, Result, refl, arith}
use Rattle.std.specs.List.{AllByRecursion as Each}
use Rattle.lapin_methods.specs.Numbers.{class_number, method_number}
use Rattle.lapin_types.specs.Types.{Error, Frame, Method}
use Rattle.lapin_types.specs.Types.error
use Rattle.lapin_types.specs.Types.frame
use Rattle.lapin_types.specs.Types.method
use Rattle.lapin_types.specs.Types.connection
use Rattle.lapin_types.specs.Types.channel
use Rattle.lapin_types.specs.Types.access
use Rattle.lapin_types.specs.Types.exchange
use Rattle.lapin_types.specs.Types.queue
use Rattle.lapin_types.specs.Types.basic
use Rattle.lapin_types.specs.Types.confirm
use Rattle.lapin_types.specs.Types.tx
use Rattle.lapin_types.specs.declared.answer.Answer.{Answer}
use Rattle.lapin_types.specs.declared.answer.Answer.TheVariants as answer
use Rattle.lapin_types.specs.declared.event.Event.{Event}
use Rattle.lapin_types.specs.declared.event.Event.TheVariants as event
use Rattle.lapin_types.specs.declared.leaving.Left.{Left}
use Rattle.lapin_types.specs.declared.message.BasicReturnMessage.{BasicReturnMessage}
use Rattle.lapin_types.specs.declared.outcome.Outcome.{Outcome}
use Rattle.lapin_types.specs.declared.outcome.Outcome.TheVariants as outcome
use Rattle.lapin_types.specs.declared.record.Record.{Record}
use Rattle.lapin_types.specs.declared.record.Record.TheVariants as record_
use Rattle.lapin_text.specs.Frames.{FrameFits}
use Rattle.lapin_rules.specs.declared.broker_frames.Incoming.{Incoming}
use Rattle.lapin_rules.specs.declared.broker_frames.Incoming.TheVariants as incoming
use Rattle.lapin_rules.specs.ConfirmReadings.{is_finished, outcome_at, place, was_added}
use Rattle.lapin_rules.specs.ConnectionClose.{receives_down}
use Rattle.lapin_rules.specs.Handing.{frame_record, handed}
use Rattle.lapin_rules.specs.Flow.{begins_on}
use Rattle.lapin_rules.specs.History.{History, Past, confirm_poll, polled_answer, polled_outcome, readings_of, record_after, ticket_aside, ticket_poll, was_given}
use Rattle.lapin_rules.specs.Incoming.{frame_class, frame_method, incoming_of}
use Rattle.lapin_rules.specs.Machine.{given_by, has_ticket, is_known_in}
use Rattle.lapin_rules.specs.Phases.{is_up}
use Rattle.lapin_rules.specs.Polls.{is_waited_on, wait_record}
use Rattle.lapin_rules.specs.Readings.{Readings}
use Rattle.lapin_rules.specs.Receiving.{incoming_record, incoming_up, when}
use Rattle.lapin_rules.specs.ReturnReadings.{drained, message_of}
use Rattle.lapin_rules.specs.Settlement.{settlement_record}
use Rattle.lapin_rules.specs.TicketReadings.{answer_of, given, is_collected, leaving_of}
use Rattle.lapin_rules.specs.Unexpected.{refused}
use Rattle.lapin_rules.specs.Wire.{Wire, receives_on, state_of}
use Rattle.lapin_rules.specs.Words.{many}
use Rattle.lapin_rules.specs.Reply.{receives_reply}
use Rattle.lapin_rules.specs.Content.{receives_part}
use Rattle.lapin_rules.specs.Consumers.{receives_consumer}
use Rattle.lapin_rules.specs.ChannelClose.{receives_close, receives_close_ok}
use Rattle.lapin_lines.specs.KeptLines.{HeldFits, MayTell, OfAside, OfConfirm, OfKnownAside, OfNext, OfReceive, OfTicket, OfWait}
use Rattle.lapin_told.specs.Told.{MayCome}
use Rattle.lapin_told.proofs.Each.{Of, chosen, many_at_most}
use Rattle.lapin_told.proofs.Fitting.{ConfirmFits, LeavingFits, Short, TicketFits, Wide, WireFits, counts}
use Rattle.lapin_told.proofs.Called.{told_of_call}
use Rattle.lapin_told.proofs.Hearing.{IncomingFits, frame_fits}
use Rattle.lapin_told.proofs.Outcomes.{OutcomeFits, Plain, answer_fits, limit_fits, outcome_fits, place_least}
use Rattle.lapin_told.proofs.Returns.{drained_fits, message_fits}
use Rattle.lapin_told.proofs.Sizes.{wide}
use Rattle.lapin_told.proofs.Wires.{LeftFits, frame_leaves}

-- ---- frames of the broker

class_fits : (m : Method) → Short (class_number m)
class_fits (method.Connection m) = refl
class_fits _ = refl

number_fits : (m : Method) → Short (method_number m)
number_fits (method.Connection connection.CloseOk) = refl
number_fits (method.Channel channel.Open) = refl
number_fits (method.Access access.RequestOk) = refl
number_fits (method.Exchange exchange.BindOk) = refl
number_fits (method.Queue queue.BindOk) = refl
number_fits (method.Basic basic.QosOk) = refl
number_fits (method.Confirm confirm.SelectOk) = refl
number_fits (method.Tx tx.Select) = refl
number_fits _ = refl

frame_numbers : (f : Frame) → FrameFits f → Short (frame_class f) × Short (frame_method f)
frame_numbers (frame.Method c m) h = (class_fits m, number_fits m)
frame_numbers (frame.Header c x) h = (h.1.0, refl)
frame_numbers (frame.Body c xs) h = (refl, refl)

module _ (K : ℕ → Bool) (b : Wire) (readings : Readings) (class number : ℕ) (numbers : Short class × Short number) (last : (c : ℕ) → Wide (readings.last c)) where
  either : (t : Bool) → OfReceive (when t (refused class number))
  either t = chosen OfReceive t record_.Received (refused class number) tt numbers

  heard : (i : Incoming) → IncomingFits K i → OfReceive (incoming_up b readings (refused class number) i)
  heard (incoming.Reply c k a) f = either (receives_reply c k b)
  heard (incoming.Settlement c s) f =
      let failed : Record = record_.Refused (error.PreconditionFailed s.tag (readings.last c)) in
      let settled : OfReceive (settlement_record readings c s) = chosen OfReceive (readings.selected c) (cond (s.multiple || readings.pending c s.tag) record_.Received failed) record_.Passed (chosen OfReceive (s.multiple || readings.pending c s.tag) record_.Received failed tt (f.1, last c)) tt in
      chosen OfReceive (receives_on (state_of c b)) (settlement_record readings c s) (refused class number) settled numbers
  heard (incoming.Content c p) f = either (receives_part c p b)
  heard (incoming.Consumer c p) f = either (receives_consumer c p b)
  heard (incoming.Flow c active) f = either (receives_on (state_of c b))
  heard (incoming.ChannelClose c code) f = either (receives_close (state_of c b))
  heard (incoming.ChannelCloseOk c) f = either (receives_close_ok (state_of c b))
  heard (incoming.ConnectionClose code) f = tt
  heard incoming.ConnectionCloseOk f = numbers
  heard incoming.Other f = numbers

  told_of_frame : (i : Incoming) → IncomingFits K i → OfReceive (incoming_record b readings (refused class number) i)
  told_of_frame i f = chosen OfReceive (is_up b.link) (incoming_up b readings (refused class number) i) (cond (receives_down b.link i) record_.Received record_.Passed) (heard i f) (chosen OfReceive (receives_down b.link i) record_.Received record_.Passed tt tt)

-- ---- polls

frame_told : (o : Option Left) → LeftFits o → OfNext (frame_record o)
frame_told None h = tt
frame_told (Some l) h = h

answer_told : (K : ℕ → Bool) (n : ℕ) (known : K n ≡ true) (o : Option (Result Answer Error)) → Of (Plain K n known) o → OfTicket true (polled_answer o)
answer_told K n known None h = tt
answer_told K n known (Some (Ok answer.Done)) h = tt
answer_told K n known (Some (Ok (answer.Channel c))) h = h
answer_told K n known (Some (Ok (answer.Confirm m))) h = h
answer_told K n known (Some (Ok _)) h = absurd h
answer_told K n known (Some (Err e)) h = h

outcome_told : (m : Option BasicReturnMessage) (o : Option Outcome) → HeldFits m → Of OutcomeFits o → OfConfirm (polled_outcome m o)
outcome_told m None f h = tt
outcome_told m (Some outcome.NotRequested) f h = tt
outcome_told m (Some outcome.Ack) f h = f
outcome_told m (Some outcome.Nack) f h = f
outcome_told m (Some (outcome.Failed e)) f h = h

pub aside_told : (given over : Bool) → OfAside (cond given (cond over (record_.Refused error.AlreadyTaken) record_.Aside) (record_.Refused error.UnknownTicket))
aside_told true true = tt
aside_told true false = tt
aside_told false over = tt

-- ---- what is kept of a history

-- which tickets the machine knows
abbrev pub known_in : History → ℕ → Bool
known_in h n = is_known_in (given_by n h)

-- what a history comes to fits
pub record Keeps (h : History) (p : Past) : Type 0 where
  pub wire : WireFits (known_in h) p.wire
  pub confirms : Each ConfirmFits p.confirms
  pub tickets : Each (TicketFits (known_in h)) p.tickets
  pub leaving : (n : ℕ) → known_in h n ≡ true → LeavingFits (leaving_of n p.tickets)
  pub count : many counts p.confirms ≤ length h
  pub same : many has_ticket h ≡ given p.tickets

-- it is short enough for one more event, and the counters are what the marks say
pub record Roomy (h : History) (p : Past) : Type 0 where
  pub fewer : length h + 1 < 2 ^ 64
  pub tickets : p.wire.tickets ≡ many has_ticket h
  pub published : p.wire.published ≤ length h

module _ (h : History) (p : Past) (k : Keeps h p) (s : Roomy h p) where
  of_ticket : (n : ℕ) (t : Bool) → known_in h n ≡ t → OfTicket t (ticket_poll p.tickets n)
  of_ticket n false e = tt
  of_ticket n true e =
      let told = answer_told (known_in h) n e (answer_of n p.tickets) (answer_fits (known_in h) n e p.tickets (k.leaving n e) k.tickets) in
      let taken : Record = record_.Refused error.AlreadyTaken in
      chosen (OfTicket true) (was_given n p.tickets) (cond (is_collected n p.tickets) taken (polled_answer (answer_of n p.tickets))) (record_.Refused error.UnknownTicket) (chosen (OfTicket true) (is_collected n p.tickets) taken (polled_answer (answer_of n p.tickets)) tt told) tt

  of_confirm : (n : ℕ) → OfConfirm (confirm_poll p.confirms n)
  of_confirm n =
      let told = outcome_told (message_of n p.confirms) (outcome_at n p.confirms) (message_fits n p.confirms k.confirms) (outcome_fits n p.confirms k.confirms) in
      let taken : Record = record_.Refused error.AlreadyTaken in
      let got : Record = polled_outcome (message_of n p.confirms) (outcome_at n p.confirms) in
      chosen OfConfirm (was_added n p.confirms) (cond (is_finished n p.confirms) taken got) (record_.Refused error.UnknownTicket) (chosen OfConfirm (is_finished n p.confirms) taken got tt told) tt

  known_aside : (n : ℕ) (t : Bool) → OfKnownAside t (ticket_aside p.tickets n)
  known_aside n true = aside_told (was_given n p.tickets) (is_collected n p.tickets)
  known_aside n false = tt

  of_wait : (c : ℕ) → OfWait (wait_record c p.wire (readings_of p.confirms p.tickets))
  of_wait c =
      let d = drained_fits c p.confirms k.confirms in
      let a = d.1 in
      let few = s.fewer in
      let least = k.count in
      chosen OfWait (is_waited_on c p.wire (readings_of p.confirms p.tickets)) record_.Pending (record_.Returned (drained c p.confirms)) tt (wide (length (drained c p.confirms)) (omega (arith, a, few, least)), d.0)

  next_ticket : Wide (p.wire.tickets + 1)
  next_ticket = let a = s.fewer in let c = s.tickets in let d = many_at_most has_ticket h in wide (p.wire.tickets + 1) (omega (arith, a, c, d))

  next_confirm : Wide (p.wire.published + 1)
  next_confirm = let a = s.fewer in let c = s.published in wide (p.wire.published + 1) (omega (arith, a, c))

  tag_fits : (c : ℕ) → Wide (place c p.confirms)
  tag_fits c = let a = place_least c p.confirms in let few = s.fewer in let least = k.count in wide (place c p.confirms) (omega (arith, a, few, least))

  pub tells : (e : Event) → MayCome e → MayTell h e (record_after p e)
  tells (event.Call c call) m = told_of_call p.wire next_ticket next_confirm c call (readings_of p.confirms p.tickets) (limit_fits c p.confirms k.confirms)
  tells (event.Next flow) m =
      let b : Wire = p.wire in
      let full = (readings_of p.confirms p.tickets).full in
      frame_told (handed flow full b) (frame_leaves (begins_on flow full b) b.rest b.methods b.publishes k.wire.rest_fits k.wire.methods_fit k.wire.publishes_fit)
  tells (event.Receive f) m = told_of_frame (known_in h) p.wire (readings_of p.confirms p.tickets) (frame_class f) (frame_method f) (frame_numbers f m.line) tag_fits (incoming_of f) (frame_fits (known_in h) f m.line)
  tells (event.PollTicket n) m = of_ticket n (known_in h n) refl
  tells (event.PollConfirm n) m = of_confirm n
  tells (event.PollWait c) m = of_wait c
  tells (event.AsideTicket n) m = known_aside n (known_in h n)
  tells (event.AsideConfirm n) m = aside_told (was_added n p.confirms) (is_finished n p.confirms)
  tells _ m = tt
