-- The rules, event by event: the record of an event, what it leaves, and what it does to consumers, confirms and tickets. Each line
-- names the rule that says the rest.
use Rattle.std.specs.Prelude.{List, [], ◌∷◌}
use Rattle.lapin_types.specs.declared.event.Event.{Event}
use Rattle.lapin_types.specs.declared.record.Record.{Record}
use Rattle.lapin_types.specs.declared.event.Event.TheVariants as event
use Rattle.lapin_types.specs.declared.record.Record.TheVariants as record_
use Rattle.lapin_delivery.specs.Marks.{DeliveryMark}
use Rattle.lapin_delivery.specs.Marks as deliveries
use Rattle.lapin_rules.specs.ConfirmMarks.{ConfirmMark}
use Rattle.lapin_rules.specs.TicketReadings.{TicketMark}
use Rattle.lapin_rules.specs.Phases.{connection_state}
use Rattle.lapin_rules.specs.Readings.{Readings}
use Rattle.lapin_rules.specs.Wire.{Wire, state_of, with_deliveries}
use Rattle.lapin_rules.specs.Incoming.{incoming_of, frame_class, frame_method}
use Rattle.lapin_rules.specs.Asking.{call_told, asked_by, after_asking, asking_deliveries, asking_marks, asking_tickets}
use Rattle.lapin_rules.specs.Handing.{handed, handed_as, frame_record, after_next, left_marks, left_tickets}
use Rattle.lapin_rules.specs.Receiving.{incoming_record, after_incoming, incoming_deliveries, incoming_marks, incoming_tickets}
use Rattle.lapin_rules.specs.Unexpected.{refused}
use Rattle.lapin_rules.specs.Loss.{after_lost, lost_deliveries, lost_marks, lost_tickets}
use Rattle.lapin_rules.specs.Consumers.{item_told, delegate_told, delegate_deliveries, job_told, job_deliveries, drop_told, after_drop, drop_deliveries}
use Rattle.lapin_rules.specs.Ackers.{acker_told, after_acker, acker_deliveries, acker_tickets}
use Rattle.lapin_rules.specs.Polls.{wait_record, confirm_poll_marks, wait_marks, confirm_aside_marks, ticket_poll_marks, ticket_aside_marks}

-- the record of an event, from the states and lists before it and from what is seen of confirms and tickets
abbrev pub record_of : Wire → Readings → Event → Record
record_of b readings (event.Call c k) = call_told c k b readings
record_of b readings (event.Next flow) = frame_record (handed flow readings.full b)
record_of b readings (event.Receive f) = incoming_record b readings (refused (frame_class f) (frame_method f)) (incoming_of f)
record_of b readings (event.PollTicket n) = readings.ticket n
record_of b readings (event.PollConfirm n) = readings.confirm n
record_of b readings (event.PollConsumer n) = item_told n b
record_of b readings (event.PollWait c) = wait_record c b readings
record_of b readings (event.AsideTicket n) = readings.ticket_aside n
record_of b readings (event.AsideConfirm n) = readings.confirm_aside n
record_of b readings (event.Acker n k) = acker_told n k b
record_of b readings (event.Delegate n) = delegate_told n b
record_of b readings (event.DropConsumer n) = drop_told n b
record_of b readings event.NextJob = job_told b
record_of b readings (event.State c) = record_.State (connection_state b.link) (state_of c b)
record_of b readings event.Lost = record_.Lost

-- the states, lists and requests after an event with its record; nothing here looks at a tag, an outcome or an answer
abbrev pub after_event : Wire → Event → Record → Wire
after_event b (event.Call c k) r = after_asking c (asked_by k r) b
after_event b (event.Next flow) r = after_next r b
after_event b (event.Receive f) r = after_incoming (incoming_of f) r b
after_event b (event.PollConsumer n) r = with_deliveries (deliveries.Polled n ∷ []) b
after_event b (event.Acker n k) r = after_acker n k b
after_event b (event.Delegate n) r = with_deliveries (delegate_deliveries n b) b
after_event b (event.DropConsumer n) r = with_deliveries (drop_deliveries n b) (after_drop n b)
after_event b event.NextJob r = with_deliveries (job_deliveries b) b
after_event b event.Lost r = with_deliveries (lost_deliveries b) (after_lost b)
after_event b _ r = b

-- what happens to consumers and ackers, and to what is declared
abbrev pub delivery_marks : Wire → Event → Record → List DeliveryMark
delivery_marks b (event.Call c k) r = asking_deliveries c (asked_by k r) b
delivery_marks b (event.Receive f) r = incoming_deliveries (incoming_of f) r b
delivery_marks b (event.PollConsumer n) r = deliveries.Polled n ∷ []
delivery_marks b (event.Acker n k) r = acker_deliveries n k b
delivery_marks b (event.Delegate n) r = delegate_deliveries n b
delivery_marks b (event.DropConsumer n) r = drop_deliveries n b
delivery_marks b event.NextJob r = job_deliveries b
delivery_marks b event.Lost r = lost_deliveries b
delivery_marks b _ r = []

-- what happens to confirms
abbrev pub confirm_marks : Wire → Event → Record → List ConfirmMark
confirm_marks b (event.Call c k) r = asking_marks c (asked_by k r) b
confirm_marks b (event.Next flow) r = left_marks (handed_as r b)
confirm_marks b (event.Receive f) r = incoming_marks (incoming_of f) r b
confirm_marks b (event.PollConfirm n) r = confirm_poll_marks n r
confirm_marks b (event.PollWait c) r = wait_marks c r
confirm_marks b (event.AsideConfirm n) r = confirm_aside_marks n r
confirm_marks b event.Lost r = lost_marks b
confirm_marks b _ r = []

-- what happens to tickets
abbrev pub ticket_marks : Wire → Event → Record → List TicketMark
ticket_marks b (event.Call c k) r = asking_tickets c (asked_by k r) b
ticket_marks b (event.Next flow) r = left_tickets (handed_as r b)
ticket_marks b (event.Receive f) r = incoming_tickets (incoming_of f) r b
ticket_marks b (event.Acker n k) r = acker_tickets n k b
ticket_marks b (event.PollTicket n) r = ticket_poll_marks n r
ticket_marks b (event.AsideTicket n) r = ticket_aside_marks n r
ticket_marks b event.Lost r = lost_tickets b
ticket_marks b _ r = []
