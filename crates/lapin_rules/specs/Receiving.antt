-- A frame of the broker: when it is received, its record, what it leaves, and its marks. All of this goes by what the frame is to its
-- channel.
use Rattle.std.specs.Prelude.{Bool, if◌then◌else◌, List, []}
use Rattle.lapin_types.specs.declared.record.Record.{Record}
use Rattle.lapin_types.specs.Types.{Error}
use Rattle.lapin_types.specs.declared.record.Record.TheVariants as record_
use Rattle.lapin_types.specs.Types.error
use Rattle.lapin_delivery.specs.Marks.{DeliveryMark}
use Rattle.lapin_rules.specs.declared.broker_frames.Incoming.{Incoming}
use Rattle.lapin_rules.specs.declared.broker_frames.Incoming.TheVariants as incoming
use Rattle.lapin_rules.specs.ConfirmMarks.{ConfirmMark}
use Rattle.lapin_rules.specs.TicketReadings.{TicketMark}
use Rattle.lapin_rules.specs.Phases.{is_up}
use Rattle.lapin_rules.specs.Readings.{Readings}
use Rattle.lapin_rules.specs.Wire.{Wire, state_of, phase_of, receives_on, with_deliveries}
use Rattle.lapin_rules.specs.ChannelClose.{receives_close, receives_close_ok, after_channel_close, after_close_ok, broker_close_deliveries, close_ok_deliveries, broker_close_marks, close_ok_marks, broker_close_tickets, close_ok_tickets}
use Rattle.lapin_rules.specs.ConnectionClose.{receives_down, after_connection_close, after_connection_close_ok, connection_close_deliveries, connection_close_marks, connection_close_tickets, connection_close_ok_tickets}
use Rattle.lapin_rules.specs.Unexpected.{after_unexpected, unexpected_deliveries, unexpected_marks, unexpected_tickets}
use Rattle.lapin_rules.specs.Settlement.{settlement_record, settlement_marks, after_failed_on, failed_marks_on, failed_tickets_on}
use Rattle.lapin_rules.specs.Reply.{receives_reply, after_reply, reply_tickets}
use Rattle.lapin_rules.specs.Flow.{after_flow}
use Rattle.lapin_rules.specs.Content.{receives_part, after_part, part_deliveries, part_marks, part_tickets}
use Rattle.lapin_rules.specs.Consumers.{receives_consumer, after_consumer, consumer_deliveries, consumer_tickets}
use Rattle.lapin_rules.specs.Registry.{reply_deliveries}

-- ---- its record: received, passed over, or refused, where r is the refusal

-- received where the condition holds, and else the refusal
abbrev pub when : Bool → Record → Record
when b r = if b then record_.Received else r

-- while the connection is open
abbrev pub incoming_up : Wire → Readings → Record → Incoming → Record
incoming_up b readings r (incoming.Reply c k a) = when (receives_reply c k b) r
incoming_up b readings r (incoming.Settlement c s) = if receives_on (state_of c b) then settlement_record readings c s else r
incoming_up b readings r (incoming.Content c p) = when (receives_part c p b) r
incoming_up b readings r (incoming.Consumer c p) = when (receives_consumer c p b) r
incoming_up b readings r (incoming.Flow c active) = when (receives_on (state_of c b)) r
incoming_up b readings r (incoming.ChannelClose c code) = when (receives_close (state_of c b)) r
incoming_up b readings r (incoming.ChannelCloseOk c) = when (receives_close_ok (state_of c b)) r
incoming_up b readings r (incoming.ConnectionClose code) = record_.Received
incoming_up b readings r incoming.ConnectionCloseOk = r
incoming_up b readings r incoming.Other = r

-- once it is not, a frame is passed over, but for two while it is closing
abbrev pub incoming_record : Wire → Readings → Record → Incoming → Record
incoming_record b readings r i = if is_up b.link then incoming_up b readings r i else (if receives_down b.link i then record_.Received else record_.Passed)

-- ---- what it leaves, by its record; one that is passed over changes nothing

-- what a received frame leaves; a settlement moves no state and no list
abbrev pub after_received : Incoming → Wire → Wire
after_received (incoming.Reply c k a) b = after_reply c k b
after_received (incoming.Content c p) b = after_part c p b
after_received (incoming.Consumer c p) b = after_consumer c p b
after_received (incoming.Flow c active) b = after_flow c active b
after_received (incoming.Settlement c s) b = b
after_received (incoming.ChannelClose c code) b = after_channel_close c (phase_of c b) b
after_received (incoming.ChannelCloseOk c) b = after_close_ok c (phase_of c b) b
after_received (incoming.ConnectionClose code) b = after_connection_close b.link b
after_received incoming.ConnectionCloseOk b = after_connection_close_ok b
after_received incoming.Other b = b

-- what a settlement that is refused as `PreconditionFailed` leaves; no other frame is refused so
abbrev pub after_failed : Incoming → Wire → Wire
after_failed (incoming.Settlement c s) b = after_failed_on c s b
after_failed _ b = b

-- what a refused frame leaves, by the error: one that no rule hears closes the connection, a settlement its open channel
abbrev pub after_refused : Incoming → Error → Wire → Wire
after_refused i (error.UnexpectedFrame class number) b = after_unexpected class number b
after_refused i (error.PreconditionFailed tag current) b = after_failed i b
after_refused i _ b = b

-- what a frame of the broker leaves of states, lists and requests, by its record
abbrev pub incoming_wire : Incoming → Record → Wire → Wire
incoming_wire i (record_.Refused e) b = after_refused i e b
incoming_wire i record_.Received b = after_received i b
incoming_wire i _ b = b

-- ---- consumers, and what is declared

-- what a received frame does to consumers and ackers, and to what is declared
abbrev pub received_deliveries : Incoming → Wire → List DeliveryMark
received_deliveries (incoming.Reply c k a) b = reply_deliveries c k a b
received_deliveries (incoming.Content c p) b = part_deliveries c p b
received_deliveries (incoming.Consumer c p) b = consumer_deliveries c p b
received_deliveries (incoming.ChannelClose c code) b = broker_close_deliveries c code
received_deliveries (incoming.ChannelCloseOk c) b = close_ok_deliveries c b
received_deliveries (incoming.ConnectionClose code) b = connection_close_deliveries code b
received_deliveries _ b = []

-- what a refused frame does to them: one that no rule hears ends every opening, every other does nothing
abbrev pub refused_deliveries : Error → Wire → List DeliveryMark
refused_deliveries (error.UnexpectedFrame class number) b = unexpected_deliveries b
refused_deliveries _ b = []

-- what a frame of the broker does to them, by its record
abbrev pub incoming_deliveries : Incoming → Record → Wire → List DeliveryMark
incoming_deliveries i (record_.Refused e) b = refused_deliveries e b
incoming_deliveries i record_.Received b = received_deliveries i b
incoming_deliveries i _ b = []

-- ---- all that it leaves

-- what a frame of the broker leaves, by its record, consumers and ackers and what is declared with it
abbrev pub after_incoming : Incoming → Record → Wire → Wire
after_incoming i r b = with_deliveries (incoming_deliveries i r b) (incoming_wire i r b)

-- ---- confirms

-- what a received frame does to confirms and returned messages
abbrev pub received_marks : Incoming → Wire → List ConfirmMark
received_marks (incoming.Settlement c s) b = settlement_marks c s
received_marks (incoming.Content c p) b = part_marks c p b
received_marks (incoming.ChannelClose c code) b = broker_close_marks c code
received_marks (incoming.ChannelCloseOk c) b = close_ok_marks c b
received_marks (incoming.ConnectionClose code) b = connection_close_marks code b
received_marks _ b = []

-- what a settlement that is refused as `PreconditionFailed` does to confirms; no other frame is refused so
abbrev pub failed_marks : Incoming → Wire → List ConfirmMark
failed_marks (incoming.Settlement c s) b = failed_marks_on c b
failed_marks _ b = []

-- what a refused frame does to confirms, by the error
abbrev pub refused_marks : Incoming → Error → Wire → List ConfirmMark
refused_marks i (error.UnexpectedFrame class number) b = unexpected_marks b
refused_marks i (error.PreconditionFailed tag current) b = failed_marks i b
refused_marks i _ b = []

-- what a frame of the broker does to confirms and returned messages, by its record
abbrev pub incoming_marks : Incoming → Record → Wire → List ConfirmMark
incoming_marks i (record_.Refused e) b = refused_marks i e b
incoming_marks i record_.Received b = received_marks i b
incoming_marks i _ b = []

-- ---- tickets

-- what a received frame does to tickets; settlements and flow answer none
abbrev pub received_tickets : Incoming → Wire → List TicketMark
received_tickets (incoming.Reply c k a) b = reply_tickets c k a b
received_tickets (incoming.Content c p) b = part_tickets c p b
received_tickets (incoming.Consumer c p) b = consumer_tickets c p b
received_tickets (incoming.ChannelClose c code) b = broker_close_tickets c code b
received_tickets (incoming.ChannelCloseOk c) b = close_ok_tickets c b
received_tickets (incoming.ConnectionClose code) b = connection_close_tickets b.link code b
received_tickets incoming.ConnectionCloseOk b = connection_close_ok_tickets b
received_tickets _ b = []

-- what a settlement that is refused as `PreconditionFailed` does to tickets; no other frame is refused so
abbrev pub failed_tickets : Incoming → Wire → List TicketMark
failed_tickets (incoming.Settlement c s) b = failed_tickets_on c b
failed_tickets _ b = []

-- what a refused frame does to tickets, by the error
abbrev pub refused_tickets : Incoming → Error → Wire → List TicketMark
refused_tickets i (error.UnexpectedFrame class number) b = unexpected_tickets b
refused_tickets i (error.PreconditionFailed tag current) b = failed_tickets i b
refused_tickets i _ b = []

-- what a frame of the broker does to tickets, by its record
abbrev pub incoming_tickets : Incoming → Record → Wire → List TicketMark
incoming_tickets i (record_.Refused e) b = refused_tickets i e b
incoming_tickets i record_.Received b = received_tickets i b
incoming_tickets i _ b = []
