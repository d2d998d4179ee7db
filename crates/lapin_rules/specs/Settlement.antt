-- A settlement of the broker, `basic.ack` or `basic.nack` (RabbitMQ publisher confirms). It is received on an open channel, and still
-- on one that this side is closing.
use Rattle.std.specs.Prelude.{ℕ, codes, ◌||◌, if◌then◌else◌, List, [], ◌∷◌}
use Rattle.lapin_types.specs.declared.record.Record.{Record}
use Rattle.lapin_types.specs.Types.{Method}
use Rattle.lapin_types.specs.declared.record.Record.TheVariants as record_
use Rattle.lapin_types.specs.Types.method
use Rattle.lapin_types.specs.Types.channel
use Rattle.lapin_types.specs.Types.error
use Rattle.lapin_rules.specs.declared.marks.SettleKind.{SettleKind}
use Rattle.lapin_rules.specs.declared.marks.SettleKind.TheVariants as settle
use Rattle.lapin_rules.specs.declared.marks.Settlement.{Settlement}
use Rattle.lapin_rules.specs.declared.phases.Closer.TheVariants as closer
use Rattle.lapin_rules.specs.ConfirmMarks.{ConfirmMark}
use Rattle.lapin_rules.specs.ConfirmMarks as mark
use Rattle.lapin_rules.specs.TicketReadings.{TicketMark}
use Rattle.lapin_rules.specs.Readings.{Readings}
use Rattle.lapin_rules.specs.Wire.{Wire, state_of, is_open, noted}
use Rattle.lapin_rules.specs.ChannelClose.{closing, close_marks, close_tickets}

-- It is passed over where the opening is not selected. A single one of a tag that is not pending is refused with the tag and the
-- last tag taken.
abbrev pub settlement_record : Readings → ℕ → Settlement → Record
settlement_record readings c s =
    if readings.selected c
    then (if s.multiple || readings.pending c s.tag
    then record_.Received
    else record_.Refused (error.PreconditionFailed s.tag (readings.last c)))
    else record_.Passed

-- one that is received settles what it covers
abbrev pub settlement_marks : ℕ → Settlement → List ConfirmMark
settlement_marks c s = mark.Settled c s ∷ []

-- ---- one that is refused: the session closes the channel, if that is open

-- the number of the settlement's method in class basic: 80 for an ack, 120 for a nack (AMQP 0-9-1, basic.ack; RabbitMQ, basic.nack)
abbrev pub settle_method : SettleKind → ℕ
settle_method settle.Ack = 80
settle_method settle.Nack = 120

-- the close names the class and method of the settlement (AMQP 0-9-1, reply code 406)
abbrev pub session_close : SettleKind → Method
session_close kind = method.Channel (channel.Close 406 (codes "PRECONDITION_FAILED") 60 (settle_method kind))

-- what the refusal leaves: an open channel is closing, and the session's `channel.close` is queued
abbrev pub after_failed_on : ℕ → Settlement → Wire → Wire
after_failed_on c s b = if is_open (state_of c b) then noted c (session_close s.kind) (closing c closer.Session b) else b

-- what the refusal does to confirms: the close rejects the publishes of an open channel that have not begun
abbrev pub failed_marks_on : ℕ → Wire → List ConfirmMark
failed_marks_on c b = if is_open (state_of c b) then close_marks c closer.Session else []

-- what the refusal does to tickets: the close rejects those of an open channel's publishes that have not begun
abbrev pub failed_tickets_on : ℕ → Wire → List TicketMark
failed_tickets_on c b = if is_open (state_of c b) then close_tickets c closer.Session else []
