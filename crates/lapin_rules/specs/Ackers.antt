-- Calls of ackers (AMQP 0-9-1, class basic, `ack` and `reject`; RabbitMQ, `nack`). An acker is used up by its first call, whatever
-- becomes of the call: that is then made on the acker's channel, with the delivery tag of its message. One that is used, void or over
-- says no.
use Rattle.std.specs.Prelude.{ℕ, List, [], ◌∷◌, ◌++◌, Option, Some, None}
use Rattle.lapin_types.specs.declared.acker_call.AckerCall.{AckerCall}
use Rattle.lapin_types.specs.declared.acker_call.AckerCall.TheVariants as acker_call
use Rattle.lapin_types.specs.declared.record.Record.{Record}
use Rattle.lapin_types.specs.declared.record.Record.TheVariants as record_
use Rattle.lapin_types.specs.Types.{Method}
use Rattle.lapin_types.specs.Types.method
use Rattle.lapin_types.specs.Types.basic
use Rattle.lapin_acker.specs.Switches.{switch_at, usable_as}
use Rattle.lapin_delivery.specs.Marks.{DeliveryMark}
use Rattle.lapin_delivery.specs.Marks as deliveries
use Rattle.lapin_rules.specs.declared.marks.AtLeaving.TheVariants as leaving
use Rattle.lapin_rules.specs.declared.calls.Asked.{Asked}
use Rattle.lapin_rules.specs.declared.calls.Asked.TheVariants as ask
use Rattle.lapin_rules.specs.declared.calls.Answered.TheVariants as answered
use Rattle.lapin_rules.specs.TicketReadings.{TicketMark}
use Rattle.lapin_rules.specs.Wire.{Wire, with_deliveries}
use Rattle.lapin_rules.specs.Asking.{call_record, asked_wire, asking_deliveries, asking_tickets}

-- ---- the call that it makes

-- the method that an acker's call makes: `basic.ack`, `basic.nack` or `basic.reject`, with its message's delivery tag and the call's options
abbrev pub acker_method : AckerCall → ℕ → Method
acker_method (acker_call.Ack o) tag = method.Basic (basic.Ack tag o.multiple)
acker_method (acker_call.Nack o) tag = method.Basic (basic.Nack tag o.multiple o.requeue)
acker_method (acker_call.Reject o) tag = method.Basic (basic.Reject tag o.requeue)

-- its ticket answers yes as the frame leaves
abbrev pub acker_asked : AckerCall → ℕ → Asked
acker_asked k tag = ask.Method (record { method = acker_method k tag; answered = answered.AsItLeaves leaving.Yes })

-- the channel and the delivery tag of the acker of a number, while it is usable
abbrev pub usable_at : ℕ → Wire → Option (ℕ × ℕ)
usable_at n b = usable_as (switch_at n b.deliveries.switches)

-- ---- its record, what it leaves, and its marks: the acker is used up whatever becomes of the call

-- the record of an acker's call: No where the acker is not usable, and else what the call on the acker's channel answers
abbrev pub acked_record : Option (ℕ × ℕ) → AckerCall → Wire → Record
acked_record None k b = record_.No
acked_record (Some x) k b = call_record x.0 (acker_asked k x.1) b

-- the record of a call of the acker of number n
abbrev pub acker_told : ℕ → AckerCall → Wire → Record
acker_told n k b = acked_record (usable_at n b) k b

-- the states, lists and requests after an acker's call: as before where the acker is not usable, else as the call on its channel leaves them
abbrev pub acked_wire : Option (ℕ × ℕ) → AckerCall → Wire → Wire
acked_wire None k b = b
acked_wire (Some x) k b = asked_wire x.0 (acker_asked k x.1) b

-- what a call of acker n does to consumers and ackers: nothing where it is not usable; else what the call on its channel does, and it is used up
abbrev pub acked_deliveries : ℕ → Option (ℕ × ℕ) → AckerCall → Wire → List DeliveryMark
acked_deliveries n None k b = []
acked_deliveries n (Some x) k b = asking_deliveries x.0 (acker_asked k x.1) b ++ deliveries.Spent n ∷ []

-- what a call of the acker of number n does to consumers and ackers
abbrev pub acker_deliveries : ℕ → AckerCall → Wire → List DeliveryMark
acker_deliveries n k b = acked_deliveries n (usable_at n b) k b

-- all that a call of the acker of number n leaves: the states, lists and requests, and the consumers and ackers
abbrev pub after_acker : ℕ → AckerCall → Wire → Wire
after_acker n k b = with_deliveries (acker_deliveries n k b) (acked_wire (usable_at n b) k b)

-- what an acker's call does to tickets: nothing where the acker is not usable, and else what the call on its channel does
abbrev pub acked_tickets : Option (ℕ × ℕ) → AckerCall → Wire → List TicketMark
acked_tickets None k b = []
acked_tickets (Some x) k b = asking_tickets x.0 (acker_asked k x.1) b

-- what a call of the acker of number n does to tickets
abbrev pub acker_tickets : ℕ → AckerCall → Wire → List TicketMark
acker_tickets n k b = acked_tickets (usable_at n b) k b
