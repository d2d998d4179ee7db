-- A frame of the broker that is not received closes the connection, and every opening ends (AMQP 0-9-1, reply code 505).
use Rattle.std.specs.Prelude.{ℕ, codes, List, [], ◌∷◌}
use Rattle.lapin_types.specs.declared.record.Record.{Record}
use Rattle.lapin_types.specs.Types.{Method, Error}
use Rattle.lapin_types.specs.declared.record.Record.TheVariants as record_
use Rattle.lapin_types.specs.Types.method
use Rattle.lapin_types.specs.Types.connection
use Rattle.lapin_types.specs.Types.error
use Rattle.lapin_rules.specs.declared.phases.ConnectionMove.TheVariants as link_move
use Rattle.lapin_delivery.specs.Marks.{DeliveryMark}
use Rattle.lapin_rules.specs.ConfirmMarks.{ConfirmMark}
use Rattle.lapin_rules.specs.TicketReadings.{TicketMark}
use Rattle.lapin_rules.specs.Moves.{link_after}
use Rattle.lapin_rules.specs.Wire.{Wire, noted}
use Rattle.lapin_rules.specs.Ends.{down, ends_all, deliveries_ends_all, all_failed}

-- it is refused with its class and method
abbrev pub refused : ℕ → ℕ → Record
refused class number = record_.Refused (error.UnexpectedFrame class number)

-- what is unresolved fails with this
abbrev pub failed_at_unexpected : Error
failed_at_unexpected = error.ProtocolError 505

-- the close names the class and method of the frame
abbrev pub unexpected_close : ℕ → ℕ → Method
unexpected_close class number = method.Connection (connection.Close 505 (codes "UNEXPECTED_FRAME") class number)

-- all that waits is dropped before it is queued
abbrev pub after_unexpected : ℕ → ℕ → Wire → Wire
after_unexpected class number b = noted 0 (unexpected_close class number) (down (link_after b.link link_move.CloseBegun) b)

-- every live opening ends with `ProtocolError 505`
abbrev pub unexpected_marks : Wire → List ConfirmMark
unexpected_marks b = ends_all failed_at_unexpected b

-- the consumers of every live opening get the error and their end, and the ackers of the opening are over
abbrev pub unexpected_deliveries : Wire → List DeliveryMark
unexpected_deliveries b = deliveries_ends_all failed_at_unexpected b

-- every open ticket fails, but an open `basic.cancel` of a live opening is done
abbrev pub unexpected_tickets : Wire → List TicketMark
unexpected_tickets b = all_failed failed_at_unexpected b
