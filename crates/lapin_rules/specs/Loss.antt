-- The loss of the connection: it ends everything, once.
use Rattle.std.specs.Prelude.{if◌then◌else◌, List, [], ◌∷◌}
use Rattle.lapin_types.specs.Types.error
use Rattle.lapin_rules.specs.declared.phases.ConnectionMove.TheVariants as link_move
use Rattle.lapin_delivery.specs.Marks.{DeliveryMark}
use Rattle.lapin_rules.specs.ConfirmMarks.{ConfirmMark}
use Rattle.lapin_rules.specs.TicketReadings.{TicketMark}
use Rattle.lapin_rules.specs.Phases.{is_lost}
use Rattle.lapin_rules.specs.Moves.{link_after}
use Rattle.lapin_rules.specs.Wire.{Wire}
use Rattle.lapin_rules.specs.Ends.{down, ends_all, deliveries_ends_all, all_failed}

-- a second loss changes nothing
abbrev pub after_lost : Wire → Wire
after_lost b = if is_lost b.link then b else down (link_after b.link link_move.Lost) b

-- every live opening ends, if there is one yet
abbrev pub lost_marks : Wire → List ConfirmMark
lost_marks b = ends_all error.ConnectionLost b

-- the consumers of every live opening get `ConnectionLost` and their end, and the ackers of the opening are over
abbrev pub lost_deliveries : Wire → List DeliveryMark
lost_deliveries b = deliveries_ends_all error.ConnectionLost b

-- every open ticket fails
abbrev pub lost_tickets : Wire → List TicketMark
lost_tickets b = if is_lost b.link then [] else all_failed error.ConnectionLost b
