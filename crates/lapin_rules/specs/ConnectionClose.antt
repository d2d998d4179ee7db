-- The close of the connection, by this side and by the broker (AMQP 0-9-1, connection class, `close` and `close-ok`).
use Rattle.std.specs.Prelude.{ℕ, Bool, true, false, not, if◌then◌else◌, List, [], ◌∷◌, Some, Ok}
use Rattle.lapin_tables.specs.ByChannel.{on_channel}
use Rattle.lapin_types.specs.Types.{Frame, Method, Error}
use Rattle.lapin_types.specs.Types.frame
use Rattle.lapin_types.specs.Types.method
use Rattle.lapin_types.specs.Types.connection
use Rattle.lapin_types.specs.Types.error
use Rattle.lapin_types.specs.declared.answer.Answer.TheVariants as answer
use Rattle.lapin_types.specs.Types.channel_state as state
use Rattle.lapin_types.specs.declared.request.Reply.TheVariants as reply
use Rattle.lapin_types.specs.declared.request.ReplyKind.TheVariants as reply_kind
use Rattle.lapin_delivery.specs.Marks.{DeliveryMark}
use Rattle.lapin_rules.specs.declared.phases.ConnectionPhase.{ConnectionPhase}
use Rattle.lapin_rules.specs.declared.phases.ConnectionPhase.TheVariants as link
use Rattle.lapin_rules.specs.declared.phases.CloseStage.TheVariants as stage
use Rattle.lapin_rules.specs.declared.phases.ConnectionMove.TheVariants as link_move
use Rattle.lapin_rules.specs.declared.broker_frames.Incoming.{Incoming}
use Rattle.lapin_rules.specs.declared.broker_frames.Incoming.TheVariants as incoming
use Rattle.lapin_rules.specs.ConfirmMarks.{ConfirmMark}
use Rattle.lapin_rules.specs.TicketReadings.{TicketMark}
use Rattle.lapin_rules.specs.Leaving.{Lists}
use Rattle.lapin_rules.specs.Moves.{link_after}
use Rattle.lapin_rules.specs.Phases.{close_has_left, is_crossed}
use Rattle.lapin_rules.specs.Drops.{no_lists}
use Rattle.lapin_rules.specs.Requests.{first_request, without_kind, ticket_of, resolved_with}
use Rattle.lapin_rules.specs.Wire.{Wire, lists_of, with_lists, requests_of, queued, noted}
use Rattle.lapin_rules.specs.Ends.{down, ends_all, deliveries_ends_all, all_failed}

-- ---- the call `connection.close`: every opening ends

-- what is unresolved fails with this
abbrev pub failed_at_connection_close : Error
failed_at_connection_close = error.InvalidChannelState state.Down

-- its class and method are 0: no method of the broker is the cause
abbrev pub own_connection_close : ℕ → List ℕ → Method
own_connection_close code text = method.Connection (connection.Close code text 0 0)

-- all that waits is dropped before it is queued
abbrev pub after_connection_close_call : ℕ → ℕ → List ℕ → Wire → Wire
after_connection_close_call c code text b = queued c (own_connection_close code text) (Some reply.ConnectionCloseOk) (down (link_after b.link link_move.CloseBegun) b)

-- what the call does to confirms: every live opening ends with that error
abbrev pub connection_close_call_marks : Wire → List ConfirmMark
connection_close_call_marks b = ends_all failed_at_connection_close b

-- what the call does to consumers and ackers: every live opening ends with that error
abbrev pub connection_close_call_deliveries : Wire → List DeliveryMark
connection_close_call_deliveries b = deliveries_ends_all failed_at_connection_close b

-- what the call does to older tickets: an open `basic.cancel` is done, and every other open one fails with that error
abbrev pub connection_close_call_tickets : Wire → List TicketMark
connection_close_call_tickets b = all_failed failed_at_connection_close b

-- ---- this side's `connection.close` leaves

-- where the connection stands as this side's `connection.close` leaves
abbrev pub link_close_sent : ConnectionPhase → ConnectionPhase
link_close_sent l = link_after l link_move.CloseLeft

-- where the connection stands as a frame leaves: `connection.close` has left, and any other frame does not move it
abbrev pub link_sent : Frame → ConnectionPhase → ConnectionPhase
link_sent (frame.Method c (method.Connection (connection.Close code text class number))) l = link_close_sent l
link_sent _ l = l

-- ---- what is received once the connection is not open: while this side closes it, `connection.close-ok`, and the first
-- `connection.close`

-- the frame is received though the connection is not open: that is closing, and it is close-ok or the broker's first `connection.close`
abbrev pub receives_down : ConnectionPhase → Incoming → Bool
receives_down (link.Closing s) incoming.ConnectionCloseOk = true
receives_down (link.Closing s) (incoming.ConnectionClose code) = not (is_crossed s)
receives_down _ _ = false

-- ---- the broker's `connection.close`: every opening ends

-- It is answered by close-ok. Where this side's close has left the connection is still closing. Else it is closed, and this
-- side's close, if it was called, is dropped with all that waits.
abbrev pub after_connection_close : ConnectionPhase → Wire → Wire
after_connection_close (link.Closing stage.Sent) b = noted 0 (method.Connection connection.CloseOk) (record b { link = link_after (link.Closing stage.Sent) link_move.Close })
after_connection_close (link.Closing stage.Crossed) b = noted 0 (method.Connection connection.CloseOk) (record b { link = link_after (link.Closing stage.Crossed) link_move.Close })
after_connection_close l b = noted 0 (method.Connection connection.CloseOk) (down (link_after l link_move.Close) b)

-- what the broker's `connection.close` does to confirms: every live opening ends with the broker's code
abbrev pub connection_close_marks : ℕ → Wire → List ConfirmMark
connection_close_marks code b = ends_all (error.ProtocolError code) b

-- what the broker's `connection.close` does to consumers and ackers: every live opening ends with the broker's code
abbrev pub connection_close_deliveries : ℕ → Wire → List DeliveryMark
connection_close_deliveries code b = deliveries_ends_all (error.ProtocolError code) b

-- every open ticket fails, but where this side's close has left: its ticket, the only open one, awaits the broker's close-ok
abbrev pub connection_close_tickets : ConnectionPhase → ℕ → Wire → List TicketMark
connection_close_tickets (link.Closing stage.Sent) code b = []
connection_close_tickets (link.Closing stage.Crossed) code b = []
connection_close_tickets l code b = all_failed (error.ProtocolError code) b

-- ---- the broker's `connection.close-ok`: the connection is closed

-- a close that has not left is dropped; it is then all that waits
abbrev pub unless_sent : Bool → Lists → Lists
unless_sent sent l = if sent then l else no_lists

-- no close of this side waits to leave: it has left, or none is under way
abbrev pub has_sent : ConnectionPhase → Bool
has_sent (link.Closing s) = close_has_left s
has_sent _ = true

-- the connection is closed, and the request of this side's close is gone; a close that has not left is dropped
abbrev pub after_connection_close_ok : Wire → Wire
after_connection_close_ok b = record (with_lists (unless_sent (has_sent b.link) (lists_of b)) b) { link = link_after b.link link_move.CloseOk; requests = on_channel 0 (without_kind reply_kind.ConnectionCloseOk) b.requests }

-- this side's close is done
abbrev pub connection_close_ok_tickets : Wire → List TicketMark
connection_close_ok_tickets b = resolved_with (Ok answer.Done) (ticket_of (first_request reply_kind.ConnectionCloseOk (requests_of 0 b)))
