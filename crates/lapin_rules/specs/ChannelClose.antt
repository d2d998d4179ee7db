-- The close of a channel, by this side and by the broker (AMQP 0-9-1, channel class, `close` and `close-ok`).
use Rattle.std.specs.Prelude.{ℕ, Bool, true, false, ◌||◌, if◌then◌else◌, List, [], ◌∷◌, ◌++◌, Option, Some, None, Ok}
use Rattle.lapin_tables.specs.ByChannel.{on_channel}
use Rattle.lapin_types.specs.declared.request.Request.{Request}
use Rattle.lapin_types.specs.Types.{Frame, Method, ChannelState, Error}
use Rattle.lapin_types.specs.Types.frame
use Rattle.lapin_types.specs.Types.method
use Rattle.lapin_types.specs.Types.channel
use Rattle.lapin_types.specs.Types.error
use Rattle.lapin_types.specs.declared.answer.Answer.TheVariants as answer
use Rattle.lapin_types.specs.Types.channel_state as state
use Rattle.lapin_types.specs.declared.request.Reply.TheVariants as reply
use Rattle.lapin_types.specs.declared.request.ReplyKind.TheVariants as reply_kind
use Rattle.lapin_delivery.specs.Marks.{DeliveryMark}
use Rattle.lapin_delivery.specs.Marks as deliveries
use Rattle.lapin_rules.specs.declared.phases.Closer.{Closer}
use Rattle.lapin_rules.specs.declared.phases.Closer.TheVariants as closer
use Rattle.lapin_rules.specs.declared.phases.ChannelPhase.{ChannelPhase}
use Rattle.lapin_rules.specs.declared.phases.ChannelPhase.TheVariants as phase
use Rattle.lapin_rules.specs.declared.phases.ChannelMove.TheVariants as move
use Rattle.lapin_rules.specs.ConfirmMarks.{ConfirmMark}
use Rattle.lapin_rules.specs.ConfirmMarks as mark
use Rattle.lapin_rules.specs.TicketReadings.{TicketMark}
use Rattle.lapin_rules.specs.TicketReadings as ticket
use Rattle.lapin_rules.specs.Words.{with_channel}
use Rattle.lapin_rules.specs.Moves.{after}
use Rattle.lapin_rules.specs.Drops.{without_publishes_of}
use Rattle.lapin_rules.specs.Requests.{first_request, without_kind, close_alone, no_requests, ticket_of, resolved_with}
use Rattle.lapin_rules.specs.Wire.{Wire, lists_of, with_lists, phase_of, requests_of, is_opening, is_closing, is_crossed, receives_on, queued, noted}
use Rattle.lapin_rules.specs.Ends.{ended, end_with, cancels_done, end_tickets}

-- ---- this side closes

-- what a publish that has not begun fails with: it will not leave
abbrev pub failed_at_close : Closer → Error
failed_at_close closer.Application = error.InvalidChannelState state.Closing
failed_at_close closer.Session = error.ProtocolError 406

-- the channel is closing, and its publishes that have not begun will not leave; what was begun or queued earlier still does
abbrev pub closing : ℕ → Closer → Wire → Wire
closing c who b = record (with_lists (without_publishes_of c (lists_of b)) b) { phases = with_channel c (after (phase_of c b) (move.CloseBegun who)) b.phases }

-- this side closes the channel's opening: the confirms of its publishes that have not begun fail with that error
abbrev pub close_marks : ℕ → Closer → List ConfirmMark
close_marks c who = mark.ClosedHere c (failed_at_close who) ∷ []

-- this side closes the channel's opening: the tickets of its publishes that have not begun fail with that error
abbrev pub close_tickets : ℕ → Closer → List TicketMark
close_tickets c who = ticket.ClosedHere c (failed_at_close who) ∷ []

-- ---- the call `channel.close`

-- the channel's consumers are being cancelled; a close of the session's own leaves them as they are
abbrev pub close_call_deliveries : ℕ → List DeliveryMark
close_call_deliveries c = deliveries.CloseAsked c ∷ []

-- its class and method are 0: no method of the broker is the cause
abbrev pub own_close : ℕ → List ℕ → Method
own_close code text = method.Channel (channel.Close code text 0 0)

-- what it rejects is taken out before it is queued
abbrev pub after_close_call : ℕ → ℕ → List ℕ → Wire → Wire
after_close_call c code text b = queued c (own_close code text) (Some reply.ChannelCloseOk) (closing c closer.Application b)

-- ---- this side's `channel.close` leaves

-- where a channel stands as this side's `channel.close` leaves
abbrev pub close_sent : ChannelPhase → ChannelPhase
close_sent p = after p move.CloseLeft

-- where the channels stand as a frame leaves: a `channel.close` has left on its channel, and any other frame moves none
abbrev pub phases_sent : Frame → List (ℕ × ChannelPhase) → List (ℕ × ChannelPhase)
phases_sent (frame.Method c (method.Channel (channel.Close code text class number))) all = on_channel c close_sent all
phases_sent _ all = all

-- a close of this side has left, and is not answered yet
abbrev pub has_sent_close : ChannelPhase → Bool
has_sent_close (phase.Closing who sent) = sent
has_sent_close _ = false

-- the ticket of a close of this side that awaits its reply
abbrev pub close_ticket : ℕ → Wire → Option ℕ
close_ticket c b = ticket_of (first_request reply_kind.ChannelCloseOk (requests_of c b))

-- ---- the broker's `channel.close`: it is received on a channel with a live opening, which ends

-- the broker's `channel.close` is received on an opening, an open and a closing channel
abbrev pub receives_close : ChannelState → Bool
receives_close s = is_opening s || receives_on s

-- where a channel stands once the broker's `channel.close` came
abbrev pub after_broker_close : ChannelPhase → ChannelPhase
after_broker_close p = after p move.Close

-- which of the channel's requests stay open: where this side's close has left and the two cross, that of the close alone, for the
-- broker's close-ok; and else none
abbrev pub kept_at : ChannelPhase → List Request → List Request
kept_at p rs = if has_sent_close p then close_alone rs else no_requests rs

-- it is answered by close-ok
abbrev pub after_channel_close : ℕ → ChannelPhase → Wire → Wire
after_channel_close c p b = noted c (method.Channel channel.CloseOk) (ended c (after_broker_close p) (kept_at p) b)

-- the broker's `channel.close` ended the channel's opening: what is unresolved of its confirms fails with the broker's code
abbrev pub broker_close_marks : ℕ → ℕ → List ConfirmMark
broker_close_marks c code = mark.Ended c (error.ProtocolError code) ∷ []

-- the broker's `channel.close` ended the opening with the broker's code: its consumers get the error and their end, its ackers are over
abbrev pub broker_close_deliveries : ℕ → ℕ → List DeliveryMark
broker_close_deliveries c code = deliveries.Ended c (Some (error.ProtocolError code)) ∷ []

-- what the opening leaves unresolved fails; where the two crossed, the ticket of this side's close stays open
abbrev pub kept_ticket : ℕ → ChannelPhase → Wire → Option ℕ
kept_ticket c p b = if has_sent_close p then close_ticket c b else None

-- what the broker's `channel.close` does to tickets: an open `basic.cancel` of the channel is done, every other open ticket fails
-- with the broker's code, but that of this side's close where the two cross
abbrev pub broker_close_tickets : ℕ → ℕ → Wire → List TicketMark
broker_close_tickets c code b = cancels_done c b ++ ticket.OpeningFailed c (kept_ticket c (phase_of c b) b) (error.ProtocolError code) ∷ []

-- ---- the broker's `channel.close-ok`: it is received where a close of this side is under way

-- `channel.close-ok` is received on a closing and a crossed channel
abbrev pub receives_close_ok : ChannelState → Bool
receives_close_ok s = is_closing s || is_crossed s

-- what is unresolved fails with this
abbrev pub failed_at_close_ok : Closer → Error
failed_at_close_ok closer.Application = error.InvalidChannelState state.Closed
failed_at_close_ok closer.Session = error.ProtocolError 406

-- the end of the opening; a crossed close ended it before
abbrev pub close_ok_end : ChannelPhase → Option Error
close_ok_end (phase.Closing who sent) = Some (failed_at_close_ok who)
close_ok_end _ = None

-- the channel is closed; the opening ends where a crossed close did not end it before
abbrev pub after_close_ok : ℕ → ChannelPhase → Wire → Wire
after_close_ok c (phase.Closing who sent) b = ended c (after (phase.Closing who sent) move.CloseOk) no_requests b
after_close_ok c p b = record b { phases = with_channel c (after p move.CloseOk) b.phases; requests = on_channel c (without_kind reply_kind.ChannelCloseOk) b.requests }

-- what `channel.close-ok` does to confirms: the opening ends where a crossed close did not end it before
abbrev pub close_ok_marks : ℕ → Wire → List ConfirmMark
close_ok_marks c b = end_with c (close_ok_end (phase_of c b))

-- an opening that the application closed gives its consumers their end alone, one that the session closed the error too
abbrev pub consumers_end : ChannelPhase → Option Error
consumers_end (phase.Closing closer.Session sent) = Some (error.ProtocolError 406)
consumers_end _ = None

-- what `channel.close-ok` does to consumers and ackers, by where its channel stands: on a closing one the opening ends,
-- on a crossed one it has ended before
abbrev pub close_ok_deliveries_in : ℕ → ChannelPhase → List DeliveryMark
close_ok_deliveries_in c (phase.Closing who sent) = deliveries.Ended c (consumers_end (phase.Closing who sent)) ∷ []
close_ok_deliveries_in c _ = []

-- what `channel.close-ok` does to consumers and ackers
abbrev pub close_ok_deliveries : ℕ → Wire → List DeliveryMark
close_ok_deliveries c b = close_ok_deliveries_in c (phase_of c b)

-- this side's close is done, also where it has not left; then what else the opening leaves unresolved fails
abbrev pub close_ok_tickets : ℕ → Wire → List TicketMark
close_ok_tickets c b = resolved_with (Ok answer.Done) (close_ticket c b) ++ end_tickets c (close_ok_end (phase_of c b)) b
