-- The frame that was given back. It has left, so no tag, ticket or state goes by it; it is handed out once more before all else.
-- Until then it is the first entry of its channel, and it is gone where an event takes every entry of its channel out: the
-- opening of its channel ends, or all that waits is dropped. Each line names the rule by which its event drops something.
use Rattle.std.specs.Prelude.{ℕ, Bool, true, false, not, ◌&&◌, ◌||◌, if◌then◌else◌, List, [], ◌∷◌, Option, Some, None}
use Rattle.lapin_types.specs.declared.event.Event.{Event}
use Rattle.lapin_types.specs.declared.record.Record.{Record}
use Rattle.lapin_types.specs.declared.leaving.Left.{Left}
use Rattle.lapin_types.specs.Types.{Error}
use Rattle.lapin_types.specs.declared.event.Event.TheVariants as event
use Rattle.lapin_types.specs.declared.record.Record.TheVariants as record_
use Rattle.lapin_types.specs.Types.error
use Rattle.lapin_rules.specs.declared.calls.Asked.{Asked}
use Rattle.lapin_rules.specs.declared.calls.Asked.TheVariants as ask
use Rattle.lapin_rules.specs.declared.broker_frames.Incoming.{Incoming}
use Rattle.lapin_rules.specs.declared.broker_frames.Incoming.TheVariants as incoming
use Rattle.lapin_rules.specs.declared.phases.ConnectionPhase.{ConnectionPhase}
use Rattle.lapin_rules.specs.declared.phases.ConnectionPhase.TheVariants as link
use Rattle.lapin_rules.specs.declared.phases.CloseStage.TheVariants as stage
use Rattle.lapin_rules.specs.Incoming.{incoming_of}
use Rattle.lapin_rules.specs.ConfirmMarks.{ConfirmMark}
use Rattle.lapin_rules.specs.ConfirmMarks as mark
use Rattle.lapin_rules.specs.Phases.{is_up, is_lost, close_has_left}
use Rattle.lapin_rules.specs.Wire.{Wire, state_of, phase_of}
use Rattle.lapin_rules.specs.Asking.{is_allowed, asked_by}
use Rattle.lapin_rules.specs.ChannelClose.{close_ok_end}
use Rattle.lapin_rules.specs.ConnectionClose.{has_sent}
use Rattle.lapin_outbox.specs.Returned.{returned_off}

-- the frame that a frame request hands out once more, if the event is one
abbrev pub given_back : Option Left → Event → Option Left
given_back r (event.Next flow) = r
given_back r _ = None

-- the connection is closed
abbrev pub is_shut : ConnectionPhase → Bool
is_shut link.Closed = true
is_shut _ = false

-- ---- which frame stays given back

-- an accepted `connection.close` drops all that waits
abbrev pub after_asked : ℕ → Asked → Wire → Option Left → Option Left
after_asked c (ask.CloseConnection code text) b r = if is_allowed (ask.CloseConnection code text) (state_of c b) then None else r
after_asked c _ b r = r

-- the broker's `channel.close-ok` ends the opening of its channel, but where closes crossed, which ended it before
abbrev pub unless_crossed : ℕ → Option Error → Option Left → Option Left
unless_crossed c None r = r
unless_crossed c (Some e) r = returned_off c r

-- the broker's `connection.close` drops all that waits, but where this side's close has left
abbrev pub unless_closing : ConnectionPhase → Option Left → Option Left
unless_closing (link.Closing stage.Sent) r = r
unless_closing (link.Closing stage.Crossed) r = r
unless_closing l r = None

-- a frame that is received: the broker's closes, and its answers to closes of this side
abbrev pub after_received : Incoming → Wire → Option Left → Option Left
after_received (incoming.ChannelClose c code) b r = returned_off c r
after_received (incoming.ChannelCloseOk c) b r = unless_crossed c (close_ok_end (phase_of c b)) r
after_received (incoming.ConnectionClose code) b r = unless_closing b.link r
after_received incoming.ConnectionCloseOk b r = if has_sent b.link then r else None
after_received _ b r = r

-- one that is not received closes the connection, and a refused settlement its channel, whose opening lives on
abbrev pub after_refused : Error → Option Left → Option Left
after_refused (error.UnexpectedFrame class number) r = None
after_refused _ r = r

-- which frame stays given back after a frame of the broker, by the record that it got; one that is passed over changes nothing
abbrev pub after_incoming : Incoming → Record → Wire → Option Left → Option Left
after_incoming i (record_.Refused e) b r = after_refused e r
after_incoming i record_.Received b r = after_received i b r
after_incoming i _ b r = r

-- a loss drops all that waits
abbrev pub after_event : Wire → Event → Record → Option Left → Option Left
after_event b (event.Call c k) told r = after_asked c (asked_by k told) b r
after_event b (event.Receive f) told r = after_incoming (incoming_of f) told b r
after_event b event.Lost told r = if is_lost b.link then r else None
after_event b _ told r = r

-- ---- the same in the words of ends

-- the connection moves on and all that waits is dropped: it leaves its open state, or is lost, or is closed while a close of this
-- side has not left
abbrev pub is_emptied : ConnectionPhase → ConnectionPhase → Bool
is_emptied link.Open l = not (is_up l)
is_emptied (link.Closing s) l = is_lost l || (not (close_has_left s) && is_shut l)
is_emptied link.Closed l = is_lost l
is_emptied link.Lost l = false

-- the openings that end take the frame with them, if it is of their channel
abbrev pub without_ended : List ConfirmMark → Option Left → Option Left
without_ended [] r = r
without_ended (mark.Ended c e ∷ ms) r = without_ended ms (returned_off c r)
without_ended (m ∷ ms) r = without_ended ms r

-- which frame stays given back, by where the connection stood and stands, and by the ends of openings
abbrev pub after_ends : ConnectionPhase → ConnectionPhase → List ConfirmMark → Option Left → Option Left
after_ends old new ms r = if is_emptied old new then None else without_ended ms r
