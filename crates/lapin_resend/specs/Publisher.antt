-- How the publisher tends channel 1 of the present session. The present joined run is the list of its steps; what its session tells
-- and where it stands is what the history of that run determines.
use Rattle.std.specs.Prelude.{ℕ, Bool, true, false, ◌&&◌, not, if◌then◌else◌, List, [], ◌∷◌, ◌++◌, Option, Some, None}
use Rattle.lapin_types.specs.Types.{ChannelState}
use Rattle.lapin_types.specs.declared.call.Call.TheVariants as call
use Rattle.lapin_types.specs.declared.event.Event.{Event}
use Rattle.lapin_types.specs.declared.event.Event.TheVariants as event
use Rattle.lapin_types.specs.declared.record.Record.{Record}
use Rattle.lapin_rules.specs.Wire.{state_of, is_closed, is_open}
use Rattle.lapin_rules.specs.History.{past, rec}
use Rattle.lapin_joint.specs.declared.step.Step as joined_step
use Rattle.lapin_joint.specs.declared.step.Step.TheVariants as joined
use Rattle.lapin_joint.specs.Joint.{joined_to}
use Rattle.lapin_resend.specs.Messages.{Standing, publish_of, polled, waits, confirm_of}

-- the steps of a joined run
abbrev pub Steps : Type 0
Steps = List joined_step.Step

-- The earlier joined runs, the present one, the messages in the order of their numbers, and whether the present opening of channel 1
-- had a call of `confirm.select`.
pub record Publisher : Type 0 where
  pub earlier : List Steps
  pub present : Steps
  pub messages : List Standing
  pub selects : Bool

-- ---- The present session.

-- the joined run with an event of the client
abbrev pub with_event : Event → Steps → Steps
with_event e made = made ++ joined.Client e ∷ []

-- what the session tells of an event
abbrev pub told : ℕ → Steps → Event → Record
told frame_max made e = rec frame_max (joined_to frame_max made).session e

-- where channel 1 stands. While the connection isn't open it is Down, so where it is Closed the connection is Open.
abbrev pub state_in : ℕ → Steps → ChannelState
state_in frame_max made = state_of 1 (past frame_max (joined_to frame_max made).session).wire

-- ---- It polls the confirm of each message that has an outstanding publish, in rising number.

-- one message and the joined run
abbrev pub Met : Type 0
Met = Standing × Steps

-- a poll of the outstanding publish, if there is one
abbrev pub poll_at : ℕ → Steps → Standing → Option ℕ → Met
poll_at frame_max made s None = (s, made)
poll_at frame_max made s (Some n) = (polled (told frame_max made (event.PollConfirm n)) s, with_event (event.PollConfirm n) made)

-- the same of a message
abbrev pub poll_one : ℕ → Steps → Standing → Met
poll_one frame_max made s = poll_at frame_max made s s.outstanding

-- ---- It publishes each waiting message without an outstanding publish, in rising number.

-- the call that publishes a message on channel 1
abbrev pub publishing : Standing → Event
publishing s = event.Call 1 (publish_of s.message)

-- its publish is outstanding from then on
abbrev pub publish_one : ℕ → Steps → Standing → Met
publish_one frame_max made s =
    if waits s then (record s { outstanding = confirm_of (told frame_max made (publishing s)) }, with_event (publishing s) made)
    else (s, made)

-- ---- The same of each message, in rising number.

-- all messages and the joined run
abbrev pub All : Type 0
All = List Standing × Steps

-- a message in front of those behind it
abbrev pub in_front : Standing → All → All
in_front s rest = (s ∷ rest.0, rest.1)

-- what becomes of each message, the joined run going on from one to the next
abbrev pub each : (Steps → Standing → Met) → Steps → List Standing → All
each meet made [] = ([], made)
each meet made (s ∷ ss) = in_front (meet made s).0 (each meet (meet made s).1 ss)

-- the publisher with these messages, where the joined run went on to this
abbrev pub with_all : All → Publisher → Publisher
with_all x p = record p { messages = x.0; present = x.1 }

-- ---- Tending, in this order: it polls, opens, selects and publishes.

-- it polls
abbrev pub after_polls : ℕ → Publisher → Publisher
after_polls frame_max p = with_all (each (poll_one frame_max) p.present p.messages) p

-- if channel 1 is Closed and the connection Open it calls `channel.open`, which begins a new opening
abbrev pub after_opening : ℕ → Publisher → Publisher
after_opening frame_max p =
    if is_closed (state_in frame_max p.present)
    then record p { present = with_event (event.Call 1 call.OpenChannel) p.present; selects = false }
    else p

-- if channel 1 is Open and this opening had no call of `confirm.select`, it calls that without wait
abbrev pub after_selecting : ℕ → Publisher → Publisher
after_selecting frame_max p =
    if not p.selects && is_open (state_in frame_max p.present)
    then record p { present = with_event (event.Call 1 (call.ConfirmSelect (record { nowait = true }))) p.present; selects = true }
    else p

-- if channel 1 is Open it publishes
abbrev pub after_publishing : ℕ → Publisher → Publisher
after_publishing frame_max p =
    if is_open (state_in frame_max p.present) then with_all (each (publish_one frame_max) p.present p.messages) p else p

-- the publisher after it tended channel 1
abbrev pub tended : ℕ → Publisher → Publisher
tended frame_max p = after_publishing frame_max (after_selecting frame_max (after_opening frame_max (after_polls frame_max p)))
