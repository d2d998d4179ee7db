-- What a history comes to beside confirms and answers: where the connection and its channels stand, the frames that wait, the
-- open requests, the contents that are expected and the counters; and the words on it that the rules share. What an event does to it stands with the event's rule.
use Rattle.std.specs.Prelude.{ℕ, ◌+◌, ◌==◌, Bool, true, false, ◌||◌, if◌then◌else◌, List, [], ◌∷◌, ◌++◌, Option, Some, None}
use Rattle.std.specs.List.{fold}
use Rattle.lapin_tables.specs.ByChannel.{at_channel}
use Rattle.lapin_types.specs.declared.leaving.Publish.{Publish}
use Rattle.lapin_types.specs.declared.request.Request.{Request}
use Rattle.lapin_types.specs.declared.request.Reply.{Reply}
use Rattle.lapin_types.specs.Types.{Method, ChannelState}
use Rattle.lapin_types.specs.Types.channel_state as state
use Rattle.lapin_content.specs.Channels.{Channels}
use Rattle.lapin_delivery.specs.Deliveries.{Deliveries, empty_deliveries, after_mark}
use Rattle.lapin_delivery.specs.Marks.{DeliveryMark}
use Rattle.lapin_rules.specs.declared.phases.ChannelPhase.{ChannelPhase}
use Rattle.lapin_rules.specs.declared.phases.ConnectionPhase.{ConnectionPhase}
use Rattle.lapin_rules.specs.declared.phases.ConnectionPhase.TheVariants as link
use Rattle.lapin_rules.specs.Frames.{MethodEntry, RestEntry}
use Rattle.lapin_rules.specs.Leaving.{Lists}
use Rattle.lapin_rules.specs.Phases.{channel_state, is_up, phase_in}
use Rattle.lapin_rules.specs.Requests.{requests_in, with_request}

-- what a history comes to beside confirms and answers
pub record Wire : Type 0 where
  pub frame_max : ℕ
  -- where the connection stands
  pub link : ConnectionPhase
  -- where each channel stands that was ever opened
  pub phases : List (ℕ × ChannelPhase)
  -- frames of the begun publish that have not left
  pub rest : List RestEntry
  -- method frames that have not left, in order of queueing
  pub methods : List MethodEntry
  -- publishes that have not begun, in order of call over all channels
  pub publishes : List Publish
  -- the open requests of each channel, the oldest first
  pub requests : List (ℕ × List Request)
  -- the contents that each channel expects, the oldest first
  pub contents : Channels
  -- how many tickets were given, and how many publishes were accepted
  pub tickets : ℕ
  pub published : ℕ
  -- the consumers with what waits for them, the jobs, the ackers, and what each channel declared
  pub deliveries : Deliveries

-- a new session with this greatest frame: the connection is open, no channel was opened yet, and nothing waits
abbrev pub start : ℕ → Wire
start frame_max = record { frame_max = frame_max; link = link.Open; phases = []; rest = []; methods = []; publishes = []; requests = []; contents = []; tickets = 0; published = 0; deliveries = empty_deliveries }

-- ---- states

-- where a channel stands while the connection is open
abbrev pub phase_of : ℕ → Wire → ChannelPhase
phase_of c b = phase_in (at_channel c b.phases)

-- While the connection is open channel 0 is its own, and another channel stands by its openings and closes. Else every channel
-- is down.
abbrev pub state_of : ℕ → Wire → ChannelState
state_of c b = if is_up b.link then (if c == 0 then state.Base else channel_state (phase_of c b)) else state.Down

-- the channel is closed: `channel.open` is allowed on it
abbrev pub is_closed : ChannelState → Bool
is_closed state.Closed = true
is_closed _ = false

-- `channel.open` was called on the channel, and its open-ok has not come
abbrev pub is_opening : ChannelState → Bool
is_opening state.Opening = true
is_opening _ = false

-- open-ok has come on the channel, and no close of either side since
abbrev pub is_open : ChannelState → Bool
is_open state.Open = true
is_open _ = false

-- this side closes the channel, and neither close-ok nor a close of the broker has come
abbrev pub is_closing : ChannelState → Bool
is_closing state.Closing = true
is_closing _ = false

-- the closes of both sides crossed on the channel, and the broker's close-ok has not come
abbrev pub is_crossed : ChannelState → Bool
is_crossed state.Crossed = true
is_crossed _ = false

-- it is the connection's own channel 0, while the connection is open
abbrev pub is_base : ChannelState → Bool
is_base state.Base = true
is_base _ = false

-- replies, settlements, flow and contents are received on an open channel, and still on one that this side is closing
abbrev pub receives_on : ChannelState → Bool
receives_on s = is_open s || is_closing s

-- ---- requests

-- the open requests of channel c, the oldest first
abbrev pub requests_of : ℕ → Wire → List Request
requests_of c b = requests_in (at_channel c b.requests)

-- ---- frames that wait

-- the three lists of frames that wait
abbrev pub lists_of : Wire → Lists
lists_of b = record { rest = b.rest; methods = b.methods; publishes = b.publishes }

-- the three lists are these, and all else is as it was
abbrev pub with_lists : Lists → Wire → Wire
with_lists l b = record b { rest = l.rest; methods = l.methods; publishes = l.publishes }

-- ---- a method is queued

-- a method that no call asked for joins the back of the methods
abbrev pub noted : ℕ → Method → Wire → Wire
noted c m b = record b { methods = b.methods ++ record { channel = c; method = m; ticket = None } ∷ [] }

-- a call that awaits a reply opens a request under its ticket
abbrev pub requests_with : ℕ → ℕ → Option Reply → List (ℕ × List Request) → List (ℕ × List Request)
requests_with c ticket None all = all
requests_with c ticket (Some r) all = with_request c (record { ticket = Some ticket; reply = r }) all

-- a call that isn't a publish queues its method and opens its request, under the next ticket
abbrev pub queued : ℕ → Method → Option Reply → Wire → Wire
queued c m awaits b = record b {
  methods = b.methods ++ record { channel = c; method = m; ticket = Some (b.tickets + 1) } ∷ [];
  requests = requests_with c (b.tickets + 1) awaits b.requests;
  tickets = b.tickets + 1;
}

-- ---- consumers, ackers and registries

-- what these marks say of them has happened
abbrev pub with_deliveries : List DeliveryMark → Wire → Wire
with_deliveries ms b = record b { deliveries = fold after_mark b.deliveries ms }
