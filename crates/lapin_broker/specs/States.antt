-- The state of the free broker: its connection, its channels, and what a channel that isn't free keeps. What reads and sends do
-- to it stands in Reads and Sends.
use Rattle.std.specs.Prelude.{ℕ, ◌==◌, Bool, true, false, ◌&&◌, not, nat_lt, nat_le, if◌then◌else◌, List, [], ◌∷◌, ◌++◌, Option, Some, None, length}
use Rattle.std.specs.Option.{is_some}
use Rattle.lapin_tables.specs.ByChannel.{at_channel, on_channel}
use Rattle.lapin_tables.specs.Numbered.{under}
use Rattle.lapin_broker.specs.declared.content.Content.{Content}
use Rattle.lapin_broker.specs.declared.content.Content.TheVariants as content
use Rattle.lapin_broker.specs.declared.request.Request.{Request}
use Rattle.lapin_broker.specs.declared.peer.BrokerState.{BrokerState}
use Rattle.lapin_broker.specs.declared.peer.BrokerState.TheVariants as broker_state
use Rattle.lapin_broker.specs.declared.peer.PeerState.{PeerState}
use Rattle.lapin_broker.specs.declared.peer.PeerState.TheVariants as peer_state
use Rattle.lapin_broker.specs.declared.peer.Connection.{Connection}
use Rattle.lapin_broker.specs.declared.peer.Connection.TheVariants as connection
use Rattle.lapin_broker.specs.declared.peer.Peer.{Peer}
use Rattle.lapin_broker.specs.declared.peer.Peer.TheVariants as peer
use Rattle.lapin_broker.specs.Contents.{is_idle}

-- What a channel keeps while it isn't free: whether a `confirm.select` was read; of the whole publishes that were read since
-- then, numbered 1, 2, .., which aren't settled; the waiting requests in order; the tags that it may deliver to; the content
-- that is being sent.
pub record Channel : Type 0 where
  pub peer : Peer
  pub selected : Bool
  pub numbers : List (Option (Unit {0}))
  pub waiting : List Request
  pub tags : List (List ℕ)
  pub sending : Content

-- The whole state. At most one open channel has a content that is being read, since nothing may come between, so that content
-- stands here, with its channel. A channel that was never asked for is in no pair of the list and is free.
pub record Broker : Type 0 where
  pub frame_max : ℕ
  pub connection : Connection
  pub channels : List (ℕ × Channel)
  pub reading : Option (ℕ × Content)

-- a free channel keeps nothing
abbrev pub free_channel : Channel
free_channel = record { peer = peer.Free; selected = false; numbers = []; waiting = []; tags = []; sending = content.Idle }

-- a new broker is up, and every channel above 0 is free
abbrev pub new_broker : ℕ → Broker
new_broker most = record { frame_max = most; connection = connection.Up; channels = []; reading = None }

-- the channel that was found, and a free one where none was
abbrev pub channel_in : Option Channel → Channel
channel_in None = free_channel
channel_in (Some x) = x

-- the broker's channel of that number, free where it was never asked for
abbrev pub channel_at : Broker → ℕ → Channel
channel_at b c = channel_in (at_channel c b.channels)

-- the pairs with this at the channel, which joins at the back where it has none yet
abbrev pub with_channel : ℕ → Channel → List (ℕ × Channel) → List (ℕ × Channel)
with_channel c x all = if is_some (at_channel c all) then on_channel c (λ _. x) all else all ++ (c, x) ∷ []

-- ---- What the readers tell.

-- the state of the connection alone, without the mark of what it owes (AMQP 0-9-1, `connection.close`)
abbrev pub state_of_connection : Connection → BrokerState
state_of_connection connection.Up = broker_state.Up
state_of_connection connection.Leaving = broker_state.Leaving
state_of_connection connection.LeavingStopped = broker_state.Leaving
state_of_connection connection.Stopped = broker_state.Stopped
state_of_connection connection.StoppedOwes = broker_state.Stopped
state_of_connection connection.Done = broker_state.Done
state_of_connection connection.Broken = broker_state.Broken

-- the state of a channel alone, without its marks (AMQP 0-9-1, class channel)
abbrev pub state_of_peer : Peer → PeerState
state_of_peer peer.Free = peer_state.Free
state_of_peer peer.Asked = peer_state.Asked
state_of_peer peer.Open = peer_state.Open
state_of_peer peer.Leaving = peer_state.Leaving
state_of_peer peer.Stopping = peer_state.Stopping
state_of_peer peer.StoppingOwes = peer_state.Stopping
state_of_peer peer.StoppingAnswered = peer_state.Stopping

-- the connection is Up: both sides may speak
abbrev pub is_up : Connection → Bool
is_up connection.Up = true
is_up _ = false

-- the connection is Leaving: the client's close was read, and close-ok is owed
abbrev pub is_leaving : Connection → Bool
is_leaving connection.Leaving = true
is_leaving connection.LeavingStopped = true
is_leaving _ = false

-- the connection is Broken: the client sent what it may not send
abbrev pub is_broken : Connection → Bool
is_broken connection.Broken = true
is_broken _ = false

-- the connection is Leaving, or is Stopped and owes close-ok
abbrev pub owes_connection : Connection → Bool
owes_connection connection.Leaving = true
owes_connection connection.LeavingStopped = true
owes_connection connection.StoppedOwes = true
owes_connection _ = false

-- a channel is Stopping and owes close-ok
abbrev pub owes_peer : Peer → Bool
owes_peer peer.StoppingOwes = true
owes_peer peer.StoppingAnswered = true
owes_peer _ = false

-- of a channel whether it is Stopping and owes close-ok, and with 0 the same of the connection
abbrev pub owes_on : ℕ → Broker → Bool
owes_on c b = if c == 0 then owes_connection b.connection else owes_peer (channel_at b c).peer

-- the channel in state Open whose content is being read
abbrev pub reading_on : Option (ℕ × Content) → Option ℕ
reading_on None = None
reading_on (Some r) = Some r.0

-- a content is being sent on the channel
abbrev pub is_sending : Channel → Bool
is_sending x = not (is_idle x.sending)

-- a number is settled: a publish took it, and its slot is empty
abbrev pub is_settled : ℕ → List (Option (Unit {0})) → Bool
is_settled n xs = nat_lt 0 n && nat_le n (length xs) && not (is_some (under n xs))

-- ---- The connection, whatever its channels do.

-- the client sent what it may not send
abbrev pub after_break : Broker → Broker
after_break b = record b { connection = connection.Broken }

-- a loss makes the connection Done where it isn't Broken
abbrev pub connection_after_loss : Connection → Connection
connection_after_loss connection.Broken = connection.Broken
connection_after_loss _ = connection.Done

-- the broker after a loss: what it reads changes nothing, and it may send nothing
abbrev pub after_loss : Broker → Broker
after_loss b = record b { connection = connection_after_loss b.connection }
