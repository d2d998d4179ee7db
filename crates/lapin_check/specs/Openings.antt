-- What a broker has done after some frames: its state, and how many opens of a channel it read.
use Rattle.std.specs.Prelude.{ℕ, suc, ◌==◌, Bool, true, false, ◌&&◌, if◌then◌else◌, List, [], ◌∷◌}
use Rattle.lapin_types.specs.Types.{Frame}
use Rattle.lapin_broker.specs.declared.peer.PeerState.{PeerState}
use Rattle.lapin_broker.specs.declared.peer.PeerState.TheVariants as peer_state
use Rattle.lapin_broker.specs.States.{Broker, new_broker, channel_at, is_up, state_of_peer}
use Rattle.lapin_broker.specs.Frames.{channel_of, client_frame}
use Rattle.lapin_broker.specs.Reads.{is_open}
use Rattle.lapin_check.specs.declared.seen.Seen.{Seen}
use Rattle.lapin_check.specs.declared.seen.Seen.TheVariants as seen
use Rattle.lapin_check.specs.Finding.{after_seen}

-- the channel is free
abbrev pub is_free : PeerState → Bool
is_free peer_state.Free = true
is_free _ = false

-- `channel.open` is read on its channel: the connection is Up and the channel Free. Elsewhere one that breaks nothing is passed over.
abbrev pub opens : Broker → Frame → Bool
opens b f = is_open (client_frame f) && is_up b.connection && is_free (state_of_peer (channel_at b (channel_of f)).peer)

-- what is seen is such an open of this channel
abbrev pub opens_channel : ℕ → Broker → Seen → Bool
opens_channel c b (seen.Up f) = channel_of f == c && opens b f
opens_channel c b (seen.Down f) = false

-- the broker after it read and sent these frames in order
abbrev pub broker_from : Broker → List Seen → Broker
broker_from b [] = b
broker_from b (x ∷ xs) = broker_from (after_seen x b) xs

-- the same of a new broker
abbrev pub broker_after : ℕ → List Seen → Broker
broker_after frame_max past = broker_from (new_broker frame_max) past

-- how many opens of the channel are read in these frames
abbrev pub opened_from : ℕ → Broker → List Seen → ℕ
opened_from c b [] = 0
opened_from c b (x ∷ xs) = if opens_channel c b x then suc (opened_from c (after_seen x b) xs) else opened_from c (after_seen x b) xs

-- the same of a new broker: how many were read so far
abbrev pub opened : ℕ → List Seen → ℕ → ℕ
opened frame_max past c = opened_from c (new_broker frame_max) past
