-- The free broker's state as the pair of machines has it.
use Rattle.std.specs.Prelude.{◌≡◌, ℕ, ◌==◌, false, if◌then◌else◌, [], map, Option, Some, None}
use Rattle.lapin_broker.specs.declared.content.Content.{Content}
use Rattle.lapin_broker.specs.declared.content.Content.TheVariants as content
use Rattle.lapin_broker.specs.declared.request.Request.{Request}
use Rattle.lapin_broker.specs.declared.peer.Connection.{Connection}
use Rattle.lapin_broker.specs.declared.peer.Connection.TheVariants as connection
use Rattle.lapin_broker.specs.declared.peer.Peer.{Peer}
use Rattle.lapin_broker.specs.declared.peer.Peer.TheVariants as peer
use Rattle.lapin_broker.specs.Contents.{is_idle}
use Rattle.lapin_broker.specs.States.{Channel, Broker, channel_at}
use Rattle.lapin_broker.specs.Sound.{IsSound}
use Rattle.lapin_pairs.specs.Machine as pair
use Rattle.lapin_pairs.specs.Channel as kept
use Rattle.lapin_pairs.specs.Asking.{B2}
use Rattle.lapin_concord.specs.Frames.{number}

-- the connection; Done is as free as a channel that was closed
abbrev pub connection_as : Connection → pair.Peer
connection_as connection.Up = pair.Open
connection_as connection.Leaving = pair.Leaving
connection_as connection.Stopped = pair.Stopping
connection_as connection.StoppedOwes = pair.StoppingOwes
connection_as connection.LeavingStopped = pair.StoppingAnswered
connection_as connection.Done = pair.Free
connection_as connection.Broken = pair.Broken

-- a channel's state
abbrev pub peer_as : Peer → pair.Peer
peer_as peer.Free = pair.Free
peer_as peer.Asked = pair.Asked
peer_as peer.Open = pair.Open
peer_as peer.Leaving = pair.Leaving
peer_as peer.Stopping = pair.Stopping
peer_as peer.StoppingOwes = pair.StoppingOwes
peer_as peer.StoppingAnswered = pair.StoppingAnswered

-- what is left of a content
abbrev pub content_as : Content → kept.Content
content_as content.Idle = kept.Idle
content_as content.Begun = kept.Begun
content_as (content.Left n) = kept.Left n

-- a waiting request, by the number of its kind
abbrev pub request_as : Request → ℕ
request_as r = number r.kind

-- what a channel keeps of its opening
abbrev pub kept_as : Channel → kept.Data
kept_as x = record { asked_for = map request_as x.waiting; content = content_as x.sending }

-- the content that is being read on channel c, where r is the one of all channels
abbrev pub reading_as : ℕ → Option (ℕ × Content) → Option kept.Content
reading_as c None = Some kept.Idle
reading_as c (Some r) = Some (if r.0 == c then content_as r.1 else kept.Idle)

-- a channel with the content that is being read
abbrev pub side_as : ℕ → Channel → Option (ℕ × Content) → B2
side_as c x r = record { peer = peer_as x.peer; kept = kept_as x; reading = reading_as c r }

-- every channel
abbrev pub sides_as : Broker → ℕ → B2
sides_as b c = side_as c (channel_at b c) b.reading

-- nothing waits and nothing is being sent
pub record IsBare (x : Channel) : Type 0 where
  pub waiting : x.waiting ≡ []
  pub sending : x.sending ≡ content.Idle

-- so it is on a channel that is neither open nor leaving
abbrev pub IsBareIn : Peer → Channel → Type 0
IsBareIn peer.Open x = Unit {0}
IsBareIn peer.Leaving x = Unit {0}
IsBareIn _ x = IsBare x

-- the content that is being read has begun and isn't whole
abbrev pub IsPart : Option (ℕ × Content) → Type 0
IsPart None = Unit {0}
IsPart (Some r) = is_idle r.1 ≡ false

-- what holds of every state that a new broker comes to
pub record IsReady (b : Broker) : Type 0 where
  pub sound : IsSound b
  pub part : IsPart b.reading
  pub bare : (c : ℕ) → IsBareIn (channel_at b c).peer (channel_at b c)
