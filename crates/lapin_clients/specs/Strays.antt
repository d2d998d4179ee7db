-- Contents that come to a channel which hears none. Behind its own close a broker may still send contents of the opening that has ended, and so
-- behind a close of the connection; who passes them over hears what an honest broker without them would have sent.
use Rattle.std.specs.Prelude.{◌≡◌, ◌≤◌, ◌+◌, ◌⊎◌, ℕ, ◌==◌, Bool, true, false, ◌&&◌, not, if◌then◌else◌, List, [], ◌∷◌, length}
use Rattle.lapin_types.specs.Types.{Frame}
use Rattle.lapin_broker.specs.declared.frames.BrokerFrame.{BrokerFrame}
use Rattle.lapin_broker.specs.declared.frames.BrokerFrame.TheVariants as broker
use Rattle.lapin_broker.specs.declared.peer.Peer.{Peer}
use Rattle.lapin_broker.specs.declared.peer.Peer.TheVariants as peer
use Rattle.lapin_broker.specs.Frames.{channel_of, broker_frame}
use Rattle.lapin_broker.specs.Sends.{is_connection_close}
use Rattle.lapin_broker.specs.States.{Broker, channel_at, is_up}
use Rattle.lapin_client.specs.Receiving.{is_of_content}
use Rattle.lapin_clients.specs.Pieces.{ArePieces, AreCarried}

-- ---- what the broker may send besides

-- a frame of a content: the method that begins it, its header or a body; channel 0 is the connection's own
abbrev pub is_part : Frame → Bool
is_part f = is_of_content f && not (channel_of f == 0)

-- the broker has answered the channel's open, and neither sent its own close nor answered the client's
abbrev pub is_open : Peer → Bool
is_open peer.Open = true
is_open peer.Leaving = true
is_open _ = false

-- the channel is open to the broker, and so is the connection: it has neither closed it nor read the client's close
abbrev pub is_open_to : Broker → ℕ → Bool
is_open_to b c = is_up b.connection && is_open (channel_at b c).peer

-- Frames of contents on a channel that isn't open to it: from its own close of the channel, or its answer to the client's, until it answers the
-- next open by open-ok, before the first open-ok too, and from its close of the connection, or from the client's that it read.
abbrev pub may_stray : Broker → Frame → Bool
may_stray b f = is_part f && not (is_open_to b (channel_of f))

-- ---- what the client passes over

-- whether the connection is open to a session, and on which channels it hears contents while it is
pub record Hearing : Type 0 where
  pub up : Bool
  pub on : ℕ → Bool

-- it hears contents on the channel
abbrev pub hears_on : Hearing → ℕ → Bool
hears_on hear c = hear.up && hear.on c

-- A channel hears contents from open-ok on, and none from the broker's close or close-ok on.
abbrev pub heard_from : BrokerFrame → Bool → Bool
heard_from broker.OpenOk was = true
heard_from broker.Close was = false
heard_from broker.CloseOk was = false
heard_from _ was = was

-- what is heard once the frame came: nothing behind `connection.close`
abbrev pub hear_behind : Frame → Hearing → Hearing
hear_behind f hear = record {
  up = hear.up && not (is_connection_close (broker_frame f));
  on = λ c. if channel_of f == c then heard_from (broker_frame f) (hear.on c) else hear.on c;
}

-- The frames on the way are these frames, in order, and between them frames of contents, each of which comes to a channel that hears none.
abbrev pub AreWithStrays : Hearing → List Frame → List Frame → Type 0
AreWithStrays hear [] frames = frames ≡ []
AreWithStrays hear (f ∷ way) frames =
    ((is_part f ≡ true) × (hears_on hear (channel_of f) ≡ false) × AreWithStrays hear way frames)
    ⊎ ((others : List Frame) × (frames ≡ f ∷ others) × AreWithStrays (hear_behind f hear) way others)

-- Octets on their way to a session that hears this: pieces, with these frames among them, and no more than so many others between; each frame
-- is carried, as octets give it.
pub record AreComing (most : ℕ) (octets : List ℕ) (hear : Hearing) (besides : ℕ) (frames : List Frame) : Type 0 where
  pub way : List Frame
  pub written : ArePieces most octets way
  pub carried : AreCarried way
  pub strays : AreWithStrays hear way frames
  pub few : length way ≤ length frames + besides
