-- A run of a client: calls of `lapin_client`, with what each answered, and octets to and from the free broker over two ordered streams,
-- which may be cut at any place.
--
-- The broker is the free broker of `lapin_broker` behind the exact reader and writer of `lapin_frames`. Besides, either side sends
-- heartbeats, the broker says whether it takes messages, and it may send contents behind a close. A run is up to the loss: what
-- comes behind it is the session's alone.
use Rattle.std.specs.Prelude.{◌≡◌, ◌≤◌, ℕ, suc, true, List, [], ◌∷◌, ◌++◌, drop, Some}
use Rattle.lapin_types.specs.Types.{Frame}
use Rattle.lapin_broker.specs.States.{Broker, new_broker}
use Rattle.lapin_broker.specs.Reads.{read}
use Rattle.lapin_broker.specs.Sends.{may, send}
use Rattle.lapin_fields.specs.Around.{around}
use Rattle.lapin_frames.specs.FrameReading.{read_at}
use Rattle.lapin_frames.specs.declared.frames.Read.TheVariants as head
use Rattle.lapin_client.specs.declared.client.Client.{Client}
use Rattle.lapin_client.specs.declared.status.Status.{Status}
use Rattle.lapin_client.specs.declared.status.Status.TheVariants as status
use Rattle.lapin_client.specs.Clients.{IsNew, IsSent}
use Rattle.lapin_client.specs.Receiving.{Receives}
use Rattle.lapin_clients.specs.Calls.{Call, IsCall}
use Rattle.lapin_clients.specs.Pieces.{Piece, Of, Beat, Notice, octets_in, Fits}
use Rattle.lapin_clients.specs.Strays.{may_stray}

-- a client, a broker, the octets on their way up to it, and those on their way down; and how many frames the broker sent besides those of the
-- free broker
pub record Net : Type 0 where
  pub client : Client
  pub broker : Broker
  pub up : List ℕ
  pub down : List ℕ
  pub besides : ℕ

-- a new client, as `new` makes it of a greatest frame that it takes, and a new broker
pub record IsNewNet (frame_max : ℕ) (x : Net) : Type 0 where
  pub large : 4096 ≤ frame_max
  pub client : IsNew frame_max x.client
  pub broker : x.broker ≡ new_broker frame_max
  pub up : x.up ≡ []
  pub down : x.down ≡ []
  pub besides : x.besides ≡ 0

-- what happens, one thing after another
pub data Act : Type 0 where
  -- a call of the client
  Calls : (call : Call) → Act
  -- the octets that were to be sent go on their way
  Leaves : Act
  -- the client's side sends a heartbeat, where nothing else is to be sent
  Beats : Act
  -- the first of the octets on their way down, as many as the caller likes, are handed to the client
  Comes : (octets : List ℕ) (answer : Status) → Act
  -- the broker reads the piece that stands whole at the front of those on their way up
  Reads : (piece : Piece) → Act
  -- the broker sends a piece
  Sends : (piece : Piece) → Act
  -- the broker sends a frame of a content on a channel that isn't open to it
  Strays : (frame : Frame) → Act

-- of these octets those that were handed to the client: none where it had no memory to keep them
abbrev pub kept_by : Status → List ℕ → List ℕ
kept_by status.NoMemory octets = []
kept_by _ octets = octets

-- what the broker reads and is then: a frame, or a heartbeat that it passes over
abbrev pub IsRead : Piece → Net → Net → Type 0
IsRead (Of f) x y = (n : ℕ) × (read_at x.up ≡ Some (head.Frame f n)) × (y.broker ≡ read x.broker f) × (y.up ≡ drop n x.up)
IsRead Beat x y = (n : ℕ) × (read_at x.up ≡ Some (head.Heartbeat n)) × (y.broker ≡ x.broker) × (y.up ≡ drop n x.up)
IsRead (Notice blocked octets) x y = ⊥

-- what it sends and is then: a frame that the free broker may send, a heartbeat or a notice
abbrev pub IsSentBy : ℕ → Piece → Broker → Broker → Type 0
IsSentBy most (Of f) b b' = (may b f ≡ true) × (b' ≡ send b f) × Fits most (Of f)
IsSentBy most p b b' = (b' ≡ b) × Fits most p

abbrev pub Does : Act → Net → Net → Type 0
Does (Calls call) x y = IsCall call x.client y.client × (y.broker ≡ x.broker) × (y.up ≡ x.up) × (y.down ≡ x.down) × (y.besides ≡ x.besides)
Does Leaves x y = IsSent x.client y.client × (y.broker ≡ x.broker) × (y.up ≡ x.up ++ x.client.leaving.items) × (y.down ≡ x.down) × (y.besides ≡ x.besides)
Does Beats x y = (x.client.leaving.items ≡ []) × (y.client ≡ x.client) × (y.broker ≡ x.broker) × (y.up ≡ x.up ++ around 8 0 []) × (y.down ≡ x.down) × (y.besides ≡ x.besides)
Does (Comes octets s) x y = Receives s octets x.client y.client × (y.broker ≡ x.broker) × (y.up ≡ x.up) × (x.down ≡ kept_by s octets ++ y.down) × (y.besides ≡ x.besides)
Does (Reads p) x y = IsRead p x y × (y.client ≡ x.client) × (y.down ≡ x.down) × (y.besides ≡ x.besides)
Does (Sends p) x y = IsSentBy x.client.frame_max p x.broker y.broker × (y.client ≡ x.client) × (y.up ≡ x.up) × (y.down ≡ x.down ++ octets_in p) × (y.besides ≡ x.besides)
Does (Strays f) x y =
    ((may_stray x.broker f ≡ true) × Fits x.client.frame_max (Of f)) × (y.client ≡ x.client) × (y.broker ≡ x.broker) × (y.up ≡ x.up) × (y.down ≡ x.down ++ octets_in (Of f)) × (y.besides ≡ suc x.besides)

-- these acts lead from one to the other
unfoldable pub Leads : List Act → Net → Net → Type 0
Leads [] x z = z ≡ x
Leads (a ∷ more) x z = (y : Net) × (Does a x y × Leads more y z)
