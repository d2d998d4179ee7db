-- What stands on a stream of octets between a client and a broker, piece by piece (AMQP 0-9-1, section 4.2.3): frames, and between them
-- heartbeats and, of the broker, notices whether it takes messages. The handshake stands before the first piece.
use Rattle.std.specs.Prelude.{◌≡◌, ◌≤◌, ℕ, Bool, List, [], ◌∷◌, ◌++◌, length, map, drop, Some}
use Rattle.lapin_types.specs.declared.leaving.Left.{Left}
use Rattle.lapin_types.specs.Types.{Frame}
use Rattle.lapin_fields.specs.Around.{around}
use Rattle.lapin_frames.specs.Carried.{IsCarried, frame_again}
use Rattle.lapin_frames.specs.FrameFits.{FrameFits}
use Rattle.lapin_frames.specs.Frames.{bytes_of}
use Rattle.lapin_frames.specs.FrameReading.{read_at}
use Rattle.lapin_frames.specs.declared.frames.Read.TheVariants as head
use Rattle.lapin_client.specs.Receiving.{IsNotice}

-- one piece
pub data Piece : Type 0 where
  -- a frame
  Of : (frame : Frame) → Piece
  -- a heartbeat
  Beat : Piece
  -- the broker takes no messages, or takes them again, in these octets (RabbitMQ, connection.blocked)
  Notice : (blocked : Bool) (octets : List ℕ) → Piece

-- its octets
abbrev pub octets_in : Piece → List ℕ
octets_in (Of f) = bytes_of f
octets_in Beat = around 8 0 []
octets_in (Notice blocked octets) = octets

-- those of all of them, in order
abbrev pub octets_of : List Piece → List ℕ
octets_of [] = []
octets_of (p ∷ ps) = octets_in p ++ octets_of ps

-- the frames among them, in order
abbrev pub frames_in : List Piece → List Frame
frames_in [] = []
frames_in (Of f ∷ ps) = f ∷ frames_in ps
frames_in (p ∷ ps) = frames_in ps

-- a piece that can be written and is no longer than a frame may be
abbrev pub Fits : ℕ → Piece → Type 0
Fits most (Of f) = FrameFits f × (length (bytes_of f) ≤ most)
Fits most Beat = Unit {0}
Fits most (Notice blocked octets) = IsNotice octets blocked (length octets) × (length octets ≤ most)

abbrev pub AllFit : ℕ → List Piece → Type 0
AllFit most [] = Unit {0}
AllFit most (p ∷ ps) = Fits most p × AllFit most ps

-- the octets are pieces, with these frames among them, and each is no longer than a frame may be
pub record ArePieces (most : ℕ) (octets : List ℕ) (frames : List Frame) : Type 0 where
  pub pieces : List Piece
  pub are : octets ≡ octets_of pieces
  pub frames_are : frames_in pieces ≡ frames
  pub fit : AllFit most pieces

-- the frames that left, without the numbers of their calls
abbrev pub frames_left : List Left → List Frame
frames_left ls = map (λ (l : Left). l.frame) ls

-- each of the frames is as octets give it
abbrev pub AreCarried : List Frame → Type 0
AreCarried [] = Unit {0}
AreCarried (f ∷ fs) = IsCarried f × AreCarried fs

-- Octets that are pieces, cut anywhere: if a frame stands whole at the head of those that came, it is the first piece, as it is read again, and what
-- is left of what came, with what is still to come, are the others.
abbrev pub AreReadAsWritten : ℕ → Type 0
AreReadAsWritten most = (came behind : List ℕ) (pieces : List Piece) (f : Frame) (n : ℕ) → AllFit most pieces → came ++ behind ≡ octets_of pieces → read_at came ≡ Some (head.Frame f n) →
    (g : Frame) × (others : List Piece) × (frame_again g ≡ f) × (pieces ≡ Of g ∷ others) × (drop n came ++ behind ≡ octets_of others)

-- What is read again of a frame: it has the same octets and can be written, and it is carried; and a carried frame is itself. So octets tell a
-- frame but for whether its table and its properties were given by their values.
abbrev pub IsReadAgain : Type 0
IsReadAgain = (f : Frame) → (bytes_of (frame_again f) ≡ bytes_of f) × (FrameFits f → FrameFits (frame_again f)) × IsCarried (frame_again f) × (IsCarried f → frame_again f ≡ f)
