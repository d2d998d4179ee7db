-- When the frames handed out are unbroken: they parse from the start as methods other than `basic.publish` and as publishes,
-- each on one channel. A publish is cut short only where its opening ended before the next frame was requested, or at the end.
use Rattle.std.specs.Prelude.{◌≡◌, ℕ, ◌==◌, ◌⊎◌, Bool, true, false, if◌then◌else◌, List, [], ◌∷◌, ◌++◌, map, Some, None}
use Rattle.std.specs.List.{filter}
use Rattle.lapin_types.specs.declared.leaving.Publish.{Publish}
use Rattle.lapin_types.specs.Types.{Frame}
use Rattle.lapin_types.specs.Types.frame
use Rattle.lapin_types.specs.Types.method
use Rattle.lapin_types.specs.Types.basic
use Rattle.lapin_rules.specs.Drops.{frame_channel, is_off, publish_channel}
use Rattle.lapin_rules.specs.Frames.{publish_method, content_header, room_for_body}
use Rattle.lapin_outbox.specs.Cut.{IsCut}
use Rattle.lapin_laws.specs.Outgoing.{Point, Called, Requested, Ended}

-- Behind its method a publish has its header, with the payload's length and the properties, and then bodies alone, which join
-- to the payload. Each body has 1 to `frame_max - 8` bytes, and each but the last has `frame_max - 8`; an empty payload has no
-- body.
pub record AreContents (frame_max : ℕ) (p : Publish) (frames : List Frame) : Type 0 where
  pub bodies : List (List ℕ)
  pub cut : IsCut (room_for_body frame_max) p.payload bodies
  pub are : frames ≡ content_header p ∷ map (frame.Body p.channel) bodies

-- The frame begins a publish of an accepted call, `rest` are the frames to come behind it, and `later` the calls that may begin
-- yet. Publishes of one channel begin in order of call, so what was called before on its channel leaves no more; one that was called
-- before on another channel may have been held back there, by the limit of that channel, and may begin yet.
pub record Begins (frame_max : ℕ) (f : Frame) (rest : List Frame) (calls later : List Publish) : Type 0 where
  pub publish : Publish
  pub passed : List Publish
  pub behind : List Publish
  pub called : calls ≡ passed ++ publish ∷ behind
  pub stay : later ≡ filter (is_off publish_channel publish.channel) passed ++ behind
  pub method : f ≡ frame.Method publish.channel (publish_method publish)
  pub contents : AreContents frame_max publish rest

-- the frame is a `basic.publish` (AMQP 0-9-1, class basic), with which a publish begins
abbrev pub is_publish : Frame → Bool
is_publish (frame.Method c (method.Basic (basic.Publish exchange key mandatory immediate))) = true
is_publish _ = false

-- the frame is a method frame (AMQP 0-9-1, section 4.2.3)
abbrev pub is_method : Frame → Bool
is_method (frame.Method c m) = true
is_method _ = false

-- an end of its opening cuts the begun publish short
abbrev pub unless_on : ℕ → List Frame → List Frame
unless_on c [] = []
unless_on c (f ∷ fs) = if frame_channel f == c then [] else f ∷ fs

-- `rest` are the frames of the begun publish that are still to come, `calls` the accepted publishes that may begin
abbrev pub Parses : ℕ → List Point → List Frame → List Publish → Type 0
Parses frame_max [] rest calls = Unit {0}
Parses frame_max (Called p ∷ ps) rest calls = Parses frame_max ps rest (calls ++ p ∷ [])
Parses frame_max (Ended c ∷ ps) rest calls = Parses frame_max ps (unless_on c rest) calls
-- nothing stands between the frames of a publish
Parses frame_max (Requested given ∷ ps) (f ∷ rest) calls = (given ≡ Some f) × Parses frame_max ps rest calls
Parses frame_max (Requested None ∷ ps) [] calls = Parses frame_max ps [] calls
Parses frame_max (Requested (Some f) ∷ ps) [] calls =
    ((is_method f ≡ true) × (is_publish f ≡ false) × Parses frame_max ps [] calls)
    ⊎ ((rest : List Frame) × (later : List Publish) × Begins frame_max f rest calls later × Parses frame_max ps rest later)

-- the frames handed out parse from the start, where no publish has begun and none was accepted yet
abbrev pub Unbroken : ℕ → List Point → Type 0
Unbroken frame_max ps = Parses frame_max ps [] []
