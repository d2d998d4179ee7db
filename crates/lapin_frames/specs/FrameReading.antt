-- What stands at the head of octets: the frame whose octets they are, up to what reading passes over, or a heartbeat, and in how many.
use Rattle.std.specs.Prelude.{ℕ, ◌+◌, ◌==◌, List, [], ◌∷◌, length, Option, Some, None, if◌then◌else◌}
use Rattle.lapin_methods.specs.declared.frame.Frame.{Frame}
use Rattle.lapin_methods.specs.declared.frame.Frame.TheVariants as frame
use Rattle.lapin_fields.specs.Around.{around_at}
use Rattle.lapin_fields.specs.Reading.{◌>>=◌}
use Rattle.lapin_frames.specs.declared.frames.Read.{Read}
use Rattle.lapin_frames.specs.declared.frames.Read.TheVariants as read
use Rattle.lapin_frames.specs.HeaderReading.{header_in}
use Rattle.lapin_frames.specs.MethodReading.{method_at}

-- nothing may follow
abbrev pub whole : {A : Type 0} → Option (A × List ℕ) → Option A
whole None = None
whole (Some x) = if_none x.1 x.0
  where
    if_none : {A : Type 0} → List ℕ → A → Option A
    if_none [] a = Some a
    if_none (b ∷ bs) a = None

-- the frame of that type on a channel, whose payload has no octet too many
abbrev pub frame_in : ℕ → ℕ → List ℕ → Option Frame
frame_in kind channel payload =
    if kind == 1 then (whole (method_at payload) >>= λ m. Some (frame.Method channel m)) else
    if kind == 2 then (header_in payload >>= λ h. Some (frame.Header channel h)) else
    if kind == 3 then Some (frame.Body channel payload) else
    None

-- a heartbeat is on channel 0 and has no payload
abbrev pub heartbeat_in : ℕ → List ℕ → Option Read
heartbeat_in channel [] = if channel == 0 then Some (read.Heartbeat 8) else None
heartbeat_in channel (b ∷ bs) = None

-- what stands there, with the eight octets around its payload
abbrev pub read_in : ℕ → ℕ → List ℕ → Option Read
read_in kind channel payload =
    if kind == 8 then heartbeat_in channel payload else
    (frame_in kind channel payload >>= λ f. Some (read.Frame f (length payload + 8)))

-- what stands at the head of the octets, where it is there as a whole
abbrev pub read_at : List ℕ → Option Read
read_at bytes = around_at bytes >>= λ a. read_in a.0.0 a.0.1 a.0.2

-- how many octets of those that were given it takes
abbrev pub used : Read → ℕ
used (read.Frame f n) = n
used (read.Heartbeat n) = n
used read.Part = 0
