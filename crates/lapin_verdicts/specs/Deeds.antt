-- What the broker of a joined run does, one frame after another, and which of that is of one opening of a channel.
use Rattle.std.specs.Prelude.{ℕ, ◌==◌, Bool, true, false, if◌then◌else◌, List, [], ◌∷◌, ◌++◌, filter}
use Rattle.lapin_types.specs.Types.{Frame}
use Rattle.lapin_types.specs.Types.frame
use Rattle.lapin_types.specs.Types.method
use Rattle.lapin_types.specs.Types.channel
use Rattle.lapin_types.specs.declared.leaving.Left.{Left}
use Rattle.std.specs.List.{fold}
use Rattle.lapin_rules.specs.Words.{after_nth}
use Rattle.lapin_broker.specs.Frames.{channel_of}
use Rattle.lapin_broker.specs.Sends.{may}
use Rattle.lapin_joint.specs.declared.step.Step.{Step}
use Rattle.lapin_joint.specs.declared.step.Step.TheVariants as step
use Rattle.lapin_joint.specs.Joint.{Joint}
use Rattle.lapin_joint.specs.Order.{front, along_joined}

-- one frame that the broker deals with
pub data Deed : Type 0 where
  -- it reads a frame of the client, which is known with the numbers of its call
  Read : (left : Left) → Deed
  -- it sends a frame
  Sent : (frame : Frame) → Deed

-- the frame that it reads or sends
abbrev pub frame_in : Deed → Frame
frame_in (Read l) = l.frame
frame_in (Sent f) = f

-- ---- a run

-- it reads these frames
abbrev pub reads_of : List Left → List Deed
reads_of [] = []
reads_of (l ∷ ls) = Read l ∷ reads_of ls

-- what a step has the broker do: a read takes the front of the link up, and a send what the broker may send
abbrev pub deed_in : {S : Type 0} → Step → Joint S → List Deed
deed_in step.Read j = reads_of (front j.up)
deed_in (step.Send f) j = if may j.broker f then Sent f ∷ [] else []
deed_in _ j = []

-- all that the broker does in a joined run, in order
abbrev pub deeds : ℕ → List Step → List Deed
deeds frame_max steps = along_joined frame_max deed_in steps

-- ---- one channel, and one opening of it

-- the deed is on this channel
abbrev pub is_on : ℕ → Deed → Bool
is_on c d = channel_of (frame_in d) == c

-- what the broker does on this channel
abbrev pub on_channel : ℕ → List Deed → List Deed
on_channel c ds = filter (is_on c) ds

-- the frame is `channel.open` (AMQP 0-9-1, channel class)
abbrev pub is_open : Frame → Bool
is_open (frame.Method c (method.Channel channel.Open)) = true
is_open _ = false

-- the broker reads `channel.open`, with which an opening begins
abbrev pub opens : Deed → Bool
opens (Read l) = is_open l.frame
opens (Sent f) = false

-- up to the first that passes, without it
abbrev pub until : {X : Type 0} → (X → Bool) → List X → List X
until p [] = []
until p (x ∷ xs) = if p x then [] else x ∷ until p xs

-- the k-th opening of channel c, counted from 1 by the `channel.open`s that the broker reads: what it does on the channel after
-- the k-th, up to the next
abbrev pub opening : ℕ → ℕ → List Deed → List Deed
opening c k ds = until opens (after_nth opens k (on_channel c ds))

-- one deed more on the channel: `channel.open` begins an opening, any other is of the one that is there
abbrev pub joined_opening : List Deed → Deed → List Deed
joined_opening o d = if opens d then [] else o ++ d ∷ []

-- the last of these openings: what it does on the channel since the last `channel.open` that it read; all where it read none
abbrev pub last_opening : ℕ → List Deed → List Deed
last_opening c ds = fold joined_opening [] (on_channel c ds)

-- ---- what it reads, and what it sends

-- the frames that the broker reads, with the numbers of their calls
abbrev pub lefts : List Deed → List Left
lefts [] = []
lefts (Read l ∷ ds) = l ∷ lefts ds
lefts (Sent f ∷ ds) = lefts ds

-- the frames that the broker reads
abbrev pub reads : List Deed → List Frame
reads [] = []
reads (Read l ∷ ds) = l.frame ∷ reads ds
reads (Sent f ∷ ds) = reads ds

-- the frames that the broker sends
abbrev pub sents : List Deed → List Frame
sents [] = []
sents (Read l ∷ ds) = sents ds
sents (Sent f ∷ ds) = f ∷ sents ds
