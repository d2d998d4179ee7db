-- What the broker says as it closes a channel, or the connection (AMQP 0-9-1, `channel.close` and `connection.close`).
use Rattle.std.specs.Prelude.{◌≡◌, ◌==◌, ℕ, if◌then◌else◌, List, [], ◌∷◌, Option, Some, None, Result, Ok, Err}
use Rattle.lapin_client.specs.declared.answers.Handed.TheVariants as handed
use Rattle.lapin_client.specs.declared.client.Client.{Client}
use Rattle.lapin_client.specs.declared.closes.Close.{Close}
use Rattle.lapin_client.specs.declared.closes.CloseReason.{CloseReason}
use Rattle.lapin_client.specs.declared.status.Status.{Status}
use Rattle.lapin_client.specs.declared.status.Status.TheVariants as status
use Rattle.lapin_client.specs.Clients.{SameBytes, SameTold}
use Rattle.lapin_tables.specs.ByChannel.{at_channel}
use Rattle.lapin_types.specs.Types.{Frame}
use Rattle.lapin_types.specs.Types.frame
use Rattle.lapin_methods.specs.declared.channel.ChannelMethod.TheVariants as channel
use Rattle.lapin_methods.specs.declared.connection.ConnectionMethod.TheVariants as connection
use Rattle.lapin_methods.specs.declared.method.Method.{Method}
use Rattle.lapin_methods.specs.declared.method.Method.TheVariants as method

-- the close that a method of channel 0 says
abbrev pub connection_close : Method → Option (ℕ × Close)
connection_close (method.Connection (connection.Close code text class number)) = Some (0, record { code = code; class_id = class; method_id = number; text = text })
connection_close _ = None

-- and one of another channel
abbrev pub channel_close : ℕ → Method → Option (ℕ × Close)
channel_close c (method.Channel (channel.Close code text class number)) = Some (c, record { code = code; class_id = class; method_id = number; text = text })
channel_close c _ = None

-- the close that a frame says, with its channel: `connection.close` of channel 0, `channel.close` of any other
abbrev pub close_said : Frame → Option (ℕ × Close)
close_said (frame.Method c m) = if c == 0 then connection_close m else channel_close c m
close_said _ = None

-- the last close of channel c once more was said: this one, if it is of c, and else the one before
abbrev pub or_before : ℕ → Option (ℕ × Close) → Option Close → Option Close
or_before c None before = before
or_before c (Some said) before = if said.0 == c then Some said.1 else before

-- The last close of channel c among frames, oldest first, where the last one before them is given: a later one takes its place, and no other
-- frame does anything about it.
abbrev pub last_close : ℕ → List Frame → Option Close → Option Close
last_close c [] before = before
last_close c (f ∷ fs) before = last_close c fs (or_before c (close_said f) before)

-- the last close of channel c that a client has
abbrev pub close_on : ℕ → Client → Option Close
close_on c client = at_channel c client.closes.entries

-- of each channel the last close is that of this frame, if it says one of that channel, and else the one before
abbrev pub Notes : Option Frame → Client → Client → Type 0
Notes None b d = (c : ℕ) → close_on c d ≡ close_on c b
Notes (Some f) b d = (c : ℕ) → close_on c d ≡ or_before c (close_said f) (close_on c b)

-- the numbers of a close
abbrev pub reason_of : Close → CloseReason
reason_of x = record { code = x.code; class_id = x.class_id; method_id = x.method_id }

-- the last close is told: its numbers, and its text as the answer. Nothing else changes, and where there is none, or no memory, nothing does.
abbrev pub TellsClose : Result CloseReason Status → ℕ → Client → Client → Type 0
TellsClose (Ok r) c b d = ((x : Close) × (close_on c b ≡ Some x) × (r ≡ reason_of x) × (d.answer.items ≡ x.text) × (d.handed ≡ handed.Nothing)) × (d.session ≡ b.session) × (d.left ≡ b.left) × SameBytes b d × (d.refused ≡ b.refused)
TellsClose (Err status.Pending) c b d = (close_on c b ≡ None) × (d ≡ b)
TellsClose (Err status.NoMemory) c b d = SameTold b d × (d.session ≡ b.session) × (d.left ≡ b.left) × SameBytes b d
TellsClose (Err _) c b d = ⊥
