-- Octets of the broker, frame by frame.
use Rattle.std.specs.Prelude.{◌≡◌, ◌<◌, ◌⊎◌, ◌&&◌, ℕ, zero, suc, ◌+◌, Bool, true, false, List, [], ◌∷◌, ◌++◌, drop, length, Option, Some, None, if◌then◌else◌}
use Rattle.std.specs.Int.{w32, from_be_bytes}
use Rattle.lapin_client.specs.declared.client.Client.{Client}
use Rattle.lapin_client.specs.declared.receiving.Head.{Head}
use Rattle.lapin_client.specs.declared.receiving.Head.TheVariants as head
use Rattle.lapin_client.specs.declared.status.Status.{Status}
use Rattle.lapin_client.specs.declared.status.Status.TheVariants as status
use Rattle.lapin_client.specs.Clients.{SameBytes, SameTold}
use Rattle.lapin_client.specs.Closes.{Notes}
use Rattle.lapin_client.specs.Refusals.{Keeps}
use Rattle.lapin_client.specs.Sending.{AllFit, AllWithin, after_requests, bytes_handed, HeldFits, IsIdle, SameElse, Stops, Waits, to_leave}
use Rattle.lapin_fields.specs.Around.{wanted_behind}
use Rattle.lapin_frames.specs.FrameReading.{read_at}
use Rattle.lapin_frames.specs.declared.frames.Read.TheVariants as read
use Rattle.lapin_handshake.specs.Saying.{frame_said_at}
use Rattle.lapin_handshake.specs.declared.said.Said.{Said}
use Rattle.lapin_handshake.specs.declared.said.Said.TheVariants as said
use Rattle.lapin_rules.specs.Drops.{frame_channel}
use Rattle.lapin_rules.specs.Wire.{state_of}
use Rattle.lapin_types.specs.Types.{ChannelState}
use Rattle.lapin_types.specs.Types.channel_state as state
use Rattle.lapin_machine.specs.World.{World, next, told_by}
use Rattle.lapin_types.specs.Types.{Frame, Error}
use Rattle.lapin_types.specs.Types.frame
use Rattle.lapin_methods.specs.declared.basic.BasicMethod.{BasicMethod}
use Rattle.lapin_methods.specs.declared.basic.BasicMethod.TheVariants as basic
use Rattle.lapin_methods.specs.declared.method.Method.TheVariants as method
use Rattle.lapin_types.specs.declared.event.Event.TheVariants as event
use Rattle.lapin_types.specs.declared.record.Record.TheVariants as record_

-- a method that a content follows
abbrev pub begins_content : BasicMethod → Bool
begins_content (basic.Deliver _ _ _ _ _) = true
begins_content (basic.Return _ _ _ _) = true
begins_content (basic.GetOk _ _ _ _ _) = true
begins_content _ = false

-- a frame that is part of a content, or begins one
abbrev pub is_of_content : Frame → Bool
is_of_content (frame.Method channel (method.Basic m)) = begins_content m
is_of_content (frame.Method channel _) = false
is_of_content _ = true

-- the connection is open, and the channel hears no contents: it is closed, not open yet, or both sides close it
abbrev pub is_deaf : ChannelState → Bool
is_deaf state.Closed = true
is_deaf state.Opening = true
is_deaf state.Crossed = true
is_deaf _ = false

-- a content of an opening that has ended: on its way as the broker closed its channel
abbrev pub is_stray : Frame → World → Bool
is_stray f w = is_of_content f && is_deaf (state_of (frame_channel f) w.wire)

-- what a frame of the broker leaves: a content of an opening that has ended is passed over
abbrev pub heard : Frame → World → World
heard f w = if is_stray f w then w else next w (event.Receive f)

-- how many steps it uses up
abbrev pub uses : Frame → World → ℕ
uses f w = if is_stray f w then 0 else 1

-- the octets of the frame at the head of octets, told by its size
abbrev pub length_at : List ℕ → ℕ
length_at (_ ∷ _ ∷ _ ∷ a ∷ b ∷ c ∷ d ∷ rest) = from_be_bytes w32 (a ∷ b ∷ c ∷ d ∷ []) + 8
length_at _ = 0

-- what a frame says by which the broker takes no messages, or takes them again
abbrev pub notice : Bool → Said
notice true = said.Blocked
notice false = said.Unblocked

-- the same of all that a frame says
abbrev pub notice_in : Said → Option Bool
notice_in said.Blocked = Some true
notice_in said.Unblocked = Some false
notice_in _ = None

-- the frame at the head is no notice
abbrev pub SaysNoNotice : List ℕ → Type 0
SaysNoNotice bytes = (is : Bool) → frame_said_at bytes ≡ Some (notice is) → ⊥

-- a frame of n octets stands whole at the head, that is none which the session hears, and it is a notice
abbrev pub IsNotice : List ℕ → Bool → ℕ → Type 0
IsNotice bytes is n = (wanted_behind bytes ≡ 0) × (read_at bytes ≡ None) × (frame_said_at bytes ≡ Some (notice is)) × (n ≡ length_at bytes)

-- The frame of n octets at the head is for the session; or it is none that the session hears: a heartbeat, or a notice whether the broker
-- takes messages, which alone changes whether it was blocked.
abbrev pub IsHead : List ℕ → Option Frame → ℕ → Bool → Bool → Type 0
IsHead bytes (Some f) n was is = (read_at bytes ≡ Some (read.Frame f n)) × (is ≡ was)
IsHead bytes None n was is = ((read_at bytes ≡ Some (read.Heartbeat n)) × (is ≡ was)) ⊎ IsNotice bytes is n

-- What a frame leaves: first all leaves that has begun here or is no publish, so that the session is idle, and then the session hears it.
abbrev pub TurnLeaves : Option Frame → Client → Client → Type 0
TurnLeaves None b d = (d.session ≡ b.session) × (d.leaving.items ≡ b.leaving.items) × (d.left ≡ b.left) × (d.unsent ≡ b.unsent)
TurnLeaves (Some f) b d = (m : ℕ) × IsIdle false (after_requests m false b.session) × (d.session ≡ heard f (after_requests (suc m) false b.session))
    × (d.leaving.items ≡ to_leave b ++ bytes_handed (suc m) false b.session)
    × (d.left + (suc m + uses f (after_requests (suc m) false b.session)) ≡ b.left)
    × AllWithin b.frame_max (suc m) false b.session × AllFit (suc m) false b.session × (d.unsent ≡ None) × HeldFits b.frame_max b.unsent

-- of two clients all is the same but the session, what is told, the broker's last closes and the steps that are left
abbrev pub SameHeard : Client → Client → Type 0
SameHeard b d = (d.leaving.items ≡ b.leaving.items) × (d.came ≡ b.came) × (d.frame_max ≡ b.frame_max) × (d.blocked ≡ b.blocked) × (d.unsent ≡ b.unsent)

-- the session takes a frame, or it is passed over
abbrev pub IsHeard : Frame → World → Type 0
IsHeard f w = (is_stray f w ≡ true) ⊎ ((told_by w (event.Receive f) ≡ record_.Received) ⊎ (told_by w (event.Receive f) ≡ record_.Passed))

-- the session refuses a frame, and the error is kept
abbrev pub Refuses : Frame → World → Client → Client → Type 0
Refuses f w b d = (e : Error) × (told_by w (event.Receive f) ≡ record_.Refused e) × Keeps e b d

-- a frame was not taken: all is as it was
abbrev pub NotHeard : Client → Client → Type 0
NotHeard b d = Waits b d × SameElse b d

-- what becomes of a frame that the session hears
abbrev pub Hears : Status → Frame → Client → Client → Type 0
Hears status.Done f b d = (IsHeard f b.session × SameTold b d) × (d.session ≡ next b.session (event.Receive f)) × SameHeard b d × (d.closes ≡ b.closes)
Hears status.Refused f b d = Refuses f b.session b d × (d.session ≡ next b.session (event.Receive f)) × SameHeard b d × (d.closes ≡ b.closes)
Hears status.Kept f b d = NotHeard b d
Hears status.Ended f b d = NotHeard b d × (b.left ≡ 0)
Hears r f b d = ⊥

-- what becomes of it, and of the close that it says
abbrev pub NotesHeard : Status → Frame → Client → Client → Type 0
NotesHeard status.Done f b d = (IsHeard f b.session × SameTold b d) × (d.session ≡ next b.session (event.Receive f)) × SameHeard b d × Notes (Some f) b d
NotesHeard status.Refused f b d = Refuses f b.session b d × (d.session ≡ next b.session (event.Receive f)) × SameHeard b d × Notes (Some f) b d
NotesHeard status.Kept f b d = NotHeard b d
NotesHeard status.Ended f b d = NotHeard b d × (b.left ≡ 0)
NotesHeard r f b d = ⊥

-- so many steps are left where n were used, and before where the frame was not taken
abbrev pub left_by : Status → ℕ → ℕ → ℕ → Type 0
left_by status.Done n before after = after + n ≡ before
left_by status.Refused n before after = after + n ≡ before
left_by _ n before after = after ≡ before

-- a frame that the session hears uses one step up
abbrev pub HearCounts : Status → Client → Client → Type 0
HearCounts r b d = left_by r 1 b.left d.left

-- and one that is passed over none
abbrev pub IdleCounts : Status → Frame → Client → Client → Type 0
IdleCounts r f b d = left_by r (uses f b.session) b.left d.left

-- what becomes of a frame where nothing waits here that has begun; one that is passed over is never refused
abbrev pub TakesIdle : Status → Frame → Client → Client → Type 0
TakesIdle status.Done f b d = (IsHeard f b.session × SameTold b d) × (d.session ≡ heard f b.session) × SameHeard b d × Notes (Some f) b d
TakesIdle status.Refused f b d = ((is_stray f b.session ≡ false) × Refuses f b.session b d) × (d.session ≡ heard f b.session) × SameHeard b d × Notes (Some f) b d
TakesIdle status.Kept f b d = NotHeard b d
TakesIdle status.Ended f b d = NotHeard b d × (b.left ≡ 0)
TakesIdle r f b d = ⊥

-- the session takes a frame once it is idle; and what is told stays, also where there is none
abbrev pub TurnHears : Option Frame → Client → Client → Type 0
TurnHears None b d = SameTold b d
TurnHears (Some f) b d = ((m : ℕ) × IsIdle false (after_requests m false b.session) × IsHeard f (after_requests (suc m) false b.session)) × SameTold b d

-- the session refuses a frame once it is idle; it is none that is passed over
abbrev pub TurnRefuses : Frame → Client → Client → Type 0
TurnRefuses f b d = (m : ℕ) × IsIdle false (after_requests m false b.session)
    × ((is_stray f (after_requests (suc m) false b.session) ≡ false) × Refuses f (after_requests (suc m) false b.session) b d)

-- What becomes of a frame that came. Where it isn't taken, what left before it has left: there was no memory, a frame of this side can't leave,
-- or all steps are used up.
abbrev pub Takes : Status → Frame → Client → Client → Type 0
Takes status.Done f b d = TurnHears (Some f) b d × TurnLeaves (Some f) b d × (d.came ≡ b.came) × (d.frame_max ≡ b.frame_max) × (d.blocked ≡ b.blocked) × Notes (Some f) b d
Takes status.Refused f b d = TurnRefuses f b d × TurnLeaves (Some f) b d × (d.came ≡ b.came) × (d.frame_max ≡ b.frame_max) × (d.blocked ≡ b.blocked) × Notes (Some f) b d
Takes status.Kept f b d = Stops status.NoMemory false b d × SameElse b d
Takes status.TooLong f b d = Stops status.TooLong false b d × SameElse b d
Takes status.Ended f b d = Stops status.Ended false b d × SameElse b d
Takes r f b d = ⊥

-- what stands at the head of octets, where a frame has no more than frame_max
abbrev pub HeadIs : Head → List ℕ → ℕ → Type 0
HeadIs head.Part bytes frame_max = (0 < wanted_behind bytes) × (length bytes < frame_max)
HeadIs (head.Frame f n) bytes frame_max = read_at bytes ≡ Some (read.Frame f n)
HeadIs (head.Passed n) bytes frame_max = read_at bytes ≡ Some (read.Heartbeat n)
HeadIs head.TooLong bytes frame_max = frame_max < length_at bytes
HeadIs head.Malformed bytes frame_max = (wanted_behind bytes ≡ 0) × (read_at bytes ≡ None) × SaysNoNotice bytes
HeadIs (head.Blocked b n) bytes frame_max = IsNotice bytes b n
HeadIs head.NoMemory bytes frame_max = Unit {0}

-- what stands there, where it is none that the session hears and no heartbeat
abbrev pub NoticeIs : Head → List ℕ → Type 0
NoticeIs (head.Blocked b n) bytes = (frame_said_at bytes ≡ Some (notice b)) × (n ≡ length_at bytes)
NoticeIs head.Malformed bytes = SaysNoNotice bytes
NoticeIs head.NoMemory bytes = Unit {0}
NoticeIs _ bytes = ⊥

-- the head of what came is taken from it, what it leaves, and the close that it says
abbrev pub IsTurnOf : Option Frame → Client → Client → Type 0
IsTurnOf o b d = (n : ℕ) × IsHead b.came o n b.blocked d.blocked × (d.came ≡ drop n b.came) × (d.frame_max ≡ b.frame_max) × TurnLeaves o b d × Notes o b d

-- it is taken, and not refused
abbrev pub IsTurn : Client → Client → Type 0
IsTurn b d = (o : Option Frame) × IsTurnOf o b d × TurnHears o b d

-- what becomes of the head of what came; where it isn't taken it stays, with all behind it
abbrev pub Turns : Status → Client → Client → Type 0
Turns status.Done b d = IsTurn b d
Turns status.Refused b d = (f : Frame) × IsTurnOf (Some f) b d × TurnRefuses f b d
Turns status.Pending b d = (0 < wanted_behind b.came) × (length b.came < b.frame_max) × (d ≡ b)
Turns status.Malformed b d = (wanted_behind b.came ≡ 0) × ((read_at b.came ≡ None) × SaysNoNotice b.came) × (d ≡ b)
Turns status.TooLong b d = ((b.frame_max < length_at b.came) × (d ≡ b)) ⊎ (Stops status.TooLong false b d × SameElse b d)
Turns status.Kept b d = Stops status.NoMemory false b d × SameElse b d
Turns status.Ended b d = Stops status.Ended false b d × SameElse b d
Turns _ b d = ⊥

-- what becomes of a frame of n octets at the head of what came
abbrev pub TurnsBy : Status → Frame → ℕ → Client → Client → Type 0
TurnsBy r f n b d = read_at b.came ≡ Some (read.Frame f n) → Turns r b d

-- n frames were taken, one after the other
unfoldable pub Comes : ℕ → Client → Client → Type 0
Comes zero c d = d ≡ c
Comes (suc n) c d = (b : Client) × Comes n c b × IsTurn b d

-- what a client is once more came
abbrev pub IsLonger : List ℕ → Client → Client → Type 0
IsLonger bytes c b = (b.left ≡ c.left) × (b.came ≡ c.came ++ bytes) × (b.session ≡ c.session) × (b.leaving.items ≡ c.leaving.items) × (b.frame_max ≡ c.frame_max) × (b.blocked ≡ c.blocked)
    × SameTold c b × (b.unsent ≡ c.unsent) × (b.closes.entries ≡ c.closes.entries)

-- What a run over what came leaves: each frame that was whole was taken, in order, and what is kept is the beginning of one, shorter than a
-- frame may be; where the status isn't Done the last of them has it.
abbrev pub Runs : Status → Client → Client → Type 0
Runs status.Done b d = (n : ℕ) × (Comes n b d × (0 < wanted_behind d.came) × (length d.came < d.frame_max))
Runs r b d = (n : ℕ) × ((e : Client) × (Comes n b e × Turns r e d))

-- What octets of the broker leave: they stand behind those that came before, and then each frame that is whole was taken, in order. Where
-- there was no memory for them, nothing came, and all is as it was.
abbrev pub Receives : Status → List ℕ → Client → Client → Type 0
Receives status.NoMemory bytes c d = (d.session ≡ c.session) × (d.left ≡ c.left) × SameTold c d × SameBytes c d
Receives r bytes c d = (b : Client) × (IsLonger bytes c b × Runs r b d)
