-- Frames that leave, as octets.
use Rattle.std.specs.Prelude.{◌≡◌, ◌<◌, ◌≤◌, ◌+◌, ◌⊎◌, ℕ, zero, suc, Bool, false, List, [], ◌++◌, length, Option, Some, None}
use Rattle.lapin_client.specs.declared.client.Client.{Client}
use Rattle.lapin_client.specs.declared.status.Status.{Status}
use Rattle.lapin_client.specs.declared.sending.Step.{Step}
use Rattle.lapin_client.specs.declared.sending.Step.TheVariants as step
use Rattle.lapin_client.specs.declared.status.Status.TheVariants as status
use Rattle.lapin_frames.specs.FrameFits.{FrameFits}
use Rattle.lapin_frames.specs.Frames.{bytes_of}
use Rattle.lapin_machine.specs.World.{World, next, told_by}
use Rattle.lapin_types.specs.declared.event.Event.TheVariants as event
use Rattle.lapin_types.specs.declared.leaving.Left.{Left}
use Rattle.lapin_types.specs.declared.record.Record.{Record}
use Rattle.lapin_types.specs.declared.record.Record.TheVariants as record_

-- the octets of the frame in a record, if it has one
abbrev pub record_bytes : Record → List ℕ
record_bytes (record_.Frame f) = bytes_of f
record_bytes _ = []

-- the session after n frame requests, one after the other
abbrev pub after_requests : ℕ → Bool → World → World
after_requests zero flow w = w
after_requests (suc n) flow w = next (after_requests n flow w) (event.Next flow)

-- the octets of the frames that n requests hand out, in their order
abbrev pub bytes_handed : ℕ → Bool → World → List ℕ
bytes_handed zero flow w = []
bytes_handed (suc n) flow w = bytes_handed n flow w ++ record_bytes (told_by (after_requests n flow w) (event.Next flow))

-- none of the frames that n requests hand out has more octets than that
abbrev pub AllWithin : ℕ → ℕ → Bool → World → Type 0
AllWithin most zero flow w = Unit {0}
AllWithin most (suc n) flow w = AllWithin most n flow w × (length (record_bytes (told_by (after_requests n flow w) (event.Next flow))) ≤ most)

-- the frame in a record, if it has one, can be read back
abbrev pub RecordFits : Record → Type 0
RecordFits (record_.Frame f) = FrameFits f
RecordFits _ = Unit {0}

-- each of the frames that n requests hand out can be read back
abbrev pub AllFit : ℕ → Bool → World → Type 0
AllFit zero flow w = Unit {0}
AllFit (suc n) flow w = AllFit n flow w × RecordFits (told_by (after_requests n flow w) (event.Next flow))

-- nothing may leave
abbrev pub IsIdle : Bool → World → Type 0
IsIdle flow w = told_by w (event.Next flow) ≡ record_.NoFrame

-- the octets of the frame that is held since there was no memory for them, if one is
abbrev pub held_bytes : Option Left → List ℕ
held_bytes None = []
held_bytes (Some l) = bytes_of l.frame

-- the octets that are to be sent: those that are written, and behind them those of the frame that is held
abbrev pub to_leave : Client → List ℕ
to_leave c = c.leaving.items ++ held_bytes c.unsent

-- the frame that is held, if one is, can be read back, and has no more octets than that
abbrev pub HeldFits : ℕ → Option Left → Type 0
HeldFits most None = Unit {0}
HeldFits most (Some l) = (length (bytes_of l.frame) ≤ most) × FrameFits l.frame

-- of two clients all is the same but the session, the octets that are to be sent and the steps that are left
abbrev pub SameElse : Client → Client → Type 0
SameElse c d = (d.answer.items ≡ c.answer.items) × (d.came ≡ c.came) × (d.frame_max ≡ c.frame_max) × (d.blocked ≡ c.blocked) × (d.closes.entries ≡ c.closes.entries) × (d.handed ≡ c.handed) × (d.refused ≡ c.refused)

-- Frames were asked for n times, each of which used up one step, and the octets of those that left stand behind those that were to be sent;
-- none is longer than a frame may be, each can be read back, and none is held.
abbrev pub HandsOut : ℕ → Bool → Client → Client → Type 0
HandsOut n flow c d = (d.session ≡ after_requests n flow c.session) × ((d.leaving.items ≡ to_leave c ++ bytes_handed n flow c.session) × AllWithin c.frame_max n flow c.session × (d.left + n ≡ c.left) × AllFit n flow c.session
    × (d.unsent ≡ None) × HeldFits c.frame_max c.unsent)

-- a frame can't leave: it is longer than a frame may be, or has no octets
abbrev pub CantLeave : Record → ℕ → Type 0
CantLeave (record_.Frame f) most = (FrameFits f → ⊥) ⊎ (most < length (bytes_of f))
CantLeave _ most = ⊥

-- nothing was written, and nothing was asked for
abbrev pub Waits : Client → Client → Type 0
Waits c d = (d.session ≡ c.session) × (d.leaving.items ≡ c.leaving.items) × (d.left ≡ c.left) × (d.unsent ≡ c.unsent)

-- one more frame was handed out, for whose octets there was no memory: it is held
abbrev pub Holds : Bool → Client → Client → Type 0
Holds flow b d = (l : Left) × (told_by b.session (event.Next flow) ≡ record_.Frame l.frame) × (d.session ≡ next b.session (event.Next flow)) × (d.leaving.items ≡ b.leaving.items) × (d.left + 1 ≡ b.left) × (d.unsent ≡ Some l)

-- one more frame was handed out, which can't leave
abbrev pub Loses : Bool → Client → Client → Type 0
Loses flow b d = CantLeave (told_by b.session (event.Next flow)) b.frame_max × (d.session ≡ next b.session (event.Next flow)) × (d.leaving.items ≡ b.leaving.items) × (d.left ≡ 0) × (d.unsent ≡ None)

-- the frame that was held can't leave
abbrev pub LosesHeld : Client → Client → Type 0
LosesHeld c d = ((l : Left) × (c.unsent ≡ Some l) × CantLeave (record_.Frame l.frame) c.frame_max) × (d.session ≡ c.session) × (d.leaving.items ≡ c.leaving.items) × (d.left ≡ 0) × (d.unsent ≡ None)

-- Why requests came to no end, and what they leave. Want of memory: what was handed out before stands behind what was to be sent, and a frame for
-- whose octets there was none is held, so that nothing is lost. Too long: the frame that was handed out last is lost, and none else, and the
-- client ends. The end: as many requests were made as the client takes steps.
abbrev pub Stops : Status → Bool → Client → Client → Type 0
Stops status.NoMemory flow c d = (Waits c d ⊎ ((n : ℕ) × HandsOut n flow c d)) ⊎ ((n : ℕ) × (b : Client) × HandsOut n flow c b × Holds flow b d)
Stops status.TooLong flow c d = LosesHeld c d ⊎ ((n : ℕ) × (b : Client) × HandsOut n flow c b × (b.frame_max ≡ c.frame_max) × Loses flow b d)
Stops status.Ended flow c d = ((n : ℕ) × HandsOut n flow c d) × (d.left ≡ 0)
Stops _ flow c d = ⊥

-- a frame is written; or there was no memory for its octets, and it is held; or it can't leave, and the client ends
abbrev pub Writes : Status → Left → Client → Client → Type 0
Writes status.Done l c d = (d.leaving.items ≡ c.leaving.items ++ bytes_of l.frame) × (length (bytes_of l.frame) ≤ c.frame_max) × FrameFits l.frame × (d.left ≡ c.left) × (d.unsent ≡ None) × (d.session ≡ c.session) × SameElse c d
Writes status.NoMemory l c d = (d.leaving.items ≡ c.leaving.items) × (d.left ≡ c.left) × (d.unsent ≡ Some l) × (d.session ≡ c.session) × SameElse c d
Writes status.TooLong l c d = CantLeave (record_.Frame l.frame) c.frame_max × (d.leaving.items ≡ c.leaving.items) × (d.left ≡ 0) × (d.unsent ≡ None) × (d.session ≡ c.session) × SameElse c d
Writes _ l c d = ⊥

-- the same of the frame that is held, if one is
abbrev pub WritesHeld : Status → Client → Client → Type 0
WritesHeld status.Done c d = HandsOut 0 false c d × SameElse c d
WritesHeld status.NoMemory c d = Waits c d × SameElse c d
WritesHeld status.TooLong c d = LosesHeld c d × SameElse c d
WritesHeld _ c d = ⊥

-- one request: a frame left, or none may leave; or there was no memory, or the frame can't leave
abbrev pub Steps : Step → Bool → Client → Client → Type 0
Steps step.Left flow c d = (d.session ≡ next c.session (event.Next flow)) × (d.leaving.items ≡ c.leaving.items ++ record_bytes (told_by c.session (event.Next flow))) × (length (record_bytes (told_by c.session (event.Next flow))) ≤ c.frame_max)
    × RecordFits (told_by c.session (event.Next flow)) × (d.left + 1 ≡ c.left) × (d.unsent ≡ None) × SameElse c d
Steps step.Idle flow c d = IsIdle flow c.session × (d.session ≡ next c.session (event.Next flow)) × (d.leaving.items ≡ c.leaving.items) × (d.left + 1 ≡ c.left) × (d.unsent ≡ None) × SameElse c d
Steps (step.Lost status.NoMemory) flow c d = (Waits c d ⊎ Holds flow c d) × SameElse c d
Steps (step.Lost status.TooLong) flow c d = Loses flow c d × SameElse c d
Steps (step.Lost _) flow c d = ⊥

-- each of n requests was made where fewer octets than enough were to be sent
abbrev pub AllWanted : ℕ → ℕ → Bool → Client → Type 0
AllWanted enough zero flow c = Unit {0}
AllWanted enough (suc n) flow c = AllWanted enough n flow c × (length (to_leave c ++ bytes_handed n flow c.session) < enough)

-- n requests were made, and no more: the last of them handed nothing out, or there are octets enough
abbrev pub Suffices : ℕ → ℕ → Bool → Client → Client → Type 0
Suffices enough n flow c d = ((m : ℕ) × (n ≡ suc m) × IsIdle flow (after_requests m flow c.session)) ⊎ (enough ≤ length d.leaving.items)

-- What leaves: frames were asked for until there was none, or until there were octets enough.
abbrev pub Pulls : Status → ℕ → Bool → Client → Client → Type 0
Pulls status.Done enough flow c d = ((n : ℕ) × HandsOut n flow c d × AllWanted enough n flow c × Suffices enough n flow c d) × SameElse c d
Pulls r enough flow c d = Stops r flow c d × SameElse c d

-- What leaves where no publish may begin: frames were asked for until there was none.
abbrev pub Finishes : Status → Client → Client → Type 0
Finishes status.Done c d = ((n : ℕ) × HandsOut (suc n) false c d × IsIdle false (after_requests n false c.session)) × SameElse c d
Finishes r c d = Stops r false c d × SameElse c d

-- What leaves: frames were asked for where publishes may begin as the caller says, until there were octets enough, and then until none is
-- left where none may begin. It stops in the first stretch, or in that behind it.
abbrev pub Sends : Status → Bool → ℕ → Client → Client → Type 0
Sends status.Done flow enough c d = ((b : Client) × (Pulls status.Done enough flow c b × Finishes status.Done b d))
Sends r flow enough c d = (Stops r flow c d ⊎ ((b : Client) × Pulls status.Done enough flow c b × Stops r false b d)) × SameElse c d
