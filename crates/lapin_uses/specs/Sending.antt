-- What the socket's thread of the running client does: it asks for frames one at a time, and gives each to the socket.
use Rattle.std.specs.Prelude.{◌≡◌, ℕ, zero, suc, Bool, true, false, Option, Some, None, Result, Ok, Err}
use Rattle.lapin_types.specs.Types.{Frame}
use Rattle.lapin_types.specs.declared.event.Event.TheVariants as event
use Rattle.lapin_types.specs.declared.record.Record.{Record}
use Rattle.lapin_types.specs.declared.record.Record.TheVariants as record_
use Rattle.lapin_shared.specs.declared.caller.StepError.{StepError}
use Rattle.lapin_locked.specs.Known.{told}
use Rattle.lapin_shared.specs.Grown.{Seen, Grew}
use Rattle.lapin_shared.specs.Failed.{IfFailed}
use Rattle.lapin_uses.specs.declared.socket.Sent.{Sent}
use Rattle.lapin_uses.specs.declared.socket.Sent.TheVariants as sent

-- the frame that a record tells, if it tells one
abbrev pub frame_of : Record → Option Frame
frame_of (record_.Frame f) = Some f
frame_of _ = None

-- the frame that an entry's answer tells
abbrev pub frame_in : Option Record → Option Frame
frame_in None = None
frame_in (Some r) = frame_of r

-- what is done with the frame that an entry tells: the socket, which was s and is t, is given it; without a frame nothing is done
abbrev pub IsWritten : {S : Type 0} → (S → Frame → Bool → S → Type 0) → Option Frame → Sent → S → S → Type 0
IsWritten takes (Some f) sent.Taken s t = takes s f true t
IsWritten takes (Some f) sent.Broken s t = takes s f false t
IsWritten takes None sent.Nothing s t = t ≡ s
IsWritten takes _ _ s t = ⊥

-- the log grew by one request, by which this frame left
abbrev pub FrameLeft : Seen → Frame → Seen → Type 0
FrameLeft a f b = (p : ℕ) × Grew a b (told p (event.Next true) (Some (record_.Frame f)))

-- the log grew by one request, which found no frame
abbrev pub NoFrameLeft : Seen → Seen → Type 0
NoFrameLeft a b = (p : ℕ) × Grew a b (told p (event.Next true) (Some record_.NoFrame))

-- one request for a frame: the caller was a and is b, the socket was s and is t
abbrev pub OneSent : {S : Type 0} → (S → Frame → Bool → S → Type 0) → Result Sent StepError → Seen → Seen → S → S → Type 0
OneSent takes (Ok sent.Taken) a b s t = (f : Frame) × FrameLeft a f b × takes s f true t
OneSent takes (Ok sent.Broken) a b s t = (f : Frame) × FrameLeft a f b × takes s f false t
OneSent takes (Ok sent.Nothing) a b s t = NoFrameLeft a b × (t ≡ s)
OneSent takes (Err e) a b s t = IfFailed a (event.Next true) e b × (t ≡ s)

-- n frames left, one behind the other, and the socket took each as it came
abbrev pub AllTaken : {S : Type 0} → (S → Frame → Bool → S → Type 0) → ℕ → Seen → Seen → S → S → Type 0
AllTaken takes zero a c s u = (c ≡ a) × (u ≡ s)
AllTaken {S} takes (suc n) a c s u = (b : Seen) × (t : S) × AllTaken takes n a b s t × OneSent takes (Ok sent.Taken) b c t u

-- what the last request came to: on true it found no frame, on false the socket didn't take the frame
abbrev pub last_request : Result Bool StepError → Result Sent StepError
last_request (Ok true) = Ok sent.Nothing
last_request (Ok false) = Ok sent.Broken
last_request (Err e) = Err e

-- the log grew by requests for a frame alone, and the socket was given each frame that left: some were taken, and the last request
-- was the end of it
abbrev pub AllSent : {S : Type 0} → (S → Frame → Bool → S → Type 0) → Result Bool StepError → Seen → Seen → S → S → Type 0
AllSent {S} takes r a c s u = (n : ℕ) × (b : Seen) × (t : S) × AllTaken takes n a b s t × OneSent takes (last_request r) b c t u
