-- The loop of a caller: turns of a session and a wire.
use Rattle.std.specs.Prelude.{◌≡◌, ◌⊎◌, ◌||◌, ◌<◌, ℕ, zero, suc, Bool, true, false, Option, Some, None, if◌then◌else◌}
use Rattle.lapin_types.specs.Types.{Frame, Error}
use Rattle.lapin_types.specs.Types.error
use Rattle.lapin_types.specs.declared.event.Event.TheVariants as event
use Rattle.lapin_types.specs.declared.leaving.Left.{Left}
use Rattle.lapin_types.specs.declared.record.Record.TheVariants as record_
use Rattle.lapin_rules.specs.Phases.{is_lost}
use Rattle.lapin_outbox.specs.Returned.{is_retried}
use Rattle.lapin_machine.specs.Numbers.{EventUsedUp}
use Rattle.lapin_machine.specs.World.{World, told_by, next, with_returned}
use Rattle.lapin_loop.specs.declared.turns.Turn.{Turn}
use Rattle.lapin_loop.specs.declared.turns.Turn.TheVariants as turn
use Rattle.lapin_loop.specs.declared.turns.Rest.{Rest}
use Rattle.lapin_loop.specs.declared.turns.Rest.TheVariants as rest

-- a frame is given back, but not where the connection is lost or another is given back
abbrev pub given_back_in : Left → World → World
given_back_in l w = if is_lost w.wire.link || is_retried w.returned then w else with_returned (Some l) w

-- the wire, which was s and is t, is given a frame that left, and the session, which was v and is w, has it back where it isn't taken
abbrev pub IsSent : {S : Type 0} → (S → Frame → Bool → S → Type 0) → Left → Turn → World → World → S → S → Type 0
IsSent takes l turn.Sent v w s t = takes s l.frame true t × (w ≡ v)
IsSent takes l turn.Broken v w s t = takes s l.frame false t × (w ≡ given_back_in l v)
IsSent takes l _ v w s t = ⊥

-- the session refused a frame by this error, and did what its rules say; where the frame lacks a number nothing is done
abbrev pub IsRefused : Error → Frame → World → World → Type 0
IsRefused error.NumbersUsedUp f v w = EventUsedUp (event.Receive f) v.wire × (w ≡ v)
IsRefused e f v w = (told_by v (event.Receive f) ≡ record_.Refused e) × (w ≡ next v (event.Receive f))

-- the session takes a frame, or passes over it
abbrev pub IsReceived : Frame → World → Type 0
IsReceived f v = (told_by v (event.Receive f) ≡ record_.Received) ⊎ (told_by v (event.Receive f) ≡ record_.Passed)

-- the wire is asked for a frame, and one that it gave is heard: the session takes it, or refuses it as its record says
abbrev pub IsHeard : {S : Type 0} → (S → Option Frame → S → Type 0) → Turn → World → World → S → S → Type 0
IsHeard gives turn.Heard v w s t = (f : Frame) × gives s (Some f) t × IsReceived f v × (w ≡ next v (event.Receive f))
IsHeard gives (turn.Refused e) v w s t = (f : Frame) × gives s (Some f) t × IsRefused e f v w
IsHeard gives turn.Quiet v w s t = gives s None t × (w ≡ v)
IsHeard gives _ v w s t = ⊥

-- the wire gave a frame, for which there was no memory
abbrev pub IsUnheard : {S : Type 0} → (S → Option Frame → S → Type 0) → World → World → S → S → Type 0
IsUnheard gives v w s t = (f : Frame) × gives s (Some f) t × (w ≡ v)

-- a request for a frame finds none
abbrev pub NoneLeft : World → World → Type 0
NoneLeft v w = (told_by v (event.Next true) ≡ record_.NoFrame) × (w ≡ next v (event.Next true))

-- a request for a frame gives this one
abbrev pub FrameLeft : Left → World → World → Type 0
FrameLeft l v w = (told_by v (event.Next true) ≡ record_.Frame l.frame) × (w ≡ next v (event.Next true))

-- a turn: a frame leaves by a request and is given to the wire; or none does, and the wire is asked for one
abbrev pub IsTurn : {S : Type 0} → (S → Frame → Bool → S → Type 0) → (S → Option Frame → S → Type 0) → Turn → World → World → S → S → Type 0
IsTurn takes gives turn.Sent v w s t = (l : Left) × (u : World) × FrameLeft l v u × IsSent takes l turn.Sent u w s t
IsTurn takes gives turn.Broken v w s t = (l : Left) × (u : World) × FrameLeft l v u × IsSent takes l turn.Broken u w s t
IsTurn takes gives m v w s t = (u : World) × NoneLeft v u × IsHeard gives m u w s t

-- a turn for which there was no memory: nothing was done, or no frame waited and one that came was not heard
abbrev pub IsCut : {S : Type 0} → (S → Option Frame → S → Type 0) → World → World → S → S → Type 0
IsCut gives v w s t = ((w ≡ v) × (t ≡ s)) ⊎ ((u : World) × NoneLeft v u × IsUnheard gives u w s t)

-- what the last turn was
abbrev pub last_turn : Rest → Turn
last_turn rest.Quiet = turn.Quiet
last_turn rest.Broken = turn.Broken
last_turn (rest.Refused e) = turn.Refused e

-- a turn, after which the loop goes on, since a frame left or came; or with which it ends
abbrev pub IsMade : {S : Type 0} → (S → Frame → Bool → S → Type 0) → (S → Option Frame → S → Type 0) → Option Rest → World → World → S → S → Type 0
IsMade takes gives None v w s t = IsTurn takes gives turn.Sent v w s t ⊎ IsTurn takes gives turn.Heard v w s t
IsMade takes gives (Some r) v w s t = IsTurn takes gives (last_turn r) v w s t

-- n turns, after each of which the loop goes on
abbrev pub AreTurns : {S : Type 0} → (S → Frame → Bool → S → Type 0) → (S → Option Frame → S → Type 0) → ℕ → World → World → S → S → Type 0
AreTurns takes gives zero v x s u = (x ≡ v) × (u ≡ s)
AreTurns {S} takes gives (suc n) v x s u = (w : World) × (t : S) × AreTurns takes gives n v w s t × IsMade takes gives None w x t u

-- a loop of as many turns as were allowed, or of fewer and the one with which it ends
abbrev pub IsDriven : {S : Type 0} → (S → Frame → Bool → S → Type 0) → (S → Option Frame → S → Type 0) → ℕ → Option Rest → World → World → S → S → Type 0
IsDriven takes gives turns None v x s u = AreTurns takes gives turns v x s u
IsDriven {S} takes gives turns (Some r) v x s u = (n : ℕ) × (w : World) × (t : S) × (n < turns) × AreTurns takes gives n v w s t × IsMade takes gives (Some r) w x t u

-- a loop of fewer turns than were allowed, and one for which there was no memory
abbrev pub IsCutShort : {S : Type 0} → (S → Frame → Bool → S → Type 0) → (S → Option Frame → S → Type 0) → ℕ → World → World → S → S → Type 0
IsCutShort {S} takes gives turns v x s u = (n : ℕ) × (w : World) × (t : S) × (n < turns) × AreTurns takes gives n v w s t × IsCut gives w x t u
