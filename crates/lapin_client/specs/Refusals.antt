-- How an error of the session is told: it is kept as it is, and told by its number and its fields.
use Rattle.std.specs.Prelude.{◌≡◌, ℕ, Bool, true, false, Some}
use Rattle.lapin_client.specs.declared.client.Client.{Client}
use Rattle.lapin_client.specs.declared.refusals.Refusal.{Refusal}
use Rattle.lapin_client.specs.declared.status.Status.{Status}
use Rattle.lapin_client.specs.declared.status.Status.TheVariants as status
use Rattle.lapin_client.specs.Clients.{SameAnswer, SameTold}
use Rattle.lapin_types.specs.Types.{ChannelState, Error}
use Rattle.lapin_types.specs.Types.channel_state as state
use Rattle.lapin_types.specs.Types.error

-- the states of a channel by number, in the order in which they are declared
abbrev pub channel_number : ChannelState → ℕ
channel_number state.Closed = 0
channel_number state.Opening = 1
channel_number state.Open = 2
channel_number state.Closing = 3
channel_number state.Crossed = 4
channel_number state.Base = 5
channel_number state.Down = 6

-- an error of a kind that has no fields
abbrev pub blank_of : ℕ → Refusal
blank_of kind = record { kind = kind; state = 0; code = 0; class_id = 0; method_id = 0; tag = 0; current = 0; limit = 0 }

-- an error by the place that its kind has among the errors, from 1, and its fields
abbrev pub refusal_of : Error → Refusal
refusal_of error.NoMemory = blank_of 1
refusal_of error.NumbersUsedUp = blank_of 2
refusal_of (error.InvalidChannelState s) = record (blank_of 3) { state = channel_number s }
refusal_of (error.ProtocolError code) = record (blank_of 4) { code = code }
refusal_of error.ConnectionLost = blank_of 5
refusal_of (error.UnexpectedFrame class method) = record (blank_of 6) { class_id = class; method_id = method }
refusal_of (error.PreconditionFailed tag current) = record (blank_of 7) { tag = tag; current = current }
refusal_of error.AlreadyTaken = blank_of 8
refusal_of error.UnknownTicket = blank_of 9
refusal_of (error.ConfirmsOutstanding limit) = record (blank_of 10) { limit = limit }

-- an error by which the session did something, or refused to
abbrev pub is_refusal : Error → Bool
is_refusal error.NoMemory = false
is_refusal error.NumbersUsedUp = false
is_refusal _ = true

-- the error is kept as the last one, and the answer is the same
abbrev pub Keeps : Error → Client → Client → Type 0
Keeps e c d = (d.refused ≡ Some e) × SameAnswer c d

-- What an error is told as by which nothing was done: a refusal is kept; want of numbers is the end, and want of memory that, and nothing is
-- kept then.
abbrev pub IsTold : Status → Error → Client → Client → Type 0
IsTold status.Refused e c d = (is_refusal e ≡ true) × Keeps e c d
IsTold status.NoMemory e c d = (e ≡ error.NoMemory) × SameTold c d
IsTold status.Ended e c d = (e ≡ error.NumbersUsedUp) × SameTold c d
IsTold _ e c d = ⊥
