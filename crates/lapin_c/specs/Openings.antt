-- An opening in the hands of C, and what its calls leave.
use Rattle.std.specs.Prelude.{◌≡◌, ◌<◌, ◌++◌, ◌⊎◌, ℕ, ◌==◌, List, [], drop, length, Ok, if◌then◌else◌}
use Rattle.lapin_fields.specs.Reading.{Fails}
use Rattle.lapin_fields.specs.declared.fault.ReadFault.{ReadFault}
use Rattle.lapin_fields.specs.declared.fault.ReadFault.TheVariants as reads
use Rattle.lapin_c.specs.declared.opening.Opening.{Opening}
use Rattle.lapin_handshake.specs.declared.clock.Beat.{Beat}
use Rattle.lapin_handshake.specs.declared.clock.Beat.TheVariants as beat
use Rattle.lapin_handshake.specs.declared.handshake.Handshake.{Handshake}
use Rattle.lapin_handshake.specs.declared.handshake.Stage.{Stage}
use Rattle.lapin_handshake.specs.declared.handshake.Stage.TheVariants as stage
use Rattle.lapin_handshake.specs.declared.fault.Unsaid.{Unsaid}
use Rattle.lapin_handshake.specs.declared.fault.Unsaid.TheVariants as unsaid
use Rattle.lapin_handshake.specs.declared.mechanism.Mechanism.{Mechanism}
use Rattle.lapin_handshake.specs.declared.mechanism.Mechanism.TheVariants as mechanism
use Rattle.lapin_handshake.specs.declared.shaking.Shaken.{Shaken}
use Rattle.lapin_handshake.specs.declared.shaking.Shaken.TheVariants as shaken
use Rattle.lapin_handshake.specs.declared.start.Place.{Place}
use Rattle.lapin_handshake.specs.Callers.{Who, AreTellable}
use Rattle.lapin_handshake.specs.Handshaking.{code_of}
use Rattle.lapin_handshake.specs.Shaking.{IsShaken, Unshaken}
use Rattle.lapin_handshake.specs.Starting.{start_in, GivesPlace}

-- the stages by number
abbrev pub stage_of : ℕ → Stage
stage_of n = if n == 0 then stage.Start else if n == 1 then stage.Tune else if n == 2 then stage.Open else if n == 3 then stage.Opened else stage.Refused

-- the numbers of the stages
abbrev pub number_of : Stage → ℕ
number_of stage.Start = 0
number_of stage.Tune = 1
number_of stage.Open = 2
number_of stage.Opened = 3
number_of stage.Refused = 4

-- the mechanisms by number
abbrev pub mechanism_of : ℕ → Mechanism
mechanism_of n = if n == 0 then mechanism.Plain else if n == 1 then mechanism.AmqPlain else mechanism.External

-- the numbers of the mechanisms
abbrev pub word_number : Mechanism → ℕ
word_number mechanism.Plain = 0
word_number mechanism.AmqPlain = 1
word_number mechanism.External = 2

-- the opening that C holds
abbrev pub handshake_of : Opening → Handshake
handshake_of o = record { stage = stage_of o.stage; mechanism = mechanism_of o.mechanism; limits = record { channel_max = o.channel_max; frame_max = o.frame_max; heartbeat = o.heartbeat } }

-- what C holds of an opening
abbrev pub opening_of : Handshake → Opening
opening_of h = record { stage = number_of h.stage; frame_max = h.limits.frame_max; channel_max = h.limits.channel_max; heartbeat = h.limits.heartbeat; mechanism = word_number h.mechanism }

-- what a clock says by number, with the milliseconds of a wait
abbrev pub IsBeat : ℕ → ℕ → ℕ → Beat → Type 0
IsBeat code old new (beat.Wait n) = (code ≡ 0) × (new ≡ n)
IsBeat code old new beat.Send = (code ≡ 1) × (new ≡ old)
IsBeat code old new beat.Silent = (code ≡ 2) × (new ≡ old)
IsBeat code old new beat.Never = (code ≡ 3) × (new ≡ old)

-- the numbers by which C is told what became of octets of the broker, and the code of a refusal; else the code is as it was
abbrev pub IsTold : Shaken → ℕ → ℕ → ℕ → Type 0
IsTold shaken.Part result old new = (result ≡ 8) × (new ≡ old)
IsTold shaken.Read result old new = (result ≡ 0) × (new ≡ old)
IsTold (shaken.Refused e) result old new = (result ≡ 1) × (new ≡ code_of e)

-- the number of a fault: there was no memory, or what is told of this side can't be told or has no room in a frame
abbrev pub fault_number : Unsaid → ℕ
fault_number unsaid.NoMemory = 3
fault_number unsaid.NotPairs = 2
fault_number unsaid.TooLong = 2

-- the reply stands at the beginning of the room, and what is behind it as it was
abbrev pub IsWritten : ℕ → List ℕ → List ℕ → List ℕ → Type 0
IsWritten written reply old new = (written ≡ length reply) × (new ≡ reply ++ drop (length reply) old)

-- why nothing was done: there was no room for the reply, or a fault kept it from being made
abbrev pub IsUndone : ℕ → List ℕ → Who → Opening → List ℕ → Type 0
IsUndone result bytes who o room =
    ((s : Shaken) × (h : Handshake) × (reply : List ℕ) × IsShaken s bytes who (handshake_of o) h [] reply × (length room < length reply) × (result ≡ 6))
    ⊎ ((fault : Unsaid) × Unshaken fault bytes who (handshake_of o) × (result ≡ fault_number fault))

-- What becomes of octets of the broker: the caller's pairs can be told, the opening goes on, its reply is written and the number is told; or
-- nothing is done.
abbrev pub Shakes : ℕ → List ℕ → Who → Opening → Opening → List ℕ → List ℕ → ℕ → ℕ → ℕ → Type 0
Shakes result bytes who o o' old new written code code' =
    ((s : Shaken) × (h : Handshake) × (reply : List ℕ) × AreTellable who.pairs × IsShaken s bytes who (handshake_of o) h [] reply × (o' ≡ opening_of h) × IsWritten written reply old new × IsTold s result code code')
    ⊎ (IsUndone result bytes who o old × (o' ≡ o) × (written ≡ 0) × (new ≡ old) × (code' ≡ code))

-- the number of a reader's fault
abbrev pub read_number : ReadFault → ℕ
read_number reads.Malformed = 2
read_number reads.NoMemory = 3

-- where the broker's properties stand is written where a start stands at the head of octets, and else the place is as it was
abbrev pub GavePlace : ℕ → List ℕ → Place → Place → Type 0
GavePlace result bytes old new =
    ((result ≡ 0) × GivesPlace (Ok new) bytes (start_in bytes)) ⊎ ((e : ReadFault) × Fails e (start_in bytes) × (result ≡ read_number e) × (new ≡ old))
