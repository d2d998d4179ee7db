-- What is taken back after a loss.
use Rattle.std.specs.Prelude.{◌≡◌, ℕ, Bool, true, false, if◌then◌else◌, List, [], ◌∷◌, ◌++◌, Result, Ok, Err}
use Rattle.lapin_types.specs.declared.record.Record.{Record}
use Rattle.lapin_types.specs.Types.{Error}
use Rattle.lapin_types.specs.Types.error
use Rattle.lapin_types.specs.declared.event.Event.TheVariants as event
use Rattle.lapin_types.specs.declared.record.Record.TheVariants as record_
use Rattle.lapin_machine.specs.World.{World, told_by, next}
use Rattle.lapin_uses.specs.declared.outcomes.Advice.{Advice}
use Rattle.lapin_uses.specs.declared.outcomes.Advice.TheVariants as advice
use Rattle.lapin_uses.specs.declared.publisher.Message.{Message}
use Rattle.lapin_uses.specs.declared.publisher.Waiting.{Waiting}
use Rattle.lapin_uses.specs.Outcomes.{advised}

-- what a poll says to do; where it says nothing, the message may be in a queue or not
abbrev pub advised_by : Record → Advice
advised_by (record_.Confirmed o) = advised o
advised_by (record_.Refused e) = advised (Err e)
advised_by _ = advice.AgainWithId

-- the broker has taken the message over
abbrev pub is_done : Advice → Bool
is_done advice.Done = true
is_done _ = false

-- a message is kept unless it is done
abbrev pub kept : Advice → Message → List Message
kept a m = if is_done a then [] else m ∷ []

-- the messages that are kept of those that wait, each by the poll of its confirm, oldest first
abbrev pub kept_of : World → List Waiting → List Message
kept_of w [] = []
kept_of w (x ∷ xs) = kept (advised_by (told_by w (event.PollConfirm x.confirm.number))) x.message
    ++ kept_of (next w (event.PollConfirm x.confirm.number)) xs

-- why no channel is being opened in a new session: memory wanted, or it is channel 0, which is the connection's
abbrev pub OpenCause : {T : Type 0} → Result T Error → ℕ → Type 0
OpenCause (Ok x) c = Unit {0}
OpenCause (Err error.NoMemory) c = Unit {0}
OpenCause (Err (error.InvalidChannelState s)) c = c ≡ 0
OpenCause (Err _) c = ⊥
