-- The lines of events.
use Rattle.std.specs.Prelude.{◌≡◌, ℕ, true, List, [], ◌∷◌, codes}
use Rattle.std.specs.List.{join_with_byte}
use Rattle.lapin_types.specs.declared.event.Event.{Event}
use Rattle.lapin_types.specs.declared.event.Event.TheVariants as event
use Rattle.lapin_types.specs.declared.acker_call.AckerCall.{AckerCall}
use Rattle.lapin_types.specs.declared.acker_call.AckerCall.TheVariants as acker_call
use Rattle.lapin_tokens.specs.Fields.{token, fits, short_number, wide_number}
use Rattle.lapin_tokens.specs.Fields.Field.{flag}
use Rattle.lapin_text.specs.Frames.{frame_tokens, FrameFits}
use Rattle.lapin_text.specs.CallText.{call_tokens, CallFits}

-- `ack MULTIPLE`, `nack MULTIPLE REQUEUE` or `reject REQUEUE`
abbrev pub acker_call_tokens : AckerCall → List (List ℕ)
acker_call_tokens (acker_call.Ack options) = codes "ack" ∷ token flag options.multiple ∷ []
acker_call_tokens (acker_call.Nack options) = codes "nack" ∷ token flag options.multiple ∷ token flag options.requeue ∷ []
acker_call_tokens (acker_call.Reject options) = codes "reject" ∷ token flag options.requeue ∷ []

-- `call C NAME ARGS`, `next BOOL`, `recv FRAME`, `ticket N`, `confirm N`, `consumer N`, `wait C`, `aside-ticket N`, `aside-confirm N`,
-- `acker N` and the acker's call, `delegate N`, `drop N`, `job`, `state C` or `lost`
abbrev pub event_tokens : Event → List (List ℕ)
event_tokens (event.Call channel call) = codes "call" ∷ token short_number channel ∷ call_tokens call
event_tokens (event.Next flow) = codes "next" ∷ token flag flow ∷ []
event_tokens (event.Receive frame) = codes "recv" ∷ frame_tokens frame
event_tokens (event.PollTicket number) = codes "ticket" ∷ token wide_number number ∷ []
event_tokens (event.PollConfirm number) = codes "confirm" ∷ token wide_number number ∷ []
event_tokens (event.PollConsumer number) = codes "consumer" ∷ token wide_number number ∷ []
event_tokens (event.PollWait channel) = codes "wait" ∷ token short_number channel ∷ []
event_tokens (event.AsideTicket number) = codes "aside-ticket" ∷ token wide_number number ∷ []
event_tokens (event.AsideConfirm number) = codes "aside-confirm" ∷ token wide_number number ∷ []
event_tokens (event.Acker number call) = codes "acker" ∷ token wide_number number ∷ acker_call_tokens call
event_tokens (event.Delegate number) = codes "delegate" ∷ token wide_number number ∷ []
event_tokens (event.DropConsumer number) = codes "drop" ∷ token wide_number number ∷ []
event_tokens event.NextJob = codes "job" ∷ []
event_tokens (event.State channel) = codes "state" ∷ token short_number channel ∷ []
event_tokens event.Lost = codes "lost" ∷ []

-- the events that have a line: their numbers are in range, their texts are short, their tables nest at most 8 levels, and no kind of an
-- exchange is a custom one with the text of a named kind
abbrev pub HasLine : Event → Type 0
HasLine (event.Call channel call) = (fits short_number channel ≡ true) × CallFits call
HasLine (event.Next flow) = fits flag flow ≡ true
HasLine (event.Receive frame) = FrameFits frame
HasLine (event.PollTicket number) = fits wide_number number ≡ true
HasLine (event.PollConfirm number) = fits wide_number number ≡ true
HasLine (event.PollConsumer number) = fits wide_number number ≡ true
HasLine (event.PollWait channel) = fits short_number channel ≡ true
HasLine (event.AsideTicket number) = fits wide_number number ≡ true
HasLine (event.AsideConfirm number) = fits wide_number number ≡ true
HasLine (event.Acker number call) = fits wide_number number ≡ true
HasLine (event.Delegate number) = fits wide_number number ≡ true
HasLine (event.DropConsumer number) = fits wide_number number ≡ true
HasLine event.NextJob = Unit {0}
HasLine (event.State channel) = fits short_number channel ≡ true
HasLine event.Lost = Unit {0}

-- an event's line: its tokens with one space between them
abbrev pub line_of : Event → List ℕ
line_of event = join_with_byte 32 (event_tokens event)
