-- What is answered to who asks for the result of a confirm: `answer_at` without the returned message, `answer_with` with it.
use Rattle.std.specs.Prelude.{ℕ, ◌==◌, nat_lt, Bool, ◌||◌, if◌then◌else◌, Option, Some, None, Result, Ok, Err, length}
use Rattle.lapin_types.specs.declared.Error.{Error}
use Rattle.lapin_types.specs.declared.Error.TheVariants as error
use Rattle.lapin_types.specs.declared.confirmation.Confirmation.{Confirmation}
use Rattle.lapin_types.specs.declared.confirmation.Confirmation.TheVariants as confirmation
use Rattle.lapin_types.specs.declared.message.BasicReturnMessage.{BasicReturnMessage}
use Rattle.lapin_types.specs.declared.outcome.Outcome.{Outcome}
use Rattle.lapin_types.specs.declared.outcome.Outcome.TheVariants as outcome
use Rattle.lapin_tables.specs.Numbered.{under}
use Rattle.lapin_confirm.specs.declared.cell.Cell.{Cell}
use Rattle.lapin_confirm.specs.declared.cell.Cell.TheVariants as cell
use Rattle.lapin_confirm.specs.PublishStates.{PublishStates}

-- an outcome as the result of the publish
abbrev pub result_of : Outcome → Result Confirmation Error
result_of outcome.NotRequested = Ok confirmation.NotRequested
result_of outcome.Ack = Ok (confirmation.Ack None)
result_of outcome.Nack = Ok (confirmation.Nack None)
result_of (outcome.Failed e) = Err e

-- the result once; none while it is not there
abbrev pub answer_in : Option Cell → Result (Option (Result Confirmation Error)) Error
answer_in None = Err error.AlreadyTaken
answer_in (Some (cell.Queued d)) = Ok None
answer_in (Some (cell.Pending d t)) = Ok None
answer_in (Some (cell.Resolved o)) = Ok (Some (result_of o))

-- no confirm has this number: numbers are given from 1 on
abbrev pub is_unknown : ℕ → PublishStates → Bool
is_unknown n b = n == 0 || nat_lt (length b.cells) n

-- what is answered for confirm n, without a returned message; a number that was never given is refused as `UnknownTicket`
abbrev pub answer_at : ℕ → PublishStates → Result (Option (Result Confirmation Error)) Error
answer_at n b = if is_unknown n b then Err error.UnknownTicket else answer_in (under n b.cells)

-- ---- with the message that the confirm took

-- the confirmation with the message that its confirm took, if it took one; one that was not requested has no message
abbrev pub with_return : Option BasicReturnMessage → Confirmation → Confirmation
with_return m (confirmation.Ack x) = confirmation.Ack m
with_return m (confirmation.Nack x) = confirmation.Nack m
with_return m confirmation.NotRequested = confirmation.NotRequested

-- the result with that message in its confirmation; a failure has no message
abbrev pub result_with : Option BasicReturnMessage → Result Confirmation Error → Result Confirmation Error
result_with m (Ok c) = Ok (with_return m c)
result_with m (Err e) = Err e

-- what is answered, with that message in the result where one is given; while none is there, or at a refusal, the same
abbrev pub answer_with : Option BasicReturnMessage → Result (Option (Result Confirmation Error)) Error → Result (Option (Result Confirmation Error)) Error
answer_with m (Ok None) = Ok None
answer_with m (Ok (Some r)) = Ok (Some (result_with m r))
answer_with m (Err e) = Err e
