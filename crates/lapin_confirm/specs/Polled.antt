-- What is answered to who asks for the result of a confirm, read off the marks of a history.
use Rattle.std.specs.Prelude.{ℕ, Bool, true, false, if◌then◌else◌, List, Option, Some, None, Result, Ok, Err}
use Rattle.lapin_types.specs.declared.Error.{Error}
use Rattle.lapin_types.specs.declared.Error.TheVariants as error
use Rattle.lapin_types.specs.declared.confirmation.Confirmation.{Confirmation}
use Rattle.lapin_types.specs.declared.message.BasicReturnMessage.{BasicReturnMessage}
use Rattle.lapin_types.specs.declared.outcome.Outcome.{Outcome}
use Rattle.lapin_rules.specs.ConfirmMarks.{ConfirmMark}
use Rattle.lapin_rules.specs.ConfirmReadings.{outcome_at, is_finished, was_added}
use Rattle.lapin_rules.specs.ReturnReadings.{message_of}
use Rattle.lapin_confirm.specs.Answers.{result_of, result_with}

-- an outcome with the message that the confirm took, none while it is not there
abbrev pub shown_with : Option BasicReturnMessage → Option Outcome → Option (Result Confirmation Error)
shown_with m None = None
shown_with m (Some o) = Some (result_with m (result_of o))

-- a poll of confirm n is refused where it was never added, and where its result was given or it was set aside; else it gives the
-- outcome with the message that the confirm took, none while it is pending
abbrev pub polled : ℕ → List ConfirmMark → Result (Option (Result Confirmation Error)) Error
polled n ms =
    if was_added n ms
    then (if is_finished n ms then Err error.AlreadyTaken else Ok (shown_with (message_of n ms) (outcome_at n ms)))
    else Err error.UnknownTicket

-- ---- of an answer

-- a result is given
abbrev pub gives_result : Result (Option (Result Confirmation Error)) Error → Bool
gives_result (Ok None) = false
gives_result (Ok (Some r)) = true
gives_result (Err e) = false

-- there is none yet
abbrev pub is_none_yet : Result (Option (Result Confirmation Error)) Error → Bool
is_none_yet (Ok None) = true
is_none_yet (Ok (Some r)) = false
is_none_yet (Err e) = false
