-- Polls: each result is given once, and what was set aside is asked for no more; and the wait for all confirms of a channel.
use Rattle.std.specs.Prelude.{ℕ, Bool, true, false, ◌&&◌, ◌||◌, if◌then◌else◌, List, [], ◌∷◌, Option, Ok, Err}
use Rattle.lapin_types.specs.declared.record.Record.{Record}
use Rattle.lapin_types.specs.declared.record.Record.TheVariants as record_
use Rattle.lapin_types.specs.declared.message.BasicReturnMessage.{BasicReturnMessage}
use Rattle.lapin_types.specs.declared.confirmation.Confirmation.TheVariants as confirmation
use Rattle.lapin_types.specs.declared.outcome.Outcome.{Outcome}
use Rattle.lapin_types.specs.declared.outcome.Outcome.TheVariants as outcome
use Rattle.lapin_rules.specs.ConfirmMarks.{ConfirmMark}
use Rattle.lapin_rules.specs.ConfirmMarks as mark
use Rattle.lapin_rules.specs.TicketReadings.{TicketMark}
use Rattle.lapin_rules.specs.TicketReadings as ticket
use Rattle.lapin_rules.specs.Drops.{is_rest_of}
use Rattle.lapin_rules.specs.Readings.{Readings}
use Rattle.lapin_rules.specs.Wire.{Wire}

-- the record of a confirm's outcome, with the returned message that it took
abbrev pub confirmed : Option BasicReturnMessage → Outcome → Record
confirmed m outcome.NotRequested = record_.Confirmed (Ok confirmation.NotRequested)
confirmed m outcome.Ack = record_.Confirmed (Ok (confirmation.Ack m))
confirmed m outcome.Nack = record_.Confirmed (Ok (confirmation.Nack m))
confirmed m (outcome.Failed e) = record_.Confirmed (Err e)

-- The wait for all confirms of a channel. There is something to wait for where its live opening accepted a `confirm.select` call and
-- has a publish that is queued, begun with frames that have not left, or pending. Else the returned messages are given.
abbrev pub is_waited_on : ℕ → Wire → Readings → Bool
is_waited_on c b readings = readings.waited c || (readings.asked c && is_rest_of c b.rest)

-- the record of the wait: pending while there is something to wait for, and else the returned messages of the channel
abbrev pub wait_record : ℕ → Wire → Readings → Record
wait_record c b readings = if is_waited_on c b readings then record_.Pending else record_.Returned (readings.returned c)

-- the record gives the result of a confirm
abbrev pub is_confirmed : Record → Bool
is_confirmed (record_.Confirmed o) = true
is_confirmed _ = false

-- the record gives the answer of a ticket
abbrev pub is_answer : Record → Bool
is_answer (record_.Answer a) = true
is_answer _ = false

-- the record says that a ticket or a confirm was set aside
abbrev pub is_aside : Record → Bool
is_aside record_.Aside = true
is_aside _ = false

-- the record gives the returned messages of a channel
abbrev pub is_returned : Record → Bool
is_returned (record_.Returned messages) = true
is_returned _ = false

-- ---- the marks of a poll, of a wait, and of setting aside, by the record

-- a poll of confirm n: its result was given, where the record gives one
abbrev pub confirm_poll_marks : ℕ → Record → List ConfirmMark
confirm_poll_marks n r = if is_confirmed r then mark.Taken n ∷ [] else []

-- a wait for all confirms of channel c: its returned messages were given, where the record gives them
abbrev pub wait_marks : ℕ → Record → List ConfirmMark
wait_marks c r = if is_returned r then mark.Drained c ∷ [] else []

-- publish n was set aside, where the record says so
abbrev pub confirm_aside_marks : ℕ → Record → List ConfirmMark
confirm_aside_marks n r = if is_aside r then mark.SetAside n ∷ [] else []

-- a poll of ticket n: its answer was given, where the record gives one
abbrev pub ticket_poll_marks : ℕ → Record → List TicketMark
ticket_poll_marks n r = if is_answer r then ticket.Collected n ∷ [] else []

-- ticket n was set aside, where the record says so
abbrev pub ticket_aside_marks : ℕ → Record → List TicketMark
ticket_aside_marks n r = if is_aside r then ticket.SetAside n ∷ [] else []
