-- The records that a history determines.
use Rattle.std.specs.Prelude.{ℕ, nat_lt, nat_le, Bool, ◌&&◌, if◌then◌else◌, List, [], ◌∷◌, ◌++◌, Option, Some, None, Result}
use Rattle.lapin_types.specs.declared.event.Event.{Event}
use Rattle.lapin_types.specs.declared.record.Record.{Record}
use Rattle.lapin_types.specs.declared.answer.Answer.{Answer}
use Rattle.lapin_types.specs.declared.message.BasicReturnMessage.{BasicReturnMessage}
use Rattle.lapin_types.specs.Types.{Error}
use Rattle.lapin_types.specs.declared.record.Record.TheVariants as record_
use Rattle.lapin_types.specs.Types.error
use Rattle.lapin_rules.specs.ConfirmMarks.{ConfirmMark}
use Rattle.lapin_types.specs.declared.outcome.Outcome.{Outcome}
use Rattle.lapin_rules.specs.ConfirmReadings.{is_selected, place, is_pending, was_added, is_finished, is_asked, limit_of, is_full, is_at_limit, outcome_at}
use Rattle.lapin_rules.specs.ReturnReadings.{message_of, drained, is_waited}
use Rattle.lapin_rules.specs.TicketReadings.{TicketMark, given, is_collected, answer_of}
use Rattle.lapin_rules.specs.Readings.{Readings}
use Rattle.lapin_rules.specs.Wire.{Wire, start}
use Rattle.lapin_rules.specs.Polls.{confirmed}
use Rattle.lapin_rules.specs.Events.{record_of, after_event, confirm_marks, ticket_marks}

-- events with their records, oldest first; the empty one is that of a new session
abbrev pub History : Type 0
History = List (Event × Record)

-- what a history comes to: states and lists, and all that happened to confirms and to tickets
pub record Past : Type 0 where
  pub wire : Wire
  pub confirms : List ConfirmMark
  pub tickets : List TicketMark

-- what a history comes to with one more event and its record
abbrev pub longer : Past → Event → Record → Past
longer p e r = record {
  wire = after_event p.wire e r;
  confirms = p.confirms ++ confirm_marks p.wire e r;
  tickets = p.tickets ++ ticket_marks p.wire e r;
}

-- what a history comes to with these further events and their records
abbrev pub past_on : Past → History → Past
past_on p [] = p
past_on p (x ∷ h) = past_on (longer p x.0 x.1) h

-- what the history of a session with this greatest frame comes to
abbrev pub past : ℕ → History → Past
past frame_max h = past_on (record { wire = start frame_max; confirms = []; tickets = [] }) h

-- what a poll of a confirm's number gives: the outcome once, with the returned message that it took
abbrev pub polled_outcome : Option BasicReturnMessage → Option Outcome → Record
polled_outcome m None = record_.Pending
polled_outcome m (Some o) = confirmed m o

-- the record of a poll of confirm n: refused where no publish has this number, or where its result is asked for no more
abbrev pub confirm_poll : List ConfirmMark → ℕ → Record
confirm_poll ms n =
    if was_added n ms
    then (if is_finished n ms then record_.Refused error.AlreadyTaken else polled_outcome (message_of n ms) (outcome_at n ms))
    else record_.Refused error.UnknownTicket

-- what setting a confirm aside gives
abbrev pub confirm_aside : List ConfirmMark → ℕ → Record
confirm_aside ms n =
    if was_added n ms
    then (if is_finished n ms then record_.Refused error.AlreadyTaken else record_.Aside)
    else record_.Refused error.UnknownTicket

-- what a poll of a ticket's number gives: the answer once
abbrev pub polled_answer : Option (Result Answer Error) → Record
polled_answer None = record_.Pending
polled_answer (Some a) = record_.Answer a

-- n is the number of a ticket that was given
abbrev pub was_given : ℕ → List TicketMark → Bool
was_given n ms = nat_lt 0 n && nat_le n (given ms)

-- the record of a poll of ticket n: refused where it was never given, or where its answer was given or the ticket was set aside
abbrev pub ticket_poll : List TicketMark → ℕ → Record
ticket_poll ms n =
    if was_given n ms
    then (if is_collected n ms then record_.Refused error.AlreadyTaken else polled_answer (answer_of n ms))
    else record_.Refused error.UnknownTicket

-- what setting a ticket aside gives: its answer is asked for no more
abbrev pub ticket_aside : List TicketMark → ℕ → Record
ticket_aside ms n =
    if was_given n ms
    then (if is_collected n ms then record_.Refused error.AlreadyTaken else record_.Aside)
    else record_.Refused error.UnknownTicket

-- what the marks show
abbrev pub readings_of : List ConfirmMark → List TicketMark → Readings
readings_of confirms tickets = record {
  selected = λ c. is_selected c confirms;
  last = λ c. place c confirms;
  pending = λ c t. is_pending c t confirms;
  confirm = confirm_poll confirms;
  ticket = ticket_poll tickets;
  confirm_aside = confirm_aside confirms;
  ticket_aside = ticket_aside tickets;
  asked = λ c. is_asked c confirms;
  waited = λ c. is_waited c confirms;
  full = λ c. is_full c confirms;
  limit = λ c. limit_of c confirms;
  at_limit = λ c. is_at_limit c confirms;
  returned = λ c. drained c confirms;
}

-- the record of the next event, as what the history comes to determines it
abbrev pub record_after : Past → Event → Record
record_after p e = record_of p.wire (readings_of p.confirms p.tickets) e

-- the record that a history determines for the next event
abbrev pub rec : ℕ → History → Event → Record
rec frame_max h e = record_after (past frame_max h) e

-- the records of these events after a history, one record an event
abbrev pub run_from : ℕ → History → List Event → List Record
run_from frame_max h [] = []
run_from frame_max h (e ∷ es) = rec frame_max h e ∷ run_from frame_max (h ++ (e, rec frame_max h e) ∷ []) es

-- the records of a whole list of events
abbrev pub run : ℕ → List Event → List Record
run frame_max es = run_from frame_max [] es
