-- A session as a machine: what it keeps, and what an event does to it.
use Rattle.std.specs.Prelude.{ℕ, Bool, List, [], ◌∷◌, Option, Some, None, Result, Ok, Err}
use Rattle.std.specs.List.{fold}
use Rattle.lapin_types.specs.declared.event.Event.{Event}
use Rattle.lapin_types.specs.declared.record.Record.{Record}
use Rattle.lapin_types.specs.declared.record.Record.TheVariants as record_
use Rattle.lapin_types.specs.declared.answer.Answer.{Answer}
use Rattle.lapin_types.specs.Types.{Error}
use Rattle.lapin_types.specs.declared.confirmation.Confirmation.{Confirmation}
use Rattle.lapin_rules.specs.declared.marks.Settlement.{Settlement}
use Rattle.lapin_rules.specs.declared.calls.Asked.{Asked}
use Rattle.lapin_rules.specs.declared.broker_frames.Incoming.{Incoming}
use Rattle.lapin_delivery.specs.Marks as deliveries
use Rattle.lapin_rules.specs.Wire.{Wire, start, with_deliveries}
use Rattle.lapin_rules.specs.Handing.{handed_out, after_handing}
use Rattle.lapin_rules.specs.Events.{after_event}
use Rattle.lapin_rules.specs.Asking.{after_asking}
use Rattle.lapin_rules.specs.Receiving.{after_incoming}
use Rattle.lapin_rules.specs.Events.{confirm_marks, ticket_marks}
use Rattle.lapin_rules.specs.Asking.{asking_marks, asking_tickets}
use Rattle.lapin_rules.specs.Handing.{left_marks, left_tickets}
use Rattle.lapin_rules.specs.Receiving.{incoming_marks, incoming_tickets}
use Rattle.lapin_rules.specs.Readings.{Readings}
use Rattle.lapin_rules.specs.Events.{record_of}
use Rattle.lapin_rules.specs.Settlement.{settlement_record}
use Rattle.lapin_confirm.specs.Aside.{taken_answer, set_answer}
use Rattle.lapin_confirm.specs.PublishStates.{selected_on, last_on, is_pending, asked_on, limit_on, full_on, at_limit_on}
use Rattle.lapin_confirm.specs.Drain.{drained_on}
use Rattle.lapin_confirm.specs.ConfirmState.{ConfirmState, empty_confirm_state, waits_on}
use Rattle.lapin_confirm.specs.Machine as confirm_state
use Rattle.lapin_ticket.specs.declared.Slot.{Slot}
use Rattle.lapin_ticket.specs.Slots as answers
use Rattle.lapin_types.specs.declared.leaving.Left.{Left}
use Rattle.lapin_machine.specs.Returned.{given_back}
use Rattle.lapin_machine.specs.Returned as back

-- states, lists, requests, contents and counters; the confirms with the returned messages; the tickets; and the frame that was given back, until it is handed out
-- again
pub record World : Type 0 where
  pub wire : Wire
  pub confirm_state : ConfirmState
  pub slots : List (Option Slot)
  pub returned : Option Left

-- a new session with this greatest frame: nothing was asked for yet, and nothing waits
abbrev pub new_world : ℕ → World
new_world frame_max = record { wire = start frame_max; confirm_state = empty_confirm_state; slots = []; returned = None }

-- ---- what polls meet

-- a poll of a confirm
abbrev pub outcome_record : Result (Option (Result Confirmation Error)) Error → Record
outcome_record (Ok None) = record_.Pending
outcome_record (Ok (Some o)) = record_.Confirmed o
outcome_record (Err e) = record_.Refused e

-- a poll of a ticket
abbrev pub poll_record : Result (Option (Result Answer Error)) Error → Record
poll_record (Ok None) = record_.Pending
poll_record (Ok (Some a)) = record_.Answer a
poll_record (Err e) = record_.Refused e

-- setting a confirm or a ticket aside
abbrev pub aside_record : Result (Unit {0}) Error → Record
aside_record (Ok x) = record_.Aside
aside_record (Err e) = record_.Refused e

-- which channels are full
abbrev pub full_in : ConfirmState → ℕ → Bool
full_in p c = full_on c p.publish_states

-- what is seen of confirms and tickets
abbrev pub readings_of : ConfirmState → List (Option Slot) → Readings
readings_of p slots = record {
  selected = λ c. selected_on c p.publish_states;
  last = λ c. last_on c p.publish_states;
  pending = λ c t. is_pending c t p.publish_states;
  confirm = λ n. outcome_record (taken_answer n p);
  ticket = λ n. poll_record (answers.polled n slots);
  confirm_aside = λ n. aside_record (set_answer n p);
  ticket_aside = λ n. aside_record (answers.laid n slots);
  asked = λ c. asked_on c p.publish_states;
  waited = λ c. waits_on c p.publish_states;
  full = full_in p;
  limit = λ c. limit_on c p.publish_states;
  at_limit = λ c. at_limit_on c p.publish_states;
  returned = λ c. drained_on c p;
}

-- the record of an event, where no frame is handed out once more
abbrev pub told_anew : World → Event → Record
told_anew w e = record_of w.wire (readings_of w.confirm_state w.slots) e

-- the record of an event: a frame request gives the frame that was given back
abbrev pub told_or : Option Left → Record → Record
told_or None r = r
told_or (Some l) r = record_.Frame l.frame

-- the record of an event: a frame request gives the frame that was given back, if there is one, and else all is answered anew
abbrev pub told_by : World → Event → Record
told_by w e = told_or (given_back w.returned e) (told_anew w e)

-- what an event leaves, where no frame is handed out once more
abbrev pub next_anew : World → Event → World
next_anew w e = record {
  wire = after_event w.wire e (told_anew w e);
  confirm_state = fold confirm_state.after_mark w.confirm_state (confirm_marks w.wire e (told_anew w e));
  slots = fold answers.after_mark w.slots (ticket_marks w.wire e (told_anew w e));
  returned = back.after_event w.wire e (told_anew w e) w.returned;
}

-- a session with this as the frame that was given back
abbrev pub with_returned : Option Left → World → World
with_returned r w = record { wire = w.wire; confirm_state = w.confirm_state; slots = w.slots; returned = r }

-- what an event leaves: a frame that is handed out once more has left before, so nothing else changes
abbrev pub next_or : Option Left → World → World → World
next_or None new w = new
next_or (Some l) new w = with_returned None w

-- the session after an event; where a frame is handed out once more it is no longer given back, and nothing else changes
abbrev pub next : World → Event → World
next w e = next_or (given_back w.returned e) (next_anew w e) w

-- what a call leaves, that is allowed or refused by its channel's state
abbrev pub asking : ℕ → Asked → World → World
asking c k w = record {
  wire = after_asking c k w.wire;
  confirm_state = fold confirm_state.after_mark w.confirm_state (asking_marks c k w.wire);
  slots = fold answers.after_mark w.slots (asking_tickets c k w.wire);
  returned = back.after_asked c k w.wire w.returned;
}

-- an acker is used up
abbrev pub spending : ℕ → World → World
spending n w = record w { wire = with_deliveries (deliveries.Spent n ∷ []) w.wire }

-- what a frame request leaves where no frame was given back, and t tells on which channels a publish may begin
abbrev pub handing : (ℕ → Bool) → World → World
handing t w = record {
  wire = after_handing t w.wire;
  confirm_state = fold confirm_state.after_mark w.confirm_state (left_marks (handed_out t w.wire));
  slots = fold answers.after_mark w.slots (left_tickets (handed_out t w.wire));
  returned = w.returned;
}

-- what a frame of the broker leaves that got this record
abbrev pub receiving : Incoming → Record → World → World
receiving i r w = record {
  wire = after_incoming i r w.wire;
  confirm_state = fold confirm_state.after_mark w.confirm_state (incoming_marks i r w.wire);
  slots = fold answers.after_mark w.slots (incoming_tickets i r w.wire);
  returned = back.after_incoming i r w.wire w.returned;
}

-- what a settlement on a channel that receives it is answered by
abbrev pub settlement_told : ℕ → Settlement → World → Record
settlement_told c s w = settlement_record (readings_of w.confirm_state w.slots) c s

-- the records of a list of events
abbrev pub outputs : World → List Event → List Record
outputs w [] = []
outputs w (e ∷ es) = told_by w e ∷ outputs (next w e) es
