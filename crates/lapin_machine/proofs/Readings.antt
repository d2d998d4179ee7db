-- Confirms and tickets that follow the marks show what the marks show.
use Rattle.std.proofs.Common.{◌≡◌, ℕ, zero, suc, ◌<◌, ◌≤◌, nat_lt, nat_le, Bool, true, false, not, cond, ◌&&◌, List, length, Option, Some, None, Ok, Err, refl, sym, ◌∙◌, ap, arith}
use Rattle.std.specs.List.{list_any}
use Rattle.std.proofs.lemmas.Bool.{leb-true}
use Rattle.std.proofs.lemmas.Option.{get_or_from_slice_get}
use Rattle.lapin_types.specs.declared.message.BasicReturnMessage.{BasicReturnMessage}
use Rattle.lapin_types.specs.declared.record.Record.TheVariants as record_
use Rattle.lapin_types.specs.Types.error
use Rattle.lapin_tables.specs.Numbered.{under}
use Rattle.lapin_types.specs.declared.outcome.Outcome.{Outcome}
use Rattle.lapin_types.specs.declared.outcome.Outcome.TheVariants as outcome
use Rattle.lapin_rules.specs.ConfirmMarks.{ConfirmMark}
use Rattle.lapin_rules.specs.ConfirmReadings.{outcome_at, is_finished, was_added}
use Rattle.lapin_rules.specs.ReturnReadings.{message_of}
use Rattle.lapin_rules.specs.declared.marks.AtLeaving.{AtLeaving}
use Rattle.lapin_rules.specs.TicketReadings.{TicketMark, given, begins as begins_ticket, closes, first_answer, is_collected, answer_of, channel_of as channel_of_ticket, leaving_of, life as life_of_ticket}
use Rattle.lapin_rules.specs.Polls.{confirmed, wait_record}
use Rattle.lapin_rules.specs.History.{polled_outcome, confirm_poll, confirm_aside, polled_answer, was_given, ticket_poll, ticket_aside}
use Rattle.lapin_rules.specs.History as history
use Rattle.lapin_rules.specs.Wire.{Wire}
use Rattle.lapin_confirm.specs.Answers.{result_of, result_with}
use Rattle.lapin_confirm.specs.Aside.{taken_answer, set_answer, refused_as}
use Rattle.lapin_confirm.specs.ConfirmState.{ConfirmState}
use Rattle.lapin_confirm.specs.Polled.{polled as polled_confirm, shown_with}
use Rattle.lapin_confirm.specs.Follows.{Follows}
use Rattle.lapin_confirm.proofs.Polling.{polled-read}
use Rattle.lapin_confirm.proofs.ReturnFollowing.{drained-read}
use Rattle.lapin_confirm.proofs.Asking.{asked-read}
use Rattle.lapin_confirm.proofs.Reading.{waits-read, full-read, limit-read, at-limit-read, unbegun_unlimited}
use Rattle.lapin_ticket.specs.declared.Slot.{Slot}
use Rattle.lapin_ticket.specs.Slots.{polled, polled_slot, laid, laid_slot}
use Rattle.lapin_ticket.specs.Follows.{held, slot_in, slot_of}
use Rattle.lapin_ticket.specs.Follows as tickets
use Rattle.lapin_types.specs.declared.call.Call.{Call}
use Rattle.lapin_rules.specs.ConfirmReadings.{is_begun, is_full, is_at_limit}
use Rattle.lapin_rules.specs.Calls.{is_try}
use Rattle.lapin_rules.specs.Wire.{is_open, state_of}
use Rattle.lapin_rules.specs.Asking.{call_told}
use Rattle.lapin_rules.specs.Flow.{is_flowing, begins_on}
use Rattle.lapin_rules.specs.Handing.{handed}
use Rattle.lapin_confirm.specs.PublishStates.{at_limit_on}
use Rattle.lapin_machine.proofs.Brought.{handed_same}
use Rattle.lapin_machine.specs.World.{outcome_record, poll_record, aside_record, readings_of, full_in}

-- ---- polls of confirms

result_record : (m : Option BasicReturnMessage) (o : Outcome) → record_.Confirmed (result_with m (result_of o)) ≡ confirmed m o
result_record m outcome.NotRequested = refl
result_record m outcome.Ack = refl
result_record m outcome.Nack = refl
result_record m (outcome.Failed e) = refl

shown_record : (m : Option BasicReturnMessage) (o : Option Outcome) → outcome_record (Ok (shown_with m o)) ≡ polled_outcome m o
shown_record m None = refl
shown_record m (Some o) = result_record m o

polled_record : (n : ℕ) (ms : List ConfirmMark) → outcome_record (polled_confirm n ms) ≡ confirm_poll ms n
polled_record n ms =
    elim (was_added n ms) as (λ a. outcome_record (cond a (cond (is_finished n ms) (Err error.AlreadyTaken) (Ok (shown_with (message_of n ms) (outcome_at n ms)))) (Err error.UnknownTicket)) ≡ cond a (cond (is_finished n ms) (record_.Refused error.AlreadyTaken) (polled_outcome (message_of n ms) (outcome_at n ms))) (record_.Refused error.UnknownTicket)) [
      | true ↦ elim (is_finished n ms) as (λ a. outcome_record (cond a (Err error.AlreadyTaken) (Ok (shown_with (message_of n ms) (outcome_at n ms)))) ≡ cond a (record_.Refused error.AlreadyTaken) (polled_outcome (message_of n ms) (outcome_at n ms))) [ true ↦ refl | false ↦ shown_record (message_of n ms) (outcome_at n ms) ]
      | false ↦ refl
    ]

pub confirm_shown : (n : ℕ) (ms : List ConfirmMark) (p : ConfirmState) → Follows ms p → outcome_record (taken_answer n p) ≡ confirm_poll ms n
confirm_shown n ms p f = ap outcome_record (polled-read n ms p f) ∙ polled_record n ms

-- setting a confirm aside
laid_record : (n : ℕ) (ms : List ConfirmMark) → aside_record (refused_as (polled_confirm n ms)) ≡ confirm_aside ms n
laid_record n ms =
    elim (was_added n ms) as (λ a. aside_record (refused_as (cond a (cond (is_finished n ms) (Err error.AlreadyTaken) (Ok (shown_with (message_of n ms) (outcome_at n ms)))) (Err error.UnknownTicket))) ≡ cond a (cond (is_finished n ms) (record_.Refused error.AlreadyTaken) record_.Aside) (record_.Refused error.UnknownTicket)) [
      | true ↦ elim (is_finished n ms) as (λ a. aside_record (refused_as (cond a (Err error.AlreadyTaken) (Ok (shown_with (message_of n ms) (outcome_at n ms))))) ≡ cond a (record_.Refused error.AlreadyTaken) record_.Aside) [ true ↦ refl | false ↦ refl ]
      | false ↦ refl
    ]

pub confirm_aside_shown : (n : ℕ) (ms : List ConfirmMark) (p : ConfirmState) → Follows ms p → aside_record (set_answer n p) ≡ confirm_aside ms n
confirm_aside_shown n ms p f = ap (λ r. aside_record (refused_as r)) (polled-read n ms p f) ∙ laid_record n ms

-- ---- the wait

pub wait_shown : (c : ℕ) (b : Wire) (ms : List ConfirmMark) (tms : List TicketMark) (p : ConfirmState) (slots : List (Option Slot)) → Follows ms p → wait_record c b (readings_of p slots) ≡ wait_record c b (history.readings_of ms tms)
wait_shown c b ms tms p slots f = rw (waits-read c ms p f, asked-read c ms p f, drained-read c ms p f) refl

-- whether a number is one of so many, from 1
within_count : (k n : ℕ) → (nat_lt 0 (suc k) && nat_le (suc k) n) ≡ true → k < n
within_count k n h = elim (nat_lt 0 (suc k)) as (λ a. (a && nat_le (suc k) n) ≡ true → k < n) [ true ↦ λ e. let le : suc k ≤ n = leb-true (suc k) n e in omega arith | false ↦ λ e. cc ] h

-- ---- the limit of outstanding confirms

both_none : (x y : Bool) → (x && (y && false)) ≡ false
both_none true true = refl
both_none true false = refl
both_none false y = refl

-- a call is refused at the limit that the history says, or is not
pub call_shown : (c : ℕ) (k : Call) (b : Wire) (ms : List ConfirmMark) (tms : List TicketMark) (p : ConfirmState) (slots : List (Option Slot)) → Follows ms p → call_told c k b (readings_of p slots) ≡ call_told c k b (history.readings_of ms tms)
call_shown c k b ms tms p slots f =
    elim (is_begun c ms) as (λ t. is_begun c ms ≡ t → call_told c k b (readings_of p slots) ≡ call_told c k b (history.readings_of ms tms)) [
      | true ↦ λ begun. rw (at-limit-read c ms p f, limit-read c ms p f begun) refl
      | false ↦ λ none.
          let here : at_limit_on c p.publish_states ≡ false = unbegun_unlimited c ms p f none in
          let there : is_at_limit c ms ≡ false = sym (at-limit-read c ms p f) ∙ here in
          rw (here, there, both_none (is_try k) (is_open (state_of c b))) refl
    ] refl

-- the same channels are full, so the same frame leaves
pub handed_shown : (flow : Bool) (b : Wire) (ms : List ConfirmMark) (p : ConfirmState) → Follows ms p → handed flow (full_in p) b ≡ handed flow (λ c. is_full c ms) b
handed_shown flow b ms p f = handed_same (begins_on flow (full_in p) b) (begins_on flow (λ c. is_full c ms) b) b (λ c. ap (λ x. is_flowing flow b && not x) (full-read c ms p f))

-- ---- polls of tickets

slot_poll : (n c : ℕ) (l : AtLeaving) (later : List TicketMark) → poll_record (polled_slot (slot_in n c l later)) ≡ cond (list_any (closes n) later) (record_.Refused error.AlreadyTaken) (polled_answer (first_answer n c l false later))
slot_poll n c l later =
    elim (list_any (closes n) later) as (λ a. poll_record (polled_slot (cond a None (Some (held c l (list_any (begins_ticket n) later) (first_answer n c l false later))))) ≡ cond a (record_.Refused error.AlreadyTaken) (polled_answer (first_answer n c l false later))) [
      | true ↦ refl
      | false ↦ elim (first_answer n c l false later) as (λ o. poll_record (polled_slot (Some (held c l (list_any (begins_ticket n) later) o))) ≡ polled_answer o) [ None ↦ refl | Some a ↦ refl ]
    ]

pub ticket_shown : (n : ℕ) (ms : List TicketMark) (slots : List (Option Slot)) → tickets.Follows ms slots → poll_record (polled n slots) ≡ ticket_poll ms n
ticket_shown zero ms slots f = refl
ticket_shown (suc k) ms slots f =
    let count : length slots ≡ given ms = f.count in
    rw count
    (elim (was_given (suc k) ms) as (λ a. was_given (suc k) ms ≡ a → poll_record (cond a (polled_slot (under (suc k) slots)) (Err error.UnknownTicket)) ≡ cond a (cond (is_collected (suc k) ms) (record_.Refused error.AlreadyTaken) (polled_answer (answer_of (suc k) ms))) (record_.Refused error.UnknownTicket)) [
      | true ↦ λ h.
          let lt : k < given ms = within_count k (given ms) h in
          rw (get_or_from_slice_get slots k (slot_of (suc k) ms) None (f.slot k lt)) (slot_poll (suc k) (channel_of_ticket (suc k) ms) (leaving_of (suc k) ms) (life_of_ticket (suc k) ms))
      | false ↦ λ h. refl
    ] refl)

-- setting a ticket aside
slot_aside : (n c : ℕ) (l : AtLeaving) (later : List TicketMark) → aside_record (laid_slot (slot_in n c l later)) ≡ cond (list_any (closes n) later) (record_.Refused error.AlreadyTaken) record_.Aside
slot_aside n c l later =
    elim (list_any (closes n) later) as (λ a. aside_record (laid_slot (cond a None (Some (held c l (list_any (begins_ticket n) later) (first_answer n c l false later))))) ≡ cond a (record_.Refused error.AlreadyTaken) record_.Aside)
    [ true ↦ refl | false ↦ refl ]

pub aside_shown : (n : ℕ) (ms : List TicketMark) (slots : List (Option Slot)) → tickets.Follows ms slots → aside_record (laid n slots) ≡ ticket_aside ms n
aside_shown zero ms slots f = refl
aside_shown (suc k) ms slots f =
    let count : length slots ≡ given ms = f.count in
    rw count
    (elim (was_given (suc k) ms) as (λ a. was_given (suc k) ms ≡ a → aside_record (cond a (laid_slot (under (suc k) slots)) (Err error.UnknownTicket)) ≡ cond a (cond (is_collected (suc k) ms) (record_.Refused error.AlreadyTaken) record_.Aside) (record_.Refused error.UnknownTicket)) [
      | true ↦ λ h.
          let lt : k < given ms = within_count k (given ms) h in
          rw (get_or_from_slice_get slots k (slot_of (suc k) ms) None (f.slot k lt)) (slot_aside (suc k) (channel_of_ticket (suc k) ms) (leaving_of (suc k) ms) (life_of_ticket (suc k) ms))
      | false ↦ λ h. refl
    ] refl)
