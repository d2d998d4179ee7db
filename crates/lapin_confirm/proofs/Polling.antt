-- What is answered to who asks for a result is what the history says.
use Rattle.std.proofs.Common.{◌≡◌, ℕ, zero, suc, ◌<◌, ◌≤◌, ◌==◌, nat_lt, Bool, true, false, not, cond, ◌&&◌, List, Option, Some, None, is_some, length, refl, sym, ◌∙◌, ap, arith, eq-eqb, ne_eqb, lt-ltb, ltb-true, ltb-false}
use Rattle.std.specs.Prelude.{Result, Ok, Err}
use Rattle.std.proofs.Math.Bool.{or-true}
use Rattle.std.proofs.lemmas.Bool.{le-leb, lt-leb, false_from_ne_true}
use Rattle.lapin_types.specs.declared.Error.{Error}
use Rattle.lapin_types.specs.declared.Error.TheVariants as error
use Rattle.lapin_types.specs.declared.confirmation.Confirmation.{Confirmation}
use Rattle.lapin_types.specs.declared.message.BasicReturnMessage.{BasicReturnMessage}
use Rattle.lapin_types.specs.declared.outcome.Outcome.{Outcome}
use Rattle.lapin_types.specs.declared.outcome.Outcome.TheVariants as outcome
use Rattle.lapin_rules.specs.ConfirmMarks.{ConfirmMark}
use Rattle.lapin_rules.specs.Words.{after}
use Rattle.lapin_rules.specs.ConfirmReadings.{leaves, has_left, is_taken, is_aside, channel_of, tag_of, first_settled, first_rejected, life, added, outcome_at, outcome_after, is_finished}
use Rattle.lapin_rules.specs.ReturnLists.{message_at, return_of}
use Rattle.lapin_rules.specs.ReturnReadings as read
use Rattle.lapin_rules.specs.ReturnReadings.{is_gone}
use Rattle.lapin_tables.specs.Numbered.{under}
use Rattle.lapin_confirm.specs.declared.cell.Cell.{Cell}
use Rattle.lapin_confirm.specs.declared.cell.Cell.TheVariants as cell
use Rattle.lapin_confirm.specs.PublishStates.{is_resolved, is_unresolved}
use Rattle.lapin_tables.specs.ByChannel.{at_channel}
use Rattle.lapin_confirm.specs.ConfirmState.{ConfirmState, given, message_of, messages_on, origin_return_lists}
use Rattle.lapin_confirm.proofs.ReturnedByChannel.{early-attached}
use Rattle.lapin_confirm.specs.Answers.{result_of, answer_in, answer_at, answer_with, is_unknown}
use Rattle.lapin_confirm.specs.Aside.{is_aside_in, is_set_aside, is_giving, is_waiting, taken_answer}
use Rattle.lapin_confirm.specs.Follows.{Follows, WasAdded, open_cell, left_cell, pending_cell, queued_cell}
use Rattle.lapin_confirm.specs.Polled.{shown_with, polled, gives_result, is_none_yet}
use Rattle.lapin_confirm.proofs.Facts.{facts}
use Rattle.lapin_confirm.proofs.Remaining.{under-beyond}
use Rattle.lapin_confirm.proofs.Reading.{cell-there, origin-there}
use Rattle.lapin_tables.proofs.Bools.{and_false}

-- ---- what the cell of a confirm answers, of which something is kept

answer_queued : (m : Option BasicReturnMessage) (c : ℕ) (o : Option Outcome) → answer_with m (answer_in (Some (queued_cell c o))) ≡ Ok (shown_with m o)
answer_queued m c None = refl
answer_queued m c (Some o) = refl

answer_left : (m : Option BasicReturnMessage) (c : ℕ) (t : Option ℕ) (later : List ConfirmMark) → answer_with m (answer_in (Some (left_cell c t later))) ≡ Ok (shown_with m (outcome_after c t later))
answer_left m c None later = refl
answer_left m c (Some t) later = by (first_settled c t later)
  where
    by : (o : Option Outcome) → answer_with m (answer_in (Some (pending_cell c t o))) ≡ Ok (shown_with m o)
    by None = refl
    by (Some o) = refl

answer_open : (m : Option BasicReturnMessage) (n : ℕ) (ms : List ConfirmMark) → answer_with m (answer_in (Some (open_cell n ms))) ≡ Ok (shown_with m (outcome_at n ms))
answer_open m n ms =
    elim (has_left n ms) as (λ b. answer_with m (answer_in (Some (cond b (left_cell (channel_of n ms) (tag_of n ms) (after (leaves n) ms)) (queued_cell (channel_of n ms) (first_rejected (channel_of n ms) (life n ms)))))) ≡ Ok (shown_with m (cond b (outcome_after (channel_of n ms) (tag_of n ms) (after (leaves n) ms)) (first_rejected (channel_of n ms) (life n ms))))) [
      | true ↦ answer_left m (channel_of n ms) (tag_of n ms) (after (leaves n) ms)
      | false ↦ answer_queued m (channel_of n ms) (first_rejected (channel_of n ms) (life n ms))
    ]

-- ---- one that was accepted

above : (k : ℕ) → (suc k == 0) ≡ false
above k = ne_eqb (suc k) 0 (λ none. absurd (omega arith))

number-unknown : (k : ℕ) (p : ConfirmState) → is_unknown (suc k) p.publish_states ≡ nat_lt (length p.publish_states.cells) (suc k)
number-unknown k p = rw (above k) refl

known-number : (k : ℕ) (ms : List ConfirmMark) (p : ConfirmState) → Follows ms p → k < added ms → is_unknown (suc k) p.publish_states ≡ false
known-number k ms p f lt =
    let count : length p.publish_states.cells ≡ added ms = f.count in
    number-unknown k p ∙ false_from_ne_true (nat_lt (length p.publish_states.cells) (suc k)) (λ h. let past : length p.publish_states.cells < suc k = ltb-true (length p.publish_states.cells) (suc k) h in absurd (omega arith))

-- of one that is gone nothing is answered any more
gone-answer : (k : ℕ) (ms : List ConfirmMark) (p : ConfirmState) → Follows ms p → k < added ms → is_gone (suc k) ms ≡ true → taken_answer (suc k) p ≡ Err error.AlreadyTaken
gone-answer k ms p f lt gone =
    let origin : under (suc k) p.origins ≡ None = f.origins k lt ∙ rw gone refl in
    let kept : under (suc k) p.publish_states.cells ≡ None = f.cells k lt ∙ rw gone refl in
    rw (origin, known-number k ms p f lt, kept) refl

-- the message that a confirm took
message-read : (n : ℕ) (ms : List ConfirmMark) (p : ConfirmState) → Follows ms p → WasAdded n ms → is_gone n ms ≡ false → message_of n p ≡ read.message_of n ms
message-read n ms p f known kept = ap (λ o. return_of n (origin_return_lists o p.returned_by_channel)) (origin-there n ms p f known kept) ∙ ap (message_at n) (early-attached (messages_on (channel_of n ms) p.early) (at_channel (channel_of n ms) p.returned_by_channel)) ∙ ap (return_of n) (f.return_lists (channel_of n ms))

kept-answer : (k : ℕ) (ms : List ConfirmMark) (p : ConfirmState) → Follows ms p → k < added ms → is_gone (suc k) ms ≡ false → taken_answer (suc k) p ≡ cond (is_finished (suc k) ms) (Err error.AlreadyTaken) (Ok (shown_with (read.message_of (suc k) ms) (outcome_at (suc k) ms)))
kept-answer k ms p f lt kept =
    let known : WasAdded (suc k) ms = (omega arith, omega arith) in
    let aside : is_set_aside (suc k) p ≡ is_aside (suc k) ms = ap is_aside_in (origin-there (suc k) ms p f known kept) in
    let untaken : is_taken (suc k) ms ≡ false = false_from_ne_true (is_taken (suc k) ms) (λ h. let gone : is_gone (suc k) ms ≡ true = (facts ms f.came).given (suc k) h in cc) in
    rw (aside, untaken, known-number k ms p f lt, cell-there (suc k) ms p f known kept, message-read (suc k) ms p f known kept)
    (ap (cond (is_aside (suc k) ms) (Err error.AlreadyTaken)) (answer_open (read.message_of (suc k) ms) (suc k) ms))

known-answer : (k : ℕ) (ms : List ConfirmMark) (p : ConfirmState) → Follows ms p → k < added ms → taken_answer (suc k) p ≡ cond (is_finished (suc k) ms) (Err error.AlreadyTaken) (Ok (shown_with (read.message_of (suc k) ms) (outcome_at (suc k) ms)))
known-answer k ms p f lt =
    elim (is_gone (suc k) ms) as (λ b. is_gone (suc k) ms ≡ b → taken_answer (suc k) p ≡ cond (is_finished (suc k) ms) (Err error.AlreadyTaken) (Ok (shown_with (read.message_of (suc k) ms) (outcome_at (suc k) ms)))) [
      | true ↦ λ gone. gone-answer k ms p f lt gone ∙ rw ((facts ms f.came).gone (suc k) gone) refl
      | false ↦ λ kept. kept-answer k ms p f lt kept
    ] refl

-- one that was never accepted
unknown-answer : (k : ℕ) (ms : List ConfirmMark) (p : ConfirmState) → Follows ms p → added ms ≤ k → taken_answer (suc k) p ≡ Err error.UnknownTicket
unknown-answer k ms p f past =
    let count : length p.publish_states.cells ≡ added ms = f.count in
    let places : length p.origins ≡ added ms = f.places in
    rw (under-beyond k p.origins (omega arith), number-unknown k p ∙ lt-ltb (length p.publish_states.cells) (suc k) (omega arith)) refl

pub polled-read : (n : ℕ) (ms : List ConfirmMark) (p : ConfirmState) → Follows ms p → taken_answer n p ≡ polled n ms
polled-read zero ms p f = refl
polled-read (suc k) ms p f =
    elim (nat_lt k (added ms)) as (λ b. nat_lt k (added ms) ≡ b → taken_answer (suc k) p ≡ polled (suc k) ms) [
      | true ↦ λ h.
          let lt : k < added ms = ltb-true k (added ms) h in
          known-answer k ms p f lt ∙ rw (lt-ltb 0 (suc k) (omega arith), le-leb (suc k) (added ms) (omega arith)) refl
      | false ↦ λ h.
          let past : added ms ≤ k = ltb-false k (added ms) h in
          unknown-answer k ms p f past ∙ rw (lt-ltb 0 (suc k) (omega arith), lt-leb (suc k) (added ms) (omega arith)) refl
    ] refl

-- ---- what an answer tells of what `take` does

gives-in : (m : Option BasicReturnMessage) (o : Option Cell) → is_resolved o ≡ gives_result (answer_with m (answer_in o))
gives-in m None = refl
gives-in m (Some (cell.Queued d)) = refl
gives-in m (Some (cell.Pending d t)) = refl
gives-in m (Some (cell.Resolved o)) = refl

waits-in : (m : Option BasicReturnMessage) (o : Option Cell) → is_unresolved o ≡ is_none_yet (answer_with m (answer_in o))
waits-in m None = refl
waits-in m (Some (cell.Queued d)) = refl
waits-in m (Some (cell.Pending d t)) = refl
waits-in m (Some (cell.Resolved o)) = refl

-- a number that was never given has no cell
unknown-cell : (n : ℕ) (p : ConfirmState) → is_unknown n p.publish_states ≡ true → under n p.publish_states.cells ≡ None
unknown-cell zero p h = refl
unknown-cell (suc k) p h = let past : length p.publish_states.cells < suc k = ltb-true (length p.publish_states.cells) (suc k) (sym (number-unknown k p) ∙ h) in under-beyond k p.publish_states.cells (omega arith)

-- a test of the cell that is the test of its answer is that of what a poll answers
tells : (t : Option Cell → Bool) (g : Result (Option (Result Confirmation Error)) Error → Bool) (n : ℕ) (p : ConfirmState) → ((m : Option BasicReturnMessage) (o : Option Cell) → t o ≡ g (answer_with m (answer_in o))) → ((e : Error) → g (Err e) ≡ false) → t None ≡ false → (not (is_set_aside n p) && t (under n p.publish_states.cells)) ≡ g (taken_answer n p)
tells t g n p same none absent =
    elim (is_set_aside n p) as (λ (b : Bool). (not b && t (under n p.publish_states.cells)) ≡ g (cond b (Err error.AlreadyTaken) (answer_with (message_of n p) (answer_at n p.publish_states)))) [
      | true ↦ sym (none error.AlreadyTaken)
      | false ↦
          elim (is_unknown n p.publish_states) as (λ (b : Bool). is_unknown n p.publish_states ≡ b → t (under n p.publish_states.cells) ≡ g (answer_with (message_of n p) (cond b (Err error.UnknownTicket) (answer_in (under n p.publish_states.cells))))) [
            | true ↦ λ h. ap t (unknown-cell n p h) ∙ absent ∙ sym (none error.UnknownTicket)
            | false ↦ λ h. same (message_of n p) (under n p.publish_states.cells)
          ] refl
    ]

pub giving-told : (n : ℕ) (p : ConfirmState) → is_giving n p ≡ gives_result (taken_answer n p)
giving-told n p = tells is_resolved gives_result n p gives-in (λ e. refl) refl

pub waiting-told : (n : ℕ) (p : ConfirmState) → is_waiting n p ≡ is_none_yet (taken_answer n p)
waiting-told n p = tells is_unresolved is_none_yet n p waits-in (λ e. refl) refl

-- ---- what a poll gives

-- of a number that was never given nothing
never-given : (n : ℕ) (p : ConfirmState) → is_unknown n p.publish_states ≡ true → p ≡ cond (is_giving n p) (given n p) p
never-given n p unknown = sym (ap (λ (b : Bool). cond b (given n p) p) (ap (λ o. not (is_set_aside n p) && is_resolved o) (unknown-cell n p unknown) ∙ and_false (not (is_set_aside n p))))

pub zero-stays : (n : ℕ) (p : ConfirmState) → n ≡ 0 → p ≡ cond (is_giving n p) (given n p) p
zero-stays n p none = never-given n p (rw (eq-eqb n 0 none) refl)

pub past-stays : (n : ℕ) (p : ConfirmState) → length p.publish_states.cells < n → p ≡ cond (is_giving n p) (given n p) p
past-stays n p past = never-given n p (rw (lt-ltb (length p.publish_states.cells) n past) (or-true (n == 0)))

-- the outcome of a confirm that took no message
pub bare-answer : (n : ℕ) (o : Outcome) (p : ConfirmState) → is_set_aside n p ≡ false → is_some (message_of n p) ≡ false → under n p.publish_states.cells ≡ Some (cell.Resolved o) → taken_answer n p ≡ Ok (Some (result_of o))
bare-answer n o p free bare is = rw (free, known, is, nothing (message_of n p) bare) (alone o)
  where
    known : is_unknown n p.publish_states ≡ false
    known = false_from_ne_true (is_unknown n p.publish_states) (λ h. let no : None ≡ Some (cell.Resolved o) = sym (unknown-cell n p h) ∙ is in cc)

    nothing : (m : Option BasicReturnMessage) → is_some m ≡ false → m ≡ None
    nothing None h = refl
    nothing (Some x) h = cc

    alone : (x : Outcome) → answer_with None (Ok (Some (result_of x))) ≡ Ok (Some (result_of x))
    alone outcome.NotRequested = refl
    alone outcome.Ack = refl
    alone outcome.Nack = refl
    alone (outcome.Failed e) = refl
