-- Each message that a publisher took for stored was acked: its confirm is a verdict.
use Rattle.std.proofs.Common.{◌≡◌, ◌∙◌, ℕ, zero, suc, ◌+◌, ◌==◌, Bool, true, false, ◌&&◌, not, cond, List, [], ◌∷◌, ◌++◌, length, Option, Some, None, refl, sym, ap, subst, inl, inr, ◌⊎◌, append_assoc, append-nil, length-append, arith, add-one, add-zero}
use Rattle.std.specs.Prelude.{Ok, Err}
use Rattle.std.specs.List.{AllByRecursion}
use Rattle.lapin_types.specs.declared.call.Call.TheVariants as call
use Rattle.lapin_types.specs.declared.confirmation.Confirmation.TheVariants as confirmation
use Rattle.lapin_types.specs.declared.event.Event.{Event}
use Rattle.lapin_types.specs.declared.event.Event.TheVariants as event
use Rattle.lapin_types.specs.declared.leaving.Left.{Left}
use Rattle.lapin_types.specs.declared.message.BasicReturnMessage.{BasicReturnMessage}
use Rattle.lapin_types.specs.declared.record.Record.{Record}
use Rattle.lapin_types.specs.declared.record.Record.TheVariants as record_
use Rattle.lapin_types.specs.Types.{Frame}
use Rattle.lapin_types.specs.Types.error
use Rattle.lapin_types.specs.declared.outcome.Outcome.{Outcome}
use Rattle.lapin_types.specs.declared.outcome.Outcome.TheVariants as outcome
use Rattle.lapin_rules.specs.declared.marks.SettleKind.{SettleKind}
use Rattle.lapin_rules.specs.declared.marks.SettleKind.TheVariants as settle
use Rattle.lapin_rules.specs.ConfirmMarks.{ConfirmMark}
use Rattle.lapin_rules.specs.ConfirmMarks as mark
use Rattle.std.specs.Option.{option_or}
use Rattle.lapin_rules.specs.ConfirmReadings.{channel_of, tag_of, outcome_at, outcome_after, kind_outcome, was_added, is_finished, has_left, first_rejected, life, leaves}
use Rattle.lapin_rules.specs.Words.{after}
use Rattle.lapin_rules.specs.ReturnReadings.{message_of}
use Rattle.lapin_rules.specs.Polls.{confirmed}
use Rattle.lapin_rules.specs.History.{History, Past, past, rec, confirm_poll, polled_outcome}
use Rattle.lapin_machine.specs.Way.{by_history}
use Rattle.lapin_broker.specs.Sends.{may}
use Rattle.lapin_joint.specs.declared.step.Step as joined_step
use Rattle.lapin_joint.specs.declared.step.Step.TheVariants as joined
use Rattle.lapin_joint.specs.Joint.{Joint, new_joint, after as step_after, client, is_lawful, read_first, send_down, deliver_first, joined_to}
use Rattle.lapin_joint.proofs.Steps.{run-push}
use Rattle.lapin_rules.specs.Events.{after_event}
use Rattle.lapin_rules.specs.Incoming.{incoming_of}
use Rattle.lapin_rules.specs.Wire.{Wire, start, state_of, is_closed, is_open}
use Rattle.lapin_machine.proofs.Counting.{incoming_counts, lost_counts, next_counts}
use Rattle.lapin_machine.proofs.Standing.{past-push}
use Rattle.lapin_resend.proofs.Out.{still_open}
use Rattle.lapin_concord.specs.Openings.{opening_of}
use Rattle.lapin_verdicts.specs.Deeds.{deeds, opening}
use Rattle.lapin_verdicts.specs.Publishes as publishes
use Rattle.lapin_verdicts.specs.Verdicts.{at_place, message_by, messages_in, IsVerdict}
use Rattle.lapin_resend.specs.declared.message.Message.{Message}
use Rattle.lapin_resend.specs.Messages.{Standing, polled, waits, confirm_of}
use Rattle.lapin_resend.specs.Publisher.{Publisher, Steps, Met, told, state_in, with_event, with_all, poll_at, poll_one, publishing, publish_one, each, after_polls, after_opening, after_selecting, tended}
use Rattle.lapin_resend_laws.specs.Stored.{published, IsAcked, IsAckedIn, AnyOf}
use Rattle.lapin_resend_laws.proofs.Runs.{IsRunReady, poll_runs, publish_ready, opening_ready, selecting_ready, selected_then}
use Rattle.lapin_resend_laws.proofs.Marks.{on_channel}
use Rattle.lapin_verdicts.proofs.Numbering.{place-more}
use Rattle.std.proofs.lemmas.Option.{same_Some}

-- ---- a poll that tells of an ack

-- what an ack is told of
confirmed_ack : (m : Option BasicReturnMessage) (o : Outcome) (c : Option BasicReturnMessage) → confirmed m o ≡ record_.Confirmed (Ok (confirmation.Ack c)) → o ≡ outcome.Ack
confirmed_ack m outcome.Ack c h = refl
confirmed_ack m outcome.Nack c h = absurd (cc)
confirmed_ack m outcome.NotRequested c h = absurd (cc)
confirmed_ack m (outcome.Failed e) c h = absurd (cc)

polled_ack : (m : Option BasicReturnMessage) (o : Option Outcome) (c : Option BasicReturnMessage) → polled_outcome m o ≡ record_.Confirmed (Ok (confirmation.Ack c)) → o ≡ Some outcome.Ack
polled_ack m None c h = absurd (cc)
polled_ack m (Some o) c h = ap (λ (x : Outcome). Some x) (confirmed_ack m o c h)

pub told_ack : (ms : List ConfirmMark) (k : ℕ) (c : Option BasicReturnMessage) → confirm_poll ms k ≡ record_.Confirmed (Ok (confirmation.Ack c)) → (was_added k ms ≡ true) × (outcome_at k ms ≡ Some outcome.Ack)
told_ack ms k c h = at (was_added k ms) (is_finished k ms) refl refl
  where
    at : (a f : Bool) → was_added k ms ≡ a → is_finished k ms ≡ f → (was_added k ms ≡ true) × (outcome_at k ms ≡ Some outcome.Ack)
    at true false added finished = let now : polled_outcome (message_of k ms) (outcome_at k ms) ≡ record_.Confirmed (Ok (confirmation.Ack c)) = rw (added, finished) at h in (added, polled_ack (message_of k ms) (outcome_at k ms) c now)
    at true true added finished = let no : record_.Refused error.AlreadyTaken ≡ record_.Confirmed (Ok (confirmation.Ack c)) = rw (added, finished) at h in absurd (cc)
    at false f added finished = let no : record_.Refused error.UnknownTicket ≡ record_.Confirmed (Ok (confirmation.Ack c)) = rw added at h in absurd (cc)

failed_first : (b : Bool) (x : Outcome) (o : Option Outcome) → (Some x ≡ Some outcome.Ack → ⊥) → (o ≡ Some outcome.Ack → ⊥) → option_or (cond b (Some x) None) o ≡ Some outcome.Ack → ⊥
failed_first true x o one other h = one h
failed_first false x o one other h = other h

-- a publish that is confirmed by an ack has a tag
has_tag : (c : ℕ) (o : Option ℕ) (later : List ConfirmMark) → outcome_after c o later ≡ Some outcome.Ack → (t : ℕ) × (o ≡ Some t)
has_tag c None later h = absurd (cc)
has_tag c (Some t) later h = (t, refl)

no_failed_ack : (c : ℕ) (ms : List ConfirmMark) → first_rejected c ms ≡ Some outcome.Ack → ⊥
no_failed_ack c [] h = cc
no_failed_ack c (mark.ClosedHere d e ∷ ms) h = failed_first (c == d) (outcome.Failed e) (first_rejected c ms) (λ x. cc) (no_failed_ack c ms) h
no_failed_ack c (mark.Ended d e ∷ ms) h = failed_first (c == d) (outcome.Failed e) (first_rejected c ms) (λ x. cc) (no_failed_ack c ms) h
no_failed_ack c (_ ∷ ms) h = no_failed_ack c ms h

pub acked_tag : (ms : List ConfirmMark) (k : ℕ) → outcome_at k ms ≡ Some outcome.Ack → (t : ℕ) × (tag_of k ms ≡ Some t)
acked_tag ms k h = at (has_left k ms) refl
  where
    at : (b : Bool) → has_left k ms ≡ b → (t : ℕ) × (tag_of k ms ≡ Some t)
    at true left = let now : outcome_after (channel_of k ms) (tag_of k ms) (after (leaves k) ms) ≡ Some outcome.Ack = rw left at h in has_tag (channel_of k ms) (tag_of k ms) (after (leaves k) ms) now
    at false left = let now : first_rejected (channel_of k ms) (life k ms) ≡ Some outcome.Ack = rw left at h in absurd (no_failed_ack (channel_of k ms) (life k ms) now)

-- ---- the messages of a history

messages-push : (h : History) (x : Event × Record) → messages_in (h ++ x ∷ []) ≡ messages_in h ++ message_by x.0 x.1
messages-push [] x = append-nil (message_by x.0 x.1)
messages-push (y ∷ h) x = ap (λ (ms : List publishes.Message). message_by y.0 y.1 ++ ms) (messages-push h x) ∙ sym (append_assoc (message_by y.0 y.1) (messages_in h) (message_by x.0 x.1))

place_last : {X : Type 0} (k : ℕ) (xs : List X) (x : X) → k ≡ suc (length xs) → at_place k (xs ++ x ∷ []) ≡ Some x
place_last zero xs x h = absurd (omega arith)
place_last (suc zero) [] x h = refl
place_last (suc (suc k)) [] x h = absurd (omega arith)
place_last (suc zero) (z ∷ zs) x h = absurd (omega arith)
place_last (suc (suc k)) (z ∷ zs) x h = place_last (suc k) zs x (omega arith)

-- ---- what holds of a message while its joined run goes on

-- the law of confirms: an ack is a verdict
abbrev pub IsLaw : ℕ → Type 0
IsLaw n = (c k t : ℕ) (kind : SettleKind) (steps : Steps) → channel_of k (past n (joined_to n steps).session).confirms ≡ c → tag_of k (past n (joined_to n steps).session).confirms ≡ Some t → outcome_at k (past n (joined_to n steps).session).confirms ≡ Some (kind_outcome kind) →
    (m : publishes.Message) × (at_place k (messages_in (joined_to n steps).session) ≡ Some m) × IsVerdict t kind m (opening c (opening_of k (past n (joined_to n steps).session).confirms) (deeds n steps))

-- where it is stored it was acked, in an earlier run or in this one; where it has an outstanding publish, that is of the call of it
pub record IsGood (n : ℕ) (earlier : List Steps) (made : Steps) (s : Standing) : Type 0 where
  pub stored : s.stored ≡ true → AnyOf (IsAckedIn n s.message) earlier ⊎ IsAckedIn n s.message made
  pub out : (k : ℕ) → s.outstanding ≡ Some k → at_place k (messages_in (joined_to n made).session) ≡ Some (published s.message)

pub acked_on : (n : ℕ) (m : Message) (made more : Steps) → IsAckedIn n m made → IsAckedIn n m (made ++ more)
acked_on n m made more a = record { made = a.made; rest = a.rest ++ more; all = ap (λ (ss : Steps). ss ++ more) a.all ∙ append_assoc a.made a.rest more; acked = a.acked }

-- the messages of a longer run begin with those before
abbrev IsMore : ℕ → Steps → Steps → Type 0
IsMore n made later = (new : List publishes.Message) × (messages_in (joined_to n later).session ≡ messages_in (joined_to n made).session ++ new)

good_on : (n : ℕ) (earlier : List Steps) (made : Steps) (x : joined_step.Step) (s : Standing) → IsMore n made (made ++ x ∷ []) → IsGood n earlier made s → IsGood n earlier (made ++ x ∷ []) s
good_on n earlier made x s more g = record { stored = λ is. on (g.stored is); out = λ k is. subst (λ (ms : List publishes.Message). at_place k ms ≡ Some (published s.message)) (sym more.1) (place-more k (messages_in (joined_to n made).session) more.0 (published s.message) (g.out k is)) }
  where
    on : AnyOf (IsAckedIn n s.message) earlier ⊎ IsAckedIn n s.message made → AnyOf (IsAckedIn n s.message) earlier ⊎ IsAckedIn n s.message (made ++ x ∷ [])
    on (inl before) = inl before
    on (inr here) = inr (acked_on n s.message made (x ∷ []) here)

-- ---- a joined run's messages grow

session_more : (n : ℕ) (j : Joint History) (s : joined_step.Step) → (new : List publishes.Message) × (messages_in (step_after (by_history n) s j).session ≡ messages_in j.session ++ new)
session_more n j (joined.Client e) = lawful (is_lawful e)
  where
    lawful : (b : Bool) → (new : List publishes.Message) × (messages_in (cond b (client (by_history n) e j) j).session ≡ messages_in j.session ++ new)
    lawful true = (message_by e (rec n j.session e), messages-push j.session (e, rec n j.session e))
    lawful false = ([], sym (append-nil (messages_in j.session)))
session_more n j joined.Read = first j.up
  where
    first : (ls : List Left) → (new : List publishes.Message) × (messages_in (read_first ls j).session ≡ messages_in j.session ++ new)
    first [] = ([], sym (append-nil (messages_in j.session)))
    first (l ∷ ls) = ([], sym (append-nil (messages_in j.session)))
session_more n j (joined.Send f) = allowed (may j.broker f)
  where
    allowed : (b : Bool) → (new : List publishes.Message) × (messages_in (cond b (send_down f j) j).session ≡ messages_in j.session ++ new)
    allowed true = ([], sym (append-nil (messages_in j.session)))
    allowed false = ([], sym (append-nil (messages_in j.session)))
session_more n j joined.Deliver = first j.down
  where
    first : (fs : List Frame) → (new : List publishes.Message) × (messages_in (deliver_first (by_history n) fs j).session ≡ messages_in j.session ++ new)
    first [] = ([], sym (append-nil (messages_in j.session)))
    first (f ∷ fs) = ([], messages-push j.session (event.Receive f, rec n j.session (event.Receive f)))
session_more n j joined.Lose = ([], messages-push j.session (event.Lost, rec n j.session event.Lost))

run_more : (n : ℕ) (made : Steps) (s : joined_step.Step) → IsMore n made (made ++ s ∷ [])
run_more n made s =
    let one = session_more n (joined_to n made) s in
    (one.0, ap (λ (j : Joint History). messages_in j.session) (run-push (by_history n) made s (new_joint [] n)) ∙ one.1)

pub goes_on : (n : ℕ) (earlier : List Steps) (made : Steps) (x : joined_step.Step) (ss : List Standing) → AllByRecursion (IsGood n earlier made) ss → AllByRecursion (IsGood n earlier (made ++ x ∷ [])) ss
goes_on n earlier made x [] g = tt
goes_on n earlier made x (s ∷ ss) g = (good_on n earlier made x s (run_more n made x) g.0, goes_on n earlier made x ss g.1)

-- ---- as many messages as publishes were accepted

abbrev pub IsCounted : ℕ → History → Type 0
IsCounted n h = length (messages_in h) ≡ (past n h).wire.published

counted-push : (n : ℕ) (h : History) (e : Event) → (after_event (past n h).wire e (rec n h e)).published ≡ (past n h).wire.published + length (message_by e (rec n h e)) → IsCounted n h → IsCounted n (h ++ (e, rec n h e) ∷ [])
counted-push n h e grown count =
    let there : (past n (h ++ (e, rec n h e) ∷ [])).wire.published ≡ (after_event (past n h).wire e (rec n h e)).published = ap (λ (p : Past). p.wire.published) (past-push (record { wire = start n; confirms = []; tickets = [] }) h e (rec n h e)) in
    ap length (messages-push h (e, rec n h e)) ∙ length-append (messages_in h) (message_by e (rec n h e)) ∙ ap (λ (k : ℕ). k + length (message_by e (rec n h e))) count ∙ sym grown ∙ sym there

-- an event that publishes nothing
counted_same : (n : ℕ) (h : History) (e : Event) → message_by e (rec n h e) ≡ [] → (after_event (past n h).wire e (rec n h e)).published ≡ (past n h).wire.published → IsCounted n h → IsCounted n (h ++ (e, rec n h e) ∷ [])
counted_same n h e none same count = counted-push n h e (same ∙ sym (ap (λ (ms : List publishes.Message). (past n h).wire.published + length ms) none ∙ add-zero ((past n h).wire.published))) count

pub count_next : (n : ℕ) (h : History) (flow : Bool) → IsCounted n h → IsCounted n (h ++ (event.Next flow, rec n h (event.Next flow)) ∷ [])
count_next n h flow count = counted_same n h (event.Next flow) refl (next_counts (rec n h (event.Next flow)) (past n h).wire).1 count

pub count_receive : (n : ℕ) (h : History) (f : Frame) → IsCounted n h → IsCounted n (h ++ (event.Receive f, rec n h (event.Receive f)) ∷ [])
count_receive n h f count = counted_same n h (event.Receive f) refl (incoming_counts (incoming_of f) (rec n h (event.Receive f)) (past n h).wire).1 count

count_lost : (n : ℕ) (h : History) → IsCounted n h → IsCounted n (h ++ (event.Lost, rec n h event.Lost) ∷ [])
count_lost n h count = counted_same n h event.Lost refl (lost_counts (past n h).wire).1 count

count_poll : (n : ℕ) (h : History) (k : ℕ) → IsCounted n h → IsCounted n (h ++ (event.PollConfirm k, rec n h (event.PollConfirm k)) ∷ [])
count_poll n h k count = counted_same n h (event.PollConfirm k) refl refl count

same_published : (t : Bool) (x y : Wire) → x.published ≡ y.published → (cond t x y).published ≡ y.published
same_published true x y e = e
same_published false x y e = refl

count_open : (n : ℕ) (h : History) → IsCounted n h → IsCounted n (h ++ (event.Call 1 call.OpenChannel, rec n h (event.Call 1 call.OpenChannel)) ∷ [])
count_open n h count = counted_same n h (event.Call 1 call.OpenChannel) refl (same_published (is_closed (state_of 1 (past n h).wire)) _ (past n h).wire refl) count

count_select : (n : ℕ) (h : History) → IsCounted n h → IsCounted n (h ++ (event.Call 1 (call.ConfirmSelect (record { nowait = true })), rec n h (event.Call 1 (call.ConfirmSelect (record { nowait = true })))) ∷ [])
count_select n h count = counted_same n h (event.Call 1 (call.ConfirmSelect (record { nowait = true }))) refl (same_published (is_open (state_of 1 (past n h).wire)) _ (past n h).wire refl) count

-- a publish on the open channel takes the next number, and is its message
published_one : (n : ℕ) (h : History) (s : Standing) → is_open (state_of 1 (past n h).wire) ≡ true → (message_by (publishing s) (rec n h (publishing s)) ≡ published s.message ∷ []) × (confirm_of (rec n h (publishing s)) ≡ Some ((past n h).wire.published + 1)) × ((after_event (past n h).wire (publishing s) (rec n h (publishing s))).published ≡ (past n h).wire.published + 1)
published_one n h s opened = (rw opened refl, rw opened refl, rw opened refl)

count_publish : (n : ℕ) (h : History) (s : Standing) → is_open (state_of 1 (past n h).wire) ≡ true → IsCounted n h → IsCounted n (h ++ (publishing s, rec n h (publishing s)) ∷ [])
count_publish n h s opened count =
    let one = published_one n h s opened in
    counted-push n h (publishing s) (one.2 ∙ ap (λ (ms : List publishes.Message). (past n h).wire.published + length ms) (sym one.0)) count

abbrev pub IsRunCounted : ℕ → Steps → Type 0
IsRunCounted n made = IsCounted n (joined_to n made).session

pub run_counted : (n : ℕ) (made : Steps) (s : joined_step.Step) → IsCounted n (step_after (by_history n) s (joined_to n made)).session → IsRunCounted n (made ++ s ∷ [])
run_counted n made s h = subst (λ (j : Joint History). IsCounted n j.session) (sym (run-push (by_history n) made s (new_joint [] n))) h

-- the joined run is ready and counted
pub record Goes (n : ℕ) (made : Steps) (asked : Bool) : Type 0 where
  pub ready : IsRunReady n made asked
  pub counted : IsRunCounted n made

-- so is the present one of a publisher, and its messages are as they should be
pub record Stands (n : ℕ) (earlier : List Steps) (p : Publisher) : Type 0 where
  pub goes : Goes n p.present p.selects
  pub good : AllByRecursion (IsGood n earlier p.present) p.messages

-- ---- a poll

module _ (n : ℕ) (law : IsLaw n) (earlier : List Steps) where
  -- what is told of an ack
  acked_now : (made : Steps) (s : Standing) (k : ℕ) (c : Option BasicReturnMessage) (asked : Bool) → IsRunReady n made asked → IsGood n earlier made s → s.outstanding ≡ Some k → told n made (event.PollConfirm k) ≡ record_.Confirmed (Ok (confirmation.Ack c)) → IsAcked n made s.message
  acked_now made s k c asked ready g is ack =
      let h : History = (joined_to n made).session in
      let p : Past = past n h in
      let says = told_ack p.confirms k c ack in
      let tag = acked_tag p.confirms k says.1 in
      let judged = law 1 k tag.0 settle.Ack made (on_channel k p.confirms ready.requested.on says.0) tag.1 says.1 in
      let same : Some judged.0 ≡ Some (published s.message) = sym judged.1 ∙ g.out k is in
      let message : judged.0 ≡ published s.message = same_Some judged.0 (published s.message) same in
      record { opened = opening_of k p.confirms; number = tag.0; verdict = subst (λ (m : publishes.Message). IsVerdict tag.0 settle.Ack m (opening 1 (opening_of k p.confirms) (deeds n made))) message judged.2 }

  polled_good : (made : Steps) (s : Standing) (k : ℕ) (asked : Bool) (r : Record) → IsRunReady n made asked → IsGood n earlier made s → s.outstanding ≡ Some k → told n made (event.PollConfirm k) ≡ r → IsGood n earlier (with_event (event.PollConfirm k) made) (polled r s)
  polled_good made s k asked (record_.Confirmed (Ok (confirmation.Ack c))) ready g is told_is = record {
    stored = λ _. inr (record { made = made; rest = joined.Client (event.PollConfirm k) ∷ []; all = refl; acked = acked_now made s k c asked ready g is told_is });
    out = λ i none. absurd (cc);
  }
  polled_good made s k asked (record_.Confirmed (Ok (confirmation.Nack c))) ready g is told_is = record { stored = (good_on n earlier made (joined.Client (event.PollConfirm k)) s (run_more n made _) g).stored; out = λ i none. absurd (cc) }
  polled_good made s k asked (record_.Confirmed (Ok confirmation.NotRequested)) ready g is told_is = record { stored = (good_on n earlier made (joined.Client (event.PollConfirm k)) s (run_more n made _) g).stored; out = λ i none. absurd (cc) }
  polled_good made s k asked (record_.Confirmed (Err e)) ready g is told_is = record { stored = (good_on n earlier made (joined.Client (event.PollConfirm k)) s (run_more n made _) g).stored; out = λ i none. absurd (cc) }
  polled_good made s k asked _ ready g is told_is = good_on n earlier made (joined.Client (event.PollConfirm k)) s (run_more n made _) g

  -- ---- a publish

  published_good : (made : Steps) (s : Standing) → is_open (state_in n made) ≡ true → IsRunCounted n made → IsGood n earlier made s → IsGood n earlier (with_event (publishing s) made) (record s { outstanding = confirm_of (told n made (publishing s)) })
  published_good made s opened count g =
      let h : History = (joined_to n made).session in
      let one = published_one n h s opened in
      let grown : messages_in (joined_to n (with_event (publishing s) made)).session ≡ messages_in h ++ published s.message ∷ [] =
      ap (λ (j : Joint History). messages_in j.session) (run-push (by_history n) made (joined.Client (publishing s)) (new_joint [] n)) ∙ messages-push h (publishing s, rec n h (publishing s)) ∙ ap (λ (ms : List publishes.Message). messages_in h ++ ms) one.0 in
      record {
        stored = (good_on n earlier made (joined.Client (publishing s)) s (run_more n made _) g).stored;
        out = λ k is.
            let number : Some ((past n h).wire.published + 1) ≡ Some k = sym one.1 ∙ is in
            let same : (past n h).wire.published + 1 ≡ k = same_Some ((past n h).wire.published + 1) k number in
            let place : k ≡ suc (length (messages_in h)) = sym same ∙ add-one ((past n h).wire.published) ∙ ap suc (sym count) in
            ap (at_place k) grown ∙ place_last k (messages_in h) (published s.message) place;
      }

  -- ---- each message, one after the other

  all_more : (made : Steps) (x : joined_step.Step) (ss : List Standing) → AllByRecursion (IsGood n earlier made) ss → AllByRecursion (IsGood n earlier (made ++ x ∷ [])) ss
  all_more made x ss g = goes_on n earlier made x ss g

  -- what is done with one message keeps it, and those beside it
  abbrev Keeps : Bool → (Steps → Standing → Met) → (Steps → Type 0) → Type 0
  Keeps asked meet when = (made : Steps) (s : Standing) → when made → Goes n made asked → IsGood n earlier made s →
      IsGood n earlier (meet made s).1 (meet made s).0 × Goes n (meet made s).1 asked × when (meet made s).1 × ((t : Standing) → IsGood n earlier made t → IsGood n earlier (meet made s).1 t)

  beside : (made later : Steps) (ss : List Standing) → ((t : Standing) → IsGood n earlier made t → IsGood n earlier later t) → AllByRecursion (IsGood n earlier made) ss → AllByRecursion (IsGood n earlier later) ss
  beside made later [] kept g = tt
  beside made later (s ∷ ss) kept g = (kept s g.0, beside made later ss kept g.1)

  -- of the messages that came before too
  each_good : (asked : Bool) (meet : Steps → Standing → Met) (when : Steps → Type 0) → Keeps asked meet when → (made : Steps) (ss : List Standing) → when made → Goes n made asked → AllByRecursion (IsGood n earlier made) ss →
      AllByRecursion (IsGood n earlier (each meet made ss).1) (each meet made ss).0 × Goes n (each meet made ss).1 asked × ((t : Standing) → IsGood n earlier made t → IsGood n earlier (each meet made ss).1 t)
  each_good asked meet when keeps made [] w goes g = (tt, goes, λ t h. h)
  each_good asked meet when keeps made (s ∷ ss) w goes g =
      let one = keeps made s w goes g.0 in
      let rest = each_good asked meet when keeps (meet made s).1 ss one.2 one.1 (beside made (meet made s).1 ss one.3 g.1) in
      ((rest.2 (meet made s).0 one.0, rest.0), rest.1, λ t h. rest.2 t (one.3 t h))

  poll_keeps : (asked : Bool) → Keeps asked (poll_one n) (λ made. Unit {0})
  poll_keeps asked made s w goes g = at s.outstanding refl
    where
      at : (o : Option ℕ) → s.outstanding ≡ o → IsGood n earlier (poll_at n made s o).1 (poll_at n made s o).0 × Goes n (poll_at n made s o).1 asked × Unit {0} × ((t : Standing) → IsGood n earlier made t → IsGood n earlier (poll_at n made s o).1 t)
      at None is = (g, goes, tt, λ t h. h)
      at (Some k) is = (
        polled_good made s k asked (told n made (event.PollConfirm k)) goes.ready g is refl,
        record {
          ready = poll_runs n made s (Some k) asked goes.ready;
          counted = run_counted n made (joined.Client (event.PollConfirm k)) (count_poll n (joined_to n made).session k goes.counted);
        },
        tt,
        λ t h. good_on n earlier made (joined.Client (event.PollConfirm k)) t (run_more n made _) h,
      )

  publish_keeps : Keeps true (publish_one n) (λ made. is_open (state_in n made) ≡ true)
  publish_keeps made s opened goes g = at (waits s) refl
    where
      out : Standing
      out = record s { outstanding = confirm_of (told n made (publishing s)) }

      at : (w : Bool) → waits s ≡ w →
          IsGood n earlier (cond {A = Met} w (out, with_event (publishing s) made) (s, made)).1 (cond {A = Met} w (out, with_event (publishing s) made) (s, made)).0
          × Goes n (cond {A = Met} w (out, with_event (publishing s) made) (s, made)).1 true
          × (is_open (state_in n (cond {A = Met} w (out, with_event (publishing s) made) (s, made)).1) ≡ true)
          × ((t : Standing) → IsGood n earlier made t → IsGood n earlier (cond {A = Met} w (out, with_event (publishing s) made) (s, made)).1 t)
      at true waiting = (
        published_good made s opened goes.counted g,
        record {
          ready = publish_ready n made s opened goes.ready;
          counted = run_counted n made (joined.Client (publishing s)) (count_publish n (joined_to n made).session s opened goes.counted);
        },
        still_open n made s out true opened,
        λ t h. good_on n earlier made (joined.Client (publishing s)) t (run_more n made _) h,
      )
      at false waiting = (g, goes, opened, λ t h. h)

  -- ---- tending

  polls_stand : (p : Publisher) → Stands n earlier p → Stands n earlier (after_polls n p)
  polls_stand p h = let all = each_good p.selects (poll_one n) (λ made. Unit {0}) (poll_keeps p.selects) p.present p.messages tt h.goes h.good in record { goes = all.1; good = all.0 }

  opening_stands : (p : Publisher) (t : Bool) → is_closed (state_in n p.present) ≡ t → Stands n earlier p → Stands n earlier (cond t (record p { present = with_event (event.Call 1 call.OpenChannel) p.present; selects = false }) p)
  opening_stands p true closed h = record {
    goes = record {
      ready = opening_ready n p true closed h.goes.ready;
      counted = run_counted n p.present (joined.Client (event.Call 1 call.OpenChannel)) (count_open n (joined_to n p.present).session h.goes.counted);
    };
    good = goes_on n earlier p.present (joined.Client (event.Call 1 call.OpenChannel)) p.messages h.good;
  }
  opening_stands p false closed h = h

  selecting_stands : (p : Publisher) (t : Bool) → (not p.selects && is_open (state_in n p.present)) ≡ t → Stands n earlier p → Stands n earlier (cond t (record p { present = with_event (event.Call 1 (call.ConfirmSelect (record { nowait = true }))) p.present; selects = true }) p)
  selecting_stands p true called h = record {
    goes = record {
      ready = selecting_ready n p true called h.goes.ready;
      counted = run_counted n p.present (joined.Client (event.Call 1 (call.ConfirmSelect (record { nowait = true })))) (count_select n (joined_to n p.present).session h.goes.counted);
    };
    good = goes_on n earlier p.present (joined.Client (event.Call 1 (call.ConfirmSelect (record { nowait = true })))) p.messages h.good;
  }
  selecting_stands p false called h = h

  publishing_stands : (p : Publisher) (t : Bool) → is_open (state_in n p.present) ≡ t → (t ≡ true → p.selects ≡ true) → Stands n earlier p → Stands n earlier (cond t (with_all (each (publish_one n) p.present p.messages) p) p)
  publishing_stands p true opened selects h =
      let called : Goes n p.present true = subst (λ (b : Bool). Goes n p.present b) (selects refl) h.goes in
      let all = each_good true (publish_one n) (λ made. is_open (state_in n made) ≡ true) publish_keeps p.present p.messages opened called h.good in
      record { goes = subst (λ (b : Bool). Goes n (each (publish_one n) p.present p.messages).1 b) (sym (selects refl)) all.1; good = all.0 }
  publishing_stands p false opened selects h = h

  pub tended_stands : (p : Publisher) → Stands n earlier p → Stands n earlier (tended n p)
  tended_stands p h =
      let a : Publisher = after_polls n p in
      let b : Publisher = after_opening n a in
      let c : Publisher = after_selecting n b in
      let polls : Stands n earlier a = polls_stand p h in
      let opens : Stands n earlier b = opening_stands a (is_closed (state_in n a.present)) refl polls in
      let selects : Stands n earlier c = selecting_stands b (not b.selects && is_open (state_in n b.present)) refl opens in
      publishing_stands c (is_open (state_in n c.present)) refl (selected_then n b) selects
