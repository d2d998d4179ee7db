-- In every joined run tickets are numbered in the order in which they are given, so a ticket is of one call.
use Rattle.std.proofs.Common.{◌≡◌, ◌∙◌, ℕ, zero, suc, ◌+◌, Bool, true, false, cond, ◌&&◌, ◌||◌, List, [], ◌∷◌, ◌++◌, Option, Some, None, Result, Ok, Err, refl, sym, ap, subst, append-nil, append_assoc, arith}
use Rattle.std.specs.Option.{is_some}
use Rattle.std.proofs.lemmas.Bool.{and_parts}
use Rattle.lapin_types.specs.declared.acker_call.AckerCall.{AckerCall}
use Rattle.lapin_types.specs.declared.answer.Answer.{Answer}
use Rattle.lapin_types.specs.declared.call.Call.{Call}
use Rattle.lapin_types.specs.declared.event.Event.{Event}
use Rattle.lapin_types.specs.declared.event.Event.TheVariants as event
use Rattle.lapin_types.specs.declared.job.Job.{Job}
use Rattle.lapin_types.specs.declared.leaving.Left.{Left}
use Rattle.lapin_types.specs.declared.message.BasicReturnMessage.{BasicReturnMessage}
use Rattle.lapin_types.specs.declared.record.Record.{Record}
use Rattle.lapin_types.specs.declared.record.Record.TheVariants as record_
use Rattle.lapin_types.specs.Types.{Error}
use Rattle.lapin_types.specs.Types.error
use Rattle.lapin_rules.specs.declared.broker_frames.Incoming.{Incoming}
use Rattle.lapin_rules.specs.declared.broker_frames.Incoming.TheVariants as incoming
use Rattle.lapin_rules.specs.declared.calls.Asked.{Asked}
use Rattle.lapin_rules.specs.declared.calls.Asked.TheVariants as ask
use Rattle.lapin_types.specs.declared.outcome.Outcome.{Outcome}
use Rattle.lapin_types.specs.declared.outcome.Outcome.TheVariants as outcome
use Rattle.lapin_rules.specs.Ackers.{acker_asked, acked_record, acked_wire, usable_at}
use Rattle.lapin_rules.specs.Asking.{is_allowed, is_held, is_outstanding, asked_by, accepted_record, call_record, call_told, after_call, asked_wire}
use Rattle.lapin_rules.specs.Calls.{asked, is_try}
use Rattle.lapin_rules.specs.ChannelClose.{receives_close, receives_close_ok}
use Rattle.lapin_rules.specs.ConfirmMarks.{ConfirmMark}
use Rattle.lapin_rules.specs.ConfirmReadings.{was_added, is_finished, outcome_at}
use Rattle.lapin_rules.specs.ConnectionClose.{receives_down}
use Rattle.lapin_rules.specs.Consumers.{receives_consumer, item_record, delegate_record, drop_record, job_record}
use Rattle.lapin_rules.specs.Content.{receives_part}
use Rattle.lapin_rules.specs.Events.{record_of, after_event}
use Rattle.lapin_rules.specs.Handing.{frame_record, handed}
use Rattle.lapin_rules.specs.History.{History, Past, past, rec, readings_of, polled_outcome, confirm_poll, confirm_aside, polled_answer, was_given, ticket_poll, ticket_aside}
use Rattle.lapin_rules.specs.Incoming.{incoming_of, frame_class, frame_method}
use Rattle.lapin_rules.specs.Phases.{is_up}
use Rattle.lapin_rules.specs.Polls.{confirmed, is_waited_on}
use Rattle.lapin_rules.specs.Readings.{Readings}
use Rattle.lapin_rules.specs.Receiving.{incoming_up}
use Rattle.lapin_rules.specs.Reply.{receives_reply}
use Rattle.lapin_rules.specs.ReturnReadings.{message_of}
use Rattle.lapin_rules.specs.TicketReadings.{TicketMark, is_collected, answer_of}
use Rattle.lapin_rules.specs.Unexpected.{refused}
use Rattle.lapin_rules.specs.Wire.{Wire, state_of, receives_on}
use Rattle.lapin_rules.specs.Words.{many, one_after}
use Rattle.lapin_consumer.specs.Subscriptions.{Consumer, Handed, answered, consumer_at}
use Rattle.lapin_joint.specs.declared.step.Step.{Step}
use Rattle.lapin_joint.specs.declared.step.Step.TheVariants as step
use Rattle.lapin_joint.specs.Joint.{Joint, is_lawful, client, read_first, send_down, deliver_first, after, joined_to}
use Rattle.lapin_machine.specs.Way.{by_history}
use Rattle.lapin_machine.proofs.Counting.{incoming_counts, lost_counts, next_counts, let_go_counts}
use Rattle.lapin_broker.specs.Sends.{may}
use Rattle.lapin_types.specs.Types.{Frame}
use Rattle.lapin_verdicts.proofs.Runs.{past-push, joined-push}
use Rattle.lapin_answers.specs.Calls.{ticket_in}
use Rattle.lapin_tables.proofs.Bools.{and_false}
use Rattle.lapin_verdicts.proofs.Saying.{plain_record}
use Rattle.std.proofs.lemmas.Option.{same_Some}

-- ---- an event gives the next ticket, or none

abbrev NoTicket : Record → Type 0
NoTicket r = ticket_in r ≡ None

pub data Counts (r : Record) (t t' : ℕ) : Type 0 where
  Same : (none : NoTicket r) (count : t' ≡ t) → Counts r t t'
  Next : (given : ticket_in r ≡ Some (t + 1)) (count : t' ≡ t + 1) → Counts r t t'

either : (t : Bool) (x y : Record) → NoTicket x → NoTicket y → NoTicket (cond t x y)
either true x y h k = h
either false x y h k = k

accepted_counts : (c : ℕ) (a : Asked) (b : Wire) → Counts (accepted_record a b) b.tickets (after_call c a b).tickets
accepted_counts c ask.Open b = Next refl refl
accepted_counts c (ask.CloseChannel code text) b = Next refl refl
accepted_counts c (ask.CloseConnection code text) b = Next refl refl
accepted_counts c (ask.Publish exchange key o payload properties) b = Next refl refl
accepted_counts c (ask.Method row) b = Next refl refl
accepted_counts c (ask.Consume m tag queue o) b = Next refl refl
accepted_counts c (ask.Limit limit) b = Next refl refl
accepted_counts c ask.Nothing b = Next refl refl

asked_counts : (c : ℕ) (a : Asked) (b : Wire) → Counts (call_record c a b) b.tickets (asked_wire c a b).tickets
asked_counts c a b = elim (is_allowed a (state_of c b)) as (λ v. Counts (cond v (accepted_record a b) (record_.Refused (error.InvalidChannelState (state_of c b)))) b.tickets (cond v (after_call c a b) b).tickets) [ true ↦ accepted_counts c a b | false ↦ Same refl refl ]

call_counts : (c : ℕ) (k : Call) (b : Wire) (readings : Readings) → Counts (call_told c k b readings) b.tickets (asked_wire c (asked_by k (call_told c k b readings)) b).tickets
call_counts c k b readings =
    let no : Record = record_.Refused (error.ConfirmsOutstanding (readings.limit c)) in
    let yes : Record = call_record c (asked k) b in
    let E : Record → Asked → Type 0 = λ r a. Counts r b.tickets (asked_wire c a b).tickets in
    elim (is_held c k b readings) as (λ v. is_held c k b readings ≡ v → E (cond v no yes) (asked_by k (cond v no yes))) [
      | true ↦ λ h.
          let tries : is_try k ≡ true = (and_parts (is_try k) _ h).0 in
          let none : asked_by k no ≡ ask.Nothing = ap (λ v. cond (v && true) ask.Nothing (asked k)) tries in
          subst (E no) (sym none) (Same refl refl)
      | false ↦ λ h.
          let plain : is_outstanding yes ≡ false = plain_record (is_allowed (asked k) (state_of c b)) (asked k) b (error.InvalidChannelState (state_of c b)) refl in
          let same : asked_by k yes ≡ asked k = ap (λ v. cond (is_try k && v) ask.Nothing (asked k)) plain ∙ ap (λ v. cond v ask.Nothing (asked k)) (and_false (is_try k)) in
          subst (E yes) (sym same) (asked_counts c (asked k) b)
    ] refl

acked_counts : (o : Option (ℕ × ℕ)) (k : AckerCall) (b : Wire) → Counts (acked_record o k b) b.tickets (acked_wire o k b).tickets
acked_counts None k b = Same refl refl
acked_counts (Some x) k b = asked_counts x.0 (acker_asked k x.1) b

-- ---- records of other events

incoming_none : (b : Wire) (readings : Readings) (class number : ℕ) (i : Incoming) → NoTicket (incoming_up b readings (refused class number) i)
incoming_none b readings class number (incoming.Reply c k a) = either (receives_reply c k b) record_.Received (refused class number) refl refl
incoming_none b readings class number (incoming.Settlement c s) = either (receives_on (state_of c b)) _ (refused class number) (either (readings.selected c) _ record_.Passed (either (s.multiple || readings.pending c s.tag) record_.Received _ refl refl) refl) refl
incoming_none b readings class number (incoming.Content c p) = either (receives_part c p b) record_.Received (refused class number) refl refl
incoming_none b readings class number (incoming.Consumer c p) = either (receives_consumer c p b) record_.Received (refused class number) refl refl
incoming_none b readings class number (incoming.Flow c active) = either (receives_on (state_of c b)) record_.Received (refused class number) refl refl
incoming_none b readings class number (incoming.ChannelClose c code) = either (receives_close (state_of c b)) record_.Received (refused class number) refl refl
incoming_none b readings class number (incoming.ChannelCloseOk c) = either (receives_close_ok (state_of c b)) record_.Received (refused class number) refl refl
incoming_none b readings class number (incoming.ConnectionClose code) = refl
incoming_none b readings class number incoming.ConnectionCloseOk = refl
incoming_none b readings class number incoming.Other = refl

frame_none : (o : Option Left) → NoTicket (frame_record o)
frame_none None = refl
frame_none (Some l) = refl

item_none : (r : Result (Option Handed) Error) → NoTicket (item_record r)
item_none (Ok None) = refl
item_none (Ok (Some y)) = refl
item_none (Err e) = refl

delegate_none : (o : Option Consumer) → NoTicket (delegate_record o)
delegate_none None = refl
delegate_none (Some x) = refl

drop_none : (o : Option Consumer) (b : Wire) → NoTicket (drop_record o b)
drop_none None b = refl
drop_none (Some x) b = refl

job_none : (o : Option Job) → NoTicket (job_record o)
job_none None = refl
job_none (Some j) = refl

confirmed_none : (m : Option BasicReturnMessage) (o : Outcome) → NoTicket (confirmed m o)
confirmed_none m outcome.NotRequested = refl
confirmed_none m outcome.Ack = refl
confirmed_none m outcome.Nack = refl
confirmed_none m (outcome.Failed e) = refl

outcome_none : (m : Option BasicReturnMessage) (o : Option Outcome) → NoTicket (polled_outcome m o)
outcome_none m None = refl
outcome_none m (Some o) = confirmed_none m o

confirm_none : (ms : List ConfirmMark) (n : ℕ) → NoTicket (confirm_poll ms n)
confirm_none ms n = either (was_added n ms) _ _ (either (is_finished n ms) _ _ refl (outcome_none (message_of n ms) (outcome_at n ms))) refl

laid_none : (ms : List ConfirmMark) (n : ℕ) → NoTicket (confirm_aside ms n)
laid_none ms n = either (was_added n ms) _ _ (either (is_finished n ms) _ _ refl refl) refl

answer_none : (o : Option (Result Answer Error)) → NoTicket (polled_answer o)
answer_none None = refl
answer_none (Some a) = refl

ticket_none : (ms : List TicketMark) (n : ℕ) → NoTicket (ticket_poll ms n)
ticket_none ms n = either (was_given n ms) _ _ (either (is_collected n ms) _ _ refl (answer_none (answer_of n ms))) refl

aside_none : (ms : List TicketMark) (n : ℕ) → NoTicket (ticket_aside ms n)
aside_none ms n = either (was_given n ms) _ _ (either (is_collected n ms) _ _ refl refl) refl

event_counts : (b : Wire) (cs : List ConfirmMark) (ts : List TicketMark) (e : Event) → Counts (record_of b (readings_of cs ts) e) b.tickets (after_event b e (record_of b (readings_of cs ts) e)).tickets
event_counts b cs ts (event.Call c k) = call_counts c k b (readings_of cs ts)
event_counts b cs ts (event.Next flow) = Same (frame_none (handed flow (readings_of cs ts).full b)) (next_counts (record_of b (readings_of cs ts) (event.Next flow)) b).0
event_counts b cs ts (event.Receive f) = Same
    (either (is_up b.link) _ _ (incoming_none b (readings_of cs ts) (frame_class f) (frame_method f) (incoming_of f)) (either (receives_down b.link (incoming_of f)) record_.Received record_.Passed refl refl))
    (incoming_counts (incoming_of f) (record_of b (readings_of cs ts) (event.Receive f)) b).0
event_counts b cs ts (event.PollTicket n) = Same (ticket_none ts n) refl
event_counts b cs ts (event.PollConfirm n) = Same (confirm_none cs n) refl
event_counts b cs ts (event.PollConsumer n) = Same (item_none (answered (consumer_at n b.deliveries.subscriptions))) refl
event_counts b cs ts (event.PollWait c) = Same (either (is_waited_on c b (readings_of cs ts)) record_.Pending _ refl refl) refl
event_counts b cs ts (event.AsideTicket n) = Same (aside_none ts n) refl
event_counts b cs ts (event.AsideConfirm n) = Same (laid_none cs n) refl
event_counts b cs ts (event.Acker n k) = acked_counts (usable_at n b) k b
event_counts b cs ts (event.Delegate n) = Same (delegate_none (consumer_at n b.deliveries.subscriptions)) refl
event_counts b cs ts (event.DropConsumer n) = Same (drop_none (consumer_at n b.deliveries.subscriptions) b) (let_go_counts (consumer_at n b.deliveries.subscriptions) b).0
event_counts b cs ts event.NextJob = Same (job_none _) refl
event_counts b cs ts (event.State c) = Same refl refl
event_counts b cs ts event.Lost = Same refl (lost_counts b).0

-- ---- a history

abbrev ticketed : Event × Record → Bool
ticketed x = is_some (ticket_in x.1)

-- the tickets that these events were given go on from t
abbrev pub AreNumbered : ℕ → History → Type 0
AreNumbered t [] = Unit {0}
AreNumbered t (x ∷ h) = ((k : ℕ) → ticket_in x.1 ≡ Some k → k ≡ t + 1) × AreNumbered (t + cond (ticketed x) 1 0) h

many_first : (x : Event × Record) (h : History) → many ticketed (x ∷ h) ≡ many ticketed h + cond (ticketed x) 1 0
many_first x h = elim (ticketed x) as (λ v. cond v (many ticketed h + 1) (many ticketed h) ≡ many ticketed h + cond v 1 0) [ true ↦ refl | false ↦ omega arith ]

numbered-push : (t : ℕ) (h : History) (x : Event × Record) → AreNumbered t h → ((k : ℕ) → ticket_in x.1 ≡ Some k → k ≡ t + many ticketed h + 1) → AreNumbered t (h ++ x ∷ [])
numbered-push t [] x a f = ((λ k e. let z = f k e in omega (arith, z)), tt)
numbered-push t (y ∷ h) x a f = (a.0, numbered-push (t + cond (ticketed y) 1 0) h x a.1 (λ k e. let z = f k e in let w = many_first y h in omega (arith, z, w)))

many-push : (h : History) (x : Event × Record) → many ticketed (h ++ x ∷ []) ≡ many ticketed h + cond (ticketed x) 1 0
many-push [] x = elim (ticketed x) as (λ v. cond v (0 + 1) 0 ≡ 0 + cond v 1 0) [ true ↦ refl | false ↦ refl ]
many-push (y ∷ h) x = let a = many_first y (h ++ x ∷ []) in let b = many_first y h in let i = many-push h x in omega (arith, a, b, i)

numbered_at : (t : ℕ) (before behind : History) (x : Event × Record) (k : ℕ) → AreNumbered t (before ++ x ∷ behind) → ticket_in x.1 ≡ Some k → k ≡ t + many ticketed before + 1
numbered_at t [] behind x k a e = let z = a.0 k e in omega (arith, z)
numbered_at t (y ∷ before) behind x k a e = let z = numbered_at (t + cond (ticketed y) 1 0) before behind x k a.1 e in let w = many_first y before in omega (arith, z, w)

pub one_at : {X : Type 0} (p : X → Bool) (before behind : List X) (x : X) → p x ≡ true → one_after p (many p before) (before ++ x ∷ behind) ≡ Some x
one_at p [] behind x h = ap (λ v. cond v (Some x) (one_after p zero behind)) h
one_at p (y ∷ before) behind x h = by (p y) refl (one_at p before behind x h)
  where
    by : (v : Bool) → p y ≡ v → one_after p (many p before) (before ++ x ∷ behind) ≡ Some x → one_after p (cond (p y) (many p before + 1) (many p before)) (y ∷ (before ++ x ∷ behind)) ≡ Some x
    by true e i =
        let more : many p before + 1 ≡ suc (many p before) = omega arith in
        ap (λ v. one_after p (cond v (many p before + 1) (many p before)) (y ∷ (before ++ x ∷ behind))) e
        ∙ (ap (λ m. one_after p m (y ∷ (before ++ x ∷ behind))) more
        ∙ (ap (λ v. cond v (one_after p (many p before) (before ++ x ∷ behind)) (one_after p (suc (many p before)) (before ++ x ∷ behind))) e ∙ i))
    by false e i = ap (λ v. one_after p (cond v (many p before + 1) (many p before)) (y ∷ (before ++ x ∷ behind))) e ∙ (skipped (many p before) e ∙ i)
      where
        skipped : (m : ℕ) → p y ≡ false → one_after p m (y ∷ (before ++ x ∷ behind)) ≡ one_after p m (before ++ x ∷ behind)
        skipped zero e = ap (λ v. cond v (Some y) (one_after p zero (before ++ x ∷ behind))) e
        skipped (suc m) e = ap (λ v. cond v (one_after p m (before ++ x ∷ behind)) (one_after p (suc m) (before ++ x ∷ behind))) e

-- two events of a history that were given one ticket are one
pub one_call : (h : History) → AreNumbered 0 h → (before behind left right : History) (x y : Event × Record) (k : ℕ) → h ≡ before ++ x ∷ behind → h ≡ left ++ y ∷ right → ticket_in x.1 ≡ Some k → ticket_in y.1 ≡ Some k → x ≡ y
one_call h a before behind left right x y k e f g i =
    let p = numbered_at 0 before behind x k (subst (AreNumbered 0) e a) g in
    let q = numbered_at 0 left right y k (subst (AreNumbered 0) f a) i in
    let same : many ticketed before ≡ many ticketed left = omega (arith, p, q) in
    let one : one_after ticketed (many ticketed before) h ≡ Some x = ap (one_after ticketed (many ticketed before)) e ∙ one_at ticketed before behind x (ap is_some g) in
    let two : one_after ticketed (many ticketed left) h ≡ Some y = ap (one_after ticketed (many ticketed left)) f ∙ one_at ticketed left right y (ap is_some i) in
    let both : Some x ≡ Some y = sym one ∙ (ap (λ m. one_after ticketed m h) same ∙ two) in
    same_Some x y both

-- ---- a run

module _ (n : ℕ) where
  pub record IsNumbered (h : History) : Type 0 where
    pub count : (past n h).wire.tickets ≡ many ticketed h
    pub numbered : AreNumbered 0 h

  event_numbered : (h : History) (e : Event) → IsNumbered h → IsNumbered (h ++ (e, rec n h e) ∷ [])
  event_numbered h e k = by (event_counts (past n h).wire (past n h).confirms (past n h).tickets e)
    where
      pushed : (past n (h ++ (e, rec n h e) ∷ [])).wire ≡ after_event (past n h).wire e (rec n h e)
      pushed = ap (λ (p : Past). p.wire) (past-push n h e (rec n h e))

      same_number : (t m : ℕ) → Some (t + 1) ≡ Some m → t + 1 ≡ m
      same_number t m h = cc

      by : Counts (rec n h e) (past n h).wire.tickets (after_event (past n h).wire e (rec n h e)).tickets → IsNumbered (h ++ (e, rec n h e) ∷ [])
      by (Same none count) =
          let was = k.count in
          let tickets : (past n (h ++ (e, rec n h e) ∷ [])).wire.tickets ≡ (past n h).wire.tickets = ap (λ (w : Wire). w.tickets) pushed ∙ count in
          let more = many-push h (e, rec n h e) in
          let plain : ◌≡◌ {A = ℕ} (cond (ticketed (e, rec n h e)) 1 0) 0 = ap (λ v. cond (is_some v) 1 0) none in
          record { count = omega (arith, was, tickets, more, plain); numbered = numbered-push 0 h (e, rec n h e) k.numbered (λ m g. let w : None ≡ Some m = sym none ∙ g in absurd cc) }
      by (Next given count) =
          let was = k.count in
          let tickets : (past n (h ++ (e, rec n h e) ∷ [])).wire.tickets ≡ (past n h).wire.tickets + 1 = ap (λ (w : Wire). w.tickets) pushed ∙ count in
          let more = many-push h (e, rec n h e) in
          let one : ◌≡◌ {A = ℕ} (cond (ticketed (e, rec n h e)) 1 0) 1 = ap (λ v. cond (is_some v) 1 0) given in
          record { count = omega (arith, was, tickets, more, one); numbered = numbered-push 0 h (e, rec n h e) k.numbered (λ m g. let is = same_number (past n h).wire.tickets m (sym given ∙ g) in omega (arith, is, was)) }

  step_numbered : (s : Step) (j : Joint History) → IsNumbered j.session → IsNumbered (after (by_history n) s j).session
  step_numbered (step.Client e) j k = elim (is_lawful e) as (λ v. IsNumbered (cond v (client (by_history n) e j) j).session) [ true ↦ event_numbered j.session e k | false ↦ k ]
  step_numbered step.Read j k = by j.up
    where
      by : (ls : List Left) → IsNumbered (read_first ls j).session
      by [] = k
      by (l ∷ ls) = k
  step_numbered (step.Send f) j k = elim (may j.broker f) as (λ v. IsNumbered (cond v (send_down f j) j).session) [ true ↦ k | false ↦ k ]
  step_numbered step.Deliver j k = by j.down
    where
      by : (fs : List Frame) → IsNumbered (deliver_first (by_history n) fs j).session
      by [] = k
      by (f ∷ fs) = event_numbered j.session (event.Receive f) k
  step_numbered step.Lose j k = event_numbered j.session event.Lost k

  from_run : (pre ss : List Step) → IsNumbered (joined_to n pre).session → IsNumbered (joined_to n (pre ++ ss)).session
  from_run pre [] k = subst (λ v. IsNumbered (joined_to n v).session) (sym (append-nil pre)) k
  from_run pre (s ∷ ss) k =
      let one : IsNumbered (joined_to n (pre ++ s ∷ [])).session = subst (λ (j : Joint History). IsNumbered j.session) (sym (joined-push n pre s)) (step_numbered s (joined_to n pre) k) in
      subst (λ v. IsNumbered (joined_to n v).session) (append_assoc pre (s ∷ []) ss) (from_run (pre ++ s ∷ []) ss one)

  pub numbered_in : (ss : List Step) → AreNumbered 0 (joined_to n ss).session
  numbered_in ss = (from_run [] ss (record { count = refl; numbered = tt })).numbered
