-- In every joined run a step that is no delivery answers the ticket of a call that awaits a reply only where it ends the opening of an open
-- `basic.cancel`.
use Rattle.std.proofs.Common.{◌≡◌, ◌∙◌, ℕ, zero, suc, ◌+◌, ◌<◌, ◌≤◌, ◌==◌, Bool, true, false, cond, ◌&&◌, ◌||◌, List, [], ◌∷◌, ◌++◌, fold, Option, Some, None, Result, Ok, Err, ◌⊎◌, inl, inr, refl, sym, ap, subst, append-nil, append_assoc, arith}
use Rattle.std.specs.List.{list_any}
use Rattle.std.specs.Option.{is_some, option_or}
use Rattle.std.proofs.lemmas.Bool.Decides.{eqb_tells}
use Rattle.lapin_types.specs.declared.acker_call.AckerCall.{AckerCall}
use Rattle.lapin_types.specs.declared.answer.Answer.{Answer}
use Rattle.lapin_types.specs.declared.answer.Answer.TheVariants as answer
use Rattle.lapin_types.specs.declared.call.Call.{Call}
use Rattle.lapin_types.specs.declared.event.Event.{Event}
use Rattle.lapin_types.specs.declared.event.Event.TheVariants as event
use Rattle.lapin_types.specs.declared.leaving.Left.{Left}
use Rattle.lapin_types.specs.declared.record.Record.{Record}
use Rattle.lapin_types.specs.declared.record.Record.TheVariants as record_
use Rattle.lapin_types.specs.Types.{Frame, Error}
use Rattle.lapin_types.specs.Types.error
use Rattle.lapin_rules.specs.declared.calls.Answered.{Answered}
use Rattle.lapin_rules.specs.declared.calls.Answered.TheVariants as answered
use Rattle.lapin_rules.specs.declared.calls.Asked.{Asked}
use Rattle.lapin_rules.specs.declared.calls.Asked.TheVariants as ask
use Rattle.lapin_rules.specs.declared.marks.AtLeaving.{AtLeaving}
use Rattle.lapin_rules.specs.declared.marks.AtLeaving.TheVariants as leaving
use Rattle.lapin_rules.specs.Ackers.{acker_asked, acked_tickets, usable_at}
use Rattle.lapin_rules.specs.Asking.{is_allowed, is_held, is_outstanding, asked_by, accepted_record, call_record, call_told, closing_tickets, leaving_answer, made_answer, made_marks, call_tickets, asking_tickets}
use Rattle.lapin_rules.specs.Calls.{asked, is_try, awaited_by, made_by, leaving_by}
use Rattle.lapin_rules.specs.ConnectionClose.{failed_at_connection_close}
use Rattle.lapin_rules.specs.Ends.{cancels_on, all_failed, live_channels}
use Rattle.lapin_rules.specs.Events.{ticket_marks}
use Rattle.lapin_rules.specs.Handing.{handed_as, begun_ticket, last_ticket, left_tickets}
use Rattle.lapin_rules.specs.History.{History, Past, past, longer, rec, readings_of}
use Rattle.lapin_rules.specs.Loss.{lost_tickets}
use Rattle.lapin_rules.specs.Phases.{is_lost}
use Rattle.lapin_rules.specs.Polls.{is_answer, is_aside}
use Rattle.lapin_rules.specs.Readings.{Readings}
use Rattle.lapin_rules.specs.TicketReadings.{TicketMark, gives, answer_of, first_answer, channel_of, channel_in, leaving_of, leaving_in, life}
use Rattle.lapin_rules.specs.TicketReadings as ticket
use Rattle.lapin_rules.specs.Wire.{Wire, state_of}
use Rattle.lapin_rules.specs.Words.{many, one_after, rest_after}
use Rattle.lapin_ticket.specs.declared.Slot.{Slot}
use Rattle.lapin_ticket.specs.Slots.{after_mark}
use Rattle.lapin_broker.specs.Sends.{may}
use Rattle.lapin_joint.specs.declared.step.Step.{Step}
use Rattle.lapin_joint.specs.declared.step.Step.TheVariants as step
use Rattle.lapin_joint.specs.Joint.{Joint, is_lawful, client, read_first, send_down, deliver_first, after, joined_to}
use Rattle.lapin_machine.specs.Stands.{TicketsStand}
use Rattle.lapin_machine.specs.Way.{by_history}
use Rattle.lapin_machine.specs.World.{new_world}
use Rattle.lapin_machine.proofs.Standing.{new_stands}
use Rattle.lapin_machine.proofs.TicketStanding.{tickets-next}
use Rattle.lapin_verdicts.specs.Session.{past_of}
use Rattle.lapin_verdicts.proofs.Runs.{past-push, joined-push}
use Rattle.lapin_verdicts.proofs.Turns.{life-append}
use Rattle.lapin_answers.specs.Calls.{ticket_in, awaits_reply, awaits_by, IsAwaitedOf}
use Rattle.lapin_answers.specs.Closes.{is_open_cancel}
use Rattle.lapin_answers.specs.Truth.{AwaitedAreDelivered}
use Rattle.lapin_answers.proofs.Cancels.{on_is, on_gives, all_not}
use Rattle.lapin_answers.proofs.Closed.{either, no_gives}
use Rattle.lapin_answers.proofs.Ticketed.{one_at}
use Rattle.lapin_answers.proofs.Tickets.{Answers, one-append, answers-append}
use Rattle.lapin_rules.proofs.ListLaws.{many-none}
use Rattle.lapin_tables.proofs.Bools.{and_false}
use Rattle.lapin_verdicts.proofs.Saying.{plain_record}
use Rattle.std.proofs.lemmas.Option.{same_Some}

-- ---- lists

many-append : {X : Type 0} (p : X → Bool) (xs ys : List X) → many p xs ≤ many p (xs ++ ys)
many-append p [] ys = omega arith
many-append p (x ∷ xs) ys = let i = many-append p xs ys in elim (p x) as (λ v. cond v (many p xs + 1) (many p xs) ≤ cond v (many p (xs ++ ys) + 1) (many p (xs ++ ys))) [ true ↦ omega (arith, i) | false ↦ i ]

many_none : {X : Type 0} (p : X → Bool) (xs ys : List X) → list_any p ys ≡ false → many p (xs ++ ys) ≡ many p xs
many_none p [] ys h = many-none p ys h
many_none p (x ∷ xs) ys h = ap (λ m. cond (p x) (m + 1) m) (many_none p xs ys h)

many_at : {X : Type 0} (p : X → Bool) (before behind : List X) (x : X) → p x ≡ true → many p before < many p (before ++ x ∷ behind)
many_at p [] behind x h = let e : many p (x ∷ behind) ≡ many p behind + 1 = ap (λ v. cond v (many p behind + 1) (many p behind)) h in omega (arith, e)
many_at p (y ∷ before) behind x h = let i = many_at p before behind x h in elim (p y) as (λ v. cond v (many p before + 1) (many p before) < cond v (many p (before ++ x ∷ behind) + 1) (many p (before ++ x ∷ behind))) [ true ↦ omega (arith, i) | false ↦ i ]

-- what stands behind one that passes
rest_at : {X : Type 0} (p : X → Bool) (before behind : List X) (x : X) → p x ≡ true → rest_after p (many p before) (before ++ x ∷ behind) ≡ behind
rest_at p [] behind x h = ap (λ v. cond v behind (rest_after p zero behind)) h
rest_at p (y ∷ before) behind x h = by (p y) refl (rest_at p before behind x h)
  where
    by : (v : Bool) → p y ≡ v → rest_after p (many p before) (before ++ x ∷ behind) ≡ behind → rest_after p (cond (p y) (many p before + 1) (many p before)) (y ∷ (before ++ x ∷ behind)) ≡ behind
    by true e i =
        let more : many p before + 1 ≡ suc (many p before) = omega arith in
        ap (λ v. rest_after p (cond v (many p before + 1) (many p before)) (y ∷ (before ++ x ∷ behind))) e
        ∙ (ap (λ m. rest_after p m (y ∷ (before ++ x ∷ behind))) more
        ∙ (ap (λ v. cond v (rest_after p (many p before) (before ++ x ∷ behind)) (rest_after p (suc (many p before)) (before ++ x ∷ behind))) e ∙ i))
    by false e i = ap (λ v. rest_after p (cond v (many p before + 1) (many p before)) (y ∷ (before ++ x ∷ behind))) e ∙ (skipped (many p before) e ∙ i)
      where
        skipped : (m : ℕ) → p y ≡ false → rest_after p m (y ∷ (before ++ x ∷ behind)) ≡ rest_after p m (before ++ x ∷ behind)
        skipped zero e = ap (λ v. cond v (before ++ x ∷ behind) (rest_after p zero (before ++ x ∷ behind))) e
        skipped (suc m) e = ap (λ v. cond v (rest_after p m (before ++ x ∷ behind)) (rest_after p (suc m) (before ++ x ∷ behind))) e

head_is : (x y : Event × Record) (xs ys : History) → x ∷ xs ≡ y ∷ ys → x ≡ y
head_is x y xs ys h = cc

tail_is : (x y : Event × Record) (xs ys : History) → x ∷ xs ≡ y ∷ ys → xs ≡ ys
tail_is x y xs ys h = cc

not_empty : (before behind : History) (x : Event × Record) → [] ≡ before ++ x ∷ behind → ⊥
not_empty [] behind x h = cc
not_empty (y ∷ before) behind x h = cc

-- what stands in a history that grew by an event stood there before, or is that event
pub before_or_last : (h before behind : History) (x y : Event × Record) → h ++ y ∷ [] ≡ before ++ x ∷ behind → ((rest : History) × (h ≡ before ++ x ∷ rest)) ⊎ (x ≡ y)
before_or_last [] [] behind x y e = inr (sym (head_is y x [] behind e))
before_or_last [] (z ∷ before) behind x y e = absurd (not_empty before behind x (tail_is y z [] (before ++ x ∷ behind) e))
before_or_last (w ∷ h) [] behind x y e = inl (h, ap (λ v. v ∷ h) (head_is w x (h ++ y ∷ []) behind e))
before_or_last (w ∷ h) (z ∷ before) behind x y e = elim (before_or_last h before behind x y (tail_is w z (h ++ y ∷ []) (before ++ x ∷ behind) e)) [
  | inl r ↦ inl (r.0, ap (λ v. v ∷ h) (head_is w z (h ++ y ∷ []) (before ++ x ∷ behind) e) ∙ ap (λ v. z ∷ v) r.1)
  | inr q ↦ inr q
]

-- ---- tickets that wait for a reply

-- the ticket was given, and its frame answers nothing as it leaves
record Waits (ms : List TicketMark) (k : ℕ) : Type 0 where
  pub place : ℕ
  pub is : k ≡ suc place
  pub lt : place < many gives ms
  pub calm : leaving_of (suc place) ms ≡ leaving.Nothing

waits-append : (k : ℕ) (ms xs : List TicketMark) → Waits ms k → Waits (ms ++ xs) k
waits-append k ms xs w =
    let more = many-append gives ms xs in
    let lt = w.lt in
    record { place = w.place; is = w.is; lt = omega (arith, lt, more); calm = ap leaving_in (one-append gives w.place ms xs w.lt) ∙ w.calm }

-- it was given just now, and isn't answered
record New (ms : List TicketMark) (k : ℕ) : Type 0 where
  pub waits : Waits ms k
  pub unanswered : answer_of k ms ≡ None

-- so are the tickets of these calls
abbrev AllWait : List TicketMark → History → Type 0
AllWait ms [] = Unit {0}
AllWait ms (x ∷ h) = ((k : ℕ) → ticket_in x.1 ≡ Some k → awaits_by x.0 ≡ true → Waits ms k) × AllWait ms h

all-append : (ms xs : List TicketMark) (h : History) → AllWait ms h → AllWait (ms ++ xs) h
all-append ms xs [] a = tt
all-append ms xs (x ∷ h) a = (λ k g w. waits-append k ms xs (a.0 k g w), all-append ms xs h a.1)

all-push : (ms : List TicketMark) (h : History) (x : Event × Record) → AllWait ms h → ((k : ℕ) → ticket_in x.1 ≡ Some k → awaits_by x.0 ≡ true → Waits ms k) → AllWait ms (h ++ x ∷ [])
all-push ms [] x a f = (f, tt)
all-push ms (y ∷ h) x a f = (a.0, all-push ms h x a.1 f)

wait_at : (ms : List TicketMark) (before behind : History) (x : Event × Record) (k : ℕ) → AllWait ms (before ++ x ∷ behind) → ticket_in x.1 ≡ Some k → awaits_by x.0 ≡ true → Waits ms k
wait_at ms [] behind x k a g w = a.0 k g w
wait_at ms (y ∷ before) behind x k a g w = wait_at ms before behind x k a.1 g w

-- ---- a call that awaits a reply

closing_gives : (c : ℕ) (a : Asked) (b : Wire) → list_any gives (closing_tickets c a b) ≡ false
closing_gives c (ask.CloseConnection code text) b = no_gives (cancels_on (live_channels b.phases) b.requests) (ticket.AllFailed failed_at_connection_close ∷ []) (on_gives (live_channels b.phases) b.requests) refl
closing_gives c _ b = refl

leaves_nothing : (a : Asked) (b : Wire) → awaits_reply a ≡ true → leaving_answer a b ≡ leaving.Nothing
leaves_nothing (ask.Method row) b h = by row.answered h
  where
    by : (x : Answered) → is_some (awaited_by x) ≡ true → leaving_by x ≡ leaving.Nothing
    by (answered.ByReply r) h = refl
    by (answered.AtOnce r y) h = refl
    by (answered.AsItLeaves l) h = absurd cc
leaves_nothing (ask.Publish exchange key o payload properties) b h = absurd cc
leaves_nothing _ b h = refl

made_nothing : (a : Asked) (b : Wire) → awaits_reply a ≡ true → made_answer a b ≡ None
made_nothing (ask.Method row) b h = by row.answered h
  where
    by : (x : Answered) → is_some (awaited_by x) ≡ true → made_by x ≡ None
    by (answered.ByReply r) h = refl
    by (answered.AtOnce r y) h = absurd cc
    by (answered.AsItLeaves l) h = absurd cc
made_nothing (ask.Consume m tag queue o) b h = absurd cc
made_nothing (ask.Limit limit) b h = absurd cc
made_nothing _ b h = refl

accepted_ticket : (a : Asked) (b : Wire) → ticket_in (accepted_record a b) ≡ Some (b.tickets + 1)
accepted_ticket (ask.Publish exchange key o payload properties) b = refl
accepted_ticket _ b = refl

called : (ms : List TicketMark) (c : ℕ) (a : Asked) (b : Wire) → b.tickets ≡ many gives ms → awaits_reply a ≡ true → New (ms ++ call_tickets c a b) (b.tickets + 1)
called ms c a b count w =
    let cl : List TicketMark = closing_tickets c a b in
    let made : List TicketMark = made_marks (b.tickets + 1) (made_answer a b) in
    let x : TicketMark = ticket.Given c (leaving_answer a b) in
    let none : many gives (ms ++ cl) ≡ many gives ms = many_none gives ms cl (closing_gives c a b) in
    let all : (ms ++ cl) ++ (x ∷ made) ≡ ms ++ (cl ++ x ∷ made) = append_assoc ms cl (x ∷ made) in
    let found : one_after gives b.tickets (ms ++ (cl ++ x ∷ made)) ≡ Some x =
    ap (λ m. one_after gives m (ms ++ (cl ++ x ∷ made))) (count ∙ sym none) ∙ (ap (one_after gives (many gives (ms ++ cl))) (sym all) ∙ one_at gives (ms ++ cl) made x refl) in
    let more : many gives (ms ++ cl) < many gives ((ms ++ cl) ++ x ∷ made) = many_at gives (ms ++ cl) made x refl in
    let same : many gives ((ms ++ cl) ++ x ∷ made) ≡ many gives (ms ++ (cl ++ x ∷ made)) = ap (many gives) all in
    let is : b.tickets + 1 ≡ suc b.tickets = omega arith in
    let lives : rest_after gives b.tickets (ms ++ (cl ++ x ∷ made)) ≡ [] =
    ap (λ m. rest_after gives m (ms ++ (cl ++ x ∷ made))) (count ∙ sym none) ∙ (ap (rest_after gives (many gives (ms ++ cl))) (sym all) ∙ (rest_at gives (ms ++ cl) made x refl ∙ ap (made_marks (b.tickets + 1)) (made_nothing a b w))) in
    let open_ : answer_of (suc b.tickets) (ms ++ (cl ++ x ∷ made)) ≡ None = ap (first_answer (suc b.tickets) (channel_of (suc b.tickets) (ms ++ (cl ++ x ∷ made))) (leaving_of (suc b.tickets) (ms ++ (cl ++ x ∷ made))) false) lives in
    record {
      waits = record { place = b.tickets; is = is; lt = omega (arith, count, none, more, same); calm = ap leaving_in found ∙ leaves_nothing a b w };
      unanswered = ap (λ v. answer_of v (ms ++ (cl ++ x ∷ made))) is ∙ open_;
    }

asked_new : (ms : List TicketMark) (c : ℕ) (a : Asked) (b : Wire) (k : ℕ) → b.tickets ≡ many gives ms → awaits_reply a ≡ true → ticket_in (call_record c a b) ≡ Some k → New (ms ++ asking_tickets c a b) k
asked_new ms c a b k count w g = elim (is_allowed a (state_of c b)) as (λ v. ticket_in (cond v (accepted_record a b) (record_.Refused (error.InvalidChannelState (state_of c b)))) ≡ Some k → New (ms ++ cond v (call_tickets c a b) []) k) [
  | true ↦ λ i. subst (λ v. New (ms ++ call_tickets c a b) v) (same_Some (b.tickets + 1) k (sym (accepted_ticket a b) ∙ i)) (called ms c a b count w)
  | false ↦ λ i. absurd cc
] g

call_new : (ms : List TicketMark) (c : ℕ) (q : Call) (b : Wire) (readings : Readings) (k : ℕ) → b.tickets ≡ many gives ms → awaits_reply (asked q) ≡ true → ticket_in (call_told c q b readings) ≡ Some k → New (ms ++ asking_tickets c (asked_by q (call_told c q b readings)) b) k
call_new ms c q b readings k count w g =
    let no : Record = record_.Refused (error.ConfirmsOutstanding (readings.limit c)) in
    let yes : Record = call_record c (asked q) b in
    (elim (is_held c q b readings) as (λ v. ticket_in (cond v no yes) ≡ Some k → New (ms ++ asking_tickets c (asked_by q (cond v no yes)) b) k) [
      | true ↦ λ i. absurd cc
      | false ↦ λ i. (
          let plain : is_outstanding yes ≡ false = plain_record (is_allowed (asked q) (state_of c b)) (asked q) b (error.InvalidChannelState (state_of c b)) refl in
          let same : asked_by q yes ≡ asked q = ap (λ v. cond (is_try q && v) ask.Nothing (asked q)) plain ∙ ap (λ v. cond v ask.Nothing (asked q)) (and_false (is_try q)) in
          subst (λ v. New (ms ++ asking_tickets c v b) k) (sym same) (asked_new ms c (asked q) b k count w i))
    ]) g

-- ---- a run

module _ (n : ℕ) where
  record Kept (h : History) : Type 0 where
    pub slots : List (Option Slot)
    pub tickets : TicketsStand (past n h).wire (past n h).tickets slots
    pub waits : AllWait (past n h).tickets h

  event_new : (h : History) (e : Event) → (past n h).wire.tickets ≡ many gives (past n h).tickets → (k : ℕ) → ticket_in (rec n h e) ≡ Some k → awaits_by e ≡ true → New ((past n h).tickets ++ ticket_marks (past n h).wire e (rec n h e)) k
  event_new h (event.Call c q) count k g w = call_new (past n h).tickets c q (past n h).wire (readings_of (past n h).confirms (past n h).tickets) k count w g
  event_new h _ count k g w = absurd cc

  event_kept : (h : History) (e : Event) → Kept h → Kept (h ++ (e, rec n h e) ∷ [])
  event_kept h e s =
      let b : Wire = (past n h).wire in
      let ms : List TicketMark = (past n h).tickets in
      let new : List TicketMark = ticket_marks b e (rec n h e) in
      let pushed : longer (past n h) e (rec n h e) ≡ past n (h ++ (e, rec n h e) ∷ []) = sym (past-push n h e (rec n h e)) in
      record {
        slots = fold after_mark s.slots new;
        tickets = subst (λ (p : Past). TicketsStand p.wire p.tickets (fold after_mark s.slots new)) pushed (tickets-next b ms s.slots e (rec n h e) s.tickets);
        waits = subst (λ (p : Past). AllWait p.tickets (h ++ (e, rec n h e) ∷ [])) pushed (all-push (ms ++ new) h (e, rec n h e) (all-append ms new h s.waits) (λ k g w. (event_new h e s.tickets.given k g w).waits));
      }

  step_kept : (s : Step) (j : Joint History) → Kept j.session → Kept (after (by_history n) s j).session
  step_kept (step.Client e) j k = elim (is_lawful e) as (λ v. Kept (cond v (client (by_history n) e j) j).session) [ true ↦ event_kept j.session e k | false ↦ k ]
  step_kept step.Read j k = by j.up
    where
      by : (ls : List Left) → Kept (read_first ls j).session
      by [] = k
      by (l ∷ ls) = k
  step_kept (step.Send f) j k = elim (may j.broker f) as (λ v. Kept (cond v (send_down f j) j).session) [ true ↦ k | false ↦ k ]
  step_kept step.Deliver j k = by j.down
    where
      by : (fs : List Frame) → Kept (deliver_first (by_history n) fs j).session
      by [] = k
      by (f ∷ fs) = event_kept j.session (event.Receive f) k
  step_kept step.Lose j k = event_kept j.session event.Lost k

  from_run : (pre ss : List Step) → Kept (joined_to n pre).session → Kept (joined_to n (pre ++ ss)).session
  from_run pre [] k = subst (λ v. Kept (joined_to n v).session) (sym (append-nil pre)) k
  from_run pre (s ∷ ss) k =
      let one : Kept (joined_to n (pre ++ s ∷ [])).session = subst (λ (j : Joint History). Kept j.session) (sym (joined-push n pre s)) (step_kept s (joined_to n pre) k) in
      subst (λ v. Kept (joined_to n v).session) (append_assoc pre (s ∷ []) ss) (from_run (pre ++ s ∷ []) ss one)

  first : Kept []
  first = let s = new_stands n (new_world n) refl in record { slots = (new_world n).slots; tickets = subst (λ b. TicketsStand b (past n []).tickets (new_world n).slots) s.wire s.tickets; waits = tt }

  kept_in : (ss : List Step) → Kept (joined_to n ss).session
  kept_in ss = from_run [] ss first

-- ---- marks that answer such a ticket

-- some of these marks answer it so
record Says (n : ℕ) (xs : List TicketMark) (a : Answer) : Type 0 where
  pub channel : ℕ
  pub begun : Bool
  pub is : first_answer n channel leaving.Nothing begun xs ≡ Some (Ok a)

answers_of : (n : ℕ) (xs : List TicketMark) (a : Answer) → Says n xs a → Answers n xs (Ok a)
answers_of n xs a s = record { channel = s.channel; leaving = leaving.Nothing; begun = s.begun; is = s.is }

says_none : {P : Type 0} (n : ℕ) (a : Answer) → Says n [] a → P
says_none n a s = let w : None ≡ Some (Ok a) = s.is in absurd cc

says_either : (n : ℕ) (xs ys : List TicketMark) (a : Answer) → Says n (xs ++ ys) a → Says n xs a ⊎ Says n ys a
says_either n xs ys a s =
    let both = answers-append n s.channel leaving.Nothing s.begun xs ys in
    by (first_answer n s.channel leaving.Nothing s.begun xs) refl both.0 (sym both.1 ∙ s.is)
  where
    by : (o : Option (Result Answer Error)) → first_answer n s.channel leaving.Nothing s.begun xs ≡ o → (v : Bool) → option_or (first_answer n s.channel leaving.Nothing s.begun xs) (first_answer n s.channel leaving.Nothing v ys) ≡ Some (Ok a) → Says n xs a ⊎ Says n ys a
    by None e v t = inr (record { channel = s.channel; begun = v; is = ap (λ o. option_or o (first_answer n s.channel leaving.Nothing v ys)) (sym e) ∙ t })
    by (Some z) e v t = inl (record { channel = s.channel; begun = s.begun; is = e ∙ (ap (λ o. option_or o (first_answer n s.channel leaving.Nothing v ys)) (sym e) ∙ t) })

-- it is a `basic.cancel` that was open, and is done
abbrev Found : ℕ → Wire → Answer → Type 0
Found n b a = (c : ℕ) × (is_open_cancel n c b ≡ true) × (a ≡ answer.Done)

says_all : (n : ℕ) (e : Error) (b : Wire) (a : Answer) → Says n (all_failed e b) a → Found n b a
says_all n e b a s = elim (either n (cancels_on (live_channels b.phases) b.requests) (ticket.AllFailed e ∷ []) (Ok a) (answers_of n (all_failed e b) a s)) [
  | inl t ↦ (let o = on_is n (live_channels b.phases) b.requests a t in (o.0, o.2, o.3))
  | inr t ↦ all_not n e a t
]

says_closing : (n c : ℕ) (q : Asked) (b : Wire) (a : Answer) → Says n (closing_tickets c q b) a → Found n b a
says_closing n c (ask.CloseConnection code text) b a s = says_all n failed_at_connection_close b a s
says_closing n c (ask.CloseChannel code text) b a s = absurd (by _ _ s.is)
  where
    by : (v : Bool) (e : Error) → option_or (cond v (Some (Err e)) None) None ≡ Some (Ok a) → ⊥
    by true e t = cc
    by false e t = cc
says_closing n c _ b a s = says_none n a s

-- a call answers the ticket that it is given, and no older one
says_made : {P : Type 0} (n t : ℕ) (o : Option Answer) (a : Answer) → n ≤ t → Says n (made_marks (t + 1) o) a → P
says_made n t None a le s = says_none n a s
says_made n t (Some y) a le s = elim (eqb_tells (t + 1) n) [
  | inl e ↦ (let same = e.1 in let z : ⊥ = omega (arith, le, same) in absurd z)
  | inr e ↦ (let w : None ≡ Some (Ok a) = ap (λ v. option_or (cond v (Some (Ok y)) None) None) (sym e.0) ∙ s.is in absurd cc)
]

says_given : (n c : ℕ) (l : AtLeaving) (xs : List TicketMark) (a : Answer) → Says n (ticket.Given c l ∷ xs) a → Says n xs a
says_given n c l xs a s = record { channel = s.channel; begun = s.begun || false; is = s.is }

says_called : (n c : ℕ) (q : Asked) (b : Wire) (a : Answer) → n ≤ b.tickets → Says n (call_tickets c q b) a → Found n b a
says_called n c q b a le s = elim (says_either n (closing_tickets c q b) (ticket.Given c (leaving_answer q b) ∷ made_marks (b.tickets + 1) (made_answer q b)) a s) [
  | inl t ↦ says_closing n c q b a t
  | inr t ↦ says_made n b.tickets (made_answer q b) a le (says_given n c (leaving_answer q b) (made_marks (b.tickets + 1) (made_answer q b)) a t)
]

says_asked : (n c : ℕ) (q : Asked) (b : Wire) (a : Answer) → n ≤ b.tickets → Says n (asking_tickets c q b) a → Found n b a
says_asked n c q b a le s = elim (is_allowed q (state_of c b)) as (λ v. Says n (cond v (call_tickets c q b) []) a → Found n b a) [ true ↦ λ t. says_called n c q b a le t | false ↦ λ t. says_none n a t ] s

says_acked : (n : ℕ) (o : Option (ℕ × ℕ)) (k : AckerCall) (b : Wire) (a : Answer) → n ≤ b.tickets → Says n (acked_tickets o k b) a → Found n b a
says_acked n None k b a le s = says_none n a s
says_acked n (Some x) k b a le s = says_asked n x.0 (acker_asked k x.1) b a le s

-- the leaving of its frame says nothing
says_begun : {P : Type 0} (n : ℕ) (v : Bool) (t p : Option ℕ) (a : Answer) → Says n (begun_ticket v t p) a → P
says_begun n true (Some t) (Some p) a s = let w : None ≡ Some (Ok a) = s.is in absurd cc
says_begun n _ _ _ a s = says_none n a s

says_last : {P : Type 0} (n : ℕ) (v : Bool) (t : Option ℕ) (a : Answer) → Says n (last_ticket v t) a → P
says_last n true (Some t) a s = absurd (by (t == n) s.is)
  where
    by : (v : Bool) → ◌≡◌ {A = Option (Result Answer Error)} (option_or (cond v None None) None) (Some (Ok a)) → ⊥
    by true t = cc
    by false t = cc
says_last n _ _ a s = says_none n a s

says_left : {P : Type 0} (n : ℕ) (o : Option Left) (a : Answer) → Says n (left_tickets o) a → P
says_left n None a s = says_none n a s
says_left n (Some l) a s = elim (says_either n (begun_ticket l.first l.ticket l.publish) (last_ticket l.last l.ticket) a s) [
  | inl t ↦ says_begun n l.first l.ticket l.publish a t
  | inr t ↦ says_last n l.last l.ticket a t
]

says_collected : {P : Type 0} (n : ℕ) (v : Bool) (k : ℕ) (a : Answer) → Says n (cond v (ticket.Collected k ∷ []) []) a → P
says_collected n true k a s = let w : None ≡ Some (Ok a) = s.is in absurd cc
says_collected n false k a s = says_none n a s

says_aside : {P : Type 0} (n : ℕ) (v : Bool) (k : ℕ) (a : Answer) → Says n (cond v (ticket.SetAside k ∷ []) []) a → P
says_aside n true k a s = let w : None ≡ Some (Ok a) = s.is in absurd cc
says_aside n false k a s = says_none n a s

says_lost : (n : ℕ) (b : Wire) (a : Answer) → Says n (lost_tickets b) a → Found n b a
says_lost n b a s = elim (is_lost b.link) as (λ v. Says n (cond v [] (all_failed error.ConnectionLost b)) a → Found n b a) [ true ↦ λ t. says_none n a t | false ↦ λ t. says_all n error.ConnectionLost b a t ] s

says_event : (n : ℕ) (b : Wire) (e : Event) (r : Record) (a : Answer) → is_lawful e ≡ true → n ≤ b.tickets → Says n (ticket_marks b e r) a → Found n b a
says_event n b (event.Call c q) r a law le s = says_asked n c (asked_by q r) b a le s
says_event n b (event.Next flow) r a law le s = says_left n (handed_as r b) a s
says_event n b (event.Receive f) r a law le s = absurd cc
says_event n b (event.PollTicket k) r a law le s = says_collected n (is_answer r) k a s
says_event n b (event.AsideTicket k) r a law le s = says_aside n (is_aside r) k a s
says_event n b (event.Acker k q) r a law le s = says_acked n (usable_at k b) q b a le s
says_event n b event.Lost r a law le s = absurd cc
says_event n b _ r a law le s = says_none n a s

-- ---- a step

-- a ticket that waited and is answered now is answered by the marks that come
old_says : (k : ℕ) (ms xs : List TicketMark) (a : Answer) → Waits ms k → answer_of k ms ≡ None → answer_of k (ms ++ xs) ≡ Some (Ok a) → Says k xs a
old_says k ms xs a w was now = subst (λ v. Says v xs a) (sym w.is) (by w.place w.lt w.calm (ap (λ v. answer_of v ms) (sym w.is) ∙ was) (ap (λ v. answer_of v (ms ++ xs)) (sym w.is) ∙ now))
  where
    by : (j : ℕ) → j < many gives ms → leaving_of (suc j) ms ≡ leaving.Nothing → answer_of (suc j) ms ≡ None → answer_of (suc j) (ms ++ xs) ≡ Some (Ok a) → Says (suc j) xs a
    by j lt calm was now =
        let c : ℕ = channel_of (suc j) ms in
        let one : one_after gives j (ms ++ xs) ≡ one_after gives j ms = one-append gives j ms xs lt in
        let more : life (suc j) (ms ++ xs) ≡ life (suc j) ms ++ xs = life-append gives j ms xs lt in
        let both = answers-append (suc j) c leaving.Nothing false (life (suc j) ms) xs in
        let before : first_answer (suc j) c leaving.Nothing false (life (suc j) ms) ≡ None = ap (λ l. first_answer (suc j) c l false (life (suc j) ms)) (sym calm) ∙ was in
        let at : first_answer (suc j) c leaving.Nothing false (life (suc j) ms ++ xs) ≡ Some (Ok a) =
        ap (λ l. first_answer (suc j) c l false (life (suc j) ms ++ xs)) (sym calm)
        ∙ (ap (first_answer (suc j) c (leaving_of (suc j) ms) false) (sym more)
        ∙ (ap (λ o. first_answer (suc j) (channel_in o) (leaving_in o) false (life (suc j) (ms ++ xs))) (sym one) ∙ now)) in
        record { channel = c; begun = both.0; is = ap (λ o. option_or o (first_answer (suc j) c leaving.Nothing both.0 xs)) (sym before) ∙ (sym both.1 ∙ at) }

module _ (n : ℕ) (k : ℕ) (a : Answer) (ss : List Step) (was : answer_of k (past_of n ss).tickets ≡ None) where
  abbrev j : Joint History
  j = joined_to n ss

  abbrev b : Wire
  b = (past_of n ss).wire

  count : b.tickets ≡ many gives (past_of n ss).tickets
  count = (kept_in n ss).tickets.given

  abbrev IsTold : History → Type 0
  IsTold h = answer_of k (past n h).tickets ≡ Some (Ok a)

  unmoved : {P : Type 0} → IsTold j.session → P
  unmoved now = let w : None ≡ Some (Ok a) = sym was ∙ now in absurd cc

  -- what the marks of an event say, which comes after the call or is the call itself
  marks_say : (e : Event) → IsAwaitedOf k (j.session ++ (e, rec n j.session e) ∷ []) → IsTold (j.session ++ (e, rec n j.session e) ∷ []) → (k ≤ b.tickets) × Says k (ticket_marks b e (rec n j.session e)) a
  marks_say e call now = elim (before_or_last j.session call.before call.behind (call.event, call.told) (e, rec n j.session e) call.all) [
    | inl r ↦ (
        let waits : Waits (past_of n ss).tickets k = wait_at (past_of n ss).tickets call.before r.0 (call.event, call.told) k (subst (AllWait (past_of n ss).tickets) r.1 (kept_in n ss).waits) call.given call.awaited in
        let is = waits.is in
        let lt = waits.lt in
        let all = count in
        (omega (arith, all, is, lt), old_says k (past_of n ss).tickets (ticket_marks b e (rec n j.session e)) a waits was later))
    | inr q ↦ (
        let given : ticket_in (rec n j.session e) ≡ Some k = ap (λ (x : Event × Record). ticket_in x.1) (sym q) ∙ call.given in
        let awaits : awaits_by e ≡ true = ap (λ (x : Event × Record). awaits_by x.0) (sym q) ∙ call.awaited in
        let w : None ≡ Some (Ok a) = sym (event_new n j.session e count k given awaits).unanswered ∙ later in
        absurd cc)
  ]
    where
      later : answer_of k ((past_of n ss).tickets ++ ticket_marks b e (rec n j.session e)) ≡ Some (Ok a)
      later = ap (λ (p : Past). answer_of k p.tickets) (sym (past-push n j.session e (rec n j.session e))) ∙ now

  said : (e : Event) → is_lawful e ≡ true → (k ≤ b.tickets) × Says k (ticket_marks b e (rec n j.session e)) a → Found k b a
  said e law s = says_event k b e (rec n j.session e) a law s.0 s.1

  abbrev Stands : History → Type 0
  Stands h = IsAwaitedOf k h × IsTold h

  -- what a step that is no delivery answers
  by_step : (s : Step) → Stands (after (by_history n) s j).session → (s ≡ step.Deliver) ⊎ Found k b a
  by_step (step.Client e) now = inr (at (is_lawful e) refl now)
    where
      at : (v : Bool) → is_lawful e ≡ v → Stands (cond (is_lawful e) (client (by_history n) e j) j).session → Found k b a
      at true law now = let s = subst (λ v. Stands (cond v (client (by_history n) e j) j).session) law now in said e law (marks_say e s.0 s.1)
      at false law now = let s = subst (λ v. Stands (cond v (client (by_history n) e j) j).session) law now in unmoved s.1
  by_step step.Read now = at j.up now
    where
      at : (ls : List Left) → Stands (read_first ls j).session → (step.Read ≡ step.Deliver) ⊎ Found k b a
      at [] now = unmoved now.1
      at (l ∷ ls) now = unmoved now.1
  by_step (step.Send f) now = elim (may j.broker f) as (λ v. Stands (cond v (send_down f j) j).session → (step.Send f ≡ step.Deliver) ⊎ Found k b a) [ true ↦ λ t. unmoved t.1 | false ↦ λ t. unmoved t.1 ] now
  by_step step.Deliver now = inl refl
  by_step step.Lose now = inr (says_lost k b a (marks_say event.Lost now.0 now.1).1)

pub awaited : (n : ℕ) (ss : List Step) → AwaitedAreDelivered n ss
awaited n ss k a s call was now = by_step n k a ss was s (
  subst (λ (i : Joint History). IsAwaitedOf k i.session) (joined-push n ss s) call,
  ap (λ (i : Joint History). answer_of k (past n i.session).tickets) (sym (joined-push n ss s)) ∙ now,
)

-- a call in the history after a delivery stood there before it
pub before_delivery : (n : ℕ) (ss : List Step) (before behind : History) (x : Event × Record) (c : ℕ) (q : Call) → x.0 ≡ event.Call c q → (joined_to n (ss ++ step.Deliver ∷ [])).session ≡ before ++ x ∷ behind → (rest : History) × ((joined_to n ss).session ≡ before ++ x ∷ rest)
before_delivery n ss before behind x c q is all = at (joined_to n ss).down (ap (λ (i : Joint History). i.session) (sym (joined-push n ss step.Deliver)) ∙ all)
  where
    at : (fs : List Frame) → (deliver_first (by_history n) fs (joined_to n ss)).session ≡ before ++ x ∷ behind → (rest : History) × ((joined_to n ss).session ≡ before ++ x ∷ rest)
    at [] all = (behind, all)
    at (f ∷ fs) all = elim (before_or_last (joined_to n ss).session before behind x (event.Receive f, rec n (joined_to n ss).session (event.Receive f)) all) [
      | inl r ↦ r
      | inr e ↦ (let w : event.Receive f ≡ event.Call c q = ap (λ (y : Event × Record). y.0) (sym e) ∙ is in absurd cc)
    ]
