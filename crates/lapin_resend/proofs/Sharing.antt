-- No two messages share one outstanding publish: each publish takes a number that is greater than all before it.
use Rattle.std.proofs.Common.{◌≡◌, ◌⊎◌, inl, inr, ℕ, ◌+◌, ◌<◌, ◌≤◌, Bool, true, false, cond, List, [], ◌∷◌, ◌++◌, map, Option, Some, None, refl, ap, arith}
use Rattle.std.specs.Prelude.{Ok, Err}
use Rattle.std.specs.List.{AllByRecursion}
use Rattle.lapin_types.specs.declared.acker_call.AckerCall.{AckerCall}
use Rattle.lapin_types.specs.declared.confirmation.Confirmation.TheVariants as confirmation
use Rattle.lapin_types.specs.declared.event.Event.{Event}
use Rattle.lapin_types.specs.declared.event.Event.TheVariants as event
use Rattle.lapin_types.specs.declared.leaving.Left.{Left}
use Rattle.lapin_types.specs.Types.{Frame}
use Rattle.lapin_types.specs.declared.record.Record.{Record}
use Rattle.lapin_types.specs.declared.record.Record.TheVariants as record_
use Rattle.lapin_consumer.specs.Subscriptions.{consumer_at}
use Rattle.lapin_rules.specs.declared.calls.Asked.{Asked}
use Rattle.lapin_rules.specs.declared.calls.Asked.TheVariants as ask
use Rattle.lapin_rules.specs.Ackers.{acker_asked, usable_at, acked_wire}
use Rattle.lapin_rules.specs.Asking.{asked_by, is_allowed, after_call, asked_wire}
use Rattle.lapin_rules.specs.Calls.{asked}
use Rattle.lapin_rules.specs.Consumers.{after_drop}
use Rattle.lapin_rules.specs.Events.{after_event}
use Rattle.lapin_rules.specs.Handing.{after_next}
use Rattle.lapin_rules.specs.History.{History, Past, past, rec}
use Rattle.lapin_rules.specs.Incoming.{incoming_of}
use Rattle.lapin_rules.specs.Loss.{after_lost}
use Rattle.lapin_rules.specs.Receiving.{after_incoming}
use Rattle.lapin_rules.specs.Wire.{Wire, start, state_of, is_closed, is_open}
use Rattle.lapin_machine.proofs.Counting.{incoming_counts, lost_counts, next_counts, let_go_counts}
use Rattle.lapin_machine.proofs.Standing.{past-push}
use Rattle.lapin_broker.specs.Sends.{may}
use Rattle.lapin_joint.specs.declared.step.Step as joined_step
use Rattle.lapin_joint.specs.declared.step.Step.TheVariants as joined
use Rattle.lapin_joint.specs.Joint.{Joint, new_joint, after, is_lawful, client, read_first, send_down, deliver_first, joined_to}
use Rattle.lapin_machine.specs.Way.{by_history}
use Rattle.lapin_resend.specs.declared.step.ResendStep.{ResendStep}
use Rattle.lapin_resend.specs.declared.step.ResendStep.TheVariants as step
use Rattle.lapin_resend.specs.Messages.{Standing, submitted, publish_of, polled, waits, confirm_of, forgotten}
use Rattle.lapin_resend.specs.Publisher.{Publisher, Steps, Met, told, state_in, with_event, poll_at, poll_one, publishing, publish_one, each, after_polls, after_opening, after_selecting, tended}
use Rattle.lapin_resend.specs.Resend.{begun, after_step, no_publisher, new_publisher, publisher_from, publisher_after}
use Rattle.lapin_resend.specs.ResendRun.{DoNotShare, NoneShare}
use Rattle.lapin_joint.proofs.Steps.{run-push}
use Rattle.lapin_resend.proofs.Out.{wire_in, published_wire}

-- ---- how many publishes were accepted never falls

choose_rises : (t : Bool) (x y b : Wire) → b.published ≤ x.published → b.published ≤ y.published → b.published ≤ (cond t x y).published
choose_rises true x y b h k = h
choose_rises false x y b h k = k

call_rises : (c : ℕ) (k : Asked) (b : Wire) → b.published ≤ (after_call c k b).published
call_rises c ask.Open b = omega arith
call_rises c (ask.CloseChannel code text) b = omega arith
call_rises c (ask.CloseConnection code text) b = omega arith
call_rises c (ask.Method row) b = omega arith
call_rises c (ask.Consume m tag queue o) b = omega arith
call_rises c (ask.Limit limit) b = omega arith
call_rises c ask.Nothing b = omega arith
call_rises c (ask.Publish exchange key o payload properties) b = omega arith

asked_rises : (c : ℕ) (k : Asked) (b : Wire) → b.published ≤ (asked_wire c k b).published
asked_rises c k b = choose_rises (is_allowed k (state_of c b)) (after_call c k b) b b (call_rises c k b) (omega arith)

acked_rises : (o : Option (ℕ × ℕ)) (k : AckerCall) (b : Wire) → b.published ≤ (acked_wire o k b).published
acked_rises None k b = omega arith
acked_rises (Some x) k b = asked_rises x.0 (acker_asked k x.1) b

event_rises : (b : Wire) (e : Event) (r : Record) → b.published ≤ (after_event b e r).published
event_rises b (event.Call c k) r = asked_rises c (asked_by k r) b
event_rises b (event.Next flow) r = let same : (after_next r b).published ≡ b.published = (next_counts r b).1 in omega (arith, same)
event_rises b (event.Receive f) r = let same : (after_incoming (incoming_of f) r b).published ≡ b.published = (incoming_counts (incoming_of f) r b).1 in omega (arith, same)
event_rises b (event.Acker n k) r = acked_rises (usable_at n b) k b
event_rises b (event.DropConsumer n) r = let same : (after_drop n b).published ≡ b.published = (let_go_counts (consumer_at n b.deliveries.subscriptions) b).1 in omega (arith, same)
event_rises b event.Lost r = let same : (after_lost b).published ≡ b.published = (lost_counts b).1 in omega (arith, same)
event_rises b _ r = omega arith

-- how many the present session accepted
abbrev pub count : ℕ → Steps → ℕ
count n made = (wire_in n made).published

abbrev count_of : ℕ → Joint History → ℕ
count_of n j = (past n j.session).wire.published

session_rises : (n : ℕ) (h : History) (e : Event) → (past n h).wire.published ≤ (past n (h ++ (e, rec n h e) ∷ [])).wire.published
session_rises n h e =
    let long : (past n (h ++ (e, rec n h e) ∷ [])).wire.published ≡ (after_event (past n h).wire e (rec n h e)).published = ap (λ (p : Past). p.wire.published) (past-push (record { wire = start n; confirms = []; tickets = [] }) h e (rec n h e)) in
    omega (arith, long, event_rises (past n h).wire e (rec n h e))

joint_rises : (n : ℕ) (s : joined_step.Step) (j : Joint History) → count_of n j ≤ count_of n (after (by_history n) s j)
joint_rises n (joined.Client e) j = lawful (is_lawful e)
  where
    lawful : (b : Bool) → count_of n j ≤ count_of n (cond b (client (by_history n) e j) j)
    lawful true = session_rises n j.session e
    lawful false = omega arith
joint_rises n joined.Read j = first j.up
  where
    first : (ls : List Left) → count_of n j ≤ count_of n (read_first ls j)
    first [] = omega arith
    first (l ∷ ls) = omega arith
joint_rises n (joined.Send f) j = allowed (may j.broker f)
  where
    allowed : (b : Bool) → count_of n j ≤ count_of n (cond b (send_down f j) j)
    allowed true = omega arith
    allowed false = omega arith
joint_rises n joined.Deliver j = first j.down
  where
    first : (fs : List Frame) → count_of n j ≤ count_of n (deliver_first (by_history n) fs j)
    first [] = omega arith
    first (f ∷ fs) = session_rises n j.session (event.Receive f)
joint_rises n joined.Lose j = session_rises n j.session event.Lost

count_rises : (n : ℕ) (made : Steps) (s : joined_step.Step) → count n made ≤ count n (made ++ s ∷ [])
count_rises n made s =
    let long : count n (made ++ s ∷ []) ≡ count_of n (after (by_history n) s (joined_to n made)) = ap (count_of n) (run-push (by_history n) made s (new_joint [] n)) in
    omega (arith, long, joint_rises n s (joined_to n made))

-- ---- messages whose publishes are apart

-- its outstanding publish has no greater number
abbrev IsBelow : ℕ → Standing → Type 0
IsBelow m s = (k : ℕ) → s.outstanding ≡ Some k → k ≤ m

-- no outstanding publish has a greater number, and no two are the same
pub record AreApart (m : ℕ) (ss : List Standing) : Type 0 where
  pub below : AllByRecursion (IsBelow m) ss
  pub apart : NoneShare ss

below_more : (m k : ℕ) (ss : List Standing) → m ≤ k → AllByRecursion (IsBelow m) ss → AllByRecursion (IsBelow k) ss
below_more m k [] le h = tt
below_more m k (s ∷ ss) le h = (λ i is. omega (arith, le, h.0 i is), below_more m k ss le h.1)

apart_more : (m k : ℕ) (ss : List Standing) → m ≤ k → AreApart m ss → AreApart k ss
apart_more m k ss le h = record { below = below_more m k ss le h.below; apart = h.apart }

-- the outstanding publish of a message is the one that it had, or one whose number lies between these
abbrev Comes : ℕ → ℕ → Standing → Standing → Type 0
Comes m k s t = (i : ℕ) → t.outstanding ≡ Some i → (s.outstanding ≡ Some i) ⊎ ((m < i) × (i ≤ k))

-- so it is of each
abbrev ComeEach : ℕ → ℕ → List Standing → List Standing → Type 0
ComeEach m k [] [] = Unit {0}
ComeEach m k [] (t ∷ ts) = ⊥
ComeEach m k (s ∷ ss) [] = ⊥
ComeEach m k (s ∷ ss) (t ∷ ts) = Comes m k s t × ComeEach m k ss ts

come_from : (l m k : ℕ) (ss ts : List Standing) → l ≤ m → ComeEach m k ss ts → ComeEach l k ss ts
come_from l m k [] [] le h = tt
come_from l m k [] (t ∷ ts) le h = absurd h
come_from l m k (s ∷ ss) [] le h = absurd h
come_from l m k (s ∷ ss) (t ∷ ts) le h = (λ i is. lower i (h.0 i is), come_from l m k ss ts le h.1)
  where
    lower : (i : ℕ) → (s.outstanding ≡ Some i) ⊎ ((m < i) × (i ≤ k)) → (s.outstanding ≡ Some i) ⊎ ((l < i) × (i ≤ k))
    lower i (inl is) = inl is
    lower i (inr so) = inr (omega (arith, so.0, le), so.1)

-- one message and those behind it, whose numbers are greater than all before
first_apart : (m k e : ℕ) (s t : Standing) (ss ts : List Standing) → Comes m k s t → IsBelow m s → AllByRecursion (IsBelow m) ss → AllByRecursion (DoNotShare s) ss → ComeEach k e ss ts → m ≤ k → AllByRecursion (DoNotShare t) ts
first_apart m k e s t [] [] here low lows apart come le = tt
first_apart m k e s t [] (v ∷ vs) here low lows apart come le = absurd come
first_apart m k e s t (u ∷ us) [] here low lows apart come le = absurd come
first_apart m k e s t (u ∷ us) (v ∷ vs) here low lows apart come le =
    (λ i one other. meet i (here i one) (come.0 i other), first_apart m k e s t us vs here low lows.1 apart.1 come.1 le)
  where
    meet : (i : ℕ) → (s.outstanding ≡ Some i) ⊎ ((m < i) × (i ≤ k)) → (u.outstanding ≡ Some i) ⊎ ((k < i) × (i ≤ e)) → ⊥
    meet i (inl one) (inl other) = apart.0 i one other
    meet i (inl one) (inr more) = absurd (omega (arith, low i one, more.0, le))
    meet i (inr mine) (inl other) = absurd (omega (arith, lows.0 i other, mine.0))
    meet i (inr mine) (inr more) = absurd (omega (arith, mine.1, more.0))

below_all : (m k e : ℕ) (ss ts : List Standing) → AllByRecursion (IsBelow m) ss → ComeEach k e ss ts → m ≤ e → AllByRecursion (IsBelow e) ts
below_all m k e [] [] low come le = tt
below_all m k e [] (t ∷ ts) low come le = absurd come
below_all m k e (s ∷ ss) [] low come le = absurd come
below_all m k e (s ∷ ss) (t ∷ ts) low come le = (λ i is. within i (come.0 i is), below_all m k e ss ts low.1 come.1 le)
  where
    within : (i : ℕ) → (s.outstanding ≡ Some i) ⊎ ((k < i) × (i ≤ e)) → i ≤ e
    within i (inl is) = omega (arith, low.0 i is, le)
    within i (inr so) = so.1

-- ---- what is done with each message, one after the other

-- what is done with one message
abbrev pub Takes : ℕ → (Steps → Standing → Met) → Type 0
Takes n meet = (made : Steps) (s : Standing) → Comes (count n made) (count n (meet made s).1) s (meet made s).0 × (count n made ≤ count n (meet made s).1)

comes_more : (m k e : ℕ) (s t : Standing) → k ≤ e → Comes m k s t → Comes m e s t
comes_more m k e s t le h i is = higher (h i is)
  where
    higher : (s.outstanding ≡ Some i) ⊎ ((m < i) × (i ≤ k)) → (s.outstanding ≡ Some i) ⊎ ((m < i) × (i ≤ e))
    higher (inl same) = inl same
    higher (inr so) = inr (so.0, omega (arith, so.1, le))

each_comes : (n : ℕ) (meet : Steps → Standing → Met) → Takes n meet → (made : Steps) (ss : List Standing) → ComeEach (count n made) (count n (each meet made ss).1) ss (each meet made ss).0 × (count n made ≤ count n (each meet made ss).1)
each_comes n meet takes made [] = (tt, omega arith)
each_comes n meet takes made (s ∷ ss) =
    let next : Steps = (meet made s).1 in
    let e : ℕ = count n (each meet next ss).1 in
    let one = takes made s in
    let rest = each_comes n meet takes next ss in (
      (comes_more (count n made) (count n next) e s (meet made s).0 rest.1 one.0, come_from (count n made) (count n next) e ss (each meet next ss).0 one.1 rest.0),
      omega (arith, one.1, rest.1),
    )

none_share : (n : ℕ) (meet : Steps → Standing → Met) → Takes n meet → (made : Steps) (ss : List Standing) → AreApart (count n made) ss → NoneShare (each meet made ss).0
none_share n meet takes made [] h = tt
none_share n meet takes made (s ∷ ss) h =
    let next : Steps = (meet made s).1 in
    let one = takes made s in
    let rest = each_comes n meet takes next ss in (
      first_apart (count n made) (count n next) (count n (each meet next ss).1) s (meet made s).0 ss (each meet next ss).0 one.0 h.below.0 h.below.1 h.apart.0 rest.0 one.1,
      none_share n meet takes next ss (apart_more (count n made) (count n next) ss one.1 (record { below = h.below.1; apart = h.apart.1 })),
    )

each_apart : (n : ℕ) (meet : Steps → Standing → Met) → Takes n meet → (made : Steps) (ss : List Standing) → AreApart (count n made) ss → AreApart (count n (each meet made ss).1) (each meet made ss).0
each_apart n meet takes made ss h =
    let come = each_comes n meet takes made ss in
    record {
      below = below_all (count n made) (count n made) (count n (each meet made ss).1) ss (each meet made ss).0 h.below come.0 come.1;
      apart = none_share n meet takes made ss h;
    }

-- ---- a poll

polled_same : (r : Record) (s : Standing) (i : ℕ) → (polled r s).outstanding ≡ Some i → s.outstanding ≡ Some i
polled_same (record_.Confirmed (Ok (confirmation.Ack m))) s i h = absurd cc
polled_same (record_.Confirmed (Ok (confirmation.Nack m))) s i h = absurd cc
polled_same (record_.Confirmed (Ok confirmation.NotRequested)) s i h = absurd cc
polled_same (record_.Confirmed (Err e)) s i h = absurd cc
polled_same _ s i h = h

poll_takes : (n : ℕ) → Takes n (poll_one n)
poll_takes n made s = at s.outstanding
  where
    at : (o : Option ℕ) → Comes (count n made) (count n (poll_at n made s o).1) s (poll_at n made s o).0 × (count n made ≤ count n (poll_at n made s o).1)
    at None = (λ i is. inl is, omega arith)
    at (Some k) = (λ i is. inl (polled_same (told n made (event.PollConfirm k)) s i is), count_rises n made (joined.Client (event.PollConfirm k)))

-- ---- a publish

-- the record of a publish, and how many are accepted then
numbered : (b : Bool) (t p i : ℕ) (r : Record) (x y : Wire) → confirm_of (cond b (record_.Publish t (p + 1)) r) ≡ Some i → confirm_of r ≡ None → x.published ≡ p + 1 → (p < i) × (i ≤ (cond b x y).published)
numbered true t p i r x y is none more =
    let same : p + 1 ≡ i = inside is in
    (omega (arith, same), omega (arith, same, more))
  where
    inside : Some (p + 1) ≡ Some i → p + 1 ≡ i
    inside e = cc
numbered false t p i r x y is none more = absurd cc

publish_takes : (n : ℕ) → Takes n (publish_one n)
publish_takes n made s = at (waits s)
  where
    out : Standing
    out = record s { outstanding = confirm_of (told n made (publishing s)) }

    wire : Wire
    wire = wire_in n made

    more : (i : ℕ) → out.outstanding ≡ Some i → (count n made < i) × (i ≤ count n (with_event (publishing s) made))
    more i is =
        let long : count n (with_event (publishing s) made) ≡ (after_event wire (publishing s) (told n made (publishing s))).published = ap (λ (w : Wire). w.published) (published_wire n made s) in
        let one = numbered (is_open (state_of 1 wire)) (wire.tickets + 1) wire.published i _ (after_call 1 (asked (publish_of s.message)) wire) wire is refl refl in
        (one.0, omega (arith, one.1, long))

    at : (w : Bool) → Comes (count n made) (count n (cond {A = Met} w (out, with_event (publishing s) made) (s, made)).1) s (cond {A = Met} w (out, with_event (publishing s) made) (s, made)).0 × (count n made ≤ count n (cond {A = Met} w (out, with_event (publishing s) made) (s, made)).1)
    at true = (λ i is. inr (more i is), count_rises n made (joined.Client (publishing s)))
    at false = (λ i is. inl is, omega arith)

-- ---- tending

abbrev StandApart : ℕ → Publisher → Type 0
StandApart n p = AreApart (count n p.present) p.messages

chosen : (n : ℕ) (b : Bool) (p q : Publisher) → StandApart n p → StandApart n q → StandApart n (cond b p q)
chosen n true p q one other = one
chosen n false p q one other = other

stepped : (n : ℕ) (s : joined_step.Step) (p : Publisher) → StandApart n p → AreApart (count n (p.present ++ s ∷ [])) p.messages
stepped n s p h = apart_more (count n p.present) (count n (p.present ++ s ∷ [])) p.messages (count_rises n p.present s) h

tended_apart : (n : ℕ) (p : Publisher) → StandApart n p → StandApart n (tended n p)
tended_apart n p h =
    let a : Publisher = after_polls n p in
    let b : Publisher = after_opening n a in
    let c : Publisher = after_selecting n b in
    let polls : StandApart n a = each_apart n (poll_one n) (poll_takes n) p.present p.messages h in
    let opens : StandApart n b = chosen n (is_closed (state_in n a.present)) _ a (stepped n _ a polls) polls in
    let selects : StandApart n c = chosen n _ _ b (stepped n _ b opens) opens in
    chosen n (is_open (state_in n c.present)) _ c (each_apart n (publish_one n) (publish_takes n) c.present c.messages selects) selects

-- ---- steps

-- one that has no outstanding publish
joined_by_one : (m : ℕ) (ss : List Standing) (t : Standing) → t.outstanding ≡ None → AreApart m ss → AreApart m (ss ++ t ∷ [])
joined_by_one m [] t none h = record { below = (λ i is. absurd cc, tt); apart = (tt, tt) }
joined_by_one m (s ∷ ss) t none h =
    let rest = joined_by_one m ss t none (record { below = h.below.1; apart = h.apart.1 }) in
    record { below = (h.below.0, rest.below); apart = (behind ss h.apart.0, rest.apart) }
  where
    behind : (us : List Standing) → AllByRecursion (DoNotShare s) us → AllByRecursion (DoNotShare s) (us ++ t ∷ [])
    behind [] h = (λ i one other. absurd cc, tt)
    behind (u ∷ us) h = (h.0, behind us h.1)

all_forgotten : (m : ℕ) (ss : List Standing) → AreApart m (map forgotten ss)
all_forgotten m [] = record { below = tt; apart = tt }
all_forgotten m (s ∷ ss) =
    let rest = all_forgotten m ss in
    record { below = (λ i is. absurd cc, rest.below); apart = (behind ss, rest.apart) }
  where
    behind : (us : List Standing) → AllByRecursion (DoNotShare (forgotten s)) (map forgotten us)
    behind [] = tt
    behind (u ∷ us) = (λ i one other. absurd cc, behind us)

begun_apart : (n : ℕ) (s : ResendStep) (p : Publisher) → StandApart n p → StandApart n (begun s p)
begun_apart n (step.Submit m) p h = joined_by_one (count n p.present) p.messages (submitted m) refl h
begun_apart n step.Next p h = stepped n _ p h
begun_apart n step.Read p h = stepped n _ p h
begun_apart n (step.Send f) p h = stepped n _ p h
begun_apart n step.Deliver p h = stepped n _ p h
begun_apart n step.Lose p h = all_forgotten (count n []) p.messages
begun_apart n (step.Status k) p h = h

from_apart : (n : ℕ) (ss : List ResendStep) (p : Publisher) → StandApart n p → StandApart n (publisher_from n ss p)
from_apart n [] p h = h
from_apart n (s ∷ ss) p h = from_apart n ss (after_step n s p) (tended_apart n (begun s p) (begun_apart n s p h))

pub all_apart : (n : ℕ) (steps : List ResendStep) → StandApart n (publisher_after n steps)
all_apart n steps = from_apart n steps (new_publisher n) (tended_apart n no_publisher (record { below = tt; apart = tt }))
