-- Calls by the machine tell what calls by the history tell, step by step.
use Rattle.std.proofs.Common.{◌≡◌, ◌∙◌, ℕ, zero, suc, Bool, true, false, cond, not, ◌&&◌, List, [], ◌∷◌, Option, Some, None, refl, sym, ap, subst}
use Rattle.std.specs.Prelude.{Result, Ok, Err}
use Rattle.lapin_types.specs.declared.event.Event.{Event}
use Rattle.lapin_types.specs.declared.event.Event.TheVariants as event
use Rattle.lapin_types.specs.declared.call.Call.TheVariants as call
use Rattle.lapin_types.specs.declared.message.Delivery.{Delivery}
use Rattle.lapin_types.specs.Types.{Error}
use Rattle.lapin_consumer.specs.Subscriptions.{found}
use Rattle.lapin_rules.specs.Wire.{Wire, state_of}
use Rattle.lapin_rules.specs.History.{History, past, rec}
use Rattle.lapin_machine.specs.World.{World, told_by, new_world}
use Rattle.lapin_machine.specs.World as world
use Rattle.lapin_machine.specs.Stands.{Stands}
use Rattle.lapin_machine.proofs.Back.{still_none}
use Rattle.lapin_machine.proofs.Standing.{new_stands}
use Rattle.lapin_machine.proofs.Ways.{with_event, told_same, stands_on}
use Rattle.lapin_call.specs.declared.step.CallStep.{CallStep}
use Rattle.lapin_call.specs.declared.step.CallStep.TheVariants as step
use Rattle.lapin_call.specs.declared.step.CallReport.{CallReport}
use Rattle.lapin_call.specs.declared.step.CallReport.TheVariants as reported
use Rattle.lapin_machine.specs.Way.{by_history, by_machine}
use Rattle.lapin_call.specs.Fates.{match_in, counted, after_delivery, after_error}
use Rattle.lapin_call.specs.Calls.{Requester, met, is_ready, consuming, consumed, begun, next_call, requesting, asked, item_of, is_item, Gathered, heard, polled, polls, waiting_for, gather_from, gathered, collect_report, new_requester, after, report, reports, calls}
use Rattle.lapin_call.specs.CallRun.{AreAlike}

-- ---- a requester of the machine that is alike one of the history, and to whose session no frame was given back

abbrev with_world : World → Requester History → Requester World
with_world w d = record { session = w; queue = d.queue; consumes = d.consumes; consumer = d.consumer; fates = d.fates }

pub record Alike (n : ℕ) (d : Requester History) (k : Requester World) : Type 0 where
  pub are : AreAlike n d k
  pub unreturned : k.session.returned ≡ None

chosen : (n : ℕ) (a b : Bool) (d d' : Requester History) (k k' : Requester World) → b ≡ a → Alike n d k → Alike n d' k' → Alike n (cond a d d') (cond b k k')
chosen n true true d d' k k' e one other = one
chosen n false false d d' k k' e one other = other
chosen n true false d d' k k' e one other = absurd cc
chosen n false true d d' k k' e one other = absurd cc

stays : (n : ℕ) (d : Requester History) (w : World) → w.returned ≡ None → Stands n d.session w → Alike n d (with_world w d)
stays n d w none s = record { are = record { session = s; queue = refl; consumes = refl; consumer = refl; fates = refl }; unreturned = none }

met_alike : (n : ℕ) (e : Event) (d : Requester History) (w : World) → w.returned ≡ None → Stands n d.session w → Alike n (met (by_history n) e d) (met by_machine e (with_world w d))
met_alike n e d w none s = stays n (met (by_history n) e d) (world.next w e) (still_none w e none) (stands_on n d.session w e none s)

consumed_alike : (n : ℕ) (d : Requester History) (w : World) → w.returned ≡ None → Stands n d.session w → Alike n (consumed (by_history n) (with_event n d.session (consuming d.queue)) d) (consumed by_machine (world.next w (consuming d.queue)) (with_world w d))
consumed_alike n d w none s =
    let stood = stands_on n d.session w (consuming d.queue) none s in
    record {
      are = record { session = stood; queue = refl; consumes = refl; consumer = ap (λ (b : Wire). found 1 d.queue b.deliveries.subscriptions) stood.wire; fates = refl };
      unreturned = still_none w (consuming d.queue) none;
    }

begun_alike : (n : ℕ) (d : Requester History) (w : World) → w.returned ≡ None → Stands n d.session w → Alike n (begun (by_history n) d) (begun by_machine (with_world w d))
begun_alike n d w none s =
    chosen n (not d.consumes && is_ready (past n d.session).wire) (not d.consumes && is_ready w.wire) _ d _ (with_world w d)
    (ap (λ (b : Wire). not d.consumes && is_ready b) s.wire)
    (consumed_alike n d w none s)
    (stays n d w none s)

event_alike : (n : ℕ) (e : Event) (d : Requester History) (w : World) → w.returned ≡ None → Stands n d.session w → Alike n (begun (by_history n) (met (by_history n) e d)) (begun by_machine (met by_machine e (with_world w d)))
event_alike n e d w none s = begun_alike n (met (by_history n) e d) (world.next w e) (still_none w e none) (stands_on n d.session w e none s)

asked_alike : (n : ℕ) (x key p : List ℕ) (d : Requester History) (w : World) → w.returned ≡ None → Stands n d.session w → Alike n (asked (by_history n) x key p d) (asked by_machine x key p (with_world w d))
asked_alike n x key p d w none s =
    let e : Event = requesting (next_call d) d.queue x key p in
    stays n (asked (by_history n) x key p d) (world.next w e) (still_none w e none) (stands_on n d.session w e none s)

-- ---- replies are collected

record AlikeG (n : ℕ) (g : Gathered History) (k : Gathered World) : Type 0 where
  session : Stands n g.session k.session
  fates : k.fates ≡ g.fates
  tally : k.tally ≡ g.tally
  unreturned : k.session.returned ≡ None

chosen_g : (n : ℕ) (a b : Bool) (d d' : Gathered History) (k k' : Gathered World) → b ≡ a → AlikeG n d k → AlikeG n d' k' → AlikeG n (cond a d d') (cond b k k')
chosen_g n true true d d' k k' e one other = one
chosen_g n false false d d' k k' e one other = other
chosen_g n true false d d' k k' e one other = absurd cc
chosen_g n false true d d' k k' e one other = absurd cc

heard_alike : (n : ℕ) (o : Option (Result Delivery Error)) (h : History) (w : World) (g : Gathered History) (k : Gathered World) → Stands n h w → w.returned ≡ None → AlikeG n g k → AlikeG n (heard o h g) (heard o w k)
heard_alike n None h w g k s none a = record { session = s; fates = a.fates; tally = a.tally; unreturned = none }
heard_alike n (Some (Ok d)) h w g k s none a = record {
  session = s;
  fates = ap (after_delivery d) a.fates;
  tally = λ i. counted (match_in d (a.fates i)) (a.tally i);
  unreturned = none;
}
heard_alike n (Some (Err e)) h w g k s none a = record { session = s; fates = ap (after_error e) a.fates; tally = a.tally; unreturned = none }

item_same : (n c : ℕ) (g : Gathered History) (k : Gathered World) → AlikeG n g k → item_of (told_by k.session (event.PollConsumer c)) ≡ item_of (rec n g.session (event.PollConsumer c))
item_same n c g k a = ap item_of (told_same n g.session k.session (event.PollConsumer c) a.unreturned a.session)

polled_alike : (n c : ℕ) (g : Gathered History) (k : Gathered World) → AlikeG n g k → AlikeG n (polled (by_history n) c g) (polled by_machine c k)
polled_alike n c g k a =
    let e : Event = event.PollConsumer c in
    subst (λ (o : Option (Result Delivery Error)). AlikeG n (polled (by_history n) c g) (heard o (world.next k.session e) k)) (sym (item_same n c g k a))
    (heard_alike n (item_of (rec n g.session e)) (with_event n g.session e) (world.next k.session e) g k (stands_on n g.session k.session e a.unreturned a.session) (still_none k.session e a.unreturned) a)

polls_alike : (n c m : ℕ) (g : Gathered History) (k : Gathered World) → AlikeG n g k → AlikeG n (polls (by_history n) c m g) (polls by_machine c m k)
polls_alike n c zero g k a = a
polls_alike n c (suc m) g k a =
    let one = polled_alike n c g k a in
    chosen_g n (is_item (item_of (rec n g.session (event.PollConsumer c)))) (is_item (item_of (told_by k.session (event.PollConsumer c)))) _ _ _ _ (ap is_item (item_same n c g k a)) (polls_alike n c m (polled (by_history n) c g) (polled by_machine c k) one) one

gather_alike : (n : ℕ) (o : Option ℕ) (g : Gathered History) (k : Gathered World) → AlikeG n g k → AlikeG n (gather_from (by_history n) o g) (gather_from by_machine o k)
gather_alike n None g k a = a
gather_alike n (Some c) g k a =
    subst (λ (m : ℕ). AlikeG n (gather_from (by_history n) (Some c) g) (polls by_machine c (suc m) k)) (sym (ap (waiting_for c) a.session.wire))
    (polls_alike n c (suc (waiting_for c (past n g.session).wire)) g k a)

gathered_alike : (n : ℕ) (d : Requester History) (w : World) → w.returned ≡ None → Stands n d.session w → AlikeG n (gathered (by_history n) d) (gathered by_machine (with_world w d))
gathered_alike n d w none s = gather_alike n d.consumer _ _ (record { session = s; fates = refl; tally = refl; unreturned = none })

-- ---- one step

abbrev Same : ℕ → CallStep → Requester History → Requester World → Type 0
Same n s d k = (report by_machine s k ≡ report (by_history n) s d) × Alike n (after (by_history n) s d) (after by_machine s k)

same_step : (n : ℕ) (t : CallStep) (d : Requester History) (w : World) → w.returned ≡ None → Stands n d.session w → Same n t d (with_world w d)
same_step n (step.Next flow) d w none s = (ap reported.Session (told_same n d.session w (event.Next flow) none s), event_alike n (event.Next flow) d w none s)
same_step n (step.Receive f) d w none s = (ap reported.Session (told_same n d.session w (event.Receive f) none s), event_alike n (event.Receive f) d w none s)
same_step n step.Lost d w none s = (ap reported.Session (told_same n d.session w event.Lost none s), event_alike n event.Lost d w none s)
same_step n (step.Ask x key p) d w none s = (
  ap (λ (b : Wire). cond (is_ready b) (reported.Asked (next_call d)) (reported.NotOpen (state_of 1 b))) s.wire,
  chosen n (is_ready (past n d.session).wire) (is_ready w.wire) _ d _ (with_world w d) (ap is_ready s.wire) (asked_alike n x key p d w none s) (stays n d w none s),
)
same_step n step.Collect d w none s =
    let a = gathered_alike n d w none s in (
      ap collect_report a.tally,
      record { are = record { session = a.session; queue = refl; consumes = refl; consumer = refl; fates = a.fates }; unreturned = a.unreturned },
    )
same_step n (step.Take m) d w none s = (refl, record { are = record { session = s; queue = refl; consumes = refl; consumer = refl; fates = refl }; unreturned = none })

alike_is : (n : ℕ) (d : Requester History) (k : Requester World) → AreAlike n d k → with_world k.session d ≡ k
alike_is n d k h = λ i. record { session = k.session; queue = sym h.queue i; consumes = sym h.consumes i; consumer = sym h.consumer i; fates = sym h.fates i }

pub alike-next : (n : ℕ) (t : CallStep) (d : Requester History) (k : Requester World) → k.session.returned ≡ None → AreAlike n d k → Same n t d k
alike-next n t d k none h = subst (λ (x : Requester World). Same n t d x) (alike_is n d k h) (same_step n t d k.session none h.session)

-- ---- whole runs

pub new_alike : (n : ℕ) (queue : List ℕ) → Alike n (new_requester (by_history n) [] queue) (new_requester by_machine (new_world n) queue)
new_alike n queue =
    let e : Event = event.Call 1 call.OpenChannel in
    let none : (new_world n).returned ≡ None = refl in
    stays n (new_requester (by_history n) [] queue) (world.next (new_world n) e) (still_none (new_world n) e none) (stands_on n [] (new_world n) e none (new_stands n (new_world n) refl))

reports_same : (n : ℕ) (ts : List CallStep) (d : Requester History) (k : Requester World) → Alike n d k → reports by_machine ts k ≡ reports (by_history n) ts d
reports_same n [] d k h = refl
reports_same n (t ∷ ts) d k h =
    let one = alike-next n t d k h.unreturned h.are in
    let more = reports_same n ts (after (by_history n) t d) (after by_machine t k) one.1 in
    ap (λ (r : CallReport). r ∷ reports by_machine ts (after by_machine t k)) one.0 ∙ ap (λ (rs : List CallReport). report (by_history n) t d ∷ rs) more

-- the reports that the machine gives are those that the history determines
pub reports_calls : (n : ℕ) (queue : List ℕ) (ts : List CallStep) → reports by_machine ts (new_requester by_machine (new_world n) queue) ≡ calls n queue ts
reports_calls n queue ts = reports_same n ts (new_requester (by_history n) [] queue) (new_requester by_machine (new_world n) queue) (new_alike n queue)
