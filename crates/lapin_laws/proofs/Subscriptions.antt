-- The consumers, the jobs and the ackers after every list of events are what happened to them.
use Rattle.std.proofs.Common.{◌≡◌, ℕ, zero, suc, ◌<◌, false, List, [], ◌∷◌, ◌++◌, length, drop, zip, Option, Some, None, refl, sym, ◌∙◌, ap, subst, arith, append-nil, append_assoc}
use Rattle.std.specs.Prelude.{slice_get}
use Rattle.std.specs.List.{fold, list_any, cons_option}
use Rattle.std.proofs.lemmas.List.Sums.{fold-append}
use Rattle.lapin_types.specs.declared.event.Event.{Event}
use Rattle.lapin_types.specs.declared.event.Event.TheVariants as event
use Rattle.lapin_types.specs.declared.job.Job.{Job}
use Rattle.lapin_types.specs.declared.record.Record.{Record}
use Rattle.lapin_types.specs.declared.leaving.Left.{Left}
use Rattle.lapin_acker.specs.declared.switch.Switch.{Switch}
use Rattle.lapin_acker.specs.Marks.{AckerMark}
use Rattle.lapin_acker.specs.Readings as ackers
use Rattle.lapin_acker.specs.Switches.{after_mark as after_acker_mark}
use Rattle.lapin_acker.proofs.Following.{follows-push as acker-push}
use Rattle.lapin_consumer.specs.Follows.{Follows, MayCome}
use Rattle.lapin_consumer.specs.Marks.{ConsumerMark}
use Rattle.lapin_consumer.specs.Marks as mark
use Rattle.lapin_consumer.specs.Readings.{asks, jobs_made, jobs_taken}
use Rattle.lapin_consumer.specs.Subscriptions.{Subscriptions, after_mark as after_consumer_mark, job_taken, owed}
use Rattle.lapin_consumer.specs.Words.{gather_at}
use Rattle.lapin_consumer.proofs.Following.{follows-push, nothing, jobs-push}
use Rattle.lapin_delivery.specs.Deliveries.{Deliveries, empty_deliveries, after_mark, all_consumer_marks, all_acker_marks}
use Rattle.lapin_delivery.specs.Marks.{DeliveryMark}
use Rattle.lapin_delivery.proofs.Histories.{consumers-follow, ackers-follow}
use Rattle.lapin_rules.specs.Wire.{Wire}
use Rattle.lapin_rules.specs.Consumers.{job_marks, job_record}
use Rattle.lapin_rules.specs.Events.{after_event, delivery_marks, record_of}
use Rattle.lapin_rules.specs.History.{History, Past, longer, past, rec, run_from, run, record_after, readings_of}
use Rattle.lapin_rules.specs.ConfirmMarks.{ConfirmMark}
use Rattle.lapin_rules.specs.TicketReadings.{TicketMark}
use Rattle.lapin_rules.specs.Handing.{handed, frame_record}
use Rattle.lapin_machine.proofs.Standing.{past-push}
use Rattle.lapin_laws.specs.Consumers.{deliveries_on, deliveries_history, consumer_history, acker_history, job_in, jobs_in}
use Rattle.lapin_laws.specs.Runs.{world_after}
use Rattle.lapin_laws.proofs.DeliveriesMoves.{marks_steady, joined}
use Rattle.lapin_laws.proofs.Traces.{stands_after}
use Rattle.lapin_laws.proofs.Records.{other_job}
use Rattle.std.proofs.lemmas.Bool.{or_parts}
use Rattle.lapin_machine.proofs.Deliveries.{deliveries-next}

-- ---- jobs

-- these jobs were given, and with those that wait they are all that were made
record Holds (given : List Job) (ms : List ConsumerMark) (r : Subscriptions) : Type 0 where
  follows : Follows ms r
  jobs : given ++ r.jobs ≡ jobs_made ms

module _ (given : List Job) (ms : List ConsumerMark) (r : Subscriptions) (h : Holds given ms r) where
  -- what a mark makes joins them
  joins : (m : ConsumerMark) → given ++ (r.jobs ++ gather_at (owed m) r.consumers) ≡ jobs_made (ms ++ m ∷ [])
  joins m =
      sym (append_assoc given r.jobs (gather_at (owed m) r.consumers))
      ∙ (ap (λ js. js ++ gather_at (owed m) r.consumers) h.jobs
      ∙ (ap (λ xs. jobs_made ms ++ gather_at (owed m) xs) h.follows.consumers
      ∙ sym (jobs-push [] ms m)))

  holds-push : (m : ConsumerMark) → asks m ≡ false → Holds given (ms ++ m ∷ []) (after_consumer_mark r m)
  holds-push m quiet = record {
    follows = follows-push ms r m h.follows (may_come m quiet);
    jobs = ap (λ js. given ++ js) (untaken m _ quiet) ∙ joins m;
  }
    where
      may_come : (m : ConsumerMark) → asks m ≡ false → MayCome ms m
      may_come mark.JobAsked q = absurd cc
      may_come _ q = tt

      untaken : (m : ConsumerMark) (js : List Job) → asks m ≡ false → job_taken m js ≡ js
      untaken mark.JobAsked js q = absurd cc
      untaken _ js q = refl

  -- a job is asked for where there is one
  holds-asked : (j : Job) → slice_get r.jobs 0 ≡ Some j → Holds (given ++ j ∷ []) (ms ++ mark.JobAsked ∷ []) (after_consumer_mark r mark.JobAsked)
  holds-asked j first = record {
    follows = follows-push ms r mark.JobAsked h.follows (one_left (jobs_taken ms) (jobs_made ms) (ap (λ js. slice_get js 0) (sym h.follows.jobs) ∙ first));
    jobs =
        append_assoc given (j ∷ []) (drop 1 (r.jobs ++ gather_at (owed mark.JobAsked) r.consumers))
        ∙ (ap (λ js. given ++ js) (taken_out r.jobs (gather_at (owed mark.JobAsked) r.consumers) first)
        ∙ joins mark.JobAsked);
  }
    where
      one_left : (k : ℕ) (js : List Job) → slice_get (drop k js) 0 ≡ Some j → k < length js
      one_left zero [] e = absurd cc
      one_left zero (x ∷ xs) e = omega arith
      one_left (suc k) [] e = absurd cc
      one_left (suc k) (x ∷ xs) e = let less : k < length xs = one_left k xs e in omega arith

      taken_out : (js more : List Job) → slice_get js 0 ≡ Some j → j ∷ drop 1 (js ++ more) ≡ js ++ more
      taken_out [] more e = absurd cc
      taken_out (x ∷ xs) more e = let same : x ≡ j = cc in ap (λ y. y ∷ (xs ++ more)) (sym same)

-- ---- several marks

-- that ask for no job
holds_all : (given : List Job) (ms : List ConsumerMark) (r : Subscriptions) (new : List ConsumerMark) → list_any asks new ≡ false → Holds given ms r → Holds given (ms ++ new) (fold after_consumer_mark r new)
holds_all given ms r [] q h = let P : List ConsumerMark → Type 0 = λ xs. Holds given xs r in subst P (sym (append-nil ms)) h
holds_all given ms r (m ∷ new) q h =
    let both = or_parts (asks m) (list_any asks new) q in
    let next : Subscriptions = after_consumer_mark r m in
    let P : List ConsumerMark → Type 0 = λ xs. Holds given xs (fold after_consumer_mark next new) in
    subst P (append_assoc ms (m ∷ []) new) (holds_all given (ms ++ m ∷ []) next new both.1 (holds-push given ms r h m both.0))

ackers_all : (ms : List AckerMark) (ss : List Switch) (new : List AckerMark) → ackers.Follows ms ss → ackers.Follows (ms ++ new) (fold after_acker_mark ss new)
ackers_all ms ss [] f = let P : List AckerMark → Type 0 = λ xs. ackers.Follows xs ss in subst P (sym (append-nil ms)) f
ackers_all ms ss (m ∷ new) f =
    let next : List Switch = after_acker_mark ss m in
    let P : List AckerMark → Type 0 = λ xs. ackers.Follows xs (fold after_acker_mark next new) in
    subst P (append_assoc ms (m ∷ []) new) (ackers_all (ms ++ m ∷ []) next new (acker-push ms ss m f))

-- ---- every event

job_holds : (given : List Job) (ms : List ConsumerMark) (r : Subscriptions) (o : Option Job) → slice_get r.jobs 0 ≡ o → Holds given ms r → Holds (given ++ jobs_in (job_record o ∷ [])) (ms ++ all_consumer_marks (job_marks o)) (fold after_consumer_mark r (all_consumer_marks (job_marks o)))
job_holds given ms r None e h = let P : List Job → Type 0 = λ js. Holds js (ms ++ []) r in subst P (sym (append-nil given)) (holds_all given ms r [] refl h)
job_holds given ms r (Some j) e h = holds-asked given ms r h j e

quiet_holds : (given : List Job) (ms : List ConsumerMark) (r : Subscriptions) (new : List ConsumerMark) (x : Record) → job_in x ≡ None → list_any asks new ≡ false → Holds given ms r → Holds (given ++ jobs_in (x ∷ [])) (ms ++ new) (fold after_consumer_mark r new)
quiet_holds given ms r new x none q h =
    let P : List Job → Type 0 = λ js. Holds js (ms ++ new) (fold after_consumer_mark r new) in
    let nothing_given : jobs_in (x ∷ []) ≡ [] = rw none refl in
    subst P (ap (λ js. given ++ js) (sym nothing_given)) (subst P (sym (append-nil given)) (holds_all given ms r new q h))

frame_no_job : (o : Option Left) → job_in (frame_record o) ≡ None
frame_no_job None = refl
frame_no_job (Some l) = refl

module _ (b : Wire) (confirms : List ConfirmMark) (tickets : List TicketMark) where
  abbrev told : Event → Record
  told e = record_of b (readings_of confirms tickets) e

  event_holds : (e : Event) (given : List Job) (ms : List ConsumerMark) → Holds given ms b.deliveries.subscriptions → Holds (given ++ jobs_in (told e ∷ [])) (ms ++ all_consumer_marks (delivery_marks b e (told e))) (fold after_consumer_mark b.deliveries.subscriptions (all_consumer_marks (delivery_marks b e (told e))))
  event_holds event.NextJob given ms h = job_holds given ms b.deliveries.subscriptions (slice_get b.deliveries.subscriptions.jobs 0) refl h
  event_holds (event.Next flow) given ms h = quiet_holds given ms b.deliveries.subscriptions [] (told (event.Next flow)) (frame_no_job (handed flow (readings_of confirms tickets).full b)) refl h
  event_holds e given ms h = quiet_holds given ms b.deliveries.subscriptions (all_consumer_marks (delivery_marks b e (told e))) (told e) (other_job b confirms tickets e refl) (marks_steady b e (told e) refl) h

record Known (given : List Job) (b : Wire) (ms : List DeliveryMark) : Type 0 where
  deliveries : b.deliveries ≡ fold after_mark empty_deliveries ms
  consumers : Holds given (all_consumer_marks ms) b.deliveries.subscriptions

known-next : (q : Past) (e : Event) (given : List Job) (ms : List DeliveryMark) → Known given q.wire ms → Known (given ++ jobs_in (record_after q e ∷ [])) (after_event q.wire e (record_after q e)) (ms ++ delivery_marks q.wire e (record_after q e))
known-next q e given ms k =
    let b : Wire = q.wire in
    let r : Record = record_after q e in
    let new : List DeliveryMark = delivery_marks b e r in
    let given' : List Job = given ++ jobs_in (r ∷ []) in
    let moved : (after_event b e r).deliveries ≡ fold after_mark b.deliveries new = deliveries-next b e r in
    let P : Deliveries → Type 0 = λ i. Holds given' (all_consumer_marks (ms ++ new)) i.subscriptions in
    let Q : Subscriptions → Type 0 = λ x. Holds given' (all_consumer_marks (ms ++ new)) x in
    let R : List ConsumerMark → Type 0 = λ xs. Holds given' xs (fold after_consumer_mark b.deliveries.subscriptions (all_consumer_marks new)) in
    let held : R (all_consumer_marks (ms ++ new)) = subst R (sym (joined ms new)) (event_holds b q.confirms q.tickets e given (all_consumer_marks ms) k.consumers) in
    record {
      deliveries = moved ∙ (ap (λ i. fold after_mark i new) k.deliveries ∙ sym (fold-append after_mark empty_deliveries ms new));
      consumers = subst P (sym moved) (subst Q (sym (consumers-follow b.deliveries new)) held);
    }

-- ---- every list of events

jobs-first : (r : Record) (rs : List Record) → jobs_in (r ∷ rs) ≡ jobs_in (r ∷ []) ++ jobs_in rs
jobs-first r rs = elim (job_in r) as (λ o. cons_option o (jobs_in rs) ≡ cons_option o [] ++ jobs_in rs) [ None ↦ refl | Some j ↦ refl ]

known_run : (n : ℕ) (h : History) (es : List Event) (given : List Job) (ms : List DeliveryMark) → Known given (past n h).wire ms → Known (given ++ jobs_in (run_from n h es)) (past n (h ++ zip es (run_from n h es))).wire (ms ++ deliveries_on (past n h) (zip es (run_from n h es)))
known_run n h [] given ms k =
    let P : History → Type 0 = λ x. Known (given ++ []) (past n x).wire (ms ++ []) in
    let Q : List DeliveryMark → Type 0 = λ ys. Known (given ++ []) (past n h).wire ys in
    let R : List Job → Type 0 = λ js. Known js (past n h).wire ms in
    subst P (sym (append-nil h)) (subst Q (sym (append-nil ms)) (subst R (sym (append-nil given)) k))
known_run n h (e ∷ es) given ms k =
    let before : Past = past n h in
    let r : Record = rec n h e in
    let h' : History = h ++ (e, r) ∷ [] in
    let new : List DeliveryMark = delivery_marks before.wire e r in
    let given' : List Job = given ++ jobs_in (r ∷ []) in
    let long : past n h' ≡ longer before e r = past-push _ h e r in
    let more : History = zip es (run_from n h' es) in
    let later : List Job = jobs_in (run_from n h' es) in
    let S : Past → Type 0 = λ q. Known given' q.wire (ms ++ new) in
    let rest = known_run n h' es given' (ms ++ new) (subst S (sym long) (known-next before e given ms k)) in
    let all : given ++ jobs_in (r ∷ run_from n h' es) ≡ given' ++ later = ap (λ js. given ++ js) (jobs-first r (run_from n h' es)) ∙ sym (append_assoc given (jobs_in (r ∷ [])) later) in
    let H : History → Type 0 = λ x. Known (given ++ jobs_in (r ∷ run_from n h' es)) (past n x).wire (ms ++ (new ++ deliveries_on (longer before e r) more)) in
    let M : List DeliveryMark → Type 0 = λ ys. Known (given ++ jobs_in (r ∷ run_from n h' es)) (past n (h' ++ more)).wire ys in
    let J : List Job → Type 0 = λ js. Known js (past n (h' ++ more)).wire ((ms ++ new) ++ deliveries_on (past n h') more) in
    subst H (append_assoc h ((e, r) ∷ []) more) (subst M (ap (λ q. (ms ++ new) ++ deliveries_on q more) long ∙ append_assoc ms new (deliveries_on (longer before e r) more)) (subst J (sym all) rest))

run_known : (n : ℕ) (es : List Event) → Known (jobs_in (run n es)) (world_after n es).wire (deliveries_history n (zip es (run n es)))
run_known n es =
    let P : Wire → Type 0 = λ b. Known (jobs_in (run n es)) b (deliveries_history n (zip es (run n es))) in
    subst P (sym (stands_after n es).wire) (known_run n [] es [] [] (record { deliveries = refl; consumers = record { follows = nothing; jobs = refl } }))

pub consumers_after : (n : ℕ) (es : List Event) → Follows (consumer_history n (zip es (run n es))) (world_after n es).wire.deliveries.subscriptions
consumers_after n es = (run_known n es).consumers.follows

pub jobs_after : (n : ℕ) (es : List Event) → jobs_in (run n es) ++ (world_after n es).wire.deliveries.subscriptions.jobs ≡ jobs_made (consumer_history n (zip es (run n es)))
jobs_after n es = (run_known n es).consumers.jobs

pub ackers_after : (n : ℕ) (es : List Event) → ackers.Follows (acker_history n (zip es (run n es))) (world_after n es).wire.deliveries.switches
ackers_after n es =
    let ms : List DeliveryMark = deliveries_history n (zip es (run n es)) in
    let P : List Switch → Type 0 = λ ss. ackers.Follows (acker_history n (zip es (run n es))) ss in
    subst P (sym (ap (λ (i : Deliveries). i.switches) (run_known n es).deliveries ∙ ackers-follow empty_deliveries ms)) (ackers_all [] [] (all_acker_marks empty_deliveries ms) refl)

pub deliveries_after : (n : ℕ) (es : List Event) → (world_after n es).wire.deliveries ≡ fold after_mark empty_deliveries (deliveries_history n (zip es (run n es)))
deliveries_after n es = (run_known n es).deliveries
