use Rattle.std.proofs.Common.{slice_set, ◌<◌, ◌≤◌, ◌+◌, ◌-◌, ◌++◌, ◌∷◌, [], suc, cond, length, drop, get_or, sym, ap, ◌∙◌, arith, append_assoc, deque_len, deque_capacity}
use Rattle.std.proofs.lemmas.List.{append-nil}
use Rattle.lapin_consumer.specs.Words.{on_places, from_places}
use Rattle.lapin_consumer.specs.Marks as mark
use Rattle.lapin_acker.specs.Switches.{voided}
use Rattle.lapin_consumer.specs.Ackers.{ackers_of}
use Rattle.lapin_consumer.specs.Subscriptions.{is_on, is_marked, emptied, due, discard}
use Rattle.lapin_consumer.proofs.Ending.{consumers_of, place_seated}
use Rattle.lapin_acker.proofs.Numbers.{voided-append}
use Rattle.lapin_consumer.proofs.Rooms.{still_promised}
use Rattle.lapin_consumer.proofs.Several.{several_step, several_done, several_gives, gives_none, same_length, on_all, from_all}
use Rattle.lapin_consumer.proofs.serving.void_all.Goals as goal

pub number_at-number-requires : goal.number_at-number-requires
number_at-number-requires c = (rw c.loop-place.invariant.count (place_seated c.args.channel c.loop-place.place-index c.args.places.now c.args.seats.now.items c.requires.places c.loop-place-test.true))

pub index_mut-requires : goal.index_mut-requires
index_mut-requires c =
    let within : (get_or c.args.places.now c.loop-place.place-index 0) < length c.loop-place.seats.items = (rw c.loop-place.invariant.count (place_seated c.args.channel c.loop-place.place-index c.args.places.now c.args.seats.now.items c.requires.places c.loop-place-test.true)) in
    omega (arith, c.loop-place.seats.ok)

pub loop-place-preserved : goal.loop-place-preserved
loop-place-preserved c = record {
  count = same_length c.loop-place.seats.items c.args.seats.now.items (get_or c.args.places.now c.loop-place.place-index 0) c.void_one.new.seat c.loop-place.invariant.count;
  rest = several_step emptied c.loop-place.place-index c.args.places.now c.index_mut.result.now c.void_one.new.seat c.loop-place.seats.items _ c.loop-place-test.true (rw c.loop-place.invariant.count (place_seated c.args.channel c.loop-place.place-index c.args.places.now c.args.seats.now.items c.requires.places c.loop-place-test.true)) c.index_mut.ensures.value c.void_one.ensures.seat c.loop-place.invariant.rest;
  jobs =
      ap (λ js. js ++ from_places emptied (λ p x. due (mark.Discarded c.args.channel) (suc p) x) (drop (c.loop-place.place-index + 1) c.args.places.now) (consumers_of (slice_set c.loop-place.seats.items (get_or c.args.places.now c.loop-place.place-index 0) c.void_one.new.seat))) (c.void_one.ensures.jobs ∙ ap (λ n. c.loop-place.jobs.items ++ cond (is_marked c.index_mut.result.now.consumer.state) (discard n ∷ []) []) c.number_at-number.ensures)
      ∙ append_assoc c.loop-place.jobs.items (due (mark.Discarded c.args.channel) (suc (get_or c.args.places.now c.loop-place.place-index 0)) c.index_mut.result.now.consumer) (from_places emptied (λ p x. due (mark.Discarded c.args.channel) (suc p) x) (drop (c.loop-place.place-index + 1) c.args.places.now) (consumers_of (slice_set c.loop-place.seats.items (get_or c.args.places.now c.loop-place.place-index 0) c.void_one.new.seat)))
      ∙ ap (λ js. c.loop-place.jobs.items ++ js) (sym (several_gives emptied (λ p x. due (mark.Discarded c.args.channel) (suc p) x) c.loop-place.place-index c.args.places.now c.index_mut.result.now c.void_one.new.seat c.loop-place.seats.items c.loop-place-test.true (rw c.loop-place.invariant.count (place_seated c.args.channel c.loop-place.place-index c.args.places.now c.args.seats.now.items c.requires.places c.loop-place-test.true)) c.index_mut.ensures.value c.void_one.ensures.seat))
      ∙ c.loop-place.invariant.jobs;
  void =
      ap (voided (from_places emptied (λ _ x. ackers_of x.items) (drop (c.loop-place.place-index + 1) c.args.places.now) (consumers_of (slice_set c.loop-place.seats.items (get_or c.args.places.now c.loop-place.place-index 0) c.void_one.new.seat)))) c.void_one.ensures.switches
      ∙ sym (voided-append (ackers_of c.index_mut.result.now.consumer.items) (from_places emptied (λ _ x. ackers_of x.items) (drop (c.loop-place.place-index + 1) c.args.places.now) (consumers_of (slice_set c.loop-place.seats.items (get_or c.args.places.now c.loop-place.place-index 0) c.void_one.new.seat))) c.loop-place.switches.switches)
      ∙ ap (λ ns. voided ns c.loop-place.switches.switches) (sym (several_gives emptied (λ _ x. ackers_of x.items) c.loop-place.place-index c.args.places.now c.index_mut.result.now c.void_one.new.seat c.loop-place.seats.items c.loop-place-test.true (rw c.loop-place.invariant.count (place_seated c.args.channel c.loop-place.place-index c.args.places.now c.args.seats.now.items c.requires.places c.loop-place-test.true)) c.index_mut.ensures.value c.void_one.ensures.seat))
      ∙ c.loop-place.invariant.void;
  promised = still_promised (get_or c.args.places.now c.loop-place.place-index 0) c.index_mut.result.now c.void_one.new.seat c.loop-place.seats.items _ (rw c.loop-place.invariant.count (place_seated c.args.channel c.loop-place.place-index c.args.places.now c.args.seats.now.items c.requires.places c.loop-place-test.true)) c.index_mut.ensures.value c.void_one.ensures.promised c.loop-place.invariant.promised;
  jobs_left =
      let before : (deque_capacity c.args.jobs.now - deque_len c.args.jobs.now) + (length c.args.places.now - c.loop-place.place-index) ≤ (deque_capacity c.loop-place.jobs - deque_len c.loop-place.jobs) + length c.args.places.now = c.loop-place.invariant.jobs_left in
      let left : deque_capacity c.loop-place.jobs - deque_len c.loop-place.jobs ≤ deque_capacity c.void_one.new.jobs - deque_len c.void_one.new.jobs + 1 = c.void_one.ensures.jobs_left in
      let more : c.loop-place.place-index < length c.args.places.now = c.loop-place-test.true in
      omega arith;
  job_room =
      let spare : length c.args.places.now - c.loop-place.place-index ≤ deque_capacity c.loop-place.jobs - deque_len c.loop-place.jobs = c.loop-place.invariant.job_room in
      let left : deque_capacity c.loop-place.jobs - deque_len c.loop-place.jobs ≤ deque_capacity c.void_one.new.jobs - deque_len c.void_one.new.jobs + 1 = c.void_one.ensures.jobs_left in
      let more : c.loop-place.place-index < length c.args.places.now = c.loop-place-test.true in
      omega arith;
}

pub returns-clause-consumers : goal.returns-clause-consumers
returns-clause-consumers c =
    several_done emptied c.loop-place.place-index c.args.places.now (consumers_of c.loop-place.seats.items) _ c.loop-place-test.false c.loop-place.invariant.rest
    ∙ ap (λ ps. on_places emptied ps (consumers_of c.args.seats.now.items)) (sym c.requires.places)
    ∙ on_all (λ _ x. is_on c.args.channel x) emptied (consumers_of c.args.seats.now.items)

pub returns-clause-jobs : goal.returns-clause-jobs
returns-clause-jobs c =
    sym (append-nil c.loop-place.jobs.items)
    ∙ ap (λ js. c.loop-place.jobs.items ++ js) (sym (gives_none emptied (λ p x. due (mark.Discarded c.args.channel) (suc p) x) c.loop-place.place-index c.args.places.now (consumers_of c.loop-place.seats.items) c.loop-place-test.false))
    ∙ c.loop-place.invariant.jobs
    ∙ ap (λ ps. c.args.jobs.now.items ++ from_places emptied (λ p x. due (mark.Discarded c.args.channel) (suc p) x) ps (consumers_of c.args.seats.now.items)) (sym c.requires.places)
    ∙ ap (λ js. c.args.jobs.now.items ++ js) (from_all (λ _ x. is_on c.args.channel x) emptied (λ p x. due (mark.Discarded c.args.channel) (suc p) x) (consumers_of c.args.seats.now.items))

pub returns-clause-switches : goal.returns-clause-switches
returns-clause-switches c =
    ap (λ ns. voided ns c.loop-place.switches.switches) (sym (gives_none emptied (λ _ x. ackers_of x.items) c.loop-place.place-index c.args.places.now (consumers_of c.loop-place.seats.items) c.loop-place-test.false))
    ∙ c.loop-place.invariant.void
    ∙ ap (λ ps. voided (from_places emptied (λ _ x. ackers_of x.items) ps (consumers_of c.args.seats.now.items)) c.args.switches.now.switches) (sym c.requires.places)
    ∙ ap (λ ns. voided ns c.args.switches.now.switches) (from_all (λ _ x. is_on c.args.channel x) emptied (λ _ x. ackers_of x.items) (consumers_of c.args.seats.now.items))

pub returns-clause-promised : goal.returns-clause-promised
returns-clause-promised c = c.loop-place.invariant.promised

pub returns-clause-jobs_left : goal.returns-clause-jobs_left
returns-clause-jobs_left c =
    let sum : (deque_capacity c.args.jobs.now - deque_len c.args.jobs.now) + (length c.args.places.now - c.loop-place.place-index) ≤ (deque_capacity c.loop-place.jobs - deque_len c.loop-place.jobs) + length c.args.places.now = c.loop-place.invariant.jobs_left in
    let done : length c.args.places.now ≤ c.loop-place.place-index = c.loop-place-test.false in
    omega arith
