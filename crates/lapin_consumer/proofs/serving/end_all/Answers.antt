use Rattle.std.proofs.Common.{◌<◌, ◌≤◌, ◌+◌, ◌-◌, ◌*◌, ◌++◌, length, drop, get_or, sym, ap, ◌∙◌, arith, deque_len, deque_capacity}
use Rattle.std.proofs.lemmas.List.{append-nil}
use Rattle.lapin_consumer.specs.Subscriptions.{Consumer, offered, last_words}
use Rattle.lapin_consumer.proofs.Ending.{consumers_of, left_now, left_none, next, next_within, next_room, step_left, step_consumers, step_jobs, step_room, done_consumers, done_jobs}
use Rattle.lapin_consumer.proofs.EndRooms.{fit_without}
use Rattle.lapin_consumer.proofs.Rooms.{still_promised}
use Rattle.lapin_consumer.specs.WithRoom.{is_registered_one}
use Rattle.lapin_consumer.proofs.serving.end_all.Goals as goal

pub number_at-number-requires : goal.number_at-number-requires
number_at-number-requires c = (next_within c.args.channel (get_or c.args.places.now c.loop-place.place-index 0) (drop (c.loop-place.place-index + 1) c.args.places.now) c.loop-place.seats.items (left_now c.args.channel c.loop-place.place-index c.args.places.now (consumers_of c.loop-place.seats.items) c.loop-place-test.true c.loop-place.invariant.left))

pub index_mut-requires : goal.index_mut-requires
index_mut-requires c =
    let within : (get_or c.args.places.now c.loop-place.place-index 0) < length c.loop-place.seats.items = (next_within c.args.channel (get_or c.args.places.now c.loop-place.place-index 0) (drop (c.loop-place.place-index + 1) c.args.places.now) c.loop-place.seats.items (left_now c.args.channel c.loop-place.place-index c.args.places.now (consumers_of c.loop-place.seats.items) c.loop-place-test.true c.loop-place.invariant.left)) in
    omega (arith, c.loop-place.seats.ok)

pub end_one-requires-clause-room : goal.end_one-requires-clause-room
end_one-requires-clause-room c = next_room c.args.channel (get_or c.args.places.now c.loop-place.place-index 0) (drop (c.loop-place.place-index + 1) c.args.places.now) c.index_mut.result.now c.loop-place.seats.items (next c.args.channel (get_or c.args.places.now c.loop-place.place-index 0) (drop (c.loop-place.place-index + 1) c.args.places.now) c.index_mut.result.now c.loop-place.seats.items (left_now c.args.channel c.loop-place.place-index c.args.places.now (consumers_of c.loop-place.seats.items) c.loop-place-test.true c.loop-place.invariant.left) (next_within c.args.channel (get_or c.args.places.now c.loop-place.place-index 0) (drop (c.loop-place.place-index + 1) c.args.places.now) c.loop-place.seats.items (left_now c.args.channel c.loop-place.place-index c.args.places.now (consumers_of c.loop-place.seats.items) c.loop-place-test.true c.loop-place.invariant.left)) c.index_mut.ensures.value) (next_within c.args.channel (get_or c.args.places.now c.loop-place.place-index 0) (drop (c.loop-place.place-index + 1) c.args.places.now) c.loop-place.seats.items (left_now c.args.channel c.loop-place.place-index c.args.places.now (consumers_of c.loop-place.seats.items) c.loop-place-test.true c.loop-place.invariant.left)) c.index_mut.ensures.value c.loop-place.invariant.room

pub loop-place-preserved : goal.loop-place-preserved
loop-place-preserved c =
    record {
      left = step_left c.args.channel (get_or c.args.places.now c.loop-place.place-index 0) (drop (c.loop-place.place-index + 1) c.args.places.now) c.args.error c.index_mut.result.now c.end_one.new.seat c.loop-place.seats.items (next c.args.channel (get_or c.args.places.now c.loop-place.place-index 0) (drop (c.loop-place.place-index + 1) c.args.places.now) c.index_mut.result.now c.loop-place.seats.items (left_now c.args.channel c.loop-place.place-index c.args.places.now (consumers_of c.loop-place.seats.items) c.loop-place-test.true c.loop-place.invariant.left) (next_within c.args.channel (get_or c.args.places.now c.loop-place.place-index 0) (drop (c.loop-place.place-index + 1) c.args.places.now) c.loop-place.seats.items (left_now c.args.channel c.loop-place.place-index c.args.places.now (consumers_of c.loop-place.seats.items) c.loop-place-test.true c.loop-place.invariant.left)) c.index_mut.ensures.value) (left_now c.args.channel c.loop-place.place-index c.args.places.now (consumers_of c.loop-place.seats.items) c.loop-place-test.true c.loop-place.invariant.left) (next_within c.args.channel (get_or c.args.places.now c.loop-place.place-index 0) (drop (c.loop-place.place-index + 1) c.args.places.now) c.loop-place.seats.items (left_now c.args.channel c.loop-place.place-index c.args.places.now (consumers_of c.loop-place.seats.items) c.loop-place-test.true c.loop-place.invariant.left)) c.index_mut.ensures.value c.end_one.ensures.seat;
      consumers = step_consumers c.args.channel (get_or c.args.places.now c.loop-place.place-index 0) (drop (c.loop-place.place-index + 1) c.args.places.now) c.args.error c.index_mut.result.now c.end_one.new.seat c.loop-place.seats.items _ (next c.args.channel (get_or c.args.places.now c.loop-place.place-index 0) (drop (c.loop-place.place-index + 1) c.args.places.now) c.index_mut.result.now c.loop-place.seats.items (left_now c.args.channel c.loop-place.place-index c.args.places.now (consumers_of c.loop-place.seats.items) c.loop-place-test.true c.loop-place.invariant.left) (next_within c.args.channel (get_or c.args.places.now c.loop-place.place-index 0) (drop (c.loop-place.place-index + 1) c.args.places.now) c.loop-place.seats.items (left_now c.args.channel c.loop-place.place-index c.args.places.now (consumers_of c.loop-place.seats.items) c.loop-place-test.true c.loop-place.invariant.left)) c.index_mut.ensures.value) (next_within c.args.channel (get_or c.args.places.now c.loop-place.place-index 0) (drop (c.loop-place.place-index + 1) c.args.places.now) c.loop-place.seats.items (left_now c.args.channel c.loop-place.place-index c.args.places.now (consumers_of c.loop-place.seats.items) c.loop-place-test.true c.loop-place.invariant.left)) c.index_mut.ensures.value c.end_one.ensures.seat c.loop-place.invariant.consumers;
      jobs = step_jobs c.args.channel (get_or c.args.places.now c.loop-place.place-index 0) (drop (c.loop-place.place-index + 1) c.args.places.now) c.args.error c.index_mut.result.now c.end_one.new.seat c.loop-place.seats.items c.loop-place.jobs.items c.end_one.new.jobs.items _ (next c.args.channel (get_or c.args.places.now c.loop-place.place-index 0) (drop (c.loop-place.place-index + 1) c.args.places.now) c.index_mut.result.now c.loop-place.seats.items (left_now c.args.channel c.loop-place.place-index c.args.places.now (consumers_of c.loop-place.seats.items) c.loop-place-test.true c.loop-place.invariant.left) (next_within c.args.channel (get_or c.args.places.now c.loop-place.place-index 0) (drop (c.loop-place.place-index + 1) c.args.places.now) c.loop-place.seats.items (left_now c.args.channel c.loop-place.place-index c.args.places.now (consumers_of c.loop-place.seats.items) c.loop-place-test.true c.loop-place.invariant.left)) c.index_mut.ensures.value) (next_within c.args.channel (get_or c.args.places.now c.loop-place.place-index 0) (drop (c.loop-place.place-index + 1) c.args.places.now) c.loop-place.seats.items (left_now c.args.channel c.loop-place.place-index c.args.places.now (consumers_of c.loop-place.seats.items) c.loop-place-test.true c.loop-place.invariant.left)) c.index_mut.ensures.value c.end_one.ensures.seat (c.end_one.ensures.jobs ∙ ap (λ n. c.loop-place.jobs.items ++ offered n (last_words c.args.error) c.index_mut.result.now.consumer) c.number_at-number.ensures) c.loop-place.invariant.jobs;
      room = step_room c.args.channel (get_or c.args.places.now c.loop-place.place-index 0) c.args.error c.index_mut.result.now c.end_one.new.seat c.loop-place.seats.items (next_within c.args.channel (get_or c.args.places.now c.loop-place.place-index 0) (drop (c.loop-place.place-index + 1) c.args.places.now) c.loop-place.seats.items (left_now c.args.channel c.loop-place.place-index c.args.places.now (consumers_of c.loop-place.seats.items) c.loop-place-test.true c.loop-place.invariant.left)) c.end_one.ensures.seat c.loop-place.invariant.room;
      others = λ fit. fit_without is_registered_one (get_or c.args.places.now c.loop-place.place-index 0) c.end_one.new.seat c.loop-place.seats.items (next_within c.args.channel (get_or c.args.places.now c.loop-place.place-index 0) (drop (c.loop-place.place-index + 1) c.args.places.now) c.loop-place.seats.items (left_now c.args.channel c.loop-place.place-index c.args.places.now (consumers_of c.loop-place.seats.items) c.loop-place-test.true c.loop-place.invariant.left)) (ap (λ (x : Consumer). x.registered) c.end_one.ensures.seat) (c.loop-place.invariant.others fit);
      promised = still_promised (get_or c.args.places.now c.loop-place.place-index 0) c.index_mut.result.now c.end_one.new.seat c.loop-place.seats.items _ (next_within c.args.channel (get_or c.args.places.now c.loop-place.place-index 0) (drop (c.loop-place.place-index + 1) c.args.places.now) c.loop-place.seats.items (left_now c.args.channel c.loop-place.place-index c.args.places.now (consumers_of c.loop-place.seats.items) c.loop-place-test.true c.loop-place.invariant.left)) c.index_mut.ensures.value c.end_one.ensures.promised c.loop-place.invariant.promised;
      jobs_left =
          let before : (deque_capacity c.args.jobs.now - deque_len c.args.jobs.now) + 2 * (length c.args.places.now - c.loop-place.place-index) ≤ (deque_capacity c.loop-place.jobs - deque_len c.loop-place.jobs) + 2 * length c.args.places.now = c.loop-place.invariant.jobs_left in
          let used : deque_capacity c.loop-place.jobs - deque_len c.loop-place.jobs ≤ deque_capacity c.end_one.new.jobs - deque_len c.end_one.new.jobs + 2 = c.end_one.ensures.jobs_left in
          let more : c.loop-place.place-index < length c.args.places.now = c.loop-place-test.true in
          omega arith;
      job_room =
          let spare : 2 * (length c.args.places.now - c.loop-place.place-index) ≤ deque_capacity c.loop-place.jobs - deque_len c.loop-place.jobs = c.loop-place.invariant.job_room in
          let used : deque_capacity c.loop-place.jobs - deque_len c.loop-place.jobs ≤ deque_capacity c.end_one.new.jobs - deque_len c.end_one.new.jobs + 2 = c.end_one.ensures.jobs_left in
          let more : c.loop-place.place-index < length c.args.places.now = c.loop-place-test.true in
          omega arith;
    }

pub returns-clause-consumers : goal.returns-clause-consumers
returns-clause-consumers c =
    sym (done_consumers c.args.channel c.args.error (consumers_of c.loop-place.seats.items) (left_none c.args.channel c.loop-place.place-index c.args.places.now (consumers_of c.loop-place.seats.items) c.loop-place-test.false c.loop-place.invariant.left)) ∙ c.loop-place.invariant.consumers

pub returns-clause-jobs : goal.returns-clause-jobs
returns-clause-jobs c =
    sym (append-nil c.loop-place.jobs.items)
    ∙ ap (λ js. c.loop-place.jobs.items ++ js) (sym (done_jobs c.args.channel c.args.error (consumers_of c.loop-place.seats.items) (left_none c.args.channel c.loop-place.place-index c.args.places.now (consumers_of c.loop-place.seats.items) c.loop-place-test.false c.loop-place.invariant.left)))
    ∙ c.loop-place.invariant.jobs

pub returns-clause-kept : goal.returns-clause-kept
returns-clause-kept c fit = c.loop-place.invariant.others fit

pub returns-clause-jobs_left : goal.returns-clause-jobs_left
returns-clause-jobs_left c =
    let sum : (deque_capacity c.args.jobs.now - deque_len c.args.jobs.now) + 2 * (length c.args.places.now - c.loop-place.place-index) ≤ (deque_capacity c.loop-place.jobs - deque_len c.loop-place.jobs) + 2 * length c.args.places.now = c.loop-place.invariant.jobs_left in
    let done : length c.args.places.now ≤ c.loop-place.place-index = c.loop-place-test.false in
    omega arith

pub returns-clause-promised : goal.returns-clause-promised
returns-clause-promised c = c.loop-place.invariant.promised
