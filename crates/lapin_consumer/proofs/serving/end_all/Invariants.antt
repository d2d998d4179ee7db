use Rattle.std.proofs.Common.{◌≡◌, ◌≤◌, ◌+◌, ◌-◌, ◌*◌, ◌++◌, map, length, drop, deque_len, deque_capacity}
use Rattle.lapin_consumer.specs.Words.{places_at, map_at, gather_at}
use Rattle.lapin_consumer.specs.Marks as mark
use Rattle.lapin_consumer.specs.Indexed.{EndsFit, FitWhere, promised_of}
use Rattle.lapin_consumer.specs.WithRoom.{is_registered_one}
use Rattle.lapin_consumer.specs.Subscriptions.{is_on, moved, owed}
use Rattle.lapin_consumer.proofs.serving.end_all.Given as goal

abbrev pub invariant-loop-place : goal.invariant-loop-place
invariant-loop-place l = record {
  left : places_at (λ _ x. is_on l.channel x) (map (λ s. s.consumer) l.seats.items) ≡ drop l.place-index l.places;
  consumers : map_at (moved (mark.Ended l.channel l.error)) (map (λ s. s.consumer) l.seats.items) ≡ map_at (moved (mark.Ended l.channel l.error)) (map (λ s. s.consumer) l.fn.seats.items);
  jobs : l.jobs.items ++ gather_at (owed (mark.Ended l.channel l.error)) (map (λ s. s.consumer) l.seats.items) ≡ l.fn.jobs.items ++ gather_at (owed (mark.Ended l.channel l.error)) (map (λ s. s.consumer) l.fn.seats.items);
  room : EndsFit l.channel l.seats.items;
  promised : promised_of l.seats.items ≡ promised_of l.fn.seats.items;
  others : FitWhere is_registered_one l.fn.seats.items → FitWhere is_registered_one l.seats.items;
  jobs_left : (deque_capacity l.fn.jobs - deque_len l.fn.jobs) + 2 * (length l.places - l.place-index) ≤ (deque_capacity l.jobs - deque_len l.jobs) + 2 * length l.places;
  job_room : 2 * (length l.places - l.place-index) ≤ deque_capacity l.jobs - deque_len l.jobs;
}
