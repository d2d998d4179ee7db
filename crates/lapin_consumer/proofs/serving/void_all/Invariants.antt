use Rattle.std.proofs.Common.{◌≡◌, ◌≤◌, ◌+◌, ◌-◌, ◌++◌, suc, map, length, drop, deque_len, deque_capacity}
use Rattle.lapin_consumer.specs.Words.{on_places, from_places}
use Rattle.lapin_consumer.specs.Marks as mark
use Rattle.lapin_consumer.specs.Subscriptions.{emptied, due}
use Rattle.lapin_consumer.specs.Indexed.{promised_of}
use Rattle.lapin_acker.specs.Switches.{voided}
use Rattle.lapin_consumer.specs.Ackers.{ackers_of}
use Rattle.lapin_consumer.proofs.serving.void_all.Given as goal

abbrev pub invariant-loop-place : goal.invariant-loop-place
invariant-loop-place l = record {
  count : length l.seats.items ≡ length l.fn.seats.items;
  rest : on_places emptied (drop l.place-index l.places) (map (λ s. s.consumer) l.seats.items) ≡ on_places emptied l.places (map (λ s. s.consumer) l.fn.seats.items);
  jobs : l.jobs.items ++ from_places emptied (λ p x. due (mark.Discarded l.channel) (suc p) x) (drop l.place-index l.places) (map (λ s. s.consumer) l.seats.items) ≡ l.fn.jobs.items ++ from_places emptied (λ p x. due (mark.Discarded l.channel) (suc p) x) l.places (map (λ s. s.consumer) l.fn.seats.items);
  void : voided (from_places emptied (λ p x. ackers_of x.items) (drop l.place-index l.places) (map (λ s. s.consumer) l.seats.items)) l.switches.switches ≡ voided (from_places emptied (λ p x. ackers_of x.items) l.places (map (λ s. s.consumer) l.fn.seats.items)) l.fn.switches.switches;
  promised : promised_of l.seats.items ≡ promised_of l.fn.seats.items;
  jobs_left : (deque_capacity l.fn.jobs - deque_len l.fn.jobs) + (length l.places - l.place-index) ≤ (deque_capacity l.jobs - deque_len l.jobs) + length l.places;
  job_room : length l.places - l.place-index ≤ deque_capacity l.jobs - deque_len l.jobs;
}
