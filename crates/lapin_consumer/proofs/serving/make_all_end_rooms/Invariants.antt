use Rattle.std.proofs.Common.{◌≡◌, map, length}
use Rattle.lapin_consumer.specs.Indexed.{promised_of}
use Rattle.lapin_consumer.proofs.EndRooms.{FitBelow}
use Rattle.lapin_consumer.proofs.serving.make_all_end_rooms.Given as goal

abbrev pub invariant-loop-place : goal.invariant-loop-place
invariant-loop-place l = record {
  count : length l.seats.items ≡ length l.fn.seats.items;
  same : map (λ s. s.consumer) l.seats.items ≡ map (λ s. s.consumer) l.fn.seats.items;
  promised : promised_of l.seats.items ≡ promised_of l.fn.seats.items;
  below : FitBelow l.place l.seats.items;
}
