use Rattle.std.proofs.Common.{◌≡◌, ◌+◌, map, drop}
use Rattle.std.specs.List.{count_by}
use Rattle.lapin_consumer.specs.WithRoom.{is_registered_one}
use Rattle.lapin_consumer.proofs.serving.count_registered.Given as goal

abbrev pub invariant-loop-seat : goal.invariant-loop-seat
invariant-loop-seat l = l.count + count_by is_registered_one (map (λ s. s.consumer) (drop l.seat-index l.seats.items)) ≡ count_by is_registered_one (map (λ s. s.consumer) l.seats.items)
