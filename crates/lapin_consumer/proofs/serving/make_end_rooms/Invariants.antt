use Rattle.std.proofs.Common.{◌≡◌, Bool, map, drop}
use Rattle.lapin_consumer.specs.Indexed.{FitWhere, promised_of}
use Rattle.lapin_consumer.specs.Subscriptions.{Consumer}
use Rattle.lapin_consumer.proofs.Ending.{Fitted}
use Rattle.lapin_consumer.proofs.serving.make_end_rooms.Given as goal

abbrev pub invariant-loop-place : goal.invariant-loop-place
invariant-loop-place l = record {
  same : map (λ s. s.consumer) l.seats.items ≡ map (λ s. s.consumer) l.fn.seats.items;
  keeps : (q : Consumer → Bool) → FitWhere q l.fn.seats.items → FitWhere q l.seats.items;
  promised : promised_of l.seats.items ≡ promised_of l.fn.seats.items;
  fitted : Fitted l.channel (drop l.place-index l.places) l.seats.items;
}
