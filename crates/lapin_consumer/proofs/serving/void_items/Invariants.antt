use Rattle.std.proofs.Common.{◌≡◌, length}
use Rattle.lapin_consumer.specs.Subscriptions.{emptied}
use Rattle.lapin_acker.specs.Switches.{voided}
use Rattle.lapin_consumer.specs.Ackers.{ackers_of}
use Rattle.lapin_consumer.proofs.serving.void_items.Given as goal

abbrev pub invariant-loop-item : goal.invariant-loop-item
invariant-loop-item l = record {
  same : emptied l.seat.consumer ≡ emptied l.fn.seat.consumer;
  promised : l.seat.promised ≡ l.fn.seat.promised;
  void : voided (ackers_of l.seat.consumer.items) l.switches.switches ≡ voided (ackers_of l.fn.seat.consumer.items) l.fn.switches.switches;
}

abbrev pub decreases-loop-item : goal.decreases-loop-item
decreases-loop-item l = length l.seat.consumer.items
