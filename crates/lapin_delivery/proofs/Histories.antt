-- After the marks of a history each part is what its own machine makes of them.
use Rattle.std.proofs.Common.{◌≡◌, List, [], ◌∷◌, refl, sym, ◌∙◌}
use Rattle.std.specs.List.{fold}
use Rattle.std.proofs.lemmas.List.Sums.{fold-append}
use Rattle.lapin_acker.specs.Switches.{after_mark as after_acker_mark}
use Rattle.lapin_consumer.specs.Subscriptions.{after_mark as after_consumer_mark}
use Rattle.lapin_delivery.specs.Marks.{DeliveryMark}
use Rattle.lapin_delivery.specs.Deliveries.{Deliveries, after_mark, consumer_marks, acker_marks, all_consumer_marks, all_acker_marks, topologies_after}

pub consumers-follow : (i : Deliveries) (ms : List DeliveryMark) → (fold after_mark i ms).subscriptions ≡ fold after_consumer_mark i.subscriptions (all_consumer_marks ms)
consumers-follow i [] = refl
consumers-follow i (m ∷ ms) = consumers-follow (after_mark i m) ms ∙ sym (fold-append after_consumer_mark i.subscriptions (consumer_marks m) (all_consumer_marks ms))

pub ackers-follow : (i : Deliveries) (ms : List DeliveryMark) → (fold after_mark i ms).switches ≡ fold after_acker_mark i.switches (all_acker_marks i ms)
ackers-follow i [] = refl
ackers-follow i (m ∷ ms) = ackers-follow (after_mark i m) ms ∙ sym (fold-append after_acker_mark i.switches (acker_marks i m) (all_acker_marks (after_mark i m) ms))

pub registries-follow : (i : Deliveries) (ms : List DeliveryMark) → (fold after_mark i ms).topologies ≡ fold topologies_after i.topologies ms
registries-follow i [] = refl
registries-follow i (m ∷ ms) = registries-follow (after_mark i m) ms
