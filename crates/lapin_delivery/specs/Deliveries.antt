-- What consumers were handed, the ackers and what channels declared as one machine: what each mark of a history does to all three.
use Rattle.std.specs.Prelude.{List, [], ◌∷◌, ◌++◌}
use Rattle.std.specs.List.{fold}
use Rattle.lapin_types.specs.declared.message.Delivery.{Delivery}
use Rattle.lapin_acker.specs.declared.switch.Switch.{Switch}
use Rattle.lapin_acker.specs.Marks.{AckerMark}
use Rattle.lapin_acker.specs.Marks as acker_mark
use Rattle.lapin_acker.specs.Switches.{after_mark as after_acker_mark}
use Rattle.lapin_consumer.specs.Marks.{ConsumerMark}
use Rattle.lapin_consumer.specs.Marks as consumer_mark
use Rattle.lapin_consumer.specs.Subscriptions.{Subscriptions, empty_subscriptions, after_mark as after_consumer_mark}
use Rattle.lapin_consumer.specs.Ackers.{ackers_on}
use Rattle.lapin_registry.specs.Topologies.{Topologies, begun_on, completed_on}
use Rattle.lapin_delivery.specs.Marks.{DeliveryMark}
use Rattle.lapin_delivery.specs.Marks as mark

-- the consumers with their jobs, the switches of the ackers in order of their numbers, and the registries of the channels that ever had
-- an opening
pub record Deliveries : Type 0 where
  pub subscriptions : Subscriptions
  pub switches : List Switch
  pub topologies : Topologies

-- as a session begins: no consumer is registered, no acker was given, no channel had an opening
abbrev pub empty_deliveries : Deliveries
empty_deliveries = record { subscriptions = empty_subscriptions; switches = []; topologies = [] }

-- what a mark is to the consumers
abbrev pub consumer_marks : DeliveryMark → List ConsumerMark
consumer_marks (mark.Consumed c t q) = consumer_mark.Registered c t q ∷ []
consumer_marks (mark.Delivered k d) = consumer_mark.Completed k d ∷ []
consumer_marks (mark.Got c t) = []
consumer_marks (mark.CancelAsked c t) = consumer_mark.CancelAsked c t ∷ []
consumer_marks (mark.CloseAsked c) = consumer_mark.CloseAsked c ∷ []
consumer_marks (mark.Canceled c t) = consumer_mark.Canceled c t ∷ []
consumer_marks (mark.Ended c e) = consumer_mark.Ended c e ∷ []
consumer_marks (mark.Discarded c) = consumer_mark.Discarded c ∷ []
consumer_marks (mark.Delegated k) = consumer_mark.Delegated k ∷ []
consumer_marks (mark.Polled k) = consumer_mark.Polled k ∷ []
consumer_marks (mark.LetGo k) = consumer_mark.LetGo k ∷ []
consumer_marks mark.JobAsked = consumer_mark.JobAsked ∷ []
consumer_marks (mark.Spent n) = []
consumer_marks (mark.Opened c) = []
consumer_marks (mark.Completed c r a) = []

-- a delivery gets an acker on its channel
abbrev pub added : Delivery → AckerMark
added d = acker_mark.Added d.acker.channel_id 0 d.acker.delivery_tag

-- What a mark is to the ackers. No rule asks in which opening an acker was given: an end makes over what its channel was given.
abbrev pub acker_marks : Deliveries → DeliveryMark → List AckerMark
acker_marks i (mark.Delivered k d) = added d ∷ []
acker_marks i (mark.Got c t) = acker_mark.Added c 0 t ∷ []
acker_marks i (mark.Ended c e) = acker_mark.Ended c ∷ []
acker_marks i (mark.Discarded c) = acker_mark.Voided (ackers_on c i.subscriptions.consumers) ∷ []
acker_marks i (mark.Spent n) = acker_mark.Spent n ∷ []
acker_marks i _ = []

-- what a mark leaves of the registries
abbrev pub topologies_after : Topologies → DeliveryMark → Topologies
topologies_after all (mark.Opened c) = begun_on c all
topologies_after all (mark.Completed c r a) = completed_on c r a all
topologies_after all _ = all

-- all three after a mark
abbrev pub after_mark : Deliveries → DeliveryMark → Deliveries
after_mark i m = record {
  subscriptions = fold after_consumer_mark i.subscriptions (consumer_marks m);
  switches = fold after_acker_mark i.switches (acker_marks i m);
  topologies = topologies_after i.topologies m;
}

-- ---- what the marks of a history are, to each part

-- what the marks of a history are to the consumers, oldest first
abbrev pub all_consumer_marks : List DeliveryMark → List ConsumerMark
all_consumer_marks [] = []
all_consumer_marks (m ∷ ms) = consumer_marks m ++ all_consumer_marks ms

-- what the marks of a history are to the ackers, oldest first, the deliveries being the one before the first of them
abbrev pub all_acker_marks : Deliveries → List DeliveryMark → List AckerMark
all_acker_marks i [] = []
all_acker_marks i (m ∷ ms) = acker_marks i m ++ all_acker_marks (after_mark i m) ms
