-- What contracts see of deliveries: what it holds, and for what there is room.
use Rattle.std.specs.Prelude.{ℕ, ◌+◌, ◌<◌, ◌^◌, length}
use Rattle.lapin_consumer.specs.WithRoom.{HasRoom}
use Rattle.lapin_delivery.specs.Deliveries.{Deliveries}
use Rattle.lapin_delivery.specs.declared.deliveries.Deliveries.{Deliveries as WithRoom}

-- its consumers, ackers and registries, without the room
abbrev pub what : WithRoom → Deliveries
what h = record { subscriptions = h.consumers.subscriptions; switches = h.switches.switches; topologies = h.topologies.entries }

-- the next acker has room and a number
pub record HasAckerRoom (h : WithRoom) : Type 0 where
  pub room : 0 < h.switches.spare
  pub number : length h.switches.switches + 1 < 2 ^ 64

-- the next delivery of a consumer has room, and so has its acker
pub record HasDeliveryRoom (consumer : ℕ) (h : WithRoom) : Type 0 where
  pub acker : HasAckerRoom h
  pub item : HasRoom consumer h.consumers
