-- What a channel declared and bound, as a reading of a history (AMQP 0-9-1, classes exchange and queue): what was completed on the channel
-- since its last opening began. What a completed request records, and what records add up to, stands in `lapin_registry`.
use Rattle.std.specs.Prelude.{ℕ, ◌==◌, Bool, false, if◌then◌else◌, List, [], ◌∷◌, ◌++◌, Option, Some, None}
use Rattle.std.specs.List.{list_any}
use Rattle.lapin_registry.specs.declared.registry.ChannelDefinition.{ChannelDefinition}
use Rattle.lapin_registry.specs.Marks.{RegistryMark}
use Rattle.lapin_registry.specs.Completed.{recorded}
use Rattle.lapin_registry.specs.Topology.{topology}
use Rattle.lapin_delivery.specs.Marks.{DeliveryMark}
use Rattle.lapin_delivery.specs.Marks as deliveries
use Rattle.lapin_rules.specs.Words.{since}

-- an opening of the channel begins
abbrev pub opens_on : ℕ → DeliveryMark → Bool
opens_on c (deliveries.Opened d) = d == c
opens_on c _ = false

-- what is recorded on the channel
abbrev pub recorded_on : ℕ → DeliveryMark → List RegistryMark
recorded_on c (deliveries.Completed d r a) = if d == c then recorded r a else []
recorded_on c _ = []

-- what is recorded on the channel by all of these, in order
abbrev pub all_recorded_on : ℕ → List DeliveryMark → List RegistryMark
all_recorded_on c [] = []
all_recorded_on c (m ∷ ms) = recorded_on c m ++ all_recorded_on c ms

-- what the channel declared and bound, where it ever had an opening
abbrev pub topology_of : ℕ → List DeliveryMark → Option ChannelDefinition
topology_of c ms = if list_any (opens_on c) ms then Some (topology (all_recorded_on c (since (opens_on c) ms))) else None
