-- The registries of all channels: each is emptied as an opening of its channel begins, and records what is completed on the channel.
-- A table gives the channels that ever had an opening, each with its registry.
use Rattle.std.specs.Prelude.{ℕ, List, [], ◌∷◌, ◌++◌, Option, Some, None}
use Rattle.lapin_tables.specs.ByChannel.{at_channel, on_channel}
use Rattle.lapin_types.specs.declared.answer.Answer.{Answer}
use Rattle.lapin_types.specs.declared.request.Reply.{Reply}
use Rattle.lapin_registry.specs.declared.registry.ChannelDefinition.{ChannelDefinition}
use Rattle.lapin_registry.specs.Topology.{empty_definition, after_marks}
use Rattle.lapin_registry.specs.Completed.{recorded}

-- a registry for each channel that ever had an opening, by the number of the channel
abbrev pub Topologies : Type 0
Topologies = List (ℕ × ChannelDefinition)

-- a registry with what a completed request records
abbrev pub with_completed : Reply → Answer → ChannelDefinition → ChannelDefinition
with_completed r a d = after_marks d (recorded r a)

-- a request is completed on a channel
abbrev pub completed_on : ℕ → Reply → Answer → Topologies → Topologies
completed_on c r a all = on_channel c (with_completed r a) all

-- a registry as a new opening of its channel begins: nothing is recorded, whatever was before
abbrev pub emptied : ChannelDefinition → ChannelDefinition
emptied d = empty_definition

-- an opening of a channel begins: its first joins the table, a further one empties the registry
abbrev pub begun_at : Option ChannelDefinition → ℕ → Topologies → Topologies
begun_at None c all = all ++ (c, empty_definition) ∷ []
begun_at (Some d) c all = on_channel c emptied all

-- an opening of the channel begins: its registry is empty, and is there if it was not before
abbrev pub begun_on : ℕ → Topologies → Topologies
begun_on c all = begun_at (at_channel c all) c all
