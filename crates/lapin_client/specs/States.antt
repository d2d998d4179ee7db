-- The states of the connection and of a channel by number, and the loss of the connection.
use Rattle.std.specs.Prelude.{◌≡◌, ℕ}
use Rattle.lapin_client.specs.declared.client.Client.{Client}
use Rattle.lapin_client.specs.declared.states.States.{States}
use Rattle.lapin_client.specs.declared.status.Status.{Status}
use Rattle.lapin_client.specs.declared.status.Status.TheVariants as status
use Rattle.lapin_client.specs.Clients.{SameBytes, SameTold}
use Rattle.lapin_client.specs.Refusals.{channel_number}
use Rattle.lapin_machine.specs.World.{next}
use Rattle.lapin_rules.specs.Phases.{connection_state}
use Rattle.lapin_rules.specs.Wire.{Wire, state_of}
use Rattle.lapin_types.specs.Types.{ConnectionState}
use Rattle.lapin_types.specs.Types.connection_state as state
use Rattle.lapin_types.specs.declared.event.Event.TheVariants as event

-- the states of the connection by number, in the order in which they are declared
abbrev pub connection_number : ConnectionState → ℕ
connection_number state.Open = 0
connection_number state.Closing = 1
connection_number state.Closed = 2
connection_number state.Lost = 3

-- the states that the record of the event of a question for them would have
abbrev pub states_of : ℕ → Wire → States
states_of channel b = record { connection = connection_number (connection_state b.link); channel = channel_number (state_of channel b) }

-- the session met the loss of the connection; else nothing was done: there was no memory, or the client takes nothing further
abbrev pub IsLost : Status → Client → Client → Type 0
IsLost status.Done c d = (d.session ≡ next c.session event.Lost) × SameTold c d × SameBytes c d
IsLost status.NoMemory c d = (d.session ≡ c.session) × SameTold c d × SameBytes c d
IsLost status.Ended c d = (c.left ≡ 0) × (d ≡ c)
IsLost _ c d = ⊥
