-- Where the connection and its channels stand (AMQP 0-9-1, classes connection and channel).
use Rattle.std.specs.Prelude.{Bool, true, false, Option, Some, None}
use Rattle.lapin_types.specs.Types.{ChannelState, ConnectionState}
use Rattle.lapin_types.specs.Types.channel_state as state
use Rattle.lapin_types.specs.Types.connection_state as link_state
use Rattle.lapin_rules.specs.declared.phases.ChannelPhase.{ChannelPhase}
use Rattle.lapin_rules.specs.declared.phases.ChannelPhase.TheVariants as phase
use Rattle.lapin_rules.specs.declared.phases.ConnectionPhase.{ConnectionPhase}
use Rattle.lapin_rules.specs.declared.phases.ConnectionPhase.TheVariants as link
use Rattle.lapin_rules.specs.declared.phases.CloseStage.{CloseStage}
use Rattle.lapin_rules.specs.declared.phases.CloseStage.TheVariants as stage

-- a channel's state while the connection is open
abbrev pub channel_state : ChannelPhase → ChannelState
channel_state phase.Closed = state.Closed
channel_state phase.Opening = state.Opening
channel_state (phase.Open paused) = state.Open
channel_state (phase.Closing closer sent) = state.Closing
channel_state phase.Crossed = state.Crossed

-- the state of the connection as a question for the states gives it
abbrev pub connection_state : ConnectionPhase → ConnectionState
connection_state link.Open = link_state.Open
connection_state (link.Closing s) = link_state.Closing
connection_state link.Closed = link_state.Closed
connection_state link.Lost = link_state.Lost

-- an opening is live from its call until it ends
abbrev pub is_live : ChannelPhase → Bool
is_live phase.Opening = true
is_live (phase.Open paused) = true
is_live (phase.Closing closer sent) = true
is_live _ = false

-- the broker's last `channel.flow` paused the open channel
abbrev pub is_paused : ChannelPhase → Bool
is_paused (phase.Open paused) = paused
is_paused _ = false

-- the connection is open: neither side has closed it, and it is not lost
abbrev pub is_up : ConnectionPhase → Bool
is_up link.Open = true
is_up _ = false

-- this side's `connection.close` has left
abbrev pub close_has_left : CloseStage → Bool
close_has_left stage.Queued = false
close_has_left _ = true

-- this side's `connection.close` has left, and the broker's first came since
abbrev pub is_crossed : CloseStage → Bool
is_crossed stage.Crossed = true
is_crossed _ = false

-- the connection is lost, whatever it was before
abbrev pub is_lost : ConnectionPhase → Bool
is_lost link.Lost = true
is_lost _ = false

-- a channel is closed until it is opened
abbrev pub phase_in : Option ChannelPhase → ChannelPhase
phase_in None = phase.Closed
phase_in (Some p) = p
