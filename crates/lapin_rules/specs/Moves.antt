-- The moves of a channel and of the connection: one table for each, and nothing else moves them (AMQP 0-9-1, classes channel and
-- connection).
use Rattle.std.specs.Prelude.{true, false, not}
use Rattle.lapin_rules.specs.declared.phases.ChannelPhase.{ChannelPhase}
use Rattle.lapin_rules.specs.declared.phases.ChannelPhase.TheVariants as phase
use Rattle.lapin_rules.specs.declared.phases.ChannelMove.{ChannelMove}
use Rattle.lapin_rules.specs.declared.phases.ChannelMove.TheVariants as move
use Rattle.lapin_rules.specs.declared.phases.ConnectionPhase.{ConnectionPhase}
use Rattle.lapin_rules.specs.declared.phases.ConnectionPhase.TheVariants as link
use Rattle.lapin_rules.specs.declared.phases.CloseStage.TheVariants as stage
use Rattle.lapin_rules.specs.declared.phases.ConnectionMove.{ConnectionMove}
use Rattle.lapin_rules.specs.declared.phases.ConnectionMove.TheVariants as link_move

-- Where a move leads a channel from where it stands. From where each is called or heard is the rule of calls and of frames. A new
-- opening is not paused. A close that begins has not left; as it leaves, a channel that is closing is so with its close sent, and any
-- other is as it was. The broker's close ends the opening: where this side's close has left, the two crossed, and its close-ok is
-- still to come. The broker's close-ok closes.
abbrev pub after : ChannelPhase → ChannelMove → ChannelPhase
after p move.OpenCalled = phase.Opening
after p move.OpenOk = phase.Open false
after p (move.Flow active) = phase.Open (not active)
after p (move.CloseBegun who) = phase.Closing who false
after (phase.Closing who sent) move.CloseLeft = phase.Closing who true
after p move.CloseLeft = p
after (phase.Closing who true) move.Close = phase.Crossed
after p move.Close = phase.Closed
after p move.CloseOk = phase.Closed

-- Where a move leads the connection. A close of this side that begins is queued, and sent as it leaves. The broker's close closes the
-- connection, but where this side's close has left: then the two crossed, and the broker's close-ok is still to come. The loss leads
-- from anywhere to lost.
abbrev pub link_after : ConnectionPhase → ConnectionMove → ConnectionPhase
link_after l link_move.CloseBegun = link.Closing stage.Queued
link_after (link.Closing stage.Queued) link_move.CloseLeft = link.Closing stage.Sent
link_after l link_move.CloseLeft = l
link_after (link.Closing stage.Sent) link_move.Close = link.Closing stage.Crossed
link_after (link.Closing stage.Crossed) link_move.Close = link.Closing stage.Crossed
link_after l link_move.Close = link.Closed
link_after l link_move.CloseOk = link.Closed
link_after l link_move.Lost = link.Lost
