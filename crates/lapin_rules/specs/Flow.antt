-- The broker's `channel.flow` (AMQP 0-9-1, channel class): a pause of a channel, which holds publishes back.
use Rattle.std.specs.Prelude.{ℕ, Bool, not, ◌&&◌, if◌then◌else◌}
use Rattle.std.specs.List.{list_any}
use Rattle.lapin_types.specs.Types.method
use Rattle.lapin_types.specs.Types.channel
use Rattle.lapin_rules.specs.declared.phases.ChannelPhase.{ChannelPhase}
use Rattle.lapin_rules.specs.declared.phases.ChannelMove.TheVariants as move
use Rattle.lapin_rules.specs.Words.{with_channel}
use Rattle.lapin_rules.specs.Phases.{is_paused}
use Rattle.lapin_rules.specs.Moves.{after}
use Rattle.lapin_rules.specs.Wire.{Wire, phase_of, state_of, is_open, noted}

-- The broker pauses an open channel, or ends its pause, and is answered by flow-ok with the same mark. On a channel that this side
-- is closing a pause has nothing left to hold, so it changes nothing and is not answered.
abbrev pub after_flow : ℕ → Bool → Wire → Wire
after_flow c active b =
    if is_open (state_of c b)
    then noted c (method.Channel (channel.FlowOk active)) (record b { phases = with_channel c (after (phase_of c b) (move.Flow active)) b.phases })
    else b

-- whether an open channel is paused
abbrev pub is_paused_on : ℕ × ChannelPhase → Bool
is_paused_on x = is_paused x.1

-- a publish may begin where the request's flow is true, no open channel is paused, and its own channel is not full
abbrev pub is_flowing : Bool → Wire → Bool
is_flowing flow b = flow && not (list_any is_paused_on b.phases)

-- whether a publish may begin on channel c: publishes may begin at all, and the channel is not full
abbrev pub unless_full : Bool → (ℕ → Bool) → ℕ → Bool
unless_full flowing full c = flowing && not (full c)

-- the channels on which a publish may begin at a frame request with this flow, where full tells the full channels
abbrev pub begins_on : Bool → (ℕ → Bool) → Wire → ℕ → Bool
begins_on flow full b = unless_full (is_flowing flow b) full
