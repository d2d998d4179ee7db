-- Which rule a frame meets: of those that make the broker Broken as it reads them, and of those that it may not send. The rules of
-- each are tried in their order, and the first that applies is the frame's.
use Rattle.std.specs.Prelude.{ℕ, ◌==◌, Bool, true, false, ◌&&◌, ◌||◌, not, if◌then◌else◌, Option, Some, None, length}
use Rattle.lapin_types.specs.Types.{Frame}
use Rattle.lapin_broker.specs.declared.frames.ClientFrame.{ClientFrame}
use Rattle.lapin_broker.specs.declared.frames.ClientFrame.TheVariants as client
use Rattle.lapin_broker.specs.declared.frames.BrokerFrame.{BrokerFrame}
use Rattle.lapin_broker.specs.declared.frames.BrokerFrame.TheVariants as broker
use Rattle.lapin_broker.specs.declared.peer.PeerState.{PeerState}
use Rattle.lapin_broker.specs.declared.peer.PeerState.TheVariants as peer_state
use Rattle.lapin_broker.specs.Frames.{channel_of, client_frame, broker_frame}
use Rattle.lapin_broker.specs.Reads.{is_connection_close, is_connection_close_ok}
use Rattle.lapin_broker.specs.Sends.{is_open_ok, is_close, is_close_ok}
use Rattle.lapin_broker.specs.States.{Broker, channel_at, is_up, is_leaving, state_of_peer, owes_on, reading_on, is_sending}
use Rattle.lapin_check.specs.declared.finding.BreakRule.{BreakRule}
use Rattle.lapin_check.specs.declared.finding.BreakRule.TheVariants as breaks
use Rattle.lapin_check.specs.declared.finding.SendRule.{SendRule}
use Rattle.lapin_check.specs.declared.finding.SendRule.TheVariants as refuses

-- ---- Frames that make the broker Broken.

-- a header or a body
abbrev pub is_part : ClientFrame → Bool
is_part (client.Header class size) = true
is_part (client.Body n) = true
is_part _ = false

-- a header or body on the channel whose content is being read
abbrev pub is_part_on : ℕ → ℕ → ClientFrame → Bool
is_part_on there c u = there == c && is_part u

-- no content is being read: a channel above 0 that is Free; a channel that is Asked or Leaving; any other. (Channel 0 is the
-- connection's own, and isn't a channel that is free.)
abbrev pub breaks_channel : ℕ → PeerState → BreakRule
breaks_channel c peer_state.Free = if c == 0 then breaks.NotForBroker else breaks.ChannelFree
breaks_channel c peer_state.Asked = breaks.ChannelBusy
breaks_channel c peer_state.Leaving = breaks.ChannelBusy
breaks_channel c _ = breaks.NotForBroker

-- a content is being read on the channel, if on any: the frame isn't a header or body there; it is, and isn't admitted
abbrev pub breaks_content : Option ℕ → ℕ → ClientFrame → PeerState → BreakRule
breaks_content (Some there) c u s = if is_part_on there c u then breaks.BadContent else breaks.ContentExpected
breaks_content None c u s = breaks_channel c s

-- The connection's close while it is Leaving; its close-ok; any other frame while it is Leaving; then the content; then the channel.
abbrev pub break_sorted : ℕ → ClientFrame → Broker → BreakRule
break_sorted c u b =
    if is_leaving b.connection && is_connection_close u then breaks.SecondClose
    else (if is_connection_close_ok u then breaks.StrayCloseOk
    else (if is_leaving b.connection then breaks.AfterClose
    else breaks_content (reading_on b.reading) c u (state_of_peer (channel_at b c).peer)))

-- the rule of a frame that makes this broker Broken as it is read
abbrev pub break_rule : Broker → Frame → BreakRule
break_rule b f = break_sorted (channel_of f) (client_frame f) b

-- ---- Frames that may not be sent.

-- what an open channel carries beside its close
abbrev pub is_of_open : BrokerFrame → Bool
is_of_open (broker.Reply k) = true
is_of_open broker.ConsumeOk = true
is_of_open broker.CancelOk = true
is_of_open broker.GetOk = true
is_of_open (broker.Settle n multiple) = true
is_of_open broker.Deliver = true
is_of_open broker.Return = true
is_of_open broker.Cancel = true
is_of_open broker.Flow = true
is_of_open (broker.Header class size) = true
is_of_open (broker.Body n) = true
is_of_open _ = false

-- the state allows some frame of that method or kind: Free none; Asked open-ok and close; Open what it carries, and close; Leaving the
-- same, and close-ok in the place of close; Stopping that owes, close-ok
abbrev pub allows : PeerState → Bool → BrokerFrame → Bool
allows peer_state.Free owes d = false
allows peer_state.Asked owes d = is_open_ok d || is_close d
allows peer_state.Open owes d = is_close d || is_of_open d
allows peer_state.Leaving owes d = is_close_ok d || is_of_open d
allows peer_state.Stopping owes d = owes && is_close_ok d

-- no content is being sent on the channel: a header or body; an ack or nack; a delivery or a cancel; close-ok while a request waits; a
-- reply; any other
abbrev pub refused_by : ℕ → BrokerFrame → SendRule
refused_by waiting (broker.Header class size) = refuses.NoContent
refused_by waiting (broker.Body n) = refuses.NoContent
refused_by waiting (broker.Settle n multiple) = refuses.BadSettlement
refused_by waiting broker.Deliver = refuses.UnknownTag
refused_by waiting broker.Cancel = refuses.UnknownTag
refused_by waiting broker.CloseOk = if waiting == 0 then refuses.NotForClient else refuses.RequestsWaiting
refused_by waiting (broker.Reply k) = refuses.NotFirstReply
refused_by waiting broker.ConsumeOk = refuses.NotFirstReply
refused_by waiting broker.CancelOk = refuses.NotFirstReply
refused_by waiting broker.GetOk = refuses.NotFirstReply
refused_by waiting _ = refuses.NotForClient

-- The connection isn't Up; a channel above 0 whose state allows no frame of that kind; a content that is being sent; then the rest.
abbrev pub send_sorted : ℕ → BrokerFrame → Broker → SendRule
send_sorted c d b =
    if not (is_up b.connection) then refuses.Silent
    else (if not (c == 0) && not (allows (state_of_peer (channel_at b c).peer) (owes_on c b) d) then refuses.ChannelState
    else (if is_sending (channel_at b c) then refuses.ContentOpen
    else refused_by (length (channel_at b c).waiting) d))

-- the rule of a frame that this broker may not send
abbrev pub send_rule : Broker → Frame → SendRule
send_rule b f = send_sorted (channel_of f) (broker_frame f) b
