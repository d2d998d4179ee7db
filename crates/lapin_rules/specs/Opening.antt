-- An opening of a channel begins: the call `channel.open`, and the broker's `channel.open-ok` (AMQP 0-9-1, channel class).
use Rattle.std.specs.Prelude.{ℕ, Bool, true, false, if◌then◌else◌, List, [], ◌∷◌, Some}
use Rattle.lapin_tables.specs.ByChannel.{at_channel}
use Rattle.lapin_types.specs.declared.request.ReplyKind.{ReplyKind}
use Rattle.lapin_types.specs.Types.method
use Rattle.lapin_types.specs.Types.channel
use Rattle.lapin_types.specs.declared.request.Reply.TheVariants as reply
use Rattle.lapin_types.specs.declared.request.ReplyKind.TheVariants as reply_kind
use Rattle.lapin_rules.specs.declared.phases.ChannelPhase.{ChannelPhase}
use Rattle.lapin_rules.specs.declared.phases.ChannelMove.TheVariants as move
use Rattle.lapin_rules.specs.ConfirmMarks.{ConfirmMark}
use Rattle.lapin_rules.specs.ConfirmMarks as mark
use Rattle.lapin_rules.specs.Words.{with_channel}
use Rattle.lapin_rules.specs.Phases.{phase_in}
use Rattle.lapin_rules.specs.Moves.{after}
use Rattle.lapin_rules.specs.Wire.{Wire, phase_of, queued}

-- ---- the call: an opening begins on a closed channel

-- the call queues `channel.open` and awaits its open-ok, and the channel is opening (AMQP 0-9-1, channel.open)
abbrev pub after_open_call : ℕ → Wire → Wire
after_open_call c b = record (queued c (method.Channel channel.Open) (Some reply.ChannelOpenOk) b) { phases = with_channel c (after (phase_of c b) move.OpenCalled) b.phases }

-- an opening of channel c begins
abbrev pub open_marks : ℕ → List ConfirmMark
open_marks c = mark.Begun c ∷ []

-- ---- the broker's `channel.open-ok`: of all replies it alone is received on an opening channel, and opens it

-- the reply is `channel.open-ok`
abbrev pub opens : ReplyKind → Bool
opens reply_kind.ChannelOpenOk = true
opens _ = false

-- the reply opens its channel, and any other moves none
abbrev pub phases_with : ℕ → ReplyKind → List (ℕ × ChannelPhase) → List (ℕ × ChannelPhase)
phases_with c k all = if opens k then with_channel c (after (phase_in (at_channel c all)) move.OpenOk) all else all
