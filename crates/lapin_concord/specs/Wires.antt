-- The session's states and lists as the pair of machines has them.
use Rattle.std.specs.Prelude.{ℕ, Bool, true, false, if◌then◌else◌, List, [], ◌∷◌, ◌++◌, map, Option, Some, None}
use Rattle.lapin_tables.specs.ByChannel.{at_channel}
use Rattle.lapin_types.specs.declared.leaving.Left.{Left}
use Rattle.lapin_types.specs.declared.request.Request.{Request}
use Rattle.lapin_types.specs.declared.request.ReplyKind.{ReplyKind}
use Rattle.lapin_types.specs.declared.request.ReplyKind.TheVariants as reply_kind
use Rattle.lapin_types.specs.Requests.{kind_of}
use Rattle.lapin_types.specs.Types.{Frame}
use Rattle.lapin_types.specs.Types.frame
use Rattle.lapin_content.specs.Contents.{Begun, Expected}
use Rattle.lapin_content.specs.Channels.{Channels, listed}
use Rattle.lapin_rules.specs.declared.phases.ChannelPhase.{ChannelPhase}
use Rattle.lapin_rules.specs.declared.phases.ChannelPhase.TheVariants as phase
use Rattle.lapin_rules.specs.declared.phases.ConnectionPhase.{ConnectionPhase}
use Rattle.lapin_rules.specs.declared.phases.ConnectionPhase.TheVariants as link
use Rattle.lapin_rules.specs.declared.phases.CloseStage.TheVariants as stage
use Rattle.lapin_rules.specs.Phases.{phase_in, is_up}
use Rattle.lapin_rules.specs.Requests.{requests_in}
use Rattle.lapin_rules.specs.Frames.{MethodEntry, RestEntry}
use Rattle.lapin_rules.specs.Wire.{Wire}
use Rattle.lapin_broker.specs.States.{Broker}
use Rattle.lapin_pairs.specs.Machine.{Sess, Closed, Opening, Opened, Closing, Crossed}
use Rattle.lapin_pairs.specs.Channel as kept
use Rattle.lapin_pairs.specs.Every.{UpOn, All}
use Rattle.lapin_pairs.specs.Asking.{U2, S2, begun2, asking}
use Rattle.lapin_concord.specs.Frames.{up_frame, up_frames, down_frame}
use Rattle.lapin_concord.specs.Peers.{connection_as, sides_as}

-- where a channel stands
abbrev pub phase_as : ChannelPhase → Sess
phase_as phase.Closed = Closed
phase_as phase.Opening = Opening
phase_as (phase.Open paused) = Opened
phase_as (phase.Closing who sent) = Closing
phase_as phase.Crossed = Crossed

-- where the connection stands
abbrev pub link_as : ConnectionPhase → Sess
link_as link.Open = Opened
link_as (link.Closing stage.Crossed) = Crossed
link_as (link.Closing s) = Closing
link_as link.Closed = Closed
link_as link.Lost = Closed

-- each kind of reply has the number of its request; the three that open and close have numbers behind those
abbrev pub reply_number : ReplyKind → ℕ
reply_number reply_kind.ConfirmSelectOk = 0
reply_number reply_kind.ChannelFlowOk = 1
reply_number reply_kind.AccessRequestOk = 2
reply_number reply_kind.ExchangeDeclareOk = 3
reply_number reply_kind.ExchangeDeleteOk = 4
reply_number reply_kind.ExchangeBindOk = 5
reply_number reply_kind.ExchangeUnbindOk = 6
reply_number reply_kind.QueueDeclareOk = 7
reply_number reply_kind.QueueBindOk = 8
reply_number reply_kind.QueuePurgeOk = 9
reply_number reply_kind.QueueDeleteOk = 10
reply_number reply_kind.QueueUnbindOk = 11
reply_number reply_kind.BasicQosOk = 12
reply_number reply_kind.BasicConsumeOk = 13
reply_number reply_kind.BasicCancelOk = 14
reply_number reply_kind.BasicGetOk = 15
reply_number reply_kind.BasicRecoverOk = 16
reply_number reply_kind.TxSelectOk = 17
reply_number reply_kind.TxCommitOk = 18
reply_number reply_kind.TxRollbackOk = 19
reply_number reply_kind.ChannelOpenOk = 20
reply_number reply_kind.ChannelCloseOk = 21
reply_number reply_kind.ConnectionCloseOk = 22

-- the reply neither opens nor closes
abbrev pub is_asked : ReplyKind → Bool
is_asked reply_kind.ChannelOpenOk = false
is_asked reply_kind.ChannelCloseOk = false
is_asked reply_kind.ConnectionCloseOk = false
is_asked _ = true

-- the open requests but for those of an open and of a close, by the numbers of their kinds
abbrev pub asked_in : List Request → List ℕ
asked_in [] = []
asked_in (r ∷ rs) = if is_asked (kind_of r.reply) then reply_number (kind_of r.reply) ∷ asked_in rs else asked_in rs

-- what is left of a content that is expected
abbrev pub begun_as : Option Begun → kept.Content
begun_as None = kept.Begun
begun_as (Some b) = kept.Left b.left

-- the content that is expected first, if one is
abbrev pub contents_as : List Expected → kept.Content
contents_as [] = kept.Idle
contents_as (e ∷ es) = begun_as e.begun

-- a channel
abbrev pub chan_as : ChannelPhase → List Request → List Expected → S2
chan_as p rs es = record { sess = phase_as p; open_data = Some (record { asked_for = asked_in rs; content = contents_as es }) }

-- every channel
abbrev pub chans_as : List (ℕ × ChannelPhase) → List (ℕ × List Request) → Channels → ℕ → S2
chans_as ps rs es c = chan_as (phase_in (at_channel c ps)) (requests_in (at_channel c rs)) (listed (at_channel c es))

-- once the connection is not open no channel has a state
abbrev pub chans_up : Bool → List (ℕ × ChannelPhase) → List (ℕ × List Request) → Channels → ℕ → S2
chans_up true ps rs es = chans_as ps rs es
chans_up false ps rs es = λ c. begun2

-- a frame of the begun publish that waits
abbrev pub rest_as : RestEntry → UpOn U2
rest_as f = up_frame f.frame

-- a method that waits
abbrev pub entry_as : MethodEntry → UpOn U2
entry_as m = up_frame (frame.Method m.channel m.method)

-- what waits, in the order in which it leaves; publishes come in as they begin
abbrev pub waiting_as : List RestEntry → List MethodEntry → List (UpOn U2)
waiting_as rest methods = map rest_as rest ++ map entry_as methods

-- what waits in a session
abbrev pub waits_as : Wire → List (UpOn U2)
waits_as b = waiting_as b.rest b.methods

-- a session, a broker and the two links
abbrev pub pair_as : Wire → Broker → List Left → List Frame → All asking
pair_as b br up down = record {
  conn = link_as b.link;
  chans = chans_up (is_up b.link) b.phases b.requests b.contents;
  unsent = waits_as b;
  up = up_frames up;
  broker = connection_as br.connection;
  sides = sides_as br;
  down = map down_frame down;
}
