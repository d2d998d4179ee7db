-- The table of the broker's frames: what each frame is to its channel. A line a method; a reply makes its answer from its own data.
use Rattle.std.specs.Prelude.{ℕ, ◌==◌, Bool, true, false, if◌then◌else◌, None}
use Rattle.lapin_methods.specs.Numbers.{class_number, method_number}
use Rattle.lapin_types.specs.Types.{Frame, Method, BasicMethod}
use Rattle.lapin_types.specs.Types.frame
use Rattle.lapin_types.specs.Types.method
use Rattle.lapin_types.specs.Types.connection
use Rattle.lapin_types.specs.Types.channel
use Rattle.lapin_types.specs.Types.access
use Rattle.lapin_types.specs.Types.basic
use Rattle.lapin_types.specs.Types.confirm
use Rattle.lapin_types.specs.Types.exchange
use Rattle.lapin_types.specs.Types.queue
use Rattle.lapin_types.specs.Types.tx
use Rattle.lapin_types.specs.declared.answer.Answer.TheVariants as answer
use Rattle.lapin_types.specs.declared.request.ReplyKind.TheVariants as reply_kind
use Rattle.lapin_content.specs.declared.start.Start.TheVariants as start
use Rattle.lapin_rules.specs.declared.marks.SettleKind.{SettleKind}
use Rattle.lapin_rules.specs.declared.marks.SettleKind.TheVariants as settle
use Rattle.lapin_rules.specs.declared.marks.Settlement.{Settlement}
use Rattle.lapin_rules.specs.declared.broker_frames.ContentPart.TheVariants as part
use Rattle.lapin_rules.specs.declared.broker_frames.ConsumerPart.TheVariants as consumer
use Rattle.lapin_rules.specs.declared.broker_frames.Incoming.{Incoming}
use Rattle.lapin_rules.specs.declared.broker_frames.Incoming.TheVariants as incoming

-- the class and method of a frame: a header has its class and method 0, a body has 0 and 0
abbrev pub frame_class : Frame → ℕ
frame_class (frame.Method c m) = class_number m
frame_class (frame.Header c h) = h.class_id
frame_class (frame.Body c bytes) = 0

-- the number of a frame's method in its class: 0 for a header and for a body
abbrev pub frame_method : Frame → ℕ
frame_method (frame.Method c m) = method_number m
frame_method (frame.Header c h) = 0
frame_method (frame.Body c bytes) = 0

-- a settlement of the broker: `basic.ack` or `basic.nack`, its tag, and whether it is multiple
abbrev pub settlement : SettleKind → ℕ → Bool → Settlement
settlement kind tag multiple = record { kind = kind; tag = tag; multiple = multiple }

-- closes of the connection are received on its own channel alone
abbrev pub on_connection : ℕ → Incoming → Incoming
on_connection c i = if c == 0 then i else incoming.Other

-- Replies with the answers that they make, settlements, methods that begin a content, what is about consumers, flow and closes; every
-- other method is none of these. The content of a get names its get as get-ok takes it, that of a delivery its consumer as the method
-- comes.
abbrev pub incoming_method : ℕ → Method → Incoming
incoming_method c (method.Connection (connection.Close code text class number)) = on_connection c (incoming.ConnectionClose code)
incoming_method c (method.Connection connection.CloseOk) = on_connection c incoming.ConnectionCloseOk
incoming_method c (method.Channel channel.OpenOk) = incoming.Reply c reply_kind.ChannelOpenOk (answer.Channel c)
incoming_method c (method.Channel (channel.Flow active)) = incoming.Flow c active
incoming_method c (method.Channel (channel.FlowOk active)) = incoming.Reply c reply_kind.ChannelFlowOk (answer.Flow active)
incoming_method c (method.Channel (channel.Close code text class number)) = incoming.ChannelClose c code
incoming_method c (method.Channel channel.CloseOk) = incoming.ChannelCloseOk c
incoming_method c (method.Access access.RequestOk) = incoming.Reply c reply_kind.AccessRequestOk answer.Done
incoming_method c (method.Exchange exchange.DeclareOk) = incoming.Reply c reply_kind.ExchangeDeclareOk answer.Done
incoming_method c (method.Exchange exchange.DeleteOk) = incoming.Reply c reply_kind.ExchangeDeleteOk answer.Done
incoming_method c (method.Exchange exchange.BindOk) = incoming.Reply c reply_kind.ExchangeBindOk answer.Done
incoming_method c (method.Exchange exchange.UnbindOk) = incoming.Reply c reply_kind.ExchangeUnbindOk answer.Done
incoming_method c (method.Queue (queue.DeclareOk name messages consumers)) = incoming.Reply c reply_kind.QueueDeclareOk (answer.Queue (record { name = name; message_count = messages; consumer_count = consumers }))
incoming_method c (method.Queue queue.BindOk) = incoming.Reply c reply_kind.QueueBindOk answer.Done
incoming_method c (method.Queue (queue.PurgeOk messages)) = incoming.Reply c reply_kind.QueuePurgeOk (answer.Count messages)
incoming_method c (method.Queue (queue.DeleteOk messages)) = incoming.Reply c reply_kind.QueueDeleteOk (answer.Count messages)
incoming_method c (method.Queue queue.UnbindOk) = incoming.Reply c reply_kind.QueueUnbindOk answer.Done
incoming_method c (method.Basic basic.QosOk) = incoming.Reply c reply_kind.BasicQosOk answer.Done
incoming_method c (method.Basic (basic.Ack tag multiple)) = incoming.Settlement c (settlement settle.Ack tag multiple)
incoming_method c (method.Basic (basic.Nack tag multiple requeue)) = incoming.Settlement c (settlement settle.Nack tag multiple)
incoming_method c (method.Basic (basic.Return code text exchange key)) = incoming.Content c (part.Return (start.Return code text exchange key))
incoming_method c (method.Basic (basic.GetOk tag redelivered exchange key count)) = incoming.Content c (part.GetOk (start.Get None tag exchange key redelivered count))
incoming_method c (method.Basic basic.GetEmpty) = incoming.Reply c reply_kind.BasicGetOk (answer.Got None)
incoming_method c (method.Basic (basic.Deliver tag number redelivered exchange key)) = incoming.Content c (part.Deliver tag (start.Deliver None number exchange key redelivered))
incoming_method c (method.Basic (basic.ConsumeOk tag)) = incoming.Consumer c (consumer.ConsumeOk tag)
incoming_method c (method.Basic (basic.CancelOk tag)) = incoming.Consumer c (consumer.CancelOk tag)
incoming_method c (method.Basic (basic.Cancel tag nowait)) = incoming.Consumer c (consumer.Cancel tag nowait)
incoming_method c (method.Basic basic.RecoverOk) = incoming.Consumer c consumer.RecoverOk
incoming_method c (method.Confirm confirm.SelectOk) = incoming.Reply c reply_kind.ConfirmSelectOk answer.Done
incoming_method c (method.Tx tx.SelectOk) = incoming.Reply c reply_kind.TxSelectOk answer.Done
incoming_method c (method.Tx tx.CommitOk) = incoming.Reply c reply_kind.TxCommitOk answer.Done
incoming_method c (method.Tx tx.RollbackOk) = incoming.Reply c reply_kind.TxRollbackOk answer.Done
incoming_method c _ = incoming.Other

-- a method of the class basic that is sorted without a content
abbrev pub tells_all : BasicMethod → Bool
tells_all basic.QosOk = true
tells_all (basic.ConsumeOk tag) = true
tells_all (basic.Cancel tag nowait) = true
tells_all (basic.CancelOk tag) = true
tells_all (basic.Ack tag multiple) = true
tells_all (basic.Nack tag multiple requeue) = true
tells_all basic.RecoverOk = true
tells_all _ = false

-- what a frame of the broker is to its channel: a method by the table above, a header and a body as a part of a content
abbrev pub incoming_of : Frame → Incoming
incoming_of (frame.Method c m) = incoming_method c m
incoming_of (frame.Header c h) = incoming.Content c (part.Header h)
incoming_of (frame.Body c bytes) = incoming.Content c (part.Body bytes)
