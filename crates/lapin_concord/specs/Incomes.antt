-- What a frame of the broker is to the session, as the pair of machines has it.
use Rattle.std.specs.Prelude.{false, true, length}
use Rattle.lapin_types.specs.declared.request.ReplyKind.TheVariants as reply_kind
use Rattle.lapin_rules.specs.declared.broker_frames.ContentPart.{ContentPart}
use Rattle.lapin_rules.specs.declared.broker_frames.ContentPart.TheVariants as part
use Rattle.lapin_rules.specs.declared.broker_frames.ConsumerPart.{ConsumerPart}
use Rattle.lapin_rules.specs.declared.broker_frames.ConsumerPart.TheVariants as consumer
use Rattle.lapin_rules.specs.declared.broker_frames.Incoming.{Incoming}
use Rattle.lapin_rules.specs.declared.broker_frames.Incoming.TheVariants as incoming
use Rattle.lapin_pairs.specs.Channel.{DownF, BOpenOk, BClose, BCloseOk, BTell, BStart, BReply, BHeader, BBody, BSettle}
use Rattle.lapin_pairs.specs.Every.{DownOn, ToD, CloseD, CloseOkD}
use Rattle.lapin_concord.specs.Wires.{reply_number}

-- a frame about contents
abbrev pub part_as : ContentPart → DownF
part_as (part.GetOk s) = BReply (reply_number reply_kind.BasicGetOk) true
part_as (part.Return s) = BStart
part_as (part.Deliver tag s) = BStart
part_as (part.Header h) = BHeader h.body_size
part_as (part.Body bytes) = BBody (length bytes)

-- a frame about consumers
abbrev pub consumer_as : ConsumerPart → DownF
consumer_as (consumer.ConsumeOk tag) = BReply (reply_number reply_kind.BasicConsumeOk) false
consumer_as (consumer.CancelOk tag) = BReply (reply_number reply_kind.BasicCancelOk) false
consumer_as (consumer.Cancel tag nowait) = BTell
consumer_as consumer.RecoverOk = BReply (reply_number reply_kind.BasicRecoverOk) false

-- any frame; one that the session never hears, and a close-ok among the replies, go to a channel that is closed
abbrev pub income_as : Incoming → DownOn DownF
income_as (incoming.Reply c reply_kind.ChannelOpenOk a) = ToD c BOpenOk
income_as (incoming.Reply c reply_kind.ChannelCloseOk a) = ToD 0 BTell
income_as (incoming.Reply c reply_kind.ConnectionCloseOk a) = ToD 0 BTell
income_as (incoming.Reply c k a) = ToD c (BReply (reply_number k) false)
income_as (incoming.Settlement c s) = ToD c (BSettle (record { tag = s.tag; multiple = s.multiple }))
income_as (incoming.Content c p) = ToD c (part_as p)
income_as (incoming.Consumer c p) = ToD c (consumer_as p)
income_as (incoming.Flow c active) = ToD c BTell
income_as (incoming.ChannelClose c code) = ToD c BClose
income_as (incoming.ChannelCloseOk c) = ToD c BCloseOk
income_as (incoming.ConnectionClose code) = CloseD
income_as incoming.ConnectionCloseOk = CloseOkD
income_as incoming.Other = ToD 0 BTell
