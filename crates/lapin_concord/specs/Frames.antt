-- Frames as the pair of machines has them: on a channel, of a kind, with the sizes that contents count by. Names, tags and payloads
-- are left out.
use Rattle.std.specs.Prelude.{◌≡◌, ℕ, ◌-◌, ◌<◌, ◌≤◌, true, false, List, map}
use Rattle.lapin_types.specs.Types.{Frame}
use Rattle.lapin_types.specs.declared.leaving.Left.{Left}
use Rattle.lapin_broker.specs.declared.request.RequestKind.{RequestKind}
use Rattle.lapin_broker.specs.declared.request.RequestKind.TheVariants as kind
use Rattle.lapin_broker.specs.declared.frames.ClientFrame.{ClientFrame}
use Rattle.lapin_broker.specs.declared.frames.ClientFrame.TheVariants as client
use Rattle.lapin_broker.specs.declared.frames.BrokerFrame.{BrokerFrame}
use Rattle.lapin_broker.specs.declared.frames.BrokerFrame.TheVariants as broker
use Rattle.lapin_broker.specs.Frames.{channel_of, client_frame, broker_frame}
use Rattle.lapin_pairs.specs.Channel.{FOpen, FClose, FCloseOk, FTell, FSelect, FAsk, FPublish, FHeader, FBody, DownF, BOpenOk, BClose, BCloseOk, BTell, BStart, BReply, BHeader, BBody, BSettle}
use Rattle.lapin_pairs.specs.Every.{UpOn, OnU, CloseU, CloseOkU, DownOn, ToD, CloseD, CloseOkD}
use Rattle.lapin_pairs.specs.Asking.{U2, Plain, SelectAsk}

-- each kind of request has a number of its own; that of `confirm.select` is 0
abbrev pub number : RequestKind → ℕ
number kind.Select = 0
number kind.Flow = 1
number kind.Access = 2
number kind.ExchangeDeclare = 3
number kind.ExchangeDelete = 4
number kind.ExchangeBind = 5
number kind.ExchangeUnbind = 6
number kind.QueueDeclare = 7
number kind.QueueBind = 8
number kind.QueuePurge = 9
number kind.QueueDelete = 10
number kind.QueueUnbind = 11
number kind.Qos = 12
number kind.Consume = 13
number kind.Cancel = 14
number kind.Get = 15
number kind.Recover = 16
number kind.TxSelect = 17
number kind.TxCommit = 18
number kind.TxRollback = 19

-- a client's frame on that channel, by what it is to the broker; the connection's close and close-ok are on no channel
abbrev pub up_kind : ℕ → ClientFrame → UpOn U2
up_kind c client.ConnectionClose = CloseU
up_kind c client.ConnectionCloseOk = CloseOkU
up_kind c client.Open = OnU c (Plain FOpen)
up_kind c client.Close = OnU c (Plain FClose)
up_kind c client.CloseOk = OnU c (Plain FCloseOk)
up_kind c client.Publish = OnU c (Plain (FPublish 0))
up_kind c (client.Header class size) = OnU c (Plain (FHeader size))
up_kind c (client.Body n) = OnU c (Plain (FBody n))
up_kind c (client.Select true) = OnU c SelectAsk
up_kind c (client.Select false) = OnU c (Plain FSelect)
up_kind c (client.Ask k) = OnU c (Plain (FAsk (number k)))
up_kind c _ = OnU c (Plain FTell)

-- a client's frame
abbrev pub up_frame : Frame → UpOn U2
up_frame f = up_kind (channel_of f) (client_frame f)

-- the client's frames, each with the numbers of its call
abbrev pub up_frames : List Left → List (UpOn U2)
up_frames ls = map (λ l. up_frame l.frame) ls

-- the broker's frame to that channel; one that only a client sends would be refused on any channel
abbrev pub down_kind : ℕ → BrokerFrame → DownOn DownF
down_kind c broker.ConnectionClose = CloseD
down_kind c broker.ConnectionCloseOk = CloseOkD
down_kind c broker.OpenOk = ToD c BOpenOk
down_kind c broker.Close = ToD c BClose
down_kind c broker.CloseOk = ToD c BCloseOk
down_kind c (broker.Reply k) = ToD c (BReply (number k) false)
down_kind c broker.ConsumeOk = ToD c (BReply (number kind.Consume) false)
down_kind c broker.CancelOk = ToD c (BReply (number kind.Cancel) false)
down_kind c broker.GetOk = ToD c (BReply (number kind.Get) true)
down_kind c (broker.Settle n multiple) = ToD c (BSettle (record { tag = n; multiple = multiple }))
down_kind c broker.Deliver = ToD c BStart
down_kind c broker.Return = ToD c BStart
down_kind c broker.Cancel = ToD c BTell
down_kind c broker.Flow = ToD c BTell
down_kind c (broker.Header class size) = ToD c (BHeader size)
down_kind c (broker.Body n) = ToD c (BBody n)
down_kind c broker.Other = ToD 0 BTell

-- the broker's frame
abbrev pub down_frame : Frame → DownOn DownF
down_frame f = down_kind (channel_of f) (broker_frame f)

-- what a client sends: no frame that only a broker sends, headers of class 60, and bodies that fit into a frame
abbrev pub IsSent : ℕ → ClientFrame → Type 0
IsSent most client.Other = ⊥
IsSent most (client.Header class size) = class ≡ 60
IsSent most (client.Body n) = n ≤ most - 8
IsSent most _ = Unit {0}

-- what a broker sends: headers of class 60, and settlements of tags above 0
abbrev pub IsGiven : BrokerFrame → Type 0
IsGiven (broker.Header class size) = class ≡ 60
IsGiven (broker.Settle n multiple) = 0 < n
IsGiven _ = Unit {0}
