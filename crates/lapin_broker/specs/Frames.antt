-- What a frame is to the broker. This is the one place where a method's kind is decided: all rules go by these kinds.
use Rattle.std.specs.Prelude.{ℕ, ◌==◌, Bool, not, if◌then◌else◌, List, [], length}
use Rattle.lapin_types.specs.Types.{Frame, Method, ChannelMethod, ExchangeMethod, QueueMethod, BasicMethod, ConfirmMethod, TxMethod}
use Rattle.lapin_types.specs.Types.frame
use Rattle.lapin_types.specs.Types.method
use Rattle.lapin_types.specs.Types.connection
use Rattle.lapin_types.specs.Types.channel
use Rattle.lapin_types.specs.Types.access
use Rattle.lapin_types.specs.Types.exchange
use Rattle.lapin_types.specs.Types.queue
use Rattle.lapin_types.specs.Types.basic
use Rattle.lapin_types.specs.Types.confirm
use Rattle.lapin_types.specs.Types.tx
use Rattle.lapin_broker.specs.declared.request.RequestKind.{RequestKind}
use Rattle.lapin_broker.specs.declared.request.RequestKind.TheVariants as kind
use Rattle.lapin_broker.specs.declared.request.Echo.{Echo}
use Rattle.lapin_broker.specs.declared.request.Echo.TheVariants as echo
use Rattle.lapin_broker.specs.declared.frames.ClientFrame.{ClientFrame}
use Rattle.lapin_broker.specs.declared.frames.ClientFrame.TheVariants as client
use Rattle.lapin_broker.specs.declared.frames.BrokerFrame.{BrokerFrame}
use Rattle.lapin_broker.specs.declared.frames.BrokerFrame.TheVariants as broker

-- the number of the channel that a frame is on (AMQP 0-9-1, section 4.2.3)
abbrev pub channel_of : Frame → ℕ
channel_of (frame.Method c m) = c
channel_of (frame.Header c h) = c
channel_of (frame.Body c bytes) = c

-- the consumer tag that a frame names, empty where it names none
abbrev pub tag_in : BasicMethod → List ℕ
tag_in (basic.Consume queue tag no_local no_ack exclusive nowait arguments) = tag
tag_in (basic.ConsumeOk tag) = tag
tag_in (basic.Cancel tag nowait) = tag
tag_in (basic.CancelOk tag) = tag
tag_in (basic.Deliver tag delivery redelivered exchange key) = tag
tag_in _ = []

-- the same of a whole frame, where methods of class basic alone name one
abbrev pub tag_of : Frame → List ℕ
tag_of (frame.Method c (method.Basic m)) = tag_in m
tag_of _ = []

-- what of a request its reply repeats
abbrev pub echo_in : Method → Echo
echo_in (method.Channel (channel.Flow active)) = echo.Active active
echo_in (method.Queue (queue.Declare name passive durable exclusive auto_delete nowait arguments)) = echo.Name name
echo_in (method.Basic (basic.Consume name tag no_local no_ack exclusive nowait arguments)) = echo.Name tag
echo_in (method.Basic (basic.Cancel tag nowait)) = echo.Name tag
echo_in _ = echo.Nothing

-- the same of a whole frame, where a header and a body have nothing that is repeated
abbrev pub echo_of : Frame → Echo
echo_of (frame.Method c m) = echo_in m
echo_of _ = echo.Nothing

-- ---- Frames of a client. Those that only a broker sends are Other.

-- a method that awaits its reply asks; without wait it is read and changes nothing
abbrev pub ask_unless : Bool → RequestKind → ClientFrame
ask_unless nowait k = if nowait then client.Tell else client.Ask k

-- channel 0 isn't opened: it is the connection's own
abbrev pub client_channel : ℕ → ChannelMethod → ClientFrame
client_channel c channel.Open = if c == 0 then client.Other else client.Open
client_channel c (channel.Flow active) = client.Ask kind.Flow
client_channel c (channel.FlowOk active) = client.Tell
client_channel c (channel.Close code text class number) = client.Close
client_channel c channel.CloseOk = client.CloseOk
client_channel c channel.OpenOk = client.Other

-- of class exchange declare, delete, bind and unbind ask, unless they are without wait
abbrev pub client_exchange : ExchangeMethod → ClientFrame
client_exchange (exchange.Declare name k passive durable auto_delete internal nowait arguments) = ask_unless nowait kind.ExchangeDeclare
client_exchange (exchange.Delete name if_unused nowait) = ask_unless nowait kind.ExchangeDelete
client_exchange (exchange.Bind destination source key nowait arguments) = ask_unless nowait kind.ExchangeBind
client_exchange (exchange.Unbind destination source key nowait arguments) = ask_unless nowait kind.ExchangeUnbind
client_exchange _ = client.Other

-- of class queue declare, bind, purge and delete ask, unless they are without wait; unbind, which has no such bit, always asks
abbrev pub client_queue : QueueMethod → ClientFrame
client_queue (queue.Declare name passive durable exclusive auto_delete nowait arguments) = ask_unless nowait kind.QueueDeclare
client_queue (queue.Bind name from key nowait arguments) = ask_unless nowait kind.QueueBind
client_queue (queue.Purge name nowait) = ask_unless nowait kind.QueuePurge
client_queue (queue.Delete name if_unused if_empty nowait) = ask_unless nowait kind.QueueDelete
client_queue (queue.Unbind name from key arguments) = client.Ask kind.QueueUnbind
client_queue _ = client.Other

-- of class basic publish begins a content; qos, get, recover, and consume and cancel with wait, ask; consume and cancel without wait
-- have kinds of their own; settlements of deliveries, recover-async and cancel-ok are read and change nothing
abbrev pub client_basic : BasicMethod → ClientFrame
client_basic (basic.Qos count global) = client.Ask kind.Qos
client_basic (basic.Consume name tag no_local no_ack exclusive nowait arguments) = if nowait then client.Consume else client.Ask kind.Consume
client_basic (basic.Cancel tag nowait) = if nowait then client.Cancel else client.Ask kind.Cancel
client_basic (basic.Publish to key mandatory immediate) = client.Publish
client_basic (basic.Get name no_ack) = client.Ask kind.Get
client_basic (basic.Recover requeue) = client.Ask kind.Recover
client_basic (basic.Ack number multiple) = client.Tell
client_basic (basic.Nack number multiple requeue) = client.Tell
client_basic (basic.Reject number requeue) = client.Tell
client_basic (basic.RecoverAsync requeue) = client.Tell
client_basic (basic.CancelOk tag) = client.Tell
client_basic _ = client.Other

-- of class confirm select, with whether it awaits its reply (RabbitMQ's publisher confirms)
abbrev pub client_confirm : ConfirmMethod → ClientFrame
client_confirm (confirm.Select nowait) = client.Select (not nowait)
client_confirm confirm.SelectOk = client.Other

-- of class tx select, commit and rollback ask
abbrev pub client_tx : TxMethod → ClientFrame
client_tx tx.Select = client.Ask kind.TxSelect
client_tx tx.Commit = client.Ask kind.TxCommit
client_tx tx.Rollback = client.Ask kind.TxRollback
client_tx _ = client.Other

-- what a client's method on that channel is; the connection's close and close-ok are such on channel 0 alone
abbrev pub client_method : ℕ → Method → ClientFrame
client_method c (method.Connection (connection.Close code text class number)) = if c == 0 then client.ConnectionClose else client.Other
client_method c (method.Connection connection.CloseOk) = if c == 0 then client.ConnectionCloseOk else client.Other
client_method c (method.Channel m) = client_channel c m
client_method c (method.Access (access.Request realm exclusive passive active write read)) = client.Ask kind.Access
client_method c (method.Access access.RequestOk) = client.Other
client_method c (method.Exchange m) = client_exchange m
client_method c (method.Queue m) = client_queue m
client_method c (method.Basic m) = client_basic m
client_method c (method.Confirm m) = client_confirm m
client_method c (method.Tx m) = client_tx m

-- what a client's frame is: a method by its kind, a header by its class and size, a body by its length
abbrev pub client_frame : Frame → ClientFrame
client_frame (frame.Method c m) = client_method c m
client_frame (frame.Header c h) = client.Header h.class_id h.body_size
client_frame (frame.Body c bytes) = client.Body (length bytes)

-- ---- Frames of the broker. Those that only a client sends are Other.

-- of class channel open-ok, close, close-ok and flow have kinds of their own, and flow-ok is a reply
abbrev pub broker_channel : ChannelMethod → BrokerFrame
broker_channel channel.OpenOk = broker.OpenOk
broker_channel (channel.Close code text class number) = broker.Close
broker_channel channel.CloseOk = broker.CloseOk
broker_channel (channel.Flow active) = broker.Flow
broker_channel (channel.FlowOk active) = broker.Reply kind.Flow
broker_channel channel.Open = broker.Other

-- of class exchange the four replies
abbrev pub broker_exchange : ExchangeMethod → BrokerFrame
broker_exchange exchange.DeclareOk = broker.Reply kind.ExchangeDeclare
broker_exchange exchange.DeleteOk = broker.Reply kind.ExchangeDelete
broker_exchange exchange.BindOk = broker.Reply kind.ExchangeBind
broker_exchange exchange.UnbindOk = broker.Reply kind.ExchangeUnbind
broker_exchange _ = broker.Other

-- of class queue the five replies, whatever names and counts they tell
abbrev pub broker_queue : QueueMethod → BrokerFrame
broker_queue (queue.DeclareOk name messages consumers) = broker.Reply kind.QueueDeclare
broker_queue queue.BindOk = broker.Reply kind.QueueBind
broker_queue (queue.PurgeOk messages) = broker.Reply kind.QueuePurge
broker_queue (queue.DeleteOk messages) = broker.Reply kind.QueueDelete
broker_queue queue.UnbindOk = broker.Reply kind.QueueUnbind
broker_queue _ = broker.Other

-- of class basic qos-ok, recover-ok and get-empty are replies like others; ack and nack both are settlements; consume-ok, cancel-ok,
-- get-ok, deliver, return and cancel have kinds of their own
abbrev pub broker_basic : BasicMethod → BrokerFrame
broker_basic basic.QosOk = broker.Reply kind.Qos
broker_basic basic.RecoverOk = broker.Reply kind.Recover
broker_basic basic.GetEmpty = broker.Reply kind.Get
broker_basic (basic.ConsumeOk tag) = broker.ConsumeOk
broker_basic (basic.CancelOk tag) = broker.CancelOk
broker_basic (basic.GetOk number redelivered from key messages) = broker.GetOk
broker_basic (basic.Ack number multiple) = broker.Settle number multiple
broker_basic (basic.Nack number multiple requeue) = broker.Settle number multiple
broker_basic (basic.Deliver tag number redelivered from key) = broker.Deliver
broker_basic (basic.Return code text from key) = broker.Return
broker_basic (basic.Cancel tag nowait) = broker.Cancel
broker_basic _ = broker.Other

-- of class tx the three replies
abbrev pub broker_tx : TxMethod → BrokerFrame
broker_tx tx.SelectOk = broker.Reply kind.TxSelect
broker_tx tx.CommitOk = broker.Reply kind.TxCommit
broker_tx tx.RollbackOk = broker.Reply kind.TxRollback
broker_tx _ = broker.Other

-- what the broker's method on that channel is; the connection's close and close-ok are such on channel 0 alone
abbrev pub broker_method : ℕ → Method → BrokerFrame
broker_method c (method.Connection (connection.Close code text class number)) = if c == 0 then broker.ConnectionClose else broker.Other
broker_method c (method.Connection connection.CloseOk) = if c == 0 then broker.ConnectionCloseOk else broker.Other
broker_method c (method.Channel m) = broker_channel m
broker_method c (method.Access access.RequestOk) = broker.Reply kind.Access
broker_method c (method.Access (access.Request realm exclusive passive active write read)) = broker.Other
broker_method c (method.Exchange m) = broker_exchange m
broker_method c (method.Queue m) = broker_queue m
broker_method c (method.Basic m) = broker_basic m
broker_method c (method.Confirm confirm.SelectOk) = broker.Reply kind.Select
broker_method c (method.Confirm (confirm.Select nowait)) = broker.Other
broker_method c (method.Tx m) = broker_tx m

-- what the broker's frame is: a method by its kind, a header by its class and size, a body by its length
abbrev pub broker_frame : Frame → BrokerFrame
broker_frame (frame.Method c m) = broker_method c m
broker_frame (frame.Header c h) = broker.Header h.class_id h.body_size
broker_frame (frame.Body c bytes) = broker.Body (length bytes)
