-- The numbers of classes and methods (AMQP 0-9-1 with RabbitMQ's extensions).
use Rattle.std.specs.Prelude.{ℕ}
use Rattle.lapin_methods.specs.declared.method.Method.{Method}
use Rattle.lapin_methods.specs.declared.method.Method.TheVariants as M
use Rattle.lapin_methods.specs.declared.connection.ConnectionMethod.{ConnectionMethod}
use Rattle.lapin_methods.specs.declared.connection.ConnectionMethod.TheVariants as connection_
use Rattle.lapin_methods.specs.declared.channel.ChannelMethod.{ChannelMethod}
use Rattle.lapin_methods.specs.declared.channel.ChannelMethod.TheVariants as channel_
use Rattle.lapin_methods.specs.declared.access.AccessMethod.{AccessMethod}
use Rattle.lapin_methods.specs.declared.access.AccessMethod.TheVariants as access_
use Rattle.lapin_methods.specs.declared.exchange.ExchangeMethod.{ExchangeMethod}
use Rattle.lapin_methods.specs.declared.exchange.ExchangeMethod.TheVariants as exchange_
use Rattle.lapin_methods.specs.declared.queue.QueueMethod.{QueueMethod}
use Rattle.lapin_methods.specs.declared.queue.QueueMethod.TheVariants as queue_
use Rattle.lapin_methods.specs.declared.basic.BasicMethod.{BasicMethod}
use Rattle.lapin_methods.specs.declared.basic.BasicMethod.TheVariants as basic_
use Rattle.lapin_methods.specs.declared.confirm.ConfirmMethod.{ConfirmMethod}
use Rattle.lapin_methods.specs.declared.confirm.ConfirmMethod.TheVariants as confirm_
use Rattle.lapin_methods.specs.declared.tx.TxMethod.{TxMethod}
use Rattle.lapin_methods.specs.declared.tx.TxMethod.TheVariants as tx_

-- the number of a method in the class connection
abbrev pub connection_number : ConnectionMethod → ℕ
connection_number (connection_.Close reply_code reply_text class_id method_id) = 50
connection_number connection_.CloseOk = 51

-- the number of a method in the class channel
abbrev pub channel_number : ChannelMethod → ℕ
channel_number channel_.Open = 10
channel_number channel_.OpenOk = 11
channel_number (channel_.Flow active) = 20
channel_number (channel_.FlowOk active) = 21
channel_number (channel_.Close reply_code reply_text class_id method_id) = 40
channel_number channel_.CloseOk = 41

-- the number of a method in the class access
abbrev pub access_number : AccessMethod → ℕ
access_number (access_.Request realm exclusive passive active write read) = 10
access_number access_.RequestOk = 11

-- the number of a method in the class exchange
abbrev pub exchange_number : ExchangeMethod → ℕ
exchange_number (exchange_.Declare exchange kind passive durable auto_delete internal nowait arguments) = 10
exchange_number exchange_.DeclareOk = 11
exchange_number (exchange_.Delete exchange if_unused nowait) = 20
exchange_number exchange_.DeleteOk = 21
exchange_number (exchange_.Bind destination source routing_key nowait arguments) = 30
exchange_number exchange_.BindOk = 31
exchange_number (exchange_.Unbind destination source routing_key nowait arguments) = 40
exchange_number exchange_.UnbindOk = 51

-- the number of a method in the class queue
abbrev pub queue_number : QueueMethod → ℕ
queue_number (queue_.Declare queue passive durable exclusive auto_delete nowait arguments) = 10
queue_number (queue_.DeclareOk queue message_count consumer_count) = 11
queue_number (queue_.Bind queue exchange routing_key nowait arguments) = 20
queue_number queue_.BindOk = 21
queue_number (queue_.Purge queue nowait) = 30
queue_number (queue_.PurgeOk message_count) = 31
queue_number (queue_.Delete queue if_unused if_empty nowait) = 40
queue_number (queue_.DeleteOk message_count) = 41
queue_number (queue_.Unbind queue exchange routing_key arguments) = 50
queue_number queue_.UnbindOk = 51

-- the number of a method in the class basic
abbrev pub basic_number : BasicMethod → ℕ
basic_number (basic_.Qos prefetch_count global) = 10
basic_number basic_.QosOk = 11
basic_number (basic_.Consume queue consumer_tag no_local no_ack exclusive nowait arguments) = 20
basic_number (basic_.ConsumeOk consumer_tag) = 21
basic_number (basic_.Cancel consumer_tag nowait) = 30
basic_number (basic_.CancelOk consumer_tag) = 31
basic_number (basic_.Publish exchange routing_key mandatory immediate) = 40
basic_number (basic_.Return reply_code reply_text exchange routing_key) = 50
basic_number (basic_.Deliver consumer_tag delivery_tag redelivered exchange routing_key) = 60
basic_number (basic_.Get queue no_ack) = 70
basic_number (basic_.GetOk delivery_tag redelivered exchange routing_key message_count) = 71
basic_number basic_.GetEmpty = 72
basic_number (basic_.Ack delivery_tag multiple) = 80
basic_number (basic_.Reject delivery_tag requeue) = 90
basic_number (basic_.RecoverAsync requeue) = 100
basic_number (basic_.Recover requeue) = 110
basic_number basic_.RecoverOk = 111
basic_number (basic_.Nack delivery_tag multiple requeue) = 120

-- the number of a method in the class confirm
abbrev pub confirm_number : ConfirmMethod → ℕ
confirm_number (confirm_.Select nowait) = 10
confirm_number confirm_.SelectOk = 11

-- the number of a method in the class tx
abbrev pub tx_number : TxMethod → ℕ
tx_number tx_.Select = 10
tx_number tx_.SelectOk = 11
tx_number tx_.Commit = 20
tx_number tx_.CommitOk = 21
tx_number tx_.Rollback = 30
tx_number tx_.RollbackOk = 31

-- the number of a method's class
abbrev pub class_number : Method → ℕ
class_number (M.Connection method) = 10
class_number (M.Channel method) = 20
class_number (M.Access method) = 30
class_number (M.Exchange method) = 40
class_number (M.Queue method) = 50
class_number (M.Basic method) = 60
class_number (M.Confirm method) = 85
class_number (M.Tx method) = 90

-- the number of a method in its class
abbrev pub method_number : Method → ℕ
method_number (M.Connection method) = connection_number method
method_number (M.Channel method) = channel_number method
method_number (M.Access method) = access_number method
method_number (M.Exchange method) = exchange_number method
method_number (M.Queue method) = queue_number method
method_number (M.Basic method) = basic_number method
method_number (M.Confirm method) = confirm_number method
method_number (M.Tx method) = tx_number method
