-- Methods: the number of the class, the number of the method, and its fields in order. A field that the standard reserves is 0 or empty.
use Rattle.std.specs.Prelude.{ℕ, List, [], ◌∷◌, ◌++◌}
use Rattle.lapin_fields.specs.Fields.{short, long, wide, text, counted, flags}
use Rattle.lapin_fields.specs.Opaque.{arguments_bytes}
use Rattle.lapin_methods.specs.Numbers.{class_number}
use Rattle.lapin_methods.specs.declared.method.Method.{Method}
use Rattle.lapin_methods.specs.declared.method.Method.TheVariants as method
use Rattle.lapin_methods.specs.declared.connection.ConnectionMethod.{ConnectionMethod}
use Rattle.lapin_methods.specs.declared.connection.ConnectionMethod.TheVariants as connection_method
use Rattle.lapin_methods.specs.declared.channel.ChannelMethod.{ChannelMethod}
use Rattle.lapin_methods.specs.declared.channel.ChannelMethod.TheVariants as channel_method
use Rattle.lapin_methods.specs.declared.access.AccessMethod.{AccessMethod}
use Rattle.lapin_methods.specs.declared.access.AccessMethod.TheVariants as access_method
use Rattle.lapin_methods.specs.declared.exchange.ExchangeMethod.{ExchangeMethod}
use Rattle.lapin_methods.specs.declared.exchange.ExchangeMethod.TheVariants as exchange_method
use Rattle.lapin_methods.specs.declared.queue.QueueMethod.{QueueMethod}
use Rattle.lapin_methods.specs.declared.queue.QueueMethod.TheVariants as queue_method
use Rattle.lapin_methods.specs.declared.basic.BasicMethod.{BasicMethod}
use Rattle.lapin_methods.specs.declared.basic.BasicMethod.TheVariants as basic_method
use Rattle.lapin_methods.specs.declared.confirm.ConfirmMethod.{ConfirmMethod}
use Rattle.lapin_methods.specs.declared.confirm.ConfirmMethod.TheVariants as confirm_method
use Rattle.lapin_methods.specs.declared.tx.TxMethod.{TxMethod}
use Rattle.lapin_methods.specs.declared.tx.TxMethod.TheVariants as tx_method

-- ---- connection, class 10

-- a method of the class connection without the number of its class
abbrev pub connection_bytes : ConnectionMethod → List ℕ
connection_bytes (connection_method.Close reply_code reply_text class_id method_id) = short 50 ++ short reply_code ++ text reply_text ++ short class_id ++ short method_id
connection_bytes connection_method.CloseOk = short 51

-- ---- channel, class 20

-- a method of the class channel without the number of its class
abbrev pub channel_bytes : ChannelMethod → List ℕ
channel_bytes channel_method.Open = short 10 ++ text []
channel_bytes channel_method.OpenOk = short 11 ++ counted []
channel_bytes (channel_method.Flow active) = short 20 ++ flags (active ∷ [])
channel_bytes (channel_method.FlowOk active) = short 21 ++ flags (active ∷ [])
channel_bytes (channel_method.Close reply_code reply_text class_id method_id) = short 40 ++ short reply_code ++ text reply_text ++ short class_id ++ short method_id
channel_bytes channel_method.CloseOk = short 41

-- ---- access, class 30

-- a method of the class access without the number of its class
abbrev pub access_bytes : AccessMethod → List ℕ
access_bytes (access_method.Request realm exclusive passive active write read) = short 10 ++ text realm ++ flags (exclusive ∷ passive ∷ active ∷ write ∷ read ∷ [])
access_bytes access_method.RequestOk = short 11 ++ short 0

-- ---- exchange, class 40

-- a method of the class exchange without the number of its class
abbrev pub exchange_bytes : ExchangeMethod → List ℕ
exchange_bytes (exchange_method.Declare exchange kind passive durable auto_delete internal nowait arguments) = short 10 ++ short 0 ++ text exchange ++ text kind ++ flags (passive ∷ durable ∷ auto_delete ∷ internal ∷ nowait ∷ []) ++ arguments_bytes arguments
exchange_bytes exchange_method.DeclareOk = short 11
exchange_bytes (exchange_method.Delete exchange if_unused nowait) = short 20 ++ short 0 ++ text exchange ++ flags (if_unused ∷ nowait ∷ [])
exchange_bytes exchange_method.DeleteOk = short 21
exchange_bytes (exchange_method.Bind destination source routing_key nowait arguments) = short 30 ++ short 0 ++ text destination ++ text source ++ text routing_key ++ flags (nowait ∷ []) ++ arguments_bytes arguments
exchange_bytes exchange_method.BindOk = short 31
exchange_bytes (exchange_method.Unbind destination source routing_key nowait arguments) = short 40 ++ short 0 ++ text destination ++ text source ++ text routing_key ++ flags (nowait ∷ []) ++ arguments_bytes arguments
exchange_bytes exchange_method.UnbindOk = short 51

-- ---- queue, class 50

-- a method of the class queue without the number of its class
abbrev pub queue_bytes : QueueMethod → List ℕ
queue_bytes (queue_method.Declare queue passive durable exclusive auto_delete nowait arguments) = short 10 ++ short 0 ++ text queue ++ flags (passive ∷ durable ∷ exclusive ∷ auto_delete ∷ nowait ∷ []) ++ arguments_bytes arguments
queue_bytes (queue_method.DeclareOk queue message_count consumer_count) = short 11 ++ text queue ++ long message_count ++ long consumer_count
queue_bytes (queue_method.Bind queue exchange routing_key nowait arguments) = short 20 ++ short 0 ++ text queue ++ text exchange ++ text routing_key ++ flags (nowait ∷ []) ++ arguments_bytes arguments
queue_bytes queue_method.BindOk = short 21
queue_bytes (queue_method.Purge queue nowait) = short 30 ++ short 0 ++ text queue ++ flags (nowait ∷ [])
queue_bytes (queue_method.PurgeOk message_count) = short 31 ++ long message_count
queue_bytes (queue_method.Delete queue if_unused if_empty nowait) = short 40 ++ short 0 ++ text queue ++ flags (if_unused ∷ if_empty ∷ nowait ∷ [])
queue_bytes (queue_method.DeleteOk message_count) = short 41 ++ long message_count
queue_bytes (queue_method.Unbind queue exchange routing_key arguments) = short 50 ++ short 0 ++ text queue ++ text exchange ++ text routing_key ++ arguments_bytes arguments
queue_bytes queue_method.UnbindOk = short 51

-- ---- basic, class 60

-- a method of the class basic without the number of its class
abbrev pub basic_bytes : BasicMethod → List ℕ
basic_bytes (basic_method.Qos prefetch_count global) = short 10 ++ long 0 ++ short prefetch_count ++ flags (global ∷ [])
basic_bytes basic_method.QosOk = short 11
basic_bytes (basic_method.Consume queue consumer_tag no_local no_ack exclusive nowait arguments) = short 20 ++ short 0 ++ text queue ++ text consumer_tag ++ flags (no_local ∷ no_ack ∷ exclusive ∷ nowait ∷ []) ++ arguments_bytes arguments
basic_bytes (basic_method.ConsumeOk consumer_tag) = short 21 ++ text consumer_tag
basic_bytes (basic_method.Cancel consumer_tag nowait) = short 30 ++ text consumer_tag ++ flags (nowait ∷ [])
basic_bytes (basic_method.CancelOk consumer_tag) = short 31 ++ text consumer_tag
basic_bytes (basic_method.Publish exchange routing_key mandatory immediate) = short 40 ++ short 0 ++ text exchange ++ text routing_key ++ flags (mandatory ∷ immediate ∷ [])
basic_bytes (basic_method.Return reply_code reply_text exchange routing_key) = short 50 ++ short reply_code ++ text reply_text ++ text exchange ++ text routing_key
basic_bytes (basic_method.Deliver consumer_tag delivery_tag redelivered exchange routing_key) = short 60 ++ text consumer_tag ++ wide delivery_tag ++ flags (redelivered ∷ []) ++ text exchange ++ text routing_key
basic_bytes (basic_method.Get queue no_ack) = short 70 ++ short 0 ++ text queue ++ flags (no_ack ∷ [])
basic_bytes (basic_method.GetOk delivery_tag redelivered exchange routing_key message_count) = short 71 ++ wide delivery_tag ++ flags (redelivered ∷ []) ++ text exchange ++ text routing_key ++ long message_count
basic_bytes basic_method.GetEmpty = short 72 ++ text []
basic_bytes (basic_method.Ack delivery_tag multiple) = short 80 ++ wide delivery_tag ++ flags (multiple ∷ [])
basic_bytes (basic_method.Reject delivery_tag requeue) = short 90 ++ wide delivery_tag ++ flags (requeue ∷ [])
basic_bytes (basic_method.RecoverAsync requeue) = short 100 ++ flags (requeue ∷ [])
basic_bytes (basic_method.Recover requeue) = short 110 ++ flags (requeue ∷ [])
basic_bytes basic_method.RecoverOk = short 111
basic_bytes (basic_method.Nack delivery_tag multiple requeue) = short 120 ++ wide delivery_tag ++ flags (multiple ∷ requeue ∷ [])

-- ---- confirm, class 85

-- a method of the class confirm without the number of its class
abbrev pub confirm_bytes : ConfirmMethod → List ℕ
confirm_bytes (confirm_method.Select nowait) = short 10 ++ flags (nowait ∷ [])
confirm_bytes confirm_method.SelectOk = short 11

-- ---- tx, class 90

-- a method of the class tx without the number of its class
abbrev pub tx_bytes : TxMethod → List ℕ
tx_bytes tx_method.Select = short 10
tx_bytes tx_method.SelectOk = short 11
tx_bytes tx_method.Commit = short 20
tx_bytes tx_method.CommitOk = short 21
tx_bytes tx_method.Rollback = short 30
tx_bytes tx_method.RollbackOk = short 31

-- ---- all

-- a method
abbrev pub fields_bytes : Method → List ℕ
fields_bytes (method.Connection m) = connection_bytes m
fields_bytes (method.Channel m) = channel_bytes m
fields_bytes (method.Access m) = access_bytes m
fields_bytes (method.Exchange m) = exchange_bytes m
fields_bytes (method.Queue m) = queue_bytes m
fields_bytes (method.Basic m) = basic_bytes m
fields_bytes (method.Confirm m) = confirm_bytes m
fields_bytes (method.Tx m) = tx_bytes m

abbrev pub method_bytes : Method → List ℕ
method_bytes m = short (class_number m) ++ fields_bytes m
