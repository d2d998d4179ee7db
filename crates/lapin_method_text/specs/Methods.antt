-- The text of methods. A method's tokens are its name, as "basic.publish", and those of its fields in their order.
-- For each class: the names, the kinds of the fields, the method that fields make, the fields of a method, and its tokens.
use Rattle.std.specs.Prelude.{ℕ, List, [], ◌∷◌, codes}
use Rattle.lapin_method_text.specs.declared.kinds.MethodKind.{MethodKind}
use Rattle.lapin_method_text.specs.declared.kinds.MethodKind.TheVariants as kind
use Rattle.lapin_methods.specs.declared.method.Method.{Method}
use Rattle.lapin_methods.specs.declared.method.Method.TheVariants as method
use Rattle.lapin_method_text.specs.declared.kinds.ConnectionKind.{ConnectionKind}
use Rattle.lapin_method_text.specs.declared.kinds.ConnectionKind.TheVariants as connection_kind
use Rattle.lapin_methods.specs.declared.connection.ConnectionMethod.{ConnectionMethod}
use Rattle.lapin_methods.specs.declared.connection.ConnectionMethod.TheVariants as connection_method
use Rattle.lapin_method_text.specs.declared.kinds.ChannelKind.{ChannelKind}
use Rattle.lapin_method_text.specs.declared.kinds.ChannelKind.TheVariants as channel_kind
use Rattle.lapin_methods.specs.declared.channel.ChannelMethod.{ChannelMethod}
use Rattle.lapin_methods.specs.declared.channel.ChannelMethod.TheVariants as channel_method
use Rattle.lapin_method_text.specs.declared.kinds.AccessKind.{AccessKind}
use Rattle.lapin_method_text.specs.declared.kinds.AccessKind.TheVariants as access_kind
use Rattle.lapin_methods.specs.declared.access.AccessMethod.{AccessMethod}
use Rattle.lapin_methods.specs.declared.access.AccessMethod.TheVariants as access_method
use Rattle.lapin_method_text.specs.declared.kinds.ExchangeMethodKind.{ExchangeMethodKind}
use Rattle.lapin_method_text.specs.declared.kinds.ExchangeMethodKind.TheVariants as exchange_kind
use Rattle.lapin_methods.specs.declared.exchange.ExchangeMethod.{ExchangeMethod}
use Rattle.lapin_methods.specs.declared.exchange.ExchangeMethod.TheVariants as exchange_method
use Rattle.lapin_method_text.specs.declared.kinds.QueueKind.{QueueKind}
use Rattle.lapin_method_text.specs.declared.kinds.QueueKind.TheVariants as queue_kind
use Rattle.lapin_methods.specs.declared.queue.QueueMethod.{QueueMethod}
use Rattle.lapin_methods.specs.declared.queue.QueueMethod.TheVariants as queue_method
use Rattle.lapin_method_text.specs.declared.kinds.BasicKind.{BasicKind}
use Rattle.lapin_method_text.specs.declared.kinds.BasicKind.TheVariants as basic_kind
use Rattle.lapin_methods.specs.declared.basic.BasicMethod.{BasicMethod}
use Rattle.lapin_methods.specs.declared.basic.BasicMethod.TheVariants as basic_method
use Rattle.lapin_method_text.specs.declared.kinds.ConfirmKind.{ConfirmKind}
use Rattle.lapin_method_text.specs.declared.kinds.ConfirmKind.TheVariants as confirm_kind
use Rattle.lapin_methods.specs.declared.confirm.ConfirmMethod.{ConfirmMethod}
use Rattle.lapin_methods.specs.declared.confirm.ConfirmMethod.TheVariants as confirm_method
use Rattle.lapin_method_text.specs.declared.kinds.TxKind.{TxKind}
use Rattle.lapin_method_text.specs.declared.kinds.TxKind.TheVariants as tx_kind
use Rattle.lapin_methods.specs.declared.tx.TxMethod.{TxMethod}
use Rattle.lapin_methods.specs.declared.tx.TxMethod.TheVariants as tx_method
use Rattle.lapin_tokens.specs.Fields.{Field, Values, token, short_number, long_number, wide_number}
use Rattle.lapin_tokens.specs.Fields.Field.{text, table, flag}
use Rattle.lapin_method_text.specs.Entries.{EntryFits}

-- ---- connection (AMQP 0-9-1, class 10)

-- the name of a method of class connection by its kind, as "connection.close"
abbrev pub connection_name : ConnectionKind → List ℕ
connection_name connection_kind.Close = codes "connection.close"
connection_name connection_kind.CloseOk = codes "connection.close-ok"

-- the kinds of the fields that a method of class connection carries, in the order of its text
abbrev pub connection_fields : ConnectionKind → List Field
connection_fields connection_kind.Close = short_number ∷ text ∷ short_number ∷ short_number ∷ []
connection_fields connection_kind.CloseOk = []

-- the method of class connection of a kind, with these values as its fields
abbrev pub connection_made : (k : ConnectionKind) → Values (connection_fields k) → ConnectionMethod
connection_made connection_kind.Close v = connection_method.Close v.0 v.1.0 v.1.1.0 v.1.1.1.0
connection_made connection_kind.CloseOk v = connection_method.CloseOk

-- the kind of a method of class connection, and the values of its fields in order
abbrev pub connection_parts : ConnectionMethod → (k : ConnectionKind) × Values (connection_fields k)
connection_parts (connection_method.Close reply_code reply_text class_id method_id) = (connection_kind.Close, (reply_code, (reply_text, (class_id, (method_id, tt)))))
connection_parts connection_method.CloseOk = (connection_kind.CloseOk, tt)

-- the text of a method of class connection, as tokens: its name, and then each field in order
abbrev pub connection_tokens : ConnectionMethod → List (List ℕ)
connection_tokens (connection_method.Close reply_code reply_text class_id method_id) = codes "connection.close" ∷ token short_number reply_code ∷ token text reply_text ∷ token short_number class_id ∷ token short_number method_id ∷ []
connection_tokens connection_method.CloseOk = codes "connection.close-ok" ∷ []

-- ---- channel (AMQP 0-9-1, class 20)

-- the name of a method of class channel by its kind, as "channel.open"
abbrev pub channel_name : ChannelKind → List ℕ
channel_name channel_kind.Open = codes "channel.open"
channel_name channel_kind.OpenOk = codes "channel.open-ok"
channel_name channel_kind.Flow = codes "channel.flow"
channel_name channel_kind.FlowOk = codes "channel.flow-ok"
channel_name channel_kind.Close = codes "channel.close"
channel_name channel_kind.CloseOk = codes "channel.close-ok"

-- the kinds of the fields that a method of class channel carries, in the order of its text
abbrev pub channel_fields : ChannelKind → List Field
channel_fields channel_kind.Open = []
channel_fields channel_kind.OpenOk = []
channel_fields channel_kind.Flow = flag ∷ []
channel_fields channel_kind.FlowOk = flag ∷ []
channel_fields channel_kind.Close = short_number ∷ text ∷ short_number ∷ short_number ∷ []
channel_fields channel_kind.CloseOk = []

-- the method of class channel of a kind, with these values as its fields
abbrev pub channel_made : (k : ChannelKind) → Values (channel_fields k) → ChannelMethod
channel_made channel_kind.Open v = channel_method.Open
channel_made channel_kind.OpenOk v = channel_method.OpenOk
channel_made channel_kind.Flow v = channel_method.Flow v.0
channel_made channel_kind.FlowOk v = channel_method.FlowOk v.0
channel_made channel_kind.Close v = channel_method.Close v.0 v.1.0 v.1.1.0 v.1.1.1.0
channel_made channel_kind.CloseOk v = channel_method.CloseOk

-- the kind of a method of class channel, and the values of its fields in order
abbrev pub channel_parts : ChannelMethod → (k : ChannelKind) × Values (channel_fields k)
channel_parts channel_method.Open = (channel_kind.Open, tt)
channel_parts channel_method.OpenOk = (channel_kind.OpenOk, tt)
channel_parts (channel_method.Flow active) = (channel_kind.Flow, (active, tt))
channel_parts (channel_method.FlowOk active) = (channel_kind.FlowOk, (active, tt))
channel_parts (channel_method.Close reply_code reply_text class_id method_id) = (channel_kind.Close, (reply_code, (reply_text, (class_id, (method_id, tt)))))
channel_parts channel_method.CloseOk = (channel_kind.CloseOk, tt)

-- the text of a method of class channel, as tokens: its name, and then each field in order
abbrev pub channel_tokens : ChannelMethod → List (List ℕ)
channel_tokens channel_method.Open = codes "channel.open" ∷ []
channel_tokens channel_method.OpenOk = codes "channel.open-ok" ∷ []
channel_tokens (channel_method.Flow active) = codes "channel.flow" ∷ token flag active ∷ []
channel_tokens (channel_method.FlowOk active) = codes "channel.flow-ok" ∷ token flag active ∷ []
channel_tokens (channel_method.Close reply_code reply_text class_id method_id) = codes "channel.close" ∷ token short_number reply_code ∷ token text reply_text ∷ token short_number class_id ∷ token short_number method_id ∷ []
channel_tokens channel_method.CloseOk = codes "channel.close-ok" ∷ []

-- ---- access (class 30, which brokers keep from AMQP 0-8)

-- the name of a method of class access by its kind, as "access.request"
abbrev pub access_name : AccessKind → List ℕ
access_name access_kind.Request = codes "access.request"
access_name access_kind.RequestOk = codes "access.request-ok"

-- the kinds of the fields that a method of class access carries, in the order of its text
abbrev pub access_fields : AccessKind → List Field
access_fields access_kind.Request = text ∷ flag ∷ flag ∷ flag ∷ flag ∷ flag ∷ []
access_fields access_kind.RequestOk = []

-- the method of class access of a kind, with these values as its fields
abbrev pub access_made : (k : AccessKind) → Values (access_fields k) → AccessMethod
access_made access_kind.Request v = access_method.Request v.0 v.1.0 v.1.1.0 v.1.1.1.0 v.1.1.1.1.0 v.1.1.1.1.1.0
access_made access_kind.RequestOk v = access_method.RequestOk

-- the kind of a method of class access, and the values of its fields in order
abbrev pub access_parts : AccessMethod → (k : AccessKind) × Values (access_fields k)
access_parts (access_method.Request realm exclusive passive active write read) = (access_kind.Request, (realm, (exclusive, (passive, (active, (write, (read, tt)))))))
access_parts access_method.RequestOk = (access_kind.RequestOk, tt)

-- the text of a method of class access, as tokens: its name, and then each field in order
abbrev pub access_tokens : AccessMethod → List (List ℕ)
access_tokens (access_method.Request realm exclusive passive active write read) = codes "access.request" ∷ token text realm ∷ token flag exclusive ∷ token flag passive ∷ token flag active ∷ token flag write ∷ token flag read ∷ []
access_tokens access_method.RequestOk = codes "access.request-ok" ∷ []

-- ---- exchange (AMQP 0-9-1, class 40, with RabbitMQ's bindings between exchanges)

-- the name of a method of class exchange by its kind, as "exchange.declare"
abbrev pub exchange_name : ExchangeMethodKind → List ℕ
exchange_name exchange_kind.Declare = codes "exchange.declare"
exchange_name exchange_kind.DeclareOk = codes "exchange.declare-ok"
exchange_name exchange_kind.Delete = codes "exchange.delete"
exchange_name exchange_kind.DeleteOk = codes "exchange.delete-ok"
exchange_name exchange_kind.Bind = codes "exchange.bind"
exchange_name exchange_kind.BindOk = codes "exchange.bind-ok"
exchange_name exchange_kind.Unbind = codes "exchange.unbind"
exchange_name exchange_kind.UnbindOk = codes "exchange.unbind-ok"

-- the kinds of the fields that a method of class exchange carries, in the order of its text
abbrev pub exchange_fields : ExchangeMethodKind → List Field
exchange_fields exchange_kind.Declare = text ∷ text ∷ flag ∷ flag ∷ flag ∷ flag ∷ flag ∷ table ∷ []
exchange_fields exchange_kind.DeclareOk = []
exchange_fields exchange_kind.Delete = text ∷ flag ∷ flag ∷ []
exchange_fields exchange_kind.DeleteOk = []
exchange_fields exchange_kind.Bind = text ∷ text ∷ text ∷ flag ∷ table ∷ []
exchange_fields exchange_kind.BindOk = []
exchange_fields exchange_kind.Unbind = text ∷ text ∷ text ∷ flag ∷ table ∷ []
exchange_fields exchange_kind.UnbindOk = []

-- the method of class exchange of a kind, with these values as its fields
abbrev pub exchange_made : (k : ExchangeMethodKind) → Values (exchange_fields k) → ExchangeMethod
exchange_made exchange_kind.Declare v = exchange_method.Declare v.0 v.1.0 v.1.1.0 v.1.1.1.0 v.1.1.1.1.0 v.1.1.1.1.1.0 v.1.1.1.1.1.1.0 v.1.1.1.1.1.1.1.0
exchange_made exchange_kind.DeclareOk v = exchange_method.DeclareOk
exchange_made exchange_kind.Delete v = exchange_method.Delete v.0 v.1.0 v.1.1.0
exchange_made exchange_kind.DeleteOk v = exchange_method.DeleteOk
exchange_made exchange_kind.Bind v = exchange_method.Bind v.0 v.1.0 v.1.1.0 v.1.1.1.0 v.1.1.1.1.0
exchange_made exchange_kind.BindOk v = exchange_method.BindOk
exchange_made exchange_kind.Unbind v = exchange_method.Unbind v.0 v.1.0 v.1.1.0 v.1.1.1.0 v.1.1.1.1.0
exchange_made exchange_kind.UnbindOk v = exchange_method.UnbindOk

-- the kind of a method of class exchange, and the values of its fields in order
abbrev pub exchange_parts : ExchangeMethod → (k : ExchangeMethodKind) × Values (exchange_fields k)
exchange_parts (exchange_method.Declare exchange kind passive durable auto_delete internal nowait arguments) = (exchange_kind.Declare, (exchange, (kind, (passive, (durable, (auto_delete, (internal, (nowait, (arguments, tt)))))))))
exchange_parts exchange_method.DeclareOk = (exchange_kind.DeclareOk, tt)
exchange_parts (exchange_method.Delete exchange if_unused nowait) = (exchange_kind.Delete, (exchange, (if_unused, (nowait, tt))))
exchange_parts exchange_method.DeleteOk = (exchange_kind.DeleteOk, tt)
exchange_parts (exchange_method.Bind destination source routing_key nowait arguments) = (exchange_kind.Bind, (destination, (source, (routing_key, (nowait, (arguments, tt))))))
exchange_parts exchange_method.BindOk = (exchange_kind.BindOk, tt)
exchange_parts (exchange_method.Unbind destination source routing_key nowait arguments) = (exchange_kind.Unbind, (destination, (source, (routing_key, (nowait, (arguments, tt))))))
exchange_parts exchange_method.UnbindOk = (exchange_kind.UnbindOk, tt)

-- the text of a method of class exchange, as tokens: its name, and then each field in order
abbrev pub exchange_tokens : ExchangeMethod → List (List ℕ)
exchange_tokens (exchange_method.Declare exchange kind passive durable auto_delete internal nowait arguments) = codes "exchange.declare" ∷ token text exchange ∷ token text kind ∷ token flag passive ∷ token flag durable ∷ token flag auto_delete ∷ token flag internal ∷ token flag nowait ∷ token table arguments ∷ []
exchange_tokens exchange_method.DeclareOk = codes "exchange.declare-ok" ∷ []
exchange_tokens (exchange_method.Delete exchange if_unused nowait) = codes "exchange.delete" ∷ token text exchange ∷ token flag if_unused ∷ token flag nowait ∷ []
exchange_tokens exchange_method.DeleteOk = codes "exchange.delete-ok" ∷ []
exchange_tokens (exchange_method.Bind destination source routing_key nowait arguments) = codes "exchange.bind" ∷ token text destination ∷ token text source ∷ token text routing_key ∷ token flag nowait ∷ token table arguments ∷ []
exchange_tokens exchange_method.BindOk = codes "exchange.bind-ok" ∷ []
exchange_tokens (exchange_method.Unbind destination source routing_key nowait arguments) = codes "exchange.unbind" ∷ token text destination ∷ token text source ∷ token text routing_key ∷ token flag nowait ∷ token table arguments ∷ []
exchange_tokens exchange_method.UnbindOk = codes "exchange.unbind-ok" ∷ []

-- ---- queue (AMQP 0-9-1, class 50)

-- the name of a method of class queue by its kind, as "queue.bind"
abbrev pub queue_name : QueueKind → List ℕ
queue_name queue_kind.Declare = codes "queue.declare"
queue_name queue_kind.DeclareOk = codes "queue.declare-ok"
queue_name queue_kind.Bind = codes "queue.bind"
queue_name queue_kind.BindOk = codes "queue.bind-ok"
queue_name queue_kind.Purge = codes "queue.purge"
queue_name queue_kind.PurgeOk = codes "queue.purge-ok"
queue_name queue_kind.Delete = codes "queue.delete"
queue_name queue_kind.DeleteOk = codes "queue.delete-ok"
queue_name queue_kind.Unbind = codes "queue.unbind"
queue_name queue_kind.UnbindOk = codes "queue.unbind-ok"

-- the kinds of the fields that a method of class queue carries, in the order of its text
abbrev pub queue_fields : QueueKind → List Field
queue_fields queue_kind.Declare = text ∷ flag ∷ flag ∷ flag ∷ flag ∷ flag ∷ table ∷ []
queue_fields queue_kind.DeclareOk = text ∷ long_number ∷ long_number ∷ []
queue_fields queue_kind.Bind = text ∷ text ∷ text ∷ flag ∷ table ∷ []
queue_fields queue_kind.BindOk = []
queue_fields queue_kind.Purge = text ∷ flag ∷ []
queue_fields queue_kind.PurgeOk = long_number ∷ []
queue_fields queue_kind.Delete = text ∷ flag ∷ flag ∷ flag ∷ []
queue_fields queue_kind.DeleteOk = long_number ∷ []
queue_fields queue_kind.Unbind = text ∷ text ∷ text ∷ table ∷ []
queue_fields queue_kind.UnbindOk = []

-- the method of class queue of a kind, with these values as its fields
abbrev pub queue_made : (k : QueueKind) → Values (queue_fields k) → QueueMethod
queue_made queue_kind.Declare v = queue_method.Declare v.0 v.1.0 v.1.1.0 v.1.1.1.0 v.1.1.1.1.0 v.1.1.1.1.1.0 v.1.1.1.1.1.1.0
queue_made queue_kind.DeclareOk v = queue_method.DeclareOk v.0 v.1.0 v.1.1.0
queue_made queue_kind.Bind v = queue_method.Bind v.0 v.1.0 v.1.1.0 v.1.1.1.0 v.1.1.1.1.0
queue_made queue_kind.BindOk v = queue_method.BindOk
queue_made queue_kind.Purge v = queue_method.Purge v.0 v.1.0
queue_made queue_kind.PurgeOk v = queue_method.PurgeOk v.0
queue_made queue_kind.Delete v = queue_method.Delete v.0 v.1.0 v.1.1.0 v.1.1.1.0
queue_made queue_kind.DeleteOk v = queue_method.DeleteOk v.0
queue_made queue_kind.Unbind v = queue_method.Unbind v.0 v.1.0 v.1.1.0 v.1.1.1.0
queue_made queue_kind.UnbindOk v = queue_method.UnbindOk

-- the kind of a method of class queue, and the values of its fields in order
abbrev pub queue_parts : QueueMethod → (k : QueueKind) × Values (queue_fields k)
queue_parts (queue_method.Declare queue passive durable exclusive auto_delete nowait arguments) = (queue_kind.Declare, (queue, (passive, (durable, (exclusive, (auto_delete, (nowait, (arguments, tt))))))))
queue_parts (queue_method.DeclareOk queue message_count consumer_count) = (queue_kind.DeclareOk, (queue, (message_count, (consumer_count, tt))))
queue_parts (queue_method.Bind queue exchange routing_key nowait arguments) = (queue_kind.Bind, (queue, (exchange, (routing_key, (nowait, (arguments, tt))))))
queue_parts queue_method.BindOk = (queue_kind.BindOk, tt)
queue_parts (queue_method.Purge queue nowait) = (queue_kind.Purge, (queue, (nowait, tt)))
queue_parts (queue_method.PurgeOk message_count) = (queue_kind.PurgeOk, (message_count, tt))
queue_parts (queue_method.Delete queue if_unused if_empty nowait) = (queue_kind.Delete, (queue, (if_unused, (if_empty, (nowait, tt)))))
queue_parts (queue_method.DeleteOk message_count) = (queue_kind.DeleteOk, (message_count, tt))
queue_parts (queue_method.Unbind queue exchange routing_key arguments) = (queue_kind.Unbind, (queue, (exchange, (routing_key, (arguments, tt)))))
queue_parts queue_method.UnbindOk = (queue_kind.UnbindOk, tt)

-- the text of a method of class queue, as tokens: its name, and then each field in order
abbrev pub queue_tokens : QueueMethod → List (List ℕ)
queue_tokens (queue_method.Declare queue passive durable exclusive auto_delete nowait arguments) = codes "queue.declare" ∷ token text queue ∷ token flag passive ∷ token flag durable ∷ token flag exclusive ∷ token flag auto_delete ∷ token flag nowait ∷ token table arguments ∷ []
queue_tokens (queue_method.DeclareOk queue message_count consumer_count) = codes "queue.declare-ok" ∷ token text queue ∷ token long_number message_count ∷ token long_number consumer_count ∷ []
queue_tokens (queue_method.Bind queue exchange routing_key nowait arguments) = codes "queue.bind" ∷ token text queue ∷ token text exchange ∷ token text routing_key ∷ token flag nowait ∷ token table arguments ∷ []
queue_tokens queue_method.BindOk = codes "queue.bind-ok" ∷ []
queue_tokens (queue_method.Purge queue nowait) = codes "queue.purge" ∷ token text queue ∷ token flag nowait ∷ []
queue_tokens (queue_method.PurgeOk message_count) = codes "queue.purge-ok" ∷ token long_number message_count ∷ []
queue_tokens (queue_method.Delete queue if_unused if_empty nowait) = codes "queue.delete" ∷ token text queue ∷ token flag if_unused ∷ token flag if_empty ∷ token flag nowait ∷ []
queue_tokens (queue_method.DeleteOk message_count) = codes "queue.delete-ok" ∷ token long_number message_count ∷ []
queue_tokens (queue_method.Unbind queue exchange routing_key arguments) = codes "queue.unbind" ∷ token text queue ∷ token text exchange ∷ token text routing_key ∷ token table arguments ∷ []
queue_tokens queue_method.UnbindOk = codes "queue.unbind-ok" ∷ []

-- ---- basic (AMQP 0-9-1, class 60, with RabbitMQ's nack)

-- the name of a method of class basic by its kind, as "basic.publish"
abbrev pub basic_name : BasicKind → List ℕ
basic_name basic_kind.Qos = codes "basic.qos"
basic_name basic_kind.QosOk = codes "basic.qos-ok"
basic_name basic_kind.Consume = codes "basic.consume"
basic_name basic_kind.ConsumeOk = codes "basic.consume-ok"
basic_name basic_kind.Cancel = codes "basic.cancel"
basic_name basic_kind.CancelOk = codes "basic.cancel-ok"
basic_name basic_kind.Publish = codes "basic.publish"
basic_name basic_kind.Return = codes "basic.return"
basic_name basic_kind.Deliver = codes "basic.deliver"
basic_name basic_kind.Get = codes "basic.get"
basic_name basic_kind.GetOk = codes "basic.get-ok"
basic_name basic_kind.GetEmpty = codes "basic.get-empty"
basic_name basic_kind.Ack = codes "basic.ack"
basic_name basic_kind.Reject = codes "basic.reject"
basic_name basic_kind.RecoverAsync = codes "basic.recover-async"
basic_name basic_kind.Recover = codes "basic.recover"
basic_name basic_kind.RecoverOk = codes "basic.recover-ok"
basic_name basic_kind.Nack = codes "basic.nack"

-- the kinds of the fields that a method of class basic carries, in the order of its text
abbrev pub basic_fields : BasicKind → List Field
basic_fields basic_kind.Qos = short_number ∷ flag ∷ []
basic_fields basic_kind.QosOk = []
basic_fields basic_kind.Consume = text ∷ text ∷ flag ∷ flag ∷ flag ∷ flag ∷ table ∷ []
basic_fields basic_kind.ConsumeOk = text ∷ []
basic_fields basic_kind.Cancel = text ∷ flag ∷ []
basic_fields basic_kind.CancelOk = text ∷ []
basic_fields basic_kind.Publish = text ∷ text ∷ flag ∷ flag ∷ []
basic_fields basic_kind.Return = short_number ∷ text ∷ text ∷ text ∷ []
basic_fields basic_kind.Deliver = text ∷ wide_number ∷ flag ∷ text ∷ text ∷ []
basic_fields basic_kind.Get = text ∷ flag ∷ []
basic_fields basic_kind.GetOk = wide_number ∷ flag ∷ text ∷ text ∷ long_number ∷ []
basic_fields basic_kind.GetEmpty = []
basic_fields basic_kind.Ack = wide_number ∷ flag ∷ []
basic_fields basic_kind.Reject = wide_number ∷ flag ∷ []
basic_fields basic_kind.RecoverAsync = flag ∷ []
basic_fields basic_kind.Recover = flag ∷ []
basic_fields basic_kind.RecoverOk = []
basic_fields basic_kind.Nack = wide_number ∷ flag ∷ flag ∷ []

-- the method of class basic of a kind, with these values as its fields
abbrev pub basic_made : (k : BasicKind) → Values (basic_fields k) → BasicMethod
basic_made basic_kind.Qos v = basic_method.Qos v.0 v.1.0
basic_made basic_kind.QosOk v = basic_method.QosOk
basic_made basic_kind.Consume v = basic_method.Consume v.0 v.1.0 v.1.1.0 v.1.1.1.0 v.1.1.1.1.0 v.1.1.1.1.1.0 v.1.1.1.1.1.1.0
basic_made basic_kind.ConsumeOk v = basic_method.ConsumeOk v.0
basic_made basic_kind.Cancel v = basic_method.Cancel v.0 v.1.0
basic_made basic_kind.CancelOk v = basic_method.CancelOk v.0
basic_made basic_kind.Publish v = basic_method.Publish v.0 v.1.0 v.1.1.0 v.1.1.1.0
basic_made basic_kind.Return v = basic_method.Return v.0 v.1.0 v.1.1.0 v.1.1.1.0
basic_made basic_kind.Deliver v = basic_method.Deliver v.0 v.1.0 v.1.1.0 v.1.1.1.0 v.1.1.1.1.0
basic_made basic_kind.Get v = basic_method.Get v.0 v.1.0
basic_made basic_kind.GetOk v = basic_method.GetOk v.0 v.1.0 v.1.1.0 v.1.1.1.0 v.1.1.1.1.0
basic_made basic_kind.GetEmpty v = basic_method.GetEmpty
basic_made basic_kind.Ack v = basic_method.Ack v.0 v.1.0
basic_made basic_kind.Reject v = basic_method.Reject v.0 v.1.0
basic_made basic_kind.RecoverAsync v = basic_method.RecoverAsync v.0
basic_made basic_kind.Recover v = basic_method.Recover v.0
basic_made basic_kind.RecoverOk v = basic_method.RecoverOk
basic_made basic_kind.Nack v = basic_method.Nack v.0 v.1.0 v.1.1.0

-- the kind of a method of class basic, and the values of its fields in order
abbrev pub basic_parts : BasicMethod → (k : BasicKind) × Values (basic_fields k)
basic_parts (basic_method.Qos prefetch_count global) = (basic_kind.Qos, (prefetch_count, (global, tt)))
basic_parts basic_method.QosOk = (basic_kind.QosOk, tt)
basic_parts (basic_method.Consume queue consumer_tag no_local no_ack exclusive nowait arguments) = (basic_kind.Consume, (queue, (consumer_tag, (no_local, (no_ack, (exclusive, (nowait, (arguments, tt))))))))
basic_parts (basic_method.ConsumeOk consumer_tag) = (basic_kind.ConsumeOk, (consumer_tag, tt))
basic_parts (basic_method.Cancel consumer_tag nowait) = (basic_kind.Cancel, (consumer_tag, (nowait, tt)))
basic_parts (basic_method.CancelOk consumer_tag) = (basic_kind.CancelOk, (consumer_tag, tt))
basic_parts (basic_method.Publish exchange routing_key mandatory immediate) = (basic_kind.Publish, (exchange, (routing_key, (mandatory, (immediate, tt)))))
basic_parts (basic_method.Return reply_code reply_text exchange routing_key) = (basic_kind.Return, (reply_code, (reply_text, (exchange, (routing_key, tt)))))
basic_parts (basic_method.Deliver consumer_tag delivery_tag redelivered exchange routing_key) = (basic_kind.Deliver, (consumer_tag, (delivery_tag, (redelivered, (exchange, (routing_key, tt))))))
basic_parts (basic_method.Get queue no_ack) = (basic_kind.Get, (queue, (no_ack, tt)))
basic_parts (basic_method.GetOk delivery_tag redelivered exchange routing_key message_count) = (basic_kind.GetOk, (delivery_tag, (redelivered, (exchange, (routing_key, (message_count, tt))))))
basic_parts basic_method.GetEmpty = (basic_kind.GetEmpty, tt)
basic_parts (basic_method.Ack delivery_tag multiple) = (basic_kind.Ack, (delivery_tag, (multiple, tt)))
basic_parts (basic_method.Reject delivery_tag requeue) = (basic_kind.Reject, (delivery_tag, (requeue, tt)))
basic_parts (basic_method.RecoverAsync requeue) = (basic_kind.RecoverAsync, (requeue, tt))
basic_parts (basic_method.Recover requeue) = (basic_kind.Recover, (requeue, tt))
basic_parts basic_method.RecoverOk = (basic_kind.RecoverOk, tt)
basic_parts (basic_method.Nack delivery_tag multiple requeue) = (basic_kind.Nack, (delivery_tag, (multiple, (requeue, tt))))

-- the text of a method of class basic, as tokens: its name, and then each field in order
abbrev pub basic_tokens : BasicMethod → List (List ℕ)
basic_tokens (basic_method.Qos prefetch_count global) = codes "basic.qos" ∷ token short_number prefetch_count ∷ token flag global ∷ []
basic_tokens basic_method.QosOk = codes "basic.qos-ok" ∷ []
basic_tokens (basic_method.Consume queue consumer_tag no_local no_ack exclusive nowait arguments) = codes "basic.consume" ∷ token text queue ∷ token text consumer_tag ∷ token flag no_local ∷ token flag no_ack ∷ token flag exclusive ∷ token flag nowait ∷ token table arguments ∷ []
basic_tokens (basic_method.ConsumeOk consumer_tag) = codes "basic.consume-ok" ∷ token text consumer_tag ∷ []
basic_tokens (basic_method.Cancel consumer_tag nowait) = codes "basic.cancel" ∷ token text consumer_tag ∷ token flag nowait ∷ []
basic_tokens (basic_method.CancelOk consumer_tag) = codes "basic.cancel-ok" ∷ token text consumer_tag ∷ []
basic_tokens (basic_method.Publish exchange routing_key mandatory immediate) = codes "basic.publish" ∷ token text exchange ∷ token text routing_key ∷ token flag mandatory ∷ token flag immediate ∷ []
basic_tokens (basic_method.Return reply_code reply_text exchange routing_key) = codes "basic.return" ∷ token short_number reply_code ∷ token text reply_text ∷ token text exchange ∷ token text routing_key ∷ []
basic_tokens (basic_method.Deliver consumer_tag delivery_tag redelivered exchange routing_key) = codes "basic.deliver" ∷ token text consumer_tag ∷ token wide_number delivery_tag ∷ token flag redelivered ∷ token text exchange ∷ token text routing_key ∷ []
basic_tokens (basic_method.Get queue no_ack) = codes "basic.get" ∷ token text queue ∷ token flag no_ack ∷ []
basic_tokens (basic_method.GetOk delivery_tag redelivered exchange routing_key message_count) = codes "basic.get-ok" ∷ token wide_number delivery_tag ∷ token flag redelivered ∷ token text exchange ∷ token text routing_key ∷ token long_number message_count ∷ []
basic_tokens basic_method.GetEmpty = codes "basic.get-empty" ∷ []
basic_tokens (basic_method.Ack delivery_tag multiple) = codes "basic.ack" ∷ token wide_number delivery_tag ∷ token flag multiple ∷ []
basic_tokens (basic_method.Reject delivery_tag requeue) = codes "basic.reject" ∷ token wide_number delivery_tag ∷ token flag requeue ∷ []
basic_tokens (basic_method.RecoverAsync requeue) = codes "basic.recover-async" ∷ token flag requeue ∷ []
basic_tokens (basic_method.Recover requeue) = codes "basic.recover" ∷ token flag requeue ∷ []
basic_tokens basic_method.RecoverOk = codes "basic.recover-ok" ∷ []
basic_tokens (basic_method.Nack delivery_tag multiple requeue) = codes "basic.nack" ∷ token wide_number delivery_tag ∷ token flag multiple ∷ token flag requeue ∷ []

-- ---- confirm (class 85, RabbitMQ's publisher confirms)

-- the name of a method of class confirm by its kind, as "confirm.select"
abbrev pub confirm_name : ConfirmKind → List ℕ
confirm_name confirm_kind.Select = codes "confirm.select"
confirm_name confirm_kind.SelectOk = codes "confirm.select-ok"

-- the kinds of the fields that a method of class confirm carries, in the order of its text
abbrev pub confirm_fields : ConfirmKind → List Field
confirm_fields confirm_kind.Select = flag ∷ []
confirm_fields confirm_kind.SelectOk = []

-- the method of class confirm of a kind, with these values as its fields
abbrev pub confirm_made : (k : ConfirmKind) → Values (confirm_fields k) → ConfirmMethod
confirm_made confirm_kind.Select v = confirm_method.Select v.0
confirm_made confirm_kind.SelectOk v = confirm_method.SelectOk

-- the kind of a method of class confirm, and the values of its fields in order
abbrev pub confirm_parts : ConfirmMethod → (k : ConfirmKind) × Values (confirm_fields k)
confirm_parts (confirm_method.Select nowait) = (confirm_kind.Select, (nowait, tt))
confirm_parts confirm_method.SelectOk = (confirm_kind.SelectOk, tt)

-- the text of a method of class confirm, as tokens: its name, and then each field in order
abbrev pub confirm_tokens : ConfirmMethod → List (List ℕ)
confirm_tokens (confirm_method.Select nowait) = codes "confirm.select" ∷ token flag nowait ∷ []
confirm_tokens confirm_method.SelectOk = codes "confirm.select-ok" ∷ []

-- ---- tx (AMQP 0-9-1, class 90)

-- the name of a method of class tx by its kind, as "tx.commit"
abbrev pub tx_name : TxKind → List ℕ
tx_name tx_kind.Select = codes "tx.select"
tx_name tx_kind.SelectOk = codes "tx.select-ok"
tx_name tx_kind.Commit = codes "tx.commit"
tx_name tx_kind.CommitOk = codes "tx.commit-ok"
tx_name tx_kind.Rollback = codes "tx.rollback"
tx_name tx_kind.RollbackOk = codes "tx.rollback-ok"

-- the kinds of the fields that a method of class tx carries, in the order of its text
abbrev pub tx_fields : TxKind → List Field
tx_fields tx_kind.Select = []
tx_fields tx_kind.SelectOk = []
tx_fields tx_kind.Commit = []
tx_fields tx_kind.CommitOk = []
tx_fields tx_kind.Rollback = []
tx_fields tx_kind.RollbackOk = []

-- the method of class tx of a kind, with these values as its fields
abbrev pub tx_made : (k : TxKind) → Values (tx_fields k) → TxMethod
tx_made tx_kind.Select v = tx_method.Select
tx_made tx_kind.SelectOk v = tx_method.SelectOk
tx_made tx_kind.Commit v = tx_method.Commit
tx_made tx_kind.CommitOk v = tx_method.CommitOk
tx_made tx_kind.Rollback v = tx_method.Rollback
tx_made tx_kind.RollbackOk v = tx_method.RollbackOk

-- the kind of a method of class tx, and the values of its fields in order
abbrev pub tx_parts : TxMethod → (k : TxKind) × Values (tx_fields k)
tx_parts tx_method.Select = (tx_kind.Select, tt)
tx_parts tx_method.SelectOk = (tx_kind.SelectOk, tt)
tx_parts tx_method.Commit = (tx_kind.Commit, tt)
tx_parts tx_method.CommitOk = (tx_kind.CommitOk, tt)
tx_parts tx_method.Rollback = (tx_kind.Rollback, tt)
tx_parts tx_method.RollbackOk = (tx_kind.RollbackOk, tt)

-- the text of a method of class tx, as tokens: its name, and then each field in order
abbrev pub tx_tokens : TxMethod → List (List ℕ)
tx_tokens tx_method.Select = codes "tx.select" ∷ []
tx_tokens tx_method.SelectOk = codes "tx.select-ok" ∷ []
tx_tokens tx_method.Commit = codes "tx.commit" ∷ []
tx_tokens tx_method.CommitOk = codes "tx.commit-ok" ∷ []
tx_tokens tx_method.Rollback = codes "tx.rollback" ∷ []
tx_tokens tx_method.RollbackOk = codes "tx.rollback-ok" ∷ []

-- ---- all classes

-- the name of a method of any class, as "basic.publish": the word that its text begins with
abbrev pub method_name : MethodKind → List ℕ
method_name (kind.Connection k) = connection_name k
method_name (kind.Channel k) = channel_name k
method_name (kind.Access k) = access_name k
method_name (kind.Exchange k) = exchange_name k
method_name (kind.Queue k) = queue_name k
method_name (kind.Basic k) = basic_name k
method_name (kind.Confirm k) = confirm_name k
method_name (kind.Tx k) = tx_name k

-- a method's name and the tokens of its fields
abbrev pub method_tokens : Method → List (List ℕ)
method_tokens (method.Connection m) = connection_tokens m
method_tokens (method.Channel m) = channel_tokens m
method_tokens (method.Access m) = access_tokens m
method_tokens (method.Exchange m) = exchange_tokens m
method_tokens (method.Queue m) = queue_tokens m
method_tokens (method.Basic m) = basic_tokens m
method_tokens (method.Confirm m) = confirm_tokens m
method_tokens (method.Tx m) = tx_tokens m

-- the methods that have a text: each field has a token
abbrev pub MethodFits : Method → Type 0
MethodFits (method.Connection m) = EntryFits connection_fields (connection_parts m)
MethodFits (method.Channel m) = EntryFits channel_fields (channel_parts m)
MethodFits (method.Access m) = EntryFits access_fields (access_parts m)
MethodFits (method.Exchange m) = EntryFits exchange_fields (exchange_parts m)
MethodFits (method.Queue m) = EntryFits queue_fields (queue_parts m)
MethodFits (method.Basic m) = EntryFits basic_fields (basic_parts m)
MethodFits (method.Confirm m) = EntryFits confirm_fields (confirm_parts m)
MethodFits (method.Tx m) = EntryFits tx_fields (tx_parts m)
