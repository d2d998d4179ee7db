-- Reading the fields of a method of a number, in the order that they are written in. What the standard reserves is passed over whatever
-- it is, and so are the bits of an octet of flags that no flag has. A table of arguments is carried as the octets that it is. A reply text, and the
-- exchange and the routing key of a message that the broker tells, are read whatever their octets are: a stranger gave them.
use Rattle.std.specs.Prelude.{ℕ, ◌==◌, List, Option, Some, None, if◌then◌else◌}
use Rattle.lapin_methods.specs.declared.method.Method.{Method}
use Rattle.lapin_methods.specs.declared.method.Method.TheVariants as method
use Rattle.lapin_fields.specs.Opaque.{opaque_at}
use Rattle.lapin_fields.specs.Reading.{◌>>=◌, octet_at, short_at, long_at, wide_at, text_at, reply_at, counted_at, string_at, bit_at}
use Rattle.lapin_methods.specs.declared.connection.ConnectionMethod.{ConnectionMethod}
use Rattle.lapin_methods.specs.declared.connection.ConnectionMethod.TheVariants as connection_method
use Rattle.lapin_methods.specs.declared.channel.ChannelMethod.{ChannelMethod}
use Rattle.lapin_methods.specs.declared.channel.ChannelMethod.TheVariants as channel_method
use Rattle.lapin_methods.specs.declared.access.AccessMethod.{AccessMethod}
use Rattle.lapin_methods.specs.declared.access.AccessMethod.TheVariants as access_method
use Rattle.lapin_methods.specs.declared.confirm.ConfirmMethod.{ConfirmMethod}
use Rattle.lapin_methods.specs.declared.confirm.ConfirmMethod.TheVariants as confirm_method
use Rattle.lapin_methods.specs.declared.tx.TxMethod.{TxMethod}
use Rattle.lapin_methods.specs.declared.tx.TxMethod.TheVariants as tx_method
use Rattle.lapin_methods.specs.declared.exchange.ExchangeMethod.{ExchangeMethod}
use Rattle.lapin_methods.specs.declared.exchange.ExchangeMethod.TheVariants as exchange_method
use Rattle.lapin_methods.specs.declared.queue.QueueMethod.{QueueMethod}
use Rattle.lapin_methods.specs.declared.queue.QueueMethod.TheVariants as queue_method
use Rattle.lapin_methods.specs.declared.basic.BasicMethod.{BasicMethod}
use Rattle.lapin_methods.specs.declared.basic.BasicMethod.TheVariants as basic_method

-- a method of the class connection
abbrev pub connection_at : ℕ → List ℕ → Option (ConnectionMethod × List ℕ)
connection_at n bytes =
    if n == 50 then (short_at bytes >>= λ reply_code. reply_at reply_code.1 >>= λ reply_text. short_at reply_text.1 >>= λ class_id. short_at class_id.1 >>= λ method_id. Some ((connection_method.Close reply_code.0 reply_text.0 class_id.0 method_id.0), method_id.1)) else
    if n == 51 then (Some (connection_method.CloseOk, bytes)) else
    None

-- a method of the class channel
abbrev pub channel_at : ℕ → List ℕ → Option (ChannelMethod × List ℕ)
channel_at n bytes =
    if n == 10 then (string_at bytes >>= λ r1. Some (channel_method.Open, r1.1)) else
    if n == 11 then (counted_at bytes >>= λ r1. Some (channel_method.OpenOk, r1.1)) else
    if n == 20 then (octet_at bytes >>= λ flags. Some ((channel_method.Flow (bit_at 1 flags.0)), flags.1)) else
    if n == 21 then (octet_at bytes >>= λ flags. Some ((channel_method.FlowOk (bit_at 1 flags.0)), flags.1)) else
    if n == 40 then (short_at bytes >>= λ reply_code. reply_at reply_code.1 >>= λ reply_text. short_at reply_text.1 >>= λ class_id. short_at class_id.1 >>= λ method_id. Some ((channel_method.Close reply_code.0 reply_text.0 class_id.0 method_id.0), method_id.1)) else
    if n == 41 then (Some (channel_method.CloseOk, bytes)) else
    None

-- a method of the class access
abbrev pub access_at : ℕ → List ℕ → Option (AccessMethod × List ℕ)
access_at n bytes =
    if n == 10 then (text_at bytes >>= λ realm. octet_at realm.1 >>= λ flags. Some ((access_method.Request realm.0 (bit_at 1 flags.0) (bit_at 2 flags.0) (bit_at 4 flags.0) (bit_at 8 flags.0) (bit_at 16 flags.0)), flags.1)) else
    if n == 11 then (short_at bytes >>= λ r1. Some (access_method.RequestOk, r1.1)) else
    None

-- a method of the class confirm
abbrev pub confirm_at : ℕ → List ℕ → Option (ConfirmMethod × List ℕ)
confirm_at n bytes =
    if n == 10 then (octet_at bytes >>= λ flags. Some ((confirm_method.Select (bit_at 1 flags.0)), flags.1)) else
    if n == 11 then (Some (confirm_method.SelectOk, bytes)) else
    None

-- a method of the class tx
abbrev pub tx_at : ℕ → List ℕ → Option (TxMethod × List ℕ)
tx_at n bytes =
    if n == 10 then (Some (tx_method.Select, bytes)) else
    if n == 11 then (Some (tx_method.SelectOk, bytes)) else
    if n == 20 then (Some (tx_method.Commit, bytes)) else
    if n == 21 then (Some (tx_method.CommitOk, bytes)) else
    if n == 30 then (Some (tx_method.Rollback, bytes)) else
    if n == 31 then (Some (tx_method.RollbackOk, bytes)) else
    None

-- a method of the class exchange
abbrev pub exchange_at : ℕ → List ℕ → Option (ExchangeMethod × List ℕ)
exchange_at n bytes =
    if n == 10 then (short_at bytes >>= λ r1. text_at r1.1 >>= λ exchange. text_at exchange.1 >>= λ kind. octet_at kind.1 >>= λ flags. opaque_at flags.1 >>= λ arguments. Some ((exchange_method.Declare exchange.0 kind.0 (bit_at 1 flags.0) (bit_at 2 flags.0) (bit_at 4 flags.0) (bit_at 8 flags.0) (bit_at 16 flags.0) arguments.0), arguments.1)) else
    if n == 11 then (Some (exchange_method.DeclareOk, bytes)) else
    if n == 20 then (short_at bytes >>= λ r1. text_at r1.1 >>= λ exchange. octet_at exchange.1 >>= λ flags. Some ((exchange_method.Delete exchange.0 (bit_at 1 flags.0) (bit_at 2 flags.0)), flags.1)) else
    if n == 21 then (Some (exchange_method.DeleteOk, bytes)) else
    if n == 30 then (short_at bytes >>= λ r1. text_at r1.1 >>= λ destination. text_at destination.1 >>= λ source. text_at source.1 >>= λ routing_key. octet_at routing_key.1 >>= λ flags. opaque_at flags.1 >>= λ arguments. Some ((exchange_method.Bind destination.0 source.0 routing_key.0 (bit_at 1 flags.0) arguments.0), arguments.1)) else
    if n == 31 then (Some (exchange_method.BindOk, bytes)) else
    if n == 40 then (short_at bytes >>= λ r1. text_at r1.1 >>= λ destination. text_at destination.1 >>= λ source. text_at source.1 >>= λ routing_key. octet_at routing_key.1 >>= λ flags. opaque_at flags.1 >>= λ arguments. Some ((exchange_method.Unbind destination.0 source.0 routing_key.0 (bit_at 1 flags.0) arguments.0), arguments.1)) else
    if n == 51 then (Some (exchange_method.UnbindOk, bytes)) else
    None

-- a method of the class queue
abbrev pub queue_at : ℕ → List ℕ → Option (QueueMethod × List ℕ)
queue_at n bytes =
    if n == 10 then (short_at bytes >>= λ r1. text_at r1.1 >>= λ queue. octet_at queue.1 >>= λ flags. opaque_at flags.1 >>= λ arguments. Some ((queue_method.Declare queue.0 (bit_at 1 flags.0) (bit_at 2 flags.0) (bit_at 4 flags.0) (bit_at 8 flags.0) (bit_at 16 flags.0) arguments.0), arguments.1)) else
    if n == 11 then (text_at bytes >>= λ queue. long_at queue.1 >>= λ message_count. long_at message_count.1 >>= λ consumer_count. Some ((queue_method.DeclareOk queue.0 message_count.0 consumer_count.0), consumer_count.1)) else
    if n == 20 then (short_at bytes >>= λ r1. text_at r1.1 >>= λ queue. text_at queue.1 >>= λ exchange. text_at exchange.1 >>= λ routing_key. octet_at routing_key.1 >>= λ flags. opaque_at flags.1 >>= λ arguments. Some ((queue_method.Bind queue.0 exchange.0 routing_key.0 (bit_at 1 flags.0) arguments.0), arguments.1)) else
    if n == 21 then (Some (queue_method.BindOk, bytes)) else
    if n == 30 then (short_at bytes >>= λ r1. text_at r1.1 >>= λ queue. octet_at queue.1 >>= λ flags. Some ((queue_method.Purge queue.0 (bit_at 1 flags.0)), flags.1)) else
    if n == 31 then (long_at bytes >>= λ message_count. Some ((queue_method.PurgeOk message_count.0), message_count.1)) else
    if n == 40 then (short_at bytes >>= λ r1. text_at r1.1 >>= λ queue. octet_at queue.1 >>= λ flags. Some ((queue_method.Delete queue.0 (bit_at 1 flags.0) (bit_at 2 flags.0) (bit_at 4 flags.0)), flags.1)) else
    if n == 41 then (long_at bytes >>= λ message_count. Some ((queue_method.DeleteOk message_count.0), message_count.1)) else
    if n == 50 then (short_at bytes >>= λ r1. text_at r1.1 >>= λ queue. text_at queue.1 >>= λ exchange. text_at exchange.1 >>= λ routing_key. opaque_at routing_key.1 >>= λ arguments. Some ((queue_method.Unbind queue.0 exchange.0 routing_key.0 arguments.0), arguments.1)) else
    if n == 51 then (Some (queue_method.UnbindOk, bytes)) else
    None

-- a method of the class basic
abbrev pub basic_at : ℕ → List ℕ → Option (BasicMethod × List ℕ)
basic_at n bytes =
    if n == 10 then (long_at bytes >>= λ r1. short_at r1.1 >>= λ prefetch_count. octet_at prefetch_count.1 >>= λ flags. Some ((basic_method.Qos prefetch_count.0 (bit_at 1 flags.0)), flags.1)) else
    if n == 11 then (Some (basic_method.QosOk, bytes)) else
    if n == 20 then (short_at bytes >>= λ r1. text_at r1.1 >>= λ queue. text_at queue.1 >>= λ consumer_tag. octet_at consumer_tag.1 >>= λ flags. opaque_at flags.1 >>= λ arguments. Some ((basic_method.Consume queue.0 consumer_tag.0 (bit_at 1 flags.0) (bit_at 2 flags.0) (bit_at 4 flags.0) (bit_at 8 flags.0) arguments.0), arguments.1)) else
    if n == 21 then (text_at bytes >>= λ consumer_tag. Some ((basic_method.ConsumeOk consumer_tag.0), consumer_tag.1)) else
    if n == 30 then (text_at bytes >>= λ consumer_tag. octet_at consumer_tag.1 >>= λ flags. Some ((basic_method.Cancel consumer_tag.0 (bit_at 1 flags.0)), flags.1)) else
    if n == 31 then (text_at bytes >>= λ consumer_tag. Some ((basic_method.CancelOk consumer_tag.0), consumer_tag.1)) else
    if n == 40 then (short_at bytes >>= λ r1. text_at r1.1 >>= λ exchange. text_at exchange.1 >>= λ routing_key. octet_at routing_key.1 >>= λ flags. Some ((basic_method.Publish exchange.0 routing_key.0 (bit_at 1 flags.0) (bit_at 2 flags.0)), flags.1)) else
    if n == 50 then (short_at bytes >>= λ reply_code. reply_at reply_code.1 >>= λ reply_text. reply_at reply_text.1 >>= λ exchange. reply_at exchange.1 >>= λ routing_key. Some ((basic_method.Return reply_code.0 reply_text.0 exchange.0 routing_key.0), routing_key.1)) else
    if n == 60 then (text_at bytes >>= λ consumer_tag. wide_at consumer_tag.1 >>= λ delivery_tag. octet_at delivery_tag.1 >>= λ flags. reply_at flags.1 >>= λ exchange. reply_at exchange.1 >>= λ routing_key. Some ((basic_method.Deliver consumer_tag.0 delivery_tag.0 (bit_at 1 flags.0) exchange.0 routing_key.0), routing_key.1)) else
    if n == 70 then (short_at bytes >>= λ r1. text_at r1.1 >>= λ queue. octet_at queue.1 >>= λ flags. Some ((basic_method.Get queue.0 (bit_at 1 flags.0)), flags.1)) else
    if n == 71 then (wide_at bytes >>= λ delivery_tag. octet_at delivery_tag.1 >>= λ flags. reply_at flags.1 >>= λ exchange. reply_at exchange.1 >>= λ routing_key. long_at routing_key.1 >>= λ message_count. Some ((basic_method.GetOk delivery_tag.0 (bit_at 1 flags.0) exchange.0 routing_key.0 message_count.0), message_count.1)) else
    if n == 72 then (string_at bytes >>= λ r1. Some (basic_method.GetEmpty, r1.1)) else
    if n == 80 then (wide_at bytes >>= λ delivery_tag. octet_at delivery_tag.1 >>= λ flags. Some ((basic_method.Ack delivery_tag.0 (bit_at 1 flags.0)), flags.1)) else
    if n == 90 then (wide_at bytes >>= λ delivery_tag. octet_at delivery_tag.1 >>= λ flags. Some ((basic_method.Reject delivery_tag.0 (bit_at 1 flags.0)), flags.1)) else
    if n == 100 then (octet_at bytes >>= λ flags. Some ((basic_method.RecoverAsync (bit_at 1 flags.0)), flags.1)) else
    if n == 110 then (octet_at bytes >>= λ flags. Some ((basic_method.Recover (bit_at 1 flags.0)), flags.1)) else
    if n == 111 then (Some (basic_method.RecoverOk, bytes)) else
    if n == 120 then (wide_at bytes >>= λ delivery_tag. octet_at delivery_tag.1 >>= λ flags. Some ((basic_method.Nack delivery_tag.0 (bit_at 1 flags.0) (bit_at 2 flags.0)), flags.1)) else
    None

-- a method of a class, from its number on
abbrev pub of_class : ℕ → ℕ → List ℕ → Option (Method × List ℕ)
of_class class n bytes =
    if class == 10 then (connection_at n bytes >>= λ m. Some (method.Connection m.0, m.1)) else
    if class == 20 then (channel_at n bytes >>= λ m. Some (method.Channel m.0, m.1)) else
    if class == 30 then (access_at n bytes >>= λ m. Some (method.Access m.0, m.1)) else
    if class == 40 then (exchange_at n bytes >>= λ m. Some (method.Exchange m.0, m.1)) else
    if class == 50 then (queue_at n bytes >>= λ m. Some (method.Queue m.0, m.1)) else
    if class == 60 then (basic_at n bytes >>= λ m. Some (method.Basic m.0, m.1)) else
    if class == 85 then (confirm_at n bytes >>= λ m. Some (method.Confirm m.0, m.1)) else
    if class == 90 then (tx_at n bytes >>= λ m. Some (method.Tx m.0, m.1)) else
    None

-- the method that the octets begin with
abbrev pub method_at : List ℕ → Option (Method × List ℕ)
method_at bytes = short_at bytes >>= λ class. short_at class.1 >>= λ n. of_class class.0 n.0 n.1
