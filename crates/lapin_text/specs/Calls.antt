-- Which call queues which method: a table from calls to methods, and one back, a line a call in each. The text of calls goes by them.
use Rattle.std.specs.Prelude.{◌≡◌, ℕ, Bool, false, ◌||◌, List, codes, Option, Some, None, if◌then◌else◌}
use Rattle.std.specs.Str.{bytes_eq}
use Rattle.lapin_types.specs.Types.{Method, ChannelMethod, AccessMethod, ExchangeMethod, QueueMethod, BasicMethod, ConfirmMethod, TxMethod}
use Rattle.lapin_types.specs.declared.call.Call.{Call}
use Rattle.lapin_types.specs.declared.call.Call.TheVariants as call
use Rattle.lapin_types.specs.Types.method
use Rattle.lapin_types.specs.Types.connection as connection_method
use Rattle.lapin_types.specs.Types.channel as channel_method
use Rattle.lapin_types.specs.Types.access as access_method
use Rattle.lapin_types.specs.Types.exchange as exchange_method
use Rattle.lapin_types.specs.Types.queue as queue_method
use Rattle.lapin_types.specs.Types.basic as basic_method
use Rattle.lapin_types.specs.Types.confirm as confirm_method
use Rattle.lapin_types.specs.Types.tx as tx_method
use Rattle.lapin_types.specs.declared.exchange_kind.ExchangeKind.{ExchangeKind}
use Rattle.lapin_types.specs.declared.exchange_kind.ExchangeKind.TheVariants as exchange_kind
use Rattle.lapin_types.specs.ExchangeKinds.{kind_text}

-- ---- kinds of exchanges

-- one of the standard's four words for the kind of an exchange
abbrev pub is_standard : List ℕ → Bool
is_standard name = bytes_eq name (codes "direct") || bytes_eq name (codes "fanout") || bytes_eq name (codes "headers") || bytes_eq name (codes "topic")

-- a kind that its text stands for: one of the four words stands for the named kind, so a custom kind with such a text has no line
abbrev pub IsNamed : ExchangeKind → Type 0
IsNamed (exchange_kind.Custom name) = is_standard name ≡ false
IsNamed _ = Unit {0}

-- the kind that a text stands for
abbrev pub kind_named : List ℕ → ExchangeKind
kind_named name =
    if bytes_eq name (codes "direct") then exchange_kind.Direct else
    if bytes_eq name (codes "fanout") then exchange_kind.Fanout else
    if bytes_eq name (codes "headers") then exchange_kind.Headers else
    if bytes_eq name (codes "topic") then exchange_kind.Topic else
    exchange_kind.Custom name

-- ---- the method that a call queues

-- The method that a call queues: the one of its name, with the arguments as fields. A close names no class and no method, a publish that
-- may be refused at the limit queues the method of a publish, and a call that sets the limit queues none.
abbrev pub method_of : Call → Option Method
method_of call.OpenChannel = Some (method.Channel channel_method.Open)
method_of (call.ConnectionClose reply_code reply_text) = Some (method.Connection (connection_method.Close reply_code reply_text 0 0))
method_of (call.ChannelClose reply_code reply_text) = Some (method.Channel (channel_method.Close reply_code reply_text 0 0))
method_of (call.ChannelFlow options) = Some (method.Channel (channel_method.Flow options.active))
method_of (call.AccessRequest realm options) = Some (method.Access (access_method.Request realm options.exclusive options.passive options.active options.write options.read))
method_of (call.ExchangeDeclare exchange kind options arguments) = Some (method.Exchange (exchange_method.Declare exchange (kind_text kind) options.passive options.durable options.auto_delete options.internal options.nowait arguments))
method_of (call.ExchangeDelete exchange options) = Some (method.Exchange (exchange_method.Delete exchange options.if_unused options.nowait))
method_of (call.ExchangeBind destination source routing_key options arguments) = Some (method.Exchange (exchange_method.Bind destination source routing_key options.nowait arguments))
method_of (call.ExchangeUnbind destination source routing_key options arguments) = Some (method.Exchange (exchange_method.Unbind destination source routing_key options.nowait arguments))
method_of (call.QueueDeclare queue options arguments) = Some (method.Queue (queue_method.Declare queue options.passive options.durable options.exclusive options.auto_delete options.nowait arguments))
method_of (call.QueueBind queue exchange routing_key options arguments) = Some (method.Queue (queue_method.Bind queue exchange routing_key options.nowait arguments))
method_of (call.QueuePurge queue options) = Some (method.Queue (queue_method.Purge queue options.nowait))
method_of (call.QueueDelete queue options) = Some (method.Queue (queue_method.Delete queue options.if_unused options.if_empty options.nowait))
method_of (call.QueueUnbind queue exchange routing_key arguments) = Some (method.Queue (queue_method.Unbind queue exchange routing_key arguments))
method_of (call.BasicQos prefetch_count options) = Some (method.Basic (basic_method.Qos prefetch_count options.global))
method_of (call.BasicConsume queue consumer_tag options arguments) = Some (method.Basic (basic_method.Consume queue consumer_tag options.no_local options.no_ack options.exclusive options.nowait arguments))
method_of (call.BasicCancel consumer_tag options) = Some (method.Basic (basic_method.Cancel consumer_tag options.nowait))
method_of (call.BasicPublish exchange routing_key options payload properties) = Some (method.Basic (basic_method.Publish exchange routing_key options.mandatory options.immediate))
method_of (call.TryBasicPublish exchange routing_key options payload properties) = Some (method.Basic (basic_method.Publish exchange routing_key options.mandatory options.immediate))
method_of (call.BasicGet queue options) = Some (method.Basic (basic_method.Get queue options.no_ack))
method_of (call.BasicAck delivery_tag options) = Some (method.Basic (basic_method.Ack delivery_tag options.multiple))
method_of (call.BasicNack delivery_tag options) = Some (method.Basic (basic_method.Nack delivery_tag options.multiple options.requeue))
method_of (call.BasicReject delivery_tag options) = Some (method.Basic (basic_method.Reject delivery_tag options.requeue))
method_of (call.BasicRecoverAsync options) = Some (method.Basic (basic_method.RecoverAsync options.requeue))
method_of (call.BasicRecover options) = Some (method.Basic (basic_method.Recover options.requeue))
method_of (call.ConfirmSelect options) = Some (method.Confirm (confirm_method.Select options.nowait))
method_of (call.ConfirmLimit limit) = None
method_of call.TxSelect = Some (method.Tx tx_method.Select)
method_of call.TxCommit = Some (method.Tx tx_method.Commit)
method_of call.TxRollback = Some (method.Tx tx_method.Rollback)

-- ---- the call that queues a method, a class at a time; none where no call does

-- the call that queues a method of class channel: an open or a flow; a close has a text of its own, and a reply no call
abbrev pub channel_call : ChannelMethod → Option Call
channel_call channel_method.Open = Some call.OpenChannel
channel_call (channel_method.Flow active) = Some (call.ChannelFlow (record { active = active }))
channel_call _ = None

-- the call that queues a method of class access: a request
abbrev pub access_call : AccessMethod → Option Call
access_call (access_method.Request realm exclusive passive active write read) = Some (call.AccessRequest realm (record { exclusive = exclusive; passive = passive; active = active; write = write; read = read }))
access_call _ = None

-- the call that queues a method of class exchange: a declare, a delete, a bind or an unbind
abbrev pub exchange_call : ExchangeMethod → Option Call
exchange_call (exchange_method.Declare exchange kind passive durable auto_delete internal nowait arguments) = Some (call.ExchangeDeclare exchange (kind_named kind) (record { passive = passive; durable = durable; auto_delete = auto_delete; internal = internal; nowait = nowait }) arguments)
exchange_call (exchange_method.Delete exchange if_unused nowait) = Some (call.ExchangeDelete exchange (record { if_unused = if_unused; nowait = nowait }))
exchange_call (exchange_method.Bind destination source routing_key nowait arguments) = Some (call.ExchangeBind destination source routing_key (record { nowait = nowait }) arguments)
exchange_call (exchange_method.Unbind destination source routing_key nowait arguments) = Some (call.ExchangeUnbind destination source routing_key (record { nowait = nowait }) arguments)
exchange_call _ = None

-- the call that queues a method of class queue: a declare, a bind, a purge, a delete or an unbind
abbrev pub queue_call : QueueMethod → Option Call
queue_call (queue_method.Declare queue passive durable exclusive auto_delete nowait arguments) = Some (call.QueueDeclare queue (record { passive = passive; durable = durable; exclusive = exclusive; auto_delete = auto_delete; nowait = nowait }) arguments)
queue_call (queue_method.Bind queue exchange routing_key nowait arguments) = Some (call.QueueBind queue exchange routing_key (record { nowait = nowait }) arguments)
queue_call (queue_method.Purge queue nowait) = Some (call.QueuePurge queue (record { nowait = nowait }))
queue_call (queue_method.Delete queue if_unused if_empty nowait) = Some (call.QueueDelete queue (record { if_unused = if_unused; if_empty = if_empty; nowait = nowait }))
queue_call (queue_method.Unbind queue exchange routing_key arguments) = Some (call.QueueUnbind queue exchange routing_key arguments)
queue_call _ = None

-- the call that queues a method of class basic and has its fields alone: none for a publish, which has a content besides
abbrev pub basic_call : BasicMethod → Option Call
basic_call (basic_method.Qos prefetch_count global) = Some (call.BasicQos prefetch_count (record { global = global }))
basic_call (basic_method.Consume queue consumer_tag no_local no_ack exclusive nowait arguments) = Some (call.BasicConsume queue consumer_tag (record { no_local = no_local; no_ack = no_ack; exclusive = exclusive; nowait = nowait }) arguments)
basic_call (basic_method.Cancel consumer_tag nowait) = Some (call.BasicCancel consumer_tag (record { nowait = nowait }))
basic_call (basic_method.Get queue no_ack) = Some (call.BasicGet queue (record { no_ack = no_ack }))
basic_call (basic_method.Ack delivery_tag multiple) = Some (call.BasicAck delivery_tag (record { multiple = multiple }))
basic_call (basic_method.Nack delivery_tag multiple requeue) = Some (call.BasicNack delivery_tag (record { multiple = multiple; requeue = requeue }))
basic_call (basic_method.Reject delivery_tag requeue) = Some (call.BasicReject delivery_tag (record { requeue = requeue }))
basic_call (basic_method.RecoverAsync requeue) = Some (call.BasicRecoverAsync (record { requeue = requeue }))
basic_call (basic_method.Recover requeue) = Some (call.BasicRecover (record { requeue = requeue }))
basic_call _ = None

-- the call that queues a method of class confirm: a select
abbrev pub confirm_call : ConfirmMethod → Option Call
confirm_call (confirm_method.Select nowait) = Some (call.ConfirmSelect (record { nowait = nowait }))
confirm_call _ = None

-- the call that queues a method of class tx: a select, a commit or a rollback
abbrev pub tx_call : TxMethod → Option Call
tx_call tx_method.Select = Some call.TxSelect
tx_call tx_method.Commit = Some call.TxCommit
tx_call tx_method.Rollback = Some call.TxRollback
tx_call _ = None

-- the call that queues a method and has its fields alone
abbrev pub call_of : Method → Option Call
call_of (method.Channel m) = channel_call m
call_of (method.Access m) = access_call m
call_of (method.Exchange m) = exchange_call m
call_of (method.Queue m) = queue_call m
call_of (method.Basic m) = basic_call m
call_of (method.Confirm m) = confirm_call m
call_of (method.Tx m) = tx_call m
call_of _ = None
