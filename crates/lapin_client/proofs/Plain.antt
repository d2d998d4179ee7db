-- The call of a method publishes nothing.
use Rattle.std.proofs.Common.{◌≡◌, ◌==◌, ◌&&◌, if◌then◌else◌, Bool, true, false, Option, Some, None, refl, subst}
use Rattle.lapin_client.specs.Asking.{call_or_close, channel_or_close, connection_or_close}
use Rattle.lapin_rules.specs.Calls.{asked, publishes}
use Rattle.lapin_text.specs.Calls.{access_call, basic_call, confirm_call, exchange_call, queue_call, tx_call}
use Rattle.lapin_types.specs.Types.{Method}
use Rattle.lapin_types.specs.Types.method
use Rattle.lapin_methods.specs.declared.access.AccessMethod.{AccessMethod}
use Rattle.lapin_methods.specs.declared.access.AccessMethod.TheVariants as access_method
use Rattle.lapin_methods.specs.declared.basic.BasicMethod.{BasicMethod}
use Rattle.lapin_methods.specs.declared.basic.BasicMethod.TheVariants as basic_method
use Rattle.lapin_methods.specs.declared.channel.ChannelMethod.{ChannelMethod}
use Rattle.lapin_methods.specs.declared.channel.ChannelMethod.TheVariants as channel_method
use Rattle.lapin_methods.specs.declared.confirm.ConfirmMethod.{ConfirmMethod}
use Rattle.lapin_methods.specs.declared.confirm.ConfirmMethod.TheVariants as confirm_method
use Rattle.lapin_methods.specs.declared.connection.ConnectionMethod.{ConnectionMethod}
use Rattle.lapin_methods.specs.declared.connection.ConnectionMethod.TheVariants as connection_method
use Rattle.lapin_methods.specs.declared.exchange.ExchangeMethod.{ExchangeMethod}
use Rattle.lapin_methods.specs.declared.exchange.ExchangeMethod.TheVariants as exchange_method
use Rattle.lapin_methods.specs.declared.queue.QueueMethod.{QueueMethod}
use Rattle.lapin_methods.specs.declared.queue.QueueMethod.TheVariants as queue_method
use Rattle.lapin_methods.specs.declared.tx.TxMethod.{TxMethod}
use Rattle.lapin_methods.specs.declared.tx.TxMethod.TheVariants as tx_method
use Rattle.lapin_types.specs.declared.call.Call.{Call}
use Rattle.lapin_types.specs.declared.call.Call.TheVariants as call

-- it is none, or one that publishes nothing
abbrev pub IsPlain : Option Call → Type 0
IsPlain None = Unit {0}
IsPlain (Some k) = publishes (asked k) ≡ false

plain_access : (m : AccessMethod) → IsPlain (access_call m)
plain_access (access_method.Request realm exclusive passive active write read) = refl
plain_access access_method.RequestOk = tt

plain_exchange : (m : ExchangeMethod) → IsPlain (exchange_call m)
plain_exchange (exchange_method.Declare exchange kind passive durable auto_delete internal true arguments) = refl
plain_exchange (exchange_method.Declare exchange kind passive durable auto_delete internal false arguments) = refl
plain_exchange exchange_method.DeclareOk = tt
plain_exchange (exchange_method.Delete exchange if_unused true) = refl
plain_exchange (exchange_method.Delete exchange if_unused false) = refl
plain_exchange exchange_method.DeleteOk = tt
plain_exchange (exchange_method.Bind destination source routing_key true arguments) = refl
plain_exchange (exchange_method.Bind destination source routing_key false arguments) = refl
plain_exchange exchange_method.BindOk = tt
plain_exchange (exchange_method.Unbind destination source routing_key true arguments) = refl
plain_exchange (exchange_method.Unbind destination source routing_key false arguments) = refl
plain_exchange exchange_method.UnbindOk = tt

plain_queue : (m : QueueMethod) → IsPlain (queue_call m)
plain_queue (queue_method.Declare queue passive durable exclusive auto_delete true arguments) = refl
plain_queue (queue_method.Declare queue passive durable exclusive auto_delete false arguments) = refl
plain_queue (queue_method.DeclareOk queue message_count consumer_count) = tt
plain_queue (queue_method.Bind queue exchange routing_key true arguments) = refl
plain_queue (queue_method.Bind queue exchange routing_key false arguments) = refl
plain_queue queue_method.BindOk = tt
plain_queue (queue_method.Purge queue true) = refl
plain_queue (queue_method.Purge queue false) = refl
plain_queue (queue_method.PurgeOk message_count) = tt
plain_queue (queue_method.Delete queue if_unused if_empty true) = refl
plain_queue (queue_method.Delete queue if_unused if_empty false) = refl
plain_queue (queue_method.DeleteOk message_count) = tt
plain_queue (queue_method.Unbind queue exchange routing_key arguments) = refl
plain_queue queue_method.UnbindOk = tt

plain_basic : (m : BasicMethod) → IsPlain (basic_call m)
plain_basic (basic_method.Qos prefetch_count global) = refl
plain_basic basic_method.QosOk = tt
plain_basic (basic_method.Consume queue consumer_tag no_local no_ack exclusive true arguments) = refl
plain_basic (basic_method.Consume queue consumer_tag no_local no_ack exclusive false arguments) = refl
plain_basic (basic_method.ConsumeOk consumer_tag) = tt
plain_basic (basic_method.Cancel consumer_tag true) = refl
plain_basic (basic_method.Cancel consumer_tag false) = refl
plain_basic (basic_method.CancelOk consumer_tag) = tt
plain_basic (basic_method.Publish exchange routing_key mandatory immediate) = tt
plain_basic (basic_method.Return reply_code reply_text exchange routing_key) = tt
plain_basic (basic_method.Deliver consumer_tag delivery_tag redelivered exchange routing_key) = tt
plain_basic (basic_method.Get queue no_ack) = refl
plain_basic (basic_method.GetOk delivery_tag redelivered exchange routing_key message_count) = tt
plain_basic basic_method.GetEmpty = tt
plain_basic (basic_method.Ack delivery_tag multiple) = refl
plain_basic (basic_method.Reject delivery_tag requeue) = refl
plain_basic (basic_method.RecoverAsync requeue) = refl
plain_basic (basic_method.Recover requeue) = refl
plain_basic basic_method.RecoverOk = tt
plain_basic (basic_method.Nack delivery_tag multiple requeue) = refl

plain_confirm : (m : ConfirmMethod) → IsPlain (confirm_call m)
plain_confirm (confirm_method.Select true) = refl
plain_confirm (confirm_method.Select false) = refl
plain_confirm confirm_method.SelectOk = tt

plain_tx : (m : TxMethod) → IsPlain (tx_call m)
plain_tx tx_method.Select = refl
plain_tx tx_method.SelectOk = tt
plain_tx tx_method.Commit = refl
plain_tx tx_method.CommitOk = tt
plain_tx tx_method.Rollback = refl
plain_tx tx_method.RollbackOk = tt

plain_bare : (b : Bool) (k : Call) → publishes (asked k) ≡ false → IsPlain (if b then Some k else None)
plain_bare true k is = is
plain_bare false k is = tt

plain_channel_or : (m : ChannelMethod) → IsPlain (channel_or_close m)
plain_channel_or (channel_method.Close reply_code reply_text class_id method_id) = plain_bare ((class_id == 0) && (method_id == 0)) (call.ChannelClose reply_code reply_text) refl
plain_channel_or channel_method.Open = refl
plain_channel_or channel_method.OpenOk = tt
plain_channel_or (channel_method.Flow active) = refl
plain_channel_or (channel_method.FlowOk active) = tt
plain_channel_or channel_method.CloseOk = tt

plain_connection_or : (m : ConnectionMethod) → IsPlain (connection_or_close m)
plain_connection_or (connection_method.Close reply_code reply_text class_id method_id) = plain_bare ((class_id == 0) && (method_id == 0)) (call.ConnectionClose reply_code reply_text) refl
plain_connection_or connection_method.CloseOk = tt

plain : (m : Method) → IsPlain (call_or_close m)
plain (method.Channel m) = plain_channel_or m
plain (method.Connection m) = plain_connection_or m
plain (method.Access m) = plain_access m
plain (method.Exchange m) = plain_exchange m
plain (method.Queue m) = plain_queue m
plain (method.Basic m) = plain_basic m
plain (method.Confirm m) = plain_confirm m
plain (method.Tx m) = plain_tx m

-- the call of a method, or the close that it is
pub plain_made : (m : Method) (k : Call) → call_or_close m ≡ Some k → publishes (asked k) ≡ false
plain_made m k is = subst IsPlain is (plain m)
