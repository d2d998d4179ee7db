-- What a frame has room for: numbers in their widths, short texts, and tables, all with their lengths. One that is given by its values nests at
-- most eight levels; of what is carried only the length counts.
use Rattle.std.specs.Prelude.{ℕ, ◌^◌, ◌<◌, List, Option, Some, None, Result, Ok, Err}
use Rattle.lapin_values.specs.Properties.{Properties}
use Rattle.lapin_methods.specs.declared.frame.ContentHeader.{ContentHeader}
use Rattle.lapin_methods.specs.declared.frame.Frame.{Frame}
use Rattle.lapin_methods.specs.declared.frame.Frame.TheVariants as frame
use Rattle.lapin_methods.specs.declared.method.Method.{Method}
use Rattle.lapin_methods.specs.declared.method.Method.TheVariants as method
use Rattle.lapin_methods.specs.declared.connection.ConnectionMethod.{ConnectionMethod}
use Rattle.lapin_methods.specs.declared.connection.ConnectionMethod.TheVariants as connection_method
use Rattle.lapin_methods.specs.declared.channel.ChannelMethod.{ChannelMethod}
use Rattle.lapin_methods.specs.declared.channel.ChannelMethod.TheVariants as channel_method
use Rattle.lapin_methods.specs.declared.access.AccessMethod.{AccessMethod}
use Rattle.lapin_methods.specs.declared.access.AccessMethod.TheVariants as access_method
use Rattle.lapin_methods.specs.declared.exchange.ExchangeMethod.{ExchangeMethod}
use Rattle.lapin_methods.specs.declared.exchange.ExchangeMethod.TheVariants as exchange_method
use Rattle.lapin_methods.specs.declared.queue.QueueMethod.{QueueMethod}
use Rattle.lapin_methods.specs.declared.queue.QueueMethod.TheVariants as queue_method
use Rattle.lapin_methods.specs.declared.basic.BasicMethod.{BasicMethod}
use Rattle.lapin_methods.specs.declared.basic.BasicMethod.TheVariants as basic_method
use Rattle.lapin_methods.specs.declared.confirm.ConfirmMethod.{ConfirmMethod}
use Rattle.lapin_methods.specs.declared.confirm.ConfirmMethod.TheVariants as confirm_method
use Rattle.lapin_methods.specs.declared.tx.TxMethod.{TxMethod}
use Rattle.lapin_methods.specs.declared.tx.TxMethod.TheVariants as tx_method
use Rattle.lapin_fields.specs.declared.fault.WriteFault.{WriteFault}
use Rattle.lapin_fields.specs.declared.fault.WriteFault.TheVariants as faults
use Rattle.lapin_fields.specs.Fits.{TextFits, StringFits, TableFits}
use Rattle.lapin_fields.specs.Opaque.{ArgumentsFit}
use Rattle.lapin_frames.specs.Methods.{method_bytes}
use Rattle.lapin_frames.specs.Headers.{carried_list, header_bytes}

-- a method of the class connection
abbrev pub ConnectionFits : ConnectionMethod → Type 0
ConnectionFits (connection_method.Close reply_code reply_text class_id method_id) = (reply_code < 2 ^ 16) × TextFits reply_text × (class_id < 2 ^ 16) × (method_id < 2 ^ 16)
ConnectionFits connection_method.CloseOk = Unit {0}

-- a method of the class channel
abbrev pub ChannelFits : ChannelMethod → Type 0
ChannelFits channel_method.Open = Unit {0}
ChannelFits channel_method.OpenOk = Unit {0}
ChannelFits (channel_method.Flow active) = Unit {0}
ChannelFits (channel_method.FlowOk active) = Unit {0}
ChannelFits (channel_method.Close reply_code reply_text class_id method_id) = (reply_code < 2 ^ 16) × TextFits reply_text × (class_id < 2 ^ 16) × (method_id < 2 ^ 16)
ChannelFits channel_method.CloseOk = Unit {0}

-- a method of the class access
abbrev pub AccessFits : AccessMethod → Type 0
AccessFits (access_method.Request realm exclusive passive active write read) = TextFits realm
AccessFits access_method.RequestOk = Unit {0}

-- a method of the class exchange
abbrev pub ExchangeFits : ExchangeMethod → Type 0
ExchangeFits (exchange_method.Declare exchange kind passive durable auto_delete internal nowait arguments) = TextFits exchange × TextFits kind × ArgumentsFit arguments
ExchangeFits exchange_method.DeclareOk = Unit {0}
ExchangeFits (exchange_method.Delete exchange if_unused nowait) = TextFits exchange
ExchangeFits exchange_method.DeleteOk = Unit {0}
ExchangeFits (exchange_method.Bind destination source routing_key nowait arguments) = TextFits destination × TextFits source × TextFits routing_key × ArgumentsFit arguments
ExchangeFits exchange_method.BindOk = Unit {0}
ExchangeFits (exchange_method.Unbind destination source routing_key nowait arguments) = TextFits destination × TextFits source × TextFits routing_key × ArgumentsFit arguments
ExchangeFits exchange_method.UnbindOk = Unit {0}

-- a method of the class queue
abbrev pub QueueFits : QueueMethod → Type 0
QueueFits (queue_method.Declare queue passive durable exclusive auto_delete nowait arguments) = TextFits queue × ArgumentsFit arguments
QueueFits (queue_method.DeclareOk queue message_count consumer_count) = TextFits queue × (message_count < 2 ^ 32) × (consumer_count < 2 ^ 32)
QueueFits (queue_method.Bind queue exchange routing_key nowait arguments) = TextFits queue × TextFits exchange × TextFits routing_key × ArgumentsFit arguments
QueueFits queue_method.BindOk = Unit {0}
QueueFits (queue_method.Purge queue nowait) = TextFits queue
QueueFits (queue_method.PurgeOk message_count) = (message_count < 2 ^ 32)
QueueFits (queue_method.Delete queue if_unused if_empty nowait) = TextFits queue
QueueFits (queue_method.DeleteOk message_count) = (message_count < 2 ^ 32)
QueueFits (queue_method.Unbind queue exchange routing_key arguments) = TextFits queue × TextFits exchange × TextFits routing_key × ArgumentsFit arguments
QueueFits queue_method.UnbindOk = Unit {0}

-- a method of the class basic
abbrev pub BasicFits : BasicMethod → Type 0
BasicFits (basic_method.Qos prefetch_count global) = (prefetch_count < 2 ^ 16)
BasicFits basic_method.QosOk = Unit {0}
BasicFits (basic_method.Consume queue consumer_tag no_local no_ack exclusive nowait arguments) = TextFits queue × TextFits consumer_tag × ArgumentsFit arguments
BasicFits (basic_method.ConsumeOk consumer_tag) = TextFits consumer_tag
BasicFits (basic_method.Cancel consumer_tag nowait) = TextFits consumer_tag
BasicFits (basic_method.CancelOk consumer_tag) = TextFits consumer_tag
BasicFits (basic_method.Publish exchange routing_key mandatory immediate) = TextFits exchange × TextFits routing_key
BasicFits (basic_method.Return reply_code reply_text exchange routing_key) = (reply_code < 2 ^ 16) × TextFits reply_text × TextFits exchange × TextFits routing_key
BasicFits (basic_method.Deliver consumer_tag delivery_tag redelivered exchange routing_key) = TextFits consumer_tag × (delivery_tag < 2 ^ 64) × TextFits exchange × TextFits routing_key
BasicFits (basic_method.Get queue no_ack) = TextFits queue
BasicFits (basic_method.GetOk delivery_tag redelivered exchange routing_key message_count) = (delivery_tag < 2 ^ 64) × TextFits exchange × TextFits routing_key × (message_count < 2 ^ 32)
BasicFits basic_method.GetEmpty = Unit {0}
BasicFits (basic_method.Ack delivery_tag multiple) = (delivery_tag < 2 ^ 64)
BasicFits (basic_method.Reject delivery_tag requeue) = (delivery_tag < 2 ^ 64)
BasicFits (basic_method.RecoverAsync requeue) = Unit {0}
BasicFits (basic_method.Recover requeue) = Unit {0}
BasicFits basic_method.RecoverOk = Unit {0}
BasicFits (basic_method.Nack delivery_tag multiple requeue) = (delivery_tag < 2 ^ 64)

-- a method of the class confirm
abbrev pub ConfirmFits : ConfirmMethod → Type 0
ConfirmFits (confirm_method.Select nowait) = Unit {0}
ConfirmFits confirm_method.SelectOk = Unit {0}

-- a method of the class tx
abbrev pub TxFits : TxMethod → Type 0
TxFits tx_method.Select = Unit {0}
TxFits tx_method.SelectOk = Unit {0}
TxFits tx_method.Commit = Unit {0}
TxFits tx_method.CommitOk = Unit {0}
TxFits tx_method.Rollback = Unit {0}
TxFits tx_method.RollbackOk = Unit {0}

-- a method
abbrev pub MethodFits : Method → Type 0
MethodFits (method.Connection m) = ConnectionFits m
MethodFits (method.Channel m) = ChannelFits m
MethodFits (method.Access m) = AccessFits m
MethodFits (method.Exchange m) = ExchangeFits m
MethodFits (method.Queue m) = QueueFits m
MethodFits (method.Basic m) = BasicFits m
MethodFits (method.Confirm m) = ConfirmFits m
MethodFits (method.Tx m) = TxFits m

-- what is given has room
abbrev pub GivenFits : {A : Type 0} → (A → Type 0) → Option A → Type 0
GivenFits P None = Unit {0}
GivenFits P (Some x) = P x

-- the properties to the delivery mode
abbrev pub FirstFit : Properties → Type 0
FirstFit p = GivenFits TextFits p.content_type × GivenFits TextFits p.content_encoding × GivenFits TableFits p.headers × GivenFits (λ n. n < 2 ^ 8) p.delivery_mode

-- the properties from the priority to the expiration
abbrev pub NextFit : Properties → Type 0
NextFit p = GivenFits (λ n. n < 2 ^ 8) p.priority × GivenFits TextFits p.correlation_id × GivenFits TextFits p.reply_to × GivenFits TextFits p.expiration

-- the properties from the message id on
abbrev pub LastFit : Properties → Type 0
LastFit p = GivenFits TextFits p.message_id × GivenFits (λ n. n < 2 ^ 64) p.timestamp × GivenFits TextFits p.kind × GivenFits TextFits p.user_id × GivenFits TextFits p.app_id × GivenFits TextFits p.cluster_id

-- of a list that is carried nothing is asked, and else each property has room
abbrev pub ListFits : Option (List ℕ) → Properties → Type 0
ListFits (Some list) p = Unit {0}
ListFits None p = FirstFit p × NextFit p × LastFit p

-- the properties of a message
abbrev pub PropertiesFit : Properties → Type 0
PropertiesFit p = ListFits (carried_list p) p

-- a content header
abbrev pub HeaderFits : ContentHeader → Type 0
HeaderFits h = (h.class_id < 2 ^ 16) × (h.body_size < 2 ^ 64) × PropertiesFit h.properties

-- a frame: its channel and its payload, whose length stands in four octets
abbrev pub FrameFits : Frame → Type 0
FrameFits (frame.Method channel m) = (channel < 2 ^ 16) × MethodFits m × StringFits (method_bytes m)
FrameFits (frame.Header channel h) = (channel < 2 ^ 16) × HeaderFits h × StringFits (header_bytes h)
FrameFits (frame.Body channel payload) = (channel < 2 ^ 16) × StringFits payload

-- A writer with a limit refuses only a frame that does not fit, or one that does and has more octets, unless memory ran out.
abbrev pub RefusedWithin : Result (Unit {0}) WriteFault → Type 0 → Type 0 → Type 0
RefusedWithin (Ok u) fits above = Unit {0}
RefusedWithin (Err faults.TooLong) fits above = fits → ⊥
RefusedWithin (Err faults.TooDeep) fits above = fits → ⊥
RefusedWithin (Err faults.AboveLimit) fits above = fits × above
RefusedWithin (Err faults.NoMemory) fits above = Unit {0}
