-- The kinds of replies.
use Rattle.lapin_types.specs.declared.request.Reply.{Reply}
use Rattle.lapin_types.specs.declared.request.Reply.TheVariants as reply
use Rattle.lapin_types.specs.declared.request.ReplyKind.{ReplyKind}
use Rattle.lapin_types.specs.declared.request.ReplyKind.TheVariants as reply_kind

-- the kind of a reply: its name alone
abbrev pub kind_of : Reply → ReplyKind
kind_of reply.ConnectionCloseOk = reply_kind.ConnectionCloseOk
kind_of reply.ChannelOpenOk = reply_kind.ChannelOpenOk
kind_of reply.ChannelFlowOk = reply_kind.ChannelFlowOk
kind_of reply.ChannelCloseOk = reply_kind.ChannelCloseOk
kind_of reply.AccessRequestOk = reply_kind.AccessRequestOk
kind_of (reply.ExchangeDeclareOk exchange kind options arguments) = reply_kind.ExchangeDeclareOk
kind_of (reply.ExchangeDeleteOk exchange) = reply_kind.ExchangeDeleteOk
kind_of (reply.ExchangeBindOk destination source routing_key arguments) = reply_kind.ExchangeBindOk
kind_of (reply.ExchangeUnbindOk destination source routing_key arguments) = reply_kind.ExchangeUnbindOk
kind_of (reply.QueueDeclareOk options arguments) = reply_kind.QueueDeclareOk
kind_of (reply.QueueBindOk queue exchange routing_key arguments) = reply_kind.QueueBindOk
kind_of reply.QueuePurgeOk = reply_kind.QueuePurgeOk
kind_of (reply.QueueDeleteOk queue) = reply_kind.QueueDeleteOk
kind_of (reply.QueueUnbindOk queue exchange routing_key arguments) = reply_kind.QueueUnbindOk
kind_of reply.BasicQosOk = reply_kind.BasicQosOk
kind_of (reply.BasicConsumeOk queue options) = reply_kind.BasicConsumeOk
kind_of reply.BasicCancelOk = reply_kind.BasicCancelOk
kind_of reply.BasicGetOk = reply_kind.BasicGetOk
kind_of reply.BasicRecoverOk = reply_kind.BasicRecoverOk
kind_of reply.ConfirmSelectOk = reply_kind.ConfirmSelectOk
kind_of reply.TxSelectOk = reply_kind.TxSelectOk
kind_of reply.TxCommitOk = reply_kind.TxCommitOk
kind_of reply.TxRollbackOk = reply_kind.TxRollbackOk
