-- The types of this crate and of the two below, under one name, each enum with the module of its variants.
pub use Rattle.lapin_types.specs.declared.event.Event.{Event}
pub use Rattle.lapin_types.specs.declared.event.Event.TheVariants as event
pub use Rattle.lapin_types.specs.declared.call.Call.{Call}
pub use Rattle.lapin_types.specs.declared.call.Call.TheVariants as call
pub use Rattle.lapin_types.specs.declared.record.Record.{Record}
pub use Rattle.lapin_types.specs.declared.record.Record.TheVariants as record_
pub use Rattle.lapin_types.specs.declared.answer.Answer.{Answer}
pub use Rattle.lapin_types.specs.declared.answer.Answer.TheVariants as answer
pub use Rattle.lapin_types.specs.declared.confirmation.Confirmation.{Confirmation}
pub use Rattle.lapin_types.specs.declared.confirmation.Confirmation.TheVariants as confirmation
pub use Rattle.lapin_types.specs.declared.acker.Acker.{Acker}
pub use Rattle.lapin_types.specs.declared.acker_call.AckerCall.{AckerCall}
pub use Rattle.lapin_types.specs.declared.acker_call.AckerCall.TheVariants as acker_call
pub use Rattle.lapin_types.specs.declared.job.Job.{Job}
pub use Rattle.lapin_types.specs.declared.job.JobKind.{JobKind}
pub use Rattle.lapin_types.specs.declared.job.JobKind.TheVariants as job_kind
pub use Rattle.lapin_types.specs.declared.message.Delivery.{Delivery}
pub use Rattle.lapin_types.specs.declared.message.BasicGetMessage.{BasicGetMessage}
pub use Rattle.lapin_types.specs.declared.message.BasicReturnMessage.{BasicReturnMessage}
pub use Rattle.lapin_types.specs.declared.queue.Queue.{Queue}
pub use Rattle.lapin_types.specs.declared.exchange_kind.ExchangeKind.{ExchangeKind}
pub use Rattle.lapin_types.specs.declared.exchange_kind.ExchangeKind.TheVariants as exchange_kind
pub use Rattle.lapin_types.specs.declared.reply_code.AMQPError.{AMQPError}
pub use Rattle.lapin_types.specs.declared.reply_code.AMQPErrorKind.{AMQPErrorKind}
pub use Rattle.lapin_types.specs.declared.reply_code.AMQPErrorKind.TheVariants as error_kind
pub use Rattle.lapin_types.specs.declared.reply_code.AMQPSoftError.{AMQPSoftError}
pub use Rattle.lapin_types.specs.declared.reply_code.AMQPSoftError.TheVariants as soft_error
pub use Rattle.lapin_types.specs.declared.reply_code.AMQPHardError.{AMQPHardError}
pub use Rattle.lapin_types.specs.declared.reply_code.AMQPHardError.TheVariants as hard_error
pub use Rattle.lapin_types.specs.declared.run_error.RunError.{RunError}
pub use Rattle.lapin_types.specs.declared.run_error.RunError.TheVariants as run_error
pub use Rattle.lapin_types.specs.declared.poll.Poll.{Poll}
pub use Rattle.lapin_types.specs.declared.poll.Poll.TheVariants as poll
pub use Rattle.lapin_types.specs.declared.leaving.Publish.{Publish}
pub use Rattle.lapin_types.specs.declared.leaving.Left.{Left}
pub use Rattle.lapin_types.specs.declared.request.Request.{Request}
pub use Rattle.lapin_types.specs.declared.request.Reply.{Reply}
pub use Rattle.lapin_types.specs.declared.request.Reply.TheVariants as reply
pub use Rattle.lapin_types.specs.declared.request.ReplyKind.{ReplyKind}
pub use Rattle.lapin_types.specs.declared.request.ReplyKind.TheVariants as reply_kind
pub use Rattle.lapin_methods.specs.declared.error.Error.{Error}
pub use Rattle.lapin_methods.specs.declared.error.Error.TheVariants as error
pub use Rattle.lapin_methods.specs.declared.states.ChannelState.{ChannelState}
pub use Rattle.lapin_methods.specs.declared.states.ChannelState.TheVariants as channel_state
pub use Rattle.lapin_methods.specs.declared.states.ConnectionState.{ConnectionState}
pub use Rattle.lapin_methods.specs.declared.states.ConnectionState.TheVariants as connection_state
pub use Rattle.lapin_methods.specs.declared.frame.Frame.{Frame}
pub use Rattle.lapin_methods.specs.declared.frame.Frame.TheVariants as frame
pub use Rattle.lapin_methods.specs.declared.frame.ContentHeader.{ContentHeader}
pub use Rattle.lapin_methods.specs.declared.method.Method.{Method}
pub use Rattle.lapin_methods.specs.declared.method.Method.TheVariants as method
pub use Rattle.lapin_methods.specs.declared.connection.ConnectionMethod.{ConnectionMethod}
pub use Rattle.lapin_methods.specs.declared.connection.ConnectionMethod.TheVariants as connection
pub use Rattle.lapin_methods.specs.declared.channel.ChannelMethod.{ChannelMethod}
pub use Rattle.lapin_methods.specs.declared.channel.ChannelMethod.TheVariants as channel
pub use Rattle.lapin_methods.specs.declared.access.AccessMethod.{AccessMethod}
pub use Rattle.lapin_methods.specs.declared.access.AccessMethod.TheVariants as access
pub use Rattle.lapin_methods.specs.declared.exchange.ExchangeMethod.{ExchangeMethod}
pub use Rattle.lapin_methods.specs.declared.exchange.ExchangeMethod.TheVariants as exchange
pub use Rattle.lapin_methods.specs.declared.queue.QueueMethod.{QueueMethod}
pub use Rattle.lapin_methods.specs.declared.queue.QueueMethod.TheVariants as queue
pub use Rattle.lapin_methods.specs.declared.basic.BasicMethod.{BasicMethod}
pub use Rattle.lapin_methods.specs.declared.basic.BasicMethod.TheVariants as basic
pub use Rattle.lapin_methods.specs.declared.confirm.ConfirmMethod.{ConfirmMethod}
pub use Rattle.lapin_methods.specs.declared.confirm.ConfirmMethod.TheVariants as confirm
pub use Rattle.lapin_methods.specs.declared.tx.TxMethod.{TxMethod}
pub use Rattle.lapin_methods.specs.declared.tx.TxMethod.TheVariants as tx
pub use Rattle.lapin_methods.specs.declared.options.BasicQosOptions.{BasicQosOptions}
pub use Rattle.lapin_methods.specs.declared.options.BasicConsumeOptions.{BasicConsumeOptions}
pub use Rattle.lapin_methods.specs.declared.options.BasicCancelOptions.{BasicCancelOptions}
pub use Rattle.lapin_methods.specs.declared.options.BasicPublishOptions.{BasicPublishOptions}
pub use Rattle.lapin_methods.specs.declared.options.BasicDeliverOptions.{BasicDeliverOptions}
pub use Rattle.lapin_methods.specs.declared.options.BasicGetOptions.{BasicGetOptions}
pub use Rattle.lapin_methods.specs.declared.options.BasicGetOkOptions.{BasicGetOkOptions}
pub use Rattle.lapin_methods.specs.declared.options.BasicAckOptions.{BasicAckOptions}
pub use Rattle.lapin_methods.specs.declared.options.BasicRejectOptions.{BasicRejectOptions}
pub use Rattle.lapin_methods.specs.declared.options.BasicRecoverAsyncOptions.{BasicRecoverAsyncOptions}
pub use Rattle.lapin_methods.specs.declared.options.BasicRecoverOptions.{BasicRecoverOptions}
pub use Rattle.lapin_methods.specs.declared.options.BasicNackOptions.{BasicNackOptions}
pub use Rattle.lapin_methods.specs.declared.options.ChannelFlowOptions.{ChannelFlowOptions}
pub use Rattle.lapin_methods.specs.declared.options.ChannelFlowOkOptions.{ChannelFlowOkOptions}
pub use Rattle.lapin_methods.specs.declared.options.AccessRequestOptions.{AccessRequestOptions}
pub use Rattle.lapin_methods.specs.declared.options.ExchangeDeclareOptions.{ExchangeDeclareOptions}
pub use Rattle.lapin_methods.specs.declared.options.ExchangeDeleteOptions.{ExchangeDeleteOptions}
pub use Rattle.lapin_methods.specs.declared.options.ExchangeBindOptions.{ExchangeBindOptions}
pub use Rattle.lapin_methods.specs.declared.options.ExchangeUnbindOptions.{ExchangeUnbindOptions}
pub use Rattle.lapin_methods.specs.declared.options.QueueDeclareOptions.{QueueDeclareOptions}
pub use Rattle.lapin_methods.specs.declared.options.QueueBindOptions.{QueueBindOptions}
pub use Rattle.lapin_methods.specs.declared.options.QueuePurgeOptions.{QueuePurgeOptions}
pub use Rattle.lapin_methods.specs.declared.options.QueueDeleteOptions.{QueueDeleteOptions}
pub use Rattle.lapin_methods.specs.declared.options.ConfirmSelectOptions.{ConfirmSelectOptions}
