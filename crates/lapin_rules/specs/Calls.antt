-- The table of calls: what each call is to a session. A line a call says the method that it queues, and how its ticket is answered:
-- by a reply, by the call itself where it is made without wait, or as its frame leaves. Six calls do something else, and are named:
-- opens, closes, a publish, a consume without wait, and a limit of outstanding confirms, which queues nothing.
use Rattle.std.specs.Prelude.{ℕ, Bool, true, false, if◌then◌else◌, List, Option, Some, None}
use Rattle.lapin_types.specs.ExchangeKinds.{kind_text}
use Rattle.lapin_types.specs.declared.call.Call.{Call}
use Rattle.lapin_types.specs.declared.answer.Answer.{Answer}
use Rattle.lapin_types.specs.declared.request.Reply.{Reply}
use Rattle.lapin_types.specs.Types.{Method, BasicConsumeOptions}
use Rattle.lapin_types.specs.declared.call.Call.TheVariants as call
use Rattle.lapin_types.specs.declared.answer.Answer.TheVariants as answer
use Rattle.lapin_types.specs.declared.request.Reply.TheVariants as reply
use Rattle.lapin_types.specs.Types.method
use Rattle.lapin_types.specs.Types.channel
use Rattle.lapin_types.specs.Types.access
use Rattle.lapin_types.specs.Types.exchange
use Rattle.lapin_types.specs.Types.queue
use Rattle.lapin_types.specs.Types.basic
use Rattle.lapin_types.specs.Types.confirm
use Rattle.lapin_types.specs.Types.tx
use Rattle.lapin_rules.specs.declared.marks.AtLeaving.{AtLeaving}
use Rattle.lapin_rules.specs.declared.marks.AtLeaving.TheVariants as leaving
use Rattle.lapin_rules.specs.declared.calls.Answered.{Answered}
use Rattle.lapin_rules.specs.declared.calls.Answered.TheVariants as answered
use Rattle.lapin_rules.specs.declared.calls.Asked.{Asked}
use Rattle.lapin_rules.specs.declared.calls.Asked.TheVariants as ask

-- a call that awaits this reply
abbrev pub awaiting : Method → Reply → Asked
awaiting m r = ask.Method (record { method = m; answered = answered.ByReply r })

-- a call that awaits no reply, and is answered as it is made, in place of this reply
abbrev pub answered_at_once : Method → Reply → Answer → Asked
answered_at_once m r a = ask.Method (record { method = m; answered = answered.AtOnce r a })

-- a call that awaits this reply, or, without wait, makes this answer itself
abbrev pub unless_nowait : Method → Bool → Reply → Answer → Asked
unless_nowait m nowait r a = if nowait then answered_at_once m r a else awaiting m r

-- a call that awaits no reply, and is done as its frame leaves
abbrev pub done_as_it_leaves : Method → Asked
done_as_it_leaves m = ask.Method (record { method = m; answered = answered.AsItLeaves leaving.Done })

-- the reply that a line awaits, the answer that it makes itself, and the answer that the leaving of its frame gives
abbrev pub awaited_by : Answered → Option Reply
awaited_by (answered.ByReply r) = Some r
awaited_by _ = None

-- the answer that a line makes itself: that of a call without wait
abbrev pub made_by : Answered → Option Answer
made_by (answered.AtOnce r a) = Some a
made_by _ = None

-- the answer that the leaving of a line's frame gives: nothing where a reply or the call itself answers
abbrev pub leaving_by : Answered → AtLeaving
leaving_by (answered.AsItLeaves l) = l
leaving_by _ = leaving.Nothing

-- a call that registers a consumer: by its reply, or, without wait, itself
abbrev pub consuming : Method → List ℕ → List ℕ → BasicConsumeOptions → Asked
consuming m tag queue o = if o.nowait then ask.Consume m tag queue o else awaiting m (reply.BasicConsumeOk queue o)

-- a publish that its channel's limit may refuse
abbrev pub is_try : Call → Bool
is_try (call.TryBasicPublish exchange key o payload properties) = true
is_try _ = false

-- the call is a publish, `basic.try-publish` too
abbrev pub publishes : Asked → Bool
publishes (ask.Publish exchange key o payload properties) = true
publishes _ = false

-- the table of calls, a line a call: the method that the call queues and how its ticket is answered, or what else the call does
abbrev pub asked : Call → Asked
asked call.OpenChannel = ask.Open
asked (call.ChannelClose code text) = ask.CloseChannel code text
asked (call.ConnectionClose code text) = ask.CloseConnection code text
asked (call.BasicPublish exchange key o payload properties) = ask.Publish exchange key o payload properties
asked (call.TryBasicPublish exchange key o payload properties) = ask.Publish exchange key o payload properties
asked (call.ConfirmLimit limit) = ask.Limit limit
asked (call.ChannelFlow o) = awaiting (method.Channel (channel.Flow o.active)) reply.ChannelFlowOk
asked (call.AccessRequest realm o) = awaiting (method.Access (access.Request realm o.exclusive o.passive o.active o.write o.read)) reply.AccessRequestOk
asked (call.ExchangeDeclare name kind o more) =
    unless_nowait
    (method.Exchange (exchange.Declare name (kind_text kind) o.passive o.durable o.auto_delete o.internal o.nowait more))
    o.nowait
    (reply.ExchangeDeclareOk name kind o more)
    answer.Done
asked (call.ExchangeDelete name o) = unless_nowait (method.Exchange (exchange.Delete name o.if_unused o.nowait)) o.nowait (reply.ExchangeDeleteOk name) answer.Done
asked (call.ExchangeBind to from key o more) = unless_nowait (method.Exchange (exchange.Bind to from key o.nowait more)) o.nowait (reply.ExchangeBindOk to from key more) answer.Done
asked (call.ExchangeUnbind to from key o more) = unless_nowait (method.Exchange (exchange.Unbind to from key o.nowait more)) o.nowait (reply.ExchangeUnbindOk to from key more) answer.Done
asked (call.QueueDeclare name o more) =
    unless_nowait
    (method.Queue (queue.Declare name o.passive o.durable o.exclusive o.auto_delete o.nowait more))
    o.nowait
    (reply.QueueDeclareOk o more)
    (answer.Queue (record { name = name; message_count = 0; consumer_count = 0 }))
asked (call.QueueBind name from key o more) = unless_nowait (method.Queue (queue.Bind name from key o.nowait more)) o.nowait (reply.QueueBindOk name from key more) answer.Done
asked (call.QueuePurge name o) = unless_nowait (method.Queue (queue.Purge name o.nowait)) o.nowait reply.QueuePurgeOk (answer.Count 0)
asked (call.QueueDelete name o) = unless_nowait (method.Queue (queue.Delete name o.if_unused o.if_empty o.nowait)) o.nowait (reply.QueueDeleteOk name) (answer.Count 0)
asked (call.QueueUnbind name from key more) = awaiting (method.Queue (queue.Unbind name from key more)) (reply.QueueUnbindOk name from key more)
asked (call.BasicQos most o) = awaiting (method.Basic (basic.Qos most o.global)) reply.BasicQosOk
asked (call.BasicConsume name tag o more) = consuming (method.Basic (basic.Consume name tag o.no_local o.no_ack o.exclusive o.nowait more)) tag name o
asked (call.BasicCancel tag o) = unless_nowait (method.Basic (basic.Cancel tag o.nowait)) o.nowait reply.BasicCancelOk answer.Done
asked (call.BasicGet queue o) = awaiting (method.Basic (basic.Get queue o.no_ack)) reply.BasicGetOk
asked (call.BasicAck tag o) = done_as_it_leaves (method.Basic (basic.Ack tag o.multiple))
asked (call.BasicNack tag o) = done_as_it_leaves (method.Basic (basic.Nack tag o.multiple o.requeue))
asked (call.BasicReject tag o) = done_as_it_leaves (method.Basic (basic.Reject tag o.requeue))
asked (call.BasicRecoverAsync o) = done_as_it_leaves (method.Basic (basic.RecoverAsync o.requeue))
asked (call.BasicRecover o) = awaiting (method.Basic (basic.Recover o.requeue)) reply.BasicRecoverOk
asked (call.ConfirmSelect o) = unless_nowait (method.Confirm (confirm.Select o.nowait)) o.nowait reply.ConfirmSelectOk answer.Done
asked call.TxSelect = awaiting (method.Tx tx.Select) reply.TxSelectOk
asked call.TxCommit = awaiting (method.Tx tx.Commit) reply.TxCommitOk
asked call.TxRollback = awaiting (method.Tx tx.Rollback) reply.TxRollbackOk
