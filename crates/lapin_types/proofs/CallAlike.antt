-- The derived `==` of calls tells whether two of them are equal.
use Rattle.std.specs.Prelude.{◌≡◌, ℕ, Bool, true, false, ◌&&◌, List, nat_eq, refl}
use Rattle.std.specs.Bool.{Decides}
use Rattle.std.specs.Cmp.{booleans_Decides, unsigned_Decides}
use Rattle.std.specs.Cmp.Lexicographic.{pointwise}
use Rattle.std.proofs.Common.{rules}
use Rattle.std.proofs.lemmas.Slice.Eq.{slice_eq-Decides}
use Rattle.lapin_values.specs.Same.{same_by-Decides}
use Rattle.lapin_values.specs.DataCode.{table_code}
use Rattle.lapin_values.specs.Properties.{properties_code}
use Rattle.lapin_types.specs.contracts.exchange_kind.ExchangeKind as kind
use Rattle.lapin_methods.specs.contracts.options.AccessRequestOptionsPartialEq.TheImpl as access_request_eq
use Rattle.lapin_methods.specs.declared.options.AccessRequestOptions.{AccessRequestOptions}
use Rattle.lapin_methods.specs.contracts.options.BasicAckOptionsPartialEq.TheImpl as basic_ack_eq
use Rattle.lapin_methods.specs.declared.options.BasicAckOptions.{BasicAckOptions}
use Rattle.lapin_methods.specs.contracts.options.BasicCancelOptionsPartialEq.TheImpl as basic_cancel_eq
use Rattle.lapin_methods.specs.declared.options.BasicCancelOptions.{BasicCancelOptions}
use Rattle.lapin_methods.specs.contracts.options.BasicConsumeOptionsPartialEq.TheImpl as basic_consume_eq
use Rattle.lapin_methods.specs.declared.options.BasicConsumeOptions.{BasicConsumeOptions}
use Rattle.lapin_methods.specs.contracts.options.BasicGetOptionsPartialEq.TheImpl as basic_get_eq
use Rattle.lapin_methods.specs.declared.options.BasicGetOptions.{BasicGetOptions}
use Rattle.lapin_methods.specs.contracts.options.BasicNackOptionsPartialEq.TheImpl as basic_nack_eq
use Rattle.lapin_methods.specs.declared.options.BasicNackOptions.{BasicNackOptions}
use Rattle.lapin_methods.specs.contracts.options.BasicPublishOptionsPartialEq.TheImpl as basic_publish_eq
use Rattle.lapin_methods.specs.declared.options.BasicPublishOptions.{BasicPublishOptions}
use Rattle.lapin_methods.specs.contracts.options.BasicQosOptionsPartialEq.TheImpl as basic_qos_eq
use Rattle.lapin_methods.specs.declared.options.BasicQosOptions.{BasicQosOptions}
use Rattle.lapin_methods.specs.contracts.options.BasicRecoverAsyncOptionsPartialEq.TheImpl as basic_recover_async_eq
use Rattle.lapin_methods.specs.declared.options.BasicRecoverAsyncOptions.{BasicRecoverAsyncOptions}
use Rattle.lapin_methods.specs.contracts.options.BasicRecoverOptionsPartialEq.TheImpl as basic_recover_eq
use Rattle.lapin_methods.specs.declared.options.BasicRecoverOptions.{BasicRecoverOptions}
use Rattle.lapin_methods.specs.contracts.options.BasicRejectOptionsPartialEq.TheImpl as basic_reject_eq
use Rattle.lapin_methods.specs.declared.options.BasicRejectOptions.{BasicRejectOptions}
use Rattle.lapin_methods.specs.contracts.options.ChannelFlowOptionsPartialEq.TheImpl as channel_flow_eq
use Rattle.lapin_methods.specs.declared.options.ChannelFlowOptions.{ChannelFlowOptions}
use Rattle.lapin_methods.specs.contracts.options.ConfirmSelectOptionsPartialEq.TheImpl as confirm_select_eq
use Rattle.lapin_methods.specs.declared.options.ConfirmSelectOptions.{ConfirmSelectOptions}
use Rattle.lapin_methods.specs.contracts.options.ExchangeBindOptionsPartialEq.TheImpl as exchange_bind_eq
use Rattle.lapin_methods.specs.declared.options.ExchangeBindOptions.{ExchangeBindOptions}
use Rattle.lapin_methods.specs.contracts.options.ExchangeDeclareOptionsPartialEq.TheImpl as exchange_declare_eq
use Rattle.lapin_methods.specs.declared.options.ExchangeDeclareOptions.{ExchangeDeclareOptions}
use Rattle.lapin_methods.specs.contracts.options.ExchangeDeleteOptionsPartialEq.TheImpl as exchange_delete_eq
use Rattle.lapin_methods.specs.declared.options.ExchangeDeleteOptions.{ExchangeDeleteOptions}
use Rattle.lapin_methods.specs.contracts.options.ExchangeUnbindOptionsPartialEq.TheImpl as exchange_unbind_eq
use Rattle.lapin_methods.specs.declared.options.ExchangeUnbindOptions.{ExchangeUnbindOptions}
use Rattle.lapin_methods.specs.contracts.options.QueueBindOptionsPartialEq.TheImpl as queue_bind_eq
use Rattle.lapin_methods.specs.declared.options.QueueBindOptions.{QueueBindOptions}
use Rattle.lapin_methods.specs.contracts.options.QueueDeclareOptionsPartialEq.TheImpl as queue_declare_eq
use Rattle.lapin_methods.specs.declared.options.QueueDeclareOptions.{QueueDeclareOptions}
use Rattle.lapin_methods.specs.contracts.options.QueueDeleteOptionsPartialEq.TheImpl as queue_delete_eq
use Rattle.lapin_methods.specs.declared.options.QueueDeleteOptions.{QueueDeleteOptions}
use Rattle.lapin_methods.specs.contracts.options.QueuePurgeOptionsPartialEq.TheImpl as queue_purge_eq
use Rattle.lapin_methods.specs.declared.options.QueuePurgeOptions.{QueuePurgeOptions}
use Rattle.lapin_types.specs.contracts.call.CallPartialEq.TheImpl as it
use Rattle.lapin_types.specs.declared.call.Call.{Call}
use Rattle.lapin_types.specs.declared.call.Call.TheVariants as call_

text_alike : (a b : List ℕ) → Decides (pointwise nat_eq a b) (a ≡ b)
text_alike a b = slice_eq-Decides unsigned_Decides a b (pointwise nat_eq a b) refl

both_of : (p q : Bool) {A B : Type 0} → Decides p A → Decides q B → Decides (p && q) (A × B)
both_of true q d e = (λ t. (d.0 refl, e.0 t), λ x. e.1 x.1)
both_of false q d e = (λ t. cc, λ x. d.1 x.0)

both : {p q : Bool} {A B : Type 0} → Decides p A → Decides q B → Decides (p && q) (A × B)
both {p} {q} d e = both_of p q d e

through : {p : Bool} {A B : Type 0} → Decides p A → (A → B) → (B → A) → Decides p B
through d f g = (λ t. f (d.0 t), λ x. d.1 (g x))

access_request_alike : (a b : AccessRequestOptions) → Decides (access_request_eq.ghosts.eq a b) (a ≡ b)
access_request_alike a b =
    through (both (booleans_Decides a.exclusive b.exclusive) (both (booleans_Decides a.passive b.passive) (both (booleans_Decides a.active b.active) (both (booleans_Decides a.write b.write) (booleans_Decides a.read b.read)))))
    (λ e i. record { exclusive = e.0 i; passive = e.1.0 i; active = e.1.1.0 i; write = e.1.1.1.0 i; read = e.1.1.1.1 i })
    (λ e. (cc, (cc, (cc, (cc, cc)))))

basic_ack_alike : (a b : BasicAckOptions) → Decides (basic_ack_eq.ghosts.eq a b) (a ≡ b)
basic_ack_alike a b = search rules

basic_cancel_alike : (a b : BasicCancelOptions) → Decides (basic_cancel_eq.ghosts.eq a b) (a ≡ b)
basic_cancel_alike a b = search rules

basic_consume_alike : (a b : BasicConsumeOptions) → Decides (basic_consume_eq.ghosts.eq a b) (a ≡ b)
basic_consume_alike a b =
    through (both (booleans_Decides a.no_local b.no_local) (both (booleans_Decides a.no_ack b.no_ack) (both (booleans_Decides a.exclusive b.exclusive) (booleans_Decides a.nowait b.nowait))))
    (λ e i. record { no_local = e.0 i; no_ack = e.1.0 i; exclusive = e.1.1.0 i; nowait = e.1.1.1 i })
    (λ e. (cc, (cc, (cc, cc))))

basic_get_alike : (a b : BasicGetOptions) → Decides (basic_get_eq.ghosts.eq a b) (a ≡ b)
basic_get_alike a b = search rules

basic_nack_alike : (a b : BasicNackOptions) → Decides (basic_nack_eq.ghosts.eq a b) (a ≡ b)
basic_nack_alike a b = search rules

basic_publish_alike : (a b : BasicPublishOptions) → Decides (basic_publish_eq.ghosts.eq a b) (a ≡ b)
basic_publish_alike a b = search rules

basic_qos_alike : (a b : BasicQosOptions) → Decides (basic_qos_eq.ghosts.eq a b) (a ≡ b)
basic_qos_alike a b = search rules

basic_recover_async_alike : (a b : BasicRecoverAsyncOptions) → Decides (basic_recover_async_eq.ghosts.eq a b) (a ≡ b)
basic_recover_async_alike a b = search rules

basic_recover_alike : (a b : BasicRecoverOptions) → Decides (basic_recover_eq.ghosts.eq a b) (a ≡ b)
basic_recover_alike a b = search rules

basic_reject_alike : (a b : BasicRejectOptions) → Decides (basic_reject_eq.ghosts.eq a b) (a ≡ b)
basic_reject_alike a b = search rules

channel_flow_alike : (a b : ChannelFlowOptions) → Decides (channel_flow_eq.ghosts.eq a b) (a ≡ b)
channel_flow_alike a b = search rules

confirm_select_alike : (a b : ConfirmSelectOptions) → Decides (confirm_select_eq.ghosts.eq a b) (a ≡ b)
confirm_select_alike a b = search rules

exchange_bind_alike : (a b : ExchangeBindOptions) → Decides (exchange_bind_eq.ghosts.eq a b) (a ≡ b)
exchange_bind_alike a b = search rules

exchange_declare_alike : (a b : ExchangeDeclareOptions) → Decides (exchange_declare_eq.ghosts.eq a b) (a ≡ b)
exchange_declare_alike a b =
    through (both (booleans_Decides a.passive b.passive) (both (booleans_Decides a.durable b.durable) (both (booleans_Decides a.auto_delete b.auto_delete) (both (booleans_Decides a.internal b.internal) (booleans_Decides a.nowait b.nowait)))))
    (λ e i. record { passive = e.0 i; durable = e.1.0 i; auto_delete = e.1.1.0 i; internal = e.1.1.1.0 i; nowait = e.1.1.1.1 i })
    (λ e. (cc, (cc, (cc, (cc, cc)))))

exchange_delete_alike : (a b : ExchangeDeleteOptions) → Decides (exchange_delete_eq.ghosts.eq a b) (a ≡ b)
exchange_delete_alike a b = search rules

exchange_unbind_alike : (a b : ExchangeUnbindOptions) → Decides (exchange_unbind_eq.ghosts.eq a b) (a ≡ b)
exchange_unbind_alike a b = search rules

queue_bind_alike : (a b : QueueBindOptions) → Decides (queue_bind_eq.ghosts.eq a b) (a ≡ b)
queue_bind_alike a b = search rules

queue_declare_alike : (a b : QueueDeclareOptions) → Decides (queue_declare_eq.ghosts.eq a b) (a ≡ b)
queue_declare_alike a b =
    through (both (booleans_Decides a.passive b.passive) (both (booleans_Decides a.durable b.durable) (both (booleans_Decides a.exclusive b.exclusive) (both (booleans_Decides a.auto_delete b.auto_delete) (booleans_Decides a.nowait b.nowait)))))
    (λ e i. record { passive = e.0 i; durable = e.1.0 i; exclusive = e.1.1.0 i; auto_delete = e.1.1.1.0 i; nowait = e.1.1.1.1 i })
    (λ e. (cc, (cc, (cc, (cc, cc)))))

queue_delete_alike : (a b : QueueDeleteOptions) → Decides (queue_delete_eq.ghosts.eq a b) (a ≡ b)
queue_delete_alike a b = search rules

queue_purge_alike : (a b : QueuePurgeOptions) → Decides (queue_purge_eq.ghosts.eq a b) (a ≡ b)
queue_purge_alike a b = search rules

pub call_alike : (x y : Call) → Decides (it.ghosts.eq x y) (x ≡ y)
call_alike call_.OpenChannel call_.OpenChannel = search rules
call_alike (call_.ConnectionClose a0 a1) (call_.ConnectionClose b0 b1) =
    through (both (unsigned_Decides a0 b0) (text_alike a1 b1))
    (λ e i. call_.ConnectionClose (e.0 i) (e.1 i))
    (λ e. (cc, cc))
call_alike (call_.ChannelClose a0 a1) (call_.ChannelClose b0 b1) =
    through (both (unsigned_Decides a0 b0) (text_alike a1 b1))
    (λ e i. call_.ChannelClose (e.0 i) (e.1 i))
    (λ e. (cc, cc))
call_alike (call_.ChannelFlow a0) (call_.ChannelFlow b0) = through (channel_flow_alike a0 b0) (λ e i. call_.ChannelFlow (e i)) (λ e. cc)
call_alike (call_.AccessRequest a0 a1) (call_.AccessRequest b0 b1) =
    through (both (text_alike a0 b0) (access_request_alike a1 b1))
    (λ e i. call_.AccessRequest (e.0 i) (e.1 i))
    (λ e. (cc, cc))
call_alike (call_.ExchangeDeclare a0 a1 a2 a3) (call_.ExchangeDeclare b0 b1 b2 b3) =
    through (both (text_alike a0 b0) (both (same_by-Decides kind.the_row.coded a1 b1) (both (exchange_declare_alike a2 b2) (same_by-Decides table_code a3 b3))))
    (λ e i. call_.ExchangeDeclare (e.0 i) (e.1.0 i) (e.1.1.0 i) (e.1.1.1 i))
    (λ e. (cc, (cc, (cc, cc))))
call_alike (call_.ExchangeDelete a0 a1) (call_.ExchangeDelete b0 b1) =
    through (both (text_alike a0 b0) (exchange_delete_alike a1 b1))
    (λ e i. call_.ExchangeDelete (e.0 i) (e.1 i))
    (λ e. (cc, cc))
call_alike (call_.ExchangeBind a0 a1 a2 a3 a4) (call_.ExchangeBind b0 b1 b2 b3 b4) =
    through (both (text_alike a0 b0) (both (text_alike a1 b1) (both (text_alike a2 b2) (both (exchange_bind_alike a3 b3) (same_by-Decides table_code a4 b4)))))
    (λ e i. call_.ExchangeBind (e.0 i) (e.1.0 i) (e.1.1.0 i) (e.1.1.1.0 i) (e.1.1.1.1 i))
    (λ e. (cc, (cc, (cc, (cc, cc)))))
call_alike (call_.ExchangeUnbind a0 a1 a2 a3 a4) (call_.ExchangeUnbind b0 b1 b2 b3 b4) =
    through (both (text_alike a0 b0) (both (text_alike a1 b1) (both (text_alike a2 b2) (both (exchange_unbind_alike a3 b3) (same_by-Decides table_code a4 b4)))))
    (λ e i. call_.ExchangeUnbind (e.0 i) (e.1.0 i) (e.1.1.0 i) (e.1.1.1.0 i) (e.1.1.1.1 i))
    (λ e. (cc, (cc, (cc, (cc, cc)))))
call_alike (call_.QueueDeclare a0 a1 a2) (call_.QueueDeclare b0 b1 b2) =
    through (both (text_alike a0 b0) (both (queue_declare_alike a1 b1) (same_by-Decides table_code a2 b2)))
    (λ e i. call_.QueueDeclare (e.0 i) (e.1.0 i) (e.1.1 i))
    (λ e. (cc, (cc, cc)))
call_alike (call_.QueueBind a0 a1 a2 a3 a4) (call_.QueueBind b0 b1 b2 b3 b4) =
    through (both (text_alike a0 b0) (both (text_alike a1 b1) (both (text_alike a2 b2) (both (queue_bind_alike a3 b3) (same_by-Decides table_code a4 b4)))))
    (λ e i. call_.QueueBind (e.0 i) (e.1.0 i) (e.1.1.0 i) (e.1.1.1.0 i) (e.1.1.1.1 i))
    (λ e. (cc, (cc, (cc, (cc, cc)))))
call_alike (call_.QueuePurge a0 a1) (call_.QueuePurge b0 b1) =
    through (both (text_alike a0 b0) (queue_purge_alike a1 b1))
    (λ e i. call_.QueuePurge (e.0 i) (e.1 i))
    (λ e. (cc, cc))
call_alike (call_.QueueDelete a0 a1) (call_.QueueDelete b0 b1) =
    through (both (text_alike a0 b0) (queue_delete_alike a1 b1))
    (λ e i. call_.QueueDelete (e.0 i) (e.1 i))
    (λ e. (cc, cc))
call_alike (call_.QueueUnbind a0 a1 a2 a3) (call_.QueueUnbind b0 b1 b2 b3) =
    through (both (text_alike a0 b0) (both (text_alike a1 b1) (both (text_alike a2 b2) (same_by-Decides table_code a3 b3))))
    (λ e i. call_.QueueUnbind (e.0 i) (e.1.0 i) (e.1.1.0 i) (e.1.1.1 i))
    (λ e. (cc, (cc, (cc, cc))))
call_alike (call_.BasicQos a0 a1) (call_.BasicQos b0 b1) =
    through (both (unsigned_Decides a0 b0) (basic_qos_alike a1 b1))
    (λ e i. call_.BasicQos (e.0 i) (e.1 i))
    (λ e. (cc, cc))
call_alike (call_.BasicConsume a0 a1 a2 a3) (call_.BasicConsume b0 b1 b2 b3) =
    through (both (text_alike a0 b0) (both (text_alike a1 b1) (both (basic_consume_alike a2 b2) (same_by-Decides table_code a3 b3))))
    (λ e i. call_.BasicConsume (e.0 i) (e.1.0 i) (e.1.1.0 i) (e.1.1.1 i))
    (λ e. (cc, (cc, (cc, cc))))
call_alike (call_.BasicCancel a0 a1) (call_.BasicCancel b0 b1) =
    through (both (text_alike a0 b0) (basic_cancel_alike a1 b1))
    (λ e i. call_.BasicCancel (e.0 i) (e.1 i))
    (λ e. (cc, cc))
call_alike (call_.BasicPublish a0 a1 a2 a3 a4) (call_.BasicPublish b0 b1 b2 b3 b4) =
    through (both (text_alike a0 b0) (both (text_alike a1 b1) (both (basic_publish_alike a2 b2) (both (text_alike a3 b3) (same_by-Decides properties_code a4 b4)))))
    (λ e i. call_.BasicPublish (e.0 i) (e.1.0 i) (e.1.1.0 i) (e.1.1.1.0 i) (e.1.1.1.1 i))
    (λ e. (cc, (cc, (cc, (cc, cc)))))
call_alike (call_.TryBasicPublish a0 a1 a2 a3 a4) (call_.TryBasicPublish b0 b1 b2 b3 b4) =
    through (both (text_alike a0 b0) (both (text_alike a1 b1) (both (basic_publish_alike a2 b2) (both (text_alike a3 b3) (same_by-Decides properties_code a4 b4)))))
    (λ e i. call_.TryBasicPublish (e.0 i) (e.1.0 i) (e.1.1.0 i) (e.1.1.1.0 i) (e.1.1.1.1 i))
    (λ e. (cc, (cc, (cc, (cc, cc)))))
call_alike (call_.BasicGet a0 a1) (call_.BasicGet b0 b1) =
    through (both (text_alike a0 b0) (basic_get_alike a1 b1))
    (λ e i. call_.BasicGet (e.0 i) (e.1 i))
    (λ e. (cc, cc))
call_alike (call_.BasicAck a0 a1) (call_.BasicAck b0 b1) =
    through (both (unsigned_Decides a0 b0) (basic_ack_alike a1 b1))
    (λ e i. call_.BasicAck (e.0 i) (e.1 i))
    (λ e. (cc, cc))
call_alike (call_.BasicNack a0 a1) (call_.BasicNack b0 b1) =
    through (both (unsigned_Decides a0 b0) (basic_nack_alike a1 b1))
    (λ e i. call_.BasicNack (e.0 i) (e.1 i))
    (λ e. (cc, cc))
call_alike (call_.BasicReject a0 a1) (call_.BasicReject b0 b1) =
    through (both (unsigned_Decides a0 b0) (basic_reject_alike a1 b1))
    (λ e i. call_.BasicReject (e.0 i) (e.1 i))
    (λ e. (cc, cc))
call_alike (call_.BasicRecoverAsync a0) (call_.BasicRecoverAsync b0) = through (basic_recover_async_alike a0 b0) (λ e i. call_.BasicRecoverAsync (e i)) (λ e. cc)
call_alike (call_.BasicRecover a0) (call_.BasicRecover b0) = through (basic_recover_alike a0 b0) (λ e i. call_.BasicRecover (e i)) (λ e. cc)
call_alike (call_.ConfirmSelect a0) (call_.ConfirmSelect b0) = through (confirm_select_alike a0 b0) (λ e i. call_.ConfirmSelect (e i)) (λ e. cc)
call_alike (call_.ConfirmLimit a0) (call_.ConfirmLimit b0) = through (unsigned_Decides a0 b0) (λ e i. call_.ConfirmLimit (e i)) (λ e. cc)
call_alike call_.TxSelect call_.TxSelect = search rules
call_alike call_.TxCommit call_.TxCommit = search rules
call_alike call_.TxRollback call_.TxRollback = search rules
call_alike _ _ = (λ e. cc, λ e. cc)
