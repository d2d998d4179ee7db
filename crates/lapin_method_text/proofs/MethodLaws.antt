-- Methods: what was written is read, and what was read is spelled so.
use Rattle.std.proofs.Common.{◌≡◌, ℕ, zero, suc, Bool, true, false, cond, ◌||◌, List, [], ◌∷◌, ◌++◌, length, Option, Some, None, slice_get, refl, sym, ap, subst, ◌∙◌}
use Rattle.std.specs.Prelude.{nat_lt, is_some, slice_index}
use Rattle.std.specs.List.{find}
use Rattle.std.specs.Str.{bytes_eq}
use Rattle.std.proofs.lemmas.Slice.Eq.{bytes_eq-Decides}
use Rattle.lapin_method_text.specs.declared.kinds.MethodKind.{MethodKind}
use Rattle.lapin_method_text.specs.declared.kinds.MethodKind.TheVariants as kind
use Rattle.lapin_methods.specs.declared.method.Method.{Method}
use Rattle.lapin_methods.specs.declared.method.Method.TheVariants as method
use Rattle.lapin_method_text.specs.declared.kinds.ConnectionKind.{ConnectionKind}
use Rattle.lapin_method_text.specs.declared.kinds.ConnectionKind.TheVariants as connection_kind
use Rattle.lapin_methods.specs.declared.connection.ConnectionMethod.{ConnectionMethod}
use Rattle.lapin_methods.specs.declared.connection.ConnectionMethod.TheVariants as connection_method
use Rattle.lapin_method_text.specs.declared.kinds.ChannelKind.{ChannelKind}
use Rattle.lapin_method_text.specs.declared.kinds.ChannelKind.TheVariants as channel_kind
use Rattle.lapin_methods.specs.declared.channel.ChannelMethod.{ChannelMethod}
use Rattle.lapin_methods.specs.declared.channel.ChannelMethod.TheVariants as channel_method
use Rattle.lapin_method_text.specs.declared.kinds.AccessKind.{AccessKind}
use Rattle.lapin_method_text.specs.declared.kinds.AccessKind.TheVariants as access_kind
use Rattle.lapin_methods.specs.declared.access.AccessMethod.{AccessMethod}
use Rattle.lapin_methods.specs.declared.access.AccessMethod.TheVariants as access_method
use Rattle.lapin_method_text.specs.declared.kinds.ExchangeMethodKind.{ExchangeMethodKind}
use Rattle.lapin_method_text.specs.declared.kinds.ExchangeMethodKind.TheVariants as exchange_kind
use Rattle.lapin_methods.specs.declared.exchange.ExchangeMethod.{ExchangeMethod}
use Rattle.lapin_methods.specs.declared.exchange.ExchangeMethod.TheVariants as exchange_method
use Rattle.lapin_method_text.specs.declared.kinds.QueueKind.{QueueKind}
use Rattle.lapin_method_text.specs.declared.kinds.QueueKind.TheVariants as queue_kind
use Rattle.lapin_methods.specs.declared.queue.QueueMethod.{QueueMethod}
use Rattle.lapin_methods.specs.declared.queue.QueueMethod.TheVariants as queue_method
use Rattle.lapin_method_text.specs.declared.kinds.BasicKind.{BasicKind}
use Rattle.lapin_method_text.specs.declared.kinds.BasicKind.TheVariants as basic_kind
use Rattle.lapin_methods.specs.declared.basic.BasicMethod.{BasicMethod}
use Rattle.lapin_methods.specs.declared.basic.BasicMethod.TheVariants as basic_method
use Rattle.lapin_method_text.specs.declared.kinds.ConfirmKind.{ConfirmKind}
use Rattle.lapin_method_text.specs.declared.kinds.ConfirmKind.TheVariants as confirm_kind
use Rattle.lapin_methods.specs.declared.confirm.ConfirmMethod.{ConfirmMethod}
use Rattle.lapin_methods.specs.declared.confirm.ConfirmMethod.TheVariants as confirm_method
use Rattle.lapin_method_text.specs.declared.kinds.TxKind.{TxKind}
use Rattle.lapin_method_text.specs.declared.kinds.TxKind.TheVariants as tx_kind
use Rattle.lapin_methods.specs.declared.tx.TxMethod.{TxMethod}
use Rattle.lapin_methods.specs.declared.tx.TxMethod.TheVariants as tx_method
use Rattle.lapin_method_text.specs.declared.kinds.TheConstants.{KINDS, PLACES}
use Rattle.lapin_tokens.proofs.FieldLaws.{bind_some, some_is, find_found}
use Rattle.lapin_tokens.proofs.Plain.{AllPlain}
use Rattle.lapin_method_text.specs.Methods.{method_name, method_tokens, MethodFits, connection_name, connection_fields, connection_made, connection_parts, connection_tokens, channel_name, channel_fields, channel_made, channel_parts, channel_tokens, access_name, access_fields, access_made, access_parts, access_tokens, exchange_name, exchange_fields, exchange_made, exchange_parts, exchange_tokens, queue_name, queue_fields, queue_made, queue_parts, queue_tokens, basic_name, basic_fields, basic_made, basic_parts, basic_tokens, confirm_name, confirm_fields, confirm_made, confirm_parts, confirm_tokens, tx_name, tx_fields, tx_made, tx_parts, tx_tokens}
use Rattle.lapin_method_text.specs.MethodReading.{kind_at, of_kind, method_at, connection_at, channel_at, access_at, exchange_at, queue_at, basic_at, confirm_at, tx_at}
use Rattle.lapin_method_text.specs.Slots.{slot, candidate}
use Rattle.lapin_method_text.proofs.Entries.{Table, RowLaws, EntryLaws, entry_found, entry_again, plain_entry}

-- ---- names

kind_found : (piece : List ℕ) (k : MethodKind) → kind_at piece ≡ Some k → piece ≡ method_name k
unfolding kind_at
kind_found piece k e = sym ((bytes_eq-Decides (method_name k) piece).0 (find_found (λ m. bytes_eq (method_name m) piece) KINDS k e))

-- what the reading of a kind's fields gives is a method that has the kind's name
abbrev IsMethod : MethodKind → List (List ℕ) → Method × List (List ℕ) → Type 0
IsMethod k rest x = (method_name k ∷ rest ≡ method_tokens x.0 ++ x.1) × MethodFits x.0

-- ---- the class connection

abbrev connection_table : Table ConnectionKind ConnectionMethod
connection_table = record { name = connection_name; fields = connection_fields; made = connection_made; parts = connection_parts; spelled = connection_tokens; reading = connection_at }

connection_rows : (k : ConnectionKind) → RowLaws connection_table candidate kind.Connection k
unfolding candidate connection_at
connection_rows connection_kind.Close = record { named = refl; plain = refl; reads = λ _. refl; parted = λ _. refl }
connection_rows connection_kind.CloseOk = record { named = refl; plain = refl; reads = λ _. refl; parted = λ _. refl }

connection_laws : (m : ConnectionMethod) → EntryLaws connection_table m
connection_laws (connection_method.Close reply_code reply_text class_id method_id) = record { remade = refl; spells = refl }
connection_laws connection_method.CloseOk = record { remade = refl; spells = refl }

connection_found : (k : ConnectionKind) (rest : List (List ℕ)) (x : Method × List (List ℕ)) → of_kind (kind.Connection k) rest ≡ Some x → IsMethod (kind.Connection k) rest x
connection_found k rest x e =
    let a = bind_some (connection_at k rest) (λ y. Some (method.Connection y.0, y.1)) x e in
    subst (λ (y : Method × List (List ℕ)). IsMethod (kind.Connection k) rest y) (some_is (method.Connection a.0.0, a.0.1) x a.2) (entry_found connection_table candidate kind.Connection connection_rows connection_laws k rest a.0 a.1)

-- ---- the class channel

abbrev channel_table : Table ChannelKind ChannelMethod
channel_table = record { name = channel_name; fields = channel_fields; made = channel_made; parts = channel_parts; spelled = channel_tokens; reading = channel_at }

channel_rows : (k : ChannelKind) → RowLaws channel_table candidate kind.Channel k
unfolding candidate channel_at
channel_rows channel_kind.Open = record { named = refl; plain = refl; reads = λ _. refl; parted = λ _. refl }
channel_rows channel_kind.OpenOk = record { named = refl; plain = refl; reads = λ _. refl; parted = λ _. refl }
channel_rows channel_kind.Flow = record { named = refl; plain = refl; reads = λ _. refl; parted = λ _. refl }
channel_rows channel_kind.FlowOk = record { named = refl; plain = refl; reads = λ _. refl; parted = λ _. refl }
channel_rows channel_kind.Close = record { named = refl; plain = refl; reads = λ _. refl; parted = λ _. refl }
channel_rows channel_kind.CloseOk = record { named = refl; plain = refl; reads = λ _. refl; parted = λ _. refl }

channel_laws : (m : ChannelMethod) → EntryLaws channel_table m
channel_laws channel_method.Open = record { remade = refl; spells = refl }
channel_laws channel_method.OpenOk = record { remade = refl; spells = refl }
channel_laws (channel_method.Flow active) = record { remade = refl; spells = refl }
channel_laws (channel_method.FlowOk active) = record { remade = refl; spells = refl }
channel_laws (channel_method.Close reply_code reply_text class_id method_id) = record { remade = refl; spells = refl }
channel_laws channel_method.CloseOk = record { remade = refl; spells = refl }

channel_found : (k : ChannelKind) (rest : List (List ℕ)) (x : Method × List (List ℕ)) → of_kind (kind.Channel k) rest ≡ Some x → IsMethod (kind.Channel k) rest x
channel_found k rest x e =
    let a = bind_some (channel_at k rest) (λ y. Some (method.Channel y.0, y.1)) x e in
    subst (λ (y : Method × List (List ℕ)). IsMethod (kind.Channel k) rest y) (some_is (method.Channel a.0.0, a.0.1) x a.2) (entry_found channel_table candidate kind.Channel channel_rows channel_laws k rest a.0 a.1)

-- ---- the class access

abbrev access_table : Table AccessKind AccessMethod
access_table = record { name = access_name; fields = access_fields; made = access_made; parts = access_parts; spelled = access_tokens; reading = access_at }

access_rows : (k : AccessKind) → RowLaws access_table candidate kind.Access k
unfolding candidate access_at
access_rows access_kind.Request = record { named = refl; plain = refl; reads = λ _. refl; parted = λ _. refl }
access_rows access_kind.RequestOk = record { named = refl; plain = refl; reads = λ _. refl; parted = λ _. refl }

access_laws : (m : AccessMethod) → EntryLaws access_table m
access_laws (access_method.Request realm exclusive passive active write read) = record { remade = refl; spells = refl }
access_laws access_method.RequestOk = record { remade = refl; spells = refl }

access_found : (k : AccessKind) (rest : List (List ℕ)) (x : Method × List (List ℕ)) → of_kind (kind.Access k) rest ≡ Some x → IsMethod (kind.Access k) rest x
access_found k rest x e =
    let a = bind_some (access_at k rest) (λ y. Some (method.Access y.0, y.1)) x e in
    subst (λ (y : Method × List (List ℕ)). IsMethod (kind.Access k) rest y) (some_is (method.Access a.0.0, a.0.1) x a.2) (entry_found access_table candidate kind.Access access_rows access_laws k rest a.0 a.1)

-- ---- the class exchange

abbrev exchange_table : Table ExchangeMethodKind ExchangeMethod
exchange_table = record { name = exchange_name; fields = exchange_fields; made = exchange_made; parts = exchange_parts; spelled = exchange_tokens; reading = exchange_at }

exchange_rows : (k : ExchangeMethodKind) → RowLaws exchange_table candidate kind.Exchange k
unfolding candidate exchange_at
exchange_rows exchange_kind.Declare = record { named = refl; plain = refl; reads = λ _. refl; parted = λ _. refl }
exchange_rows exchange_kind.DeclareOk = record { named = refl; plain = refl; reads = λ _. refl; parted = λ _. refl }
exchange_rows exchange_kind.Delete = record { named = refl; plain = refl; reads = λ _. refl; parted = λ _. refl }
exchange_rows exchange_kind.DeleteOk = record { named = refl; plain = refl; reads = λ _. refl; parted = λ _. refl }
exchange_rows exchange_kind.Bind = record { named = refl; plain = refl; reads = λ _. refl; parted = λ _. refl }
exchange_rows exchange_kind.BindOk = record { named = refl; plain = refl; reads = λ _. refl; parted = λ _. refl }
exchange_rows exchange_kind.Unbind = record { named = refl; plain = refl; reads = λ _. refl; parted = λ _. refl }
exchange_rows exchange_kind.UnbindOk = record { named = refl; plain = refl; reads = λ _. refl; parted = λ _. refl }

exchange_laws : (m : ExchangeMethod) → EntryLaws exchange_table m
exchange_laws (exchange_method.Declare exchange kind passive durable auto_delete internal nowait arguments) = record { remade = refl; spells = refl }
exchange_laws exchange_method.DeclareOk = record { remade = refl; spells = refl }
exchange_laws (exchange_method.Delete exchange if_unused nowait) = record { remade = refl; spells = refl }
exchange_laws exchange_method.DeleteOk = record { remade = refl; spells = refl }
exchange_laws (exchange_method.Bind destination source routing_key nowait arguments) = record { remade = refl; spells = refl }
exchange_laws exchange_method.BindOk = record { remade = refl; spells = refl }
exchange_laws (exchange_method.Unbind destination source routing_key nowait arguments) = record { remade = refl; spells = refl }
exchange_laws exchange_method.UnbindOk = record { remade = refl; spells = refl }

exchange_found : (k : ExchangeMethodKind) (rest : List (List ℕ)) (x : Method × List (List ℕ)) → of_kind (kind.Exchange k) rest ≡ Some x → IsMethod (kind.Exchange k) rest x
exchange_found k rest x e =
    let a = bind_some (exchange_at k rest) (λ y. Some (method.Exchange y.0, y.1)) x e in
    subst (λ (y : Method × List (List ℕ)). IsMethod (kind.Exchange k) rest y) (some_is (method.Exchange a.0.0, a.0.1) x a.2) (entry_found exchange_table candidate kind.Exchange exchange_rows exchange_laws k rest a.0 a.1)

-- ---- the class queue

abbrev queue_table : Table QueueKind QueueMethod
queue_table = record { name = queue_name; fields = queue_fields; made = queue_made; parts = queue_parts; spelled = queue_tokens; reading = queue_at }

queue_rows : (k : QueueKind) → RowLaws queue_table candidate kind.Queue k
unfolding candidate queue_at
queue_rows queue_kind.Declare = record { named = refl; plain = refl; reads = λ _. refl; parted = λ _. refl }
queue_rows queue_kind.DeclareOk = record { named = refl; plain = refl; reads = λ _. refl; parted = λ _. refl }
queue_rows queue_kind.Bind = record { named = refl; plain = refl; reads = λ _. refl; parted = λ _. refl }
queue_rows queue_kind.BindOk = record { named = refl; plain = refl; reads = λ _. refl; parted = λ _. refl }
queue_rows queue_kind.Purge = record { named = refl; plain = refl; reads = λ _. refl; parted = λ _. refl }
queue_rows queue_kind.PurgeOk = record { named = refl; plain = refl; reads = λ _. refl; parted = λ _. refl }
queue_rows queue_kind.Delete = record { named = refl; plain = refl; reads = λ _. refl; parted = λ _. refl }
queue_rows queue_kind.DeleteOk = record { named = refl; plain = refl; reads = λ _. refl; parted = λ _. refl }
queue_rows queue_kind.Unbind = record { named = refl; plain = refl; reads = λ _. refl; parted = λ _. refl }
queue_rows queue_kind.UnbindOk = record { named = refl; plain = refl; reads = λ _. refl; parted = λ _. refl }

queue_laws : (m : QueueMethod) → EntryLaws queue_table m
queue_laws (queue_method.Declare queue passive durable exclusive auto_delete nowait arguments) = record { remade = refl; spells = refl }
queue_laws (queue_method.DeclareOk queue message_count consumer_count) = record { remade = refl; spells = refl }
queue_laws (queue_method.Bind queue exchange routing_key nowait arguments) = record { remade = refl; spells = refl }
queue_laws queue_method.BindOk = record { remade = refl; spells = refl }
queue_laws (queue_method.Purge queue nowait) = record { remade = refl; spells = refl }
queue_laws (queue_method.PurgeOk message_count) = record { remade = refl; spells = refl }
queue_laws (queue_method.Delete queue if_unused if_empty nowait) = record { remade = refl; spells = refl }
queue_laws (queue_method.DeleteOk message_count) = record { remade = refl; spells = refl }
queue_laws (queue_method.Unbind queue exchange routing_key arguments) = record { remade = refl; spells = refl }
queue_laws queue_method.UnbindOk = record { remade = refl; spells = refl }

queue_found : (k : QueueKind) (rest : List (List ℕ)) (x : Method × List (List ℕ)) → of_kind (kind.Queue k) rest ≡ Some x → IsMethod (kind.Queue k) rest x
queue_found k rest x e =
    let a = bind_some (queue_at k rest) (λ y. Some (method.Queue y.0, y.1)) x e in
    subst (λ (y : Method × List (List ℕ)). IsMethod (kind.Queue k) rest y) (some_is (method.Queue a.0.0, a.0.1) x a.2) (entry_found queue_table candidate kind.Queue queue_rows queue_laws k rest a.0 a.1)

-- ---- the class basic

abbrev basic_table : Table BasicKind BasicMethod
basic_table = record { name = basic_name; fields = basic_fields; made = basic_made; parts = basic_parts; spelled = basic_tokens; reading = basic_at }

basic_rows : (k : BasicKind) → RowLaws basic_table candidate kind.Basic k
unfolding candidate basic_at
basic_rows basic_kind.Qos = record { named = refl; plain = refl; reads = λ _. refl; parted = λ _. refl }
basic_rows basic_kind.QosOk = record { named = refl; plain = refl; reads = λ _. refl; parted = λ _. refl }
basic_rows basic_kind.Consume = record { named = refl; plain = refl; reads = λ _. refl; parted = λ _. refl }
basic_rows basic_kind.ConsumeOk = record { named = refl; plain = refl; reads = λ _. refl; parted = λ _. refl }
basic_rows basic_kind.Cancel = record { named = refl; plain = refl; reads = λ _. refl; parted = λ _. refl }
basic_rows basic_kind.CancelOk = record { named = refl; plain = refl; reads = λ _. refl; parted = λ _. refl }
basic_rows basic_kind.Publish = record { named = refl; plain = refl; reads = λ _. refl; parted = λ _. refl }
basic_rows basic_kind.Return = record { named = refl; plain = refl; reads = λ _. refl; parted = λ _. refl }
basic_rows basic_kind.Deliver = record { named = refl; plain = refl; reads = λ _. refl; parted = λ _. refl }
basic_rows basic_kind.Get = record { named = refl; plain = refl; reads = λ _. refl; parted = λ _. refl }
basic_rows basic_kind.GetOk = record { named = refl; plain = refl; reads = λ _. refl; parted = λ _. refl }
basic_rows basic_kind.GetEmpty = record { named = refl; plain = refl; reads = λ _. refl; parted = λ _. refl }
basic_rows basic_kind.Ack = record { named = refl; plain = refl; reads = λ _. refl; parted = λ _. refl }
basic_rows basic_kind.Reject = record { named = refl; plain = refl; reads = λ _. refl; parted = λ _. refl }
basic_rows basic_kind.RecoverAsync = record { named = refl; plain = refl; reads = λ _. refl; parted = λ _. refl }
basic_rows basic_kind.Recover = record { named = refl; plain = refl; reads = λ _. refl; parted = λ _. refl }
basic_rows basic_kind.RecoverOk = record { named = refl; plain = refl; reads = λ _. refl; parted = λ _. refl }
basic_rows basic_kind.Nack = record { named = refl; plain = refl; reads = λ _. refl; parted = λ _. refl }

basic_laws : (m : BasicMethod) → EntryLaws basic_table m
basic_laws (basic_method.Qos prefetch_count global) = record { remade = refl; spells = refl }
basic_laws basic_method.QosOk = record { remade = refl; spells = refl }
basic_laws (basic_method.Consume queue consumer_tag no_local no_ack exclusive nowait arguments) = record { remade = refl; spells = refl }
basic_laws (basic_method.ConsumeOk consumer_tag) = record { remade = refl; spells = refl }
basic_laws (basic_method.Cancel consumer_tag nowait) = record { remade = refl; spells = refl }
basic_laws (basic_method.CancelOk consumer_tag) = record { remade = refl; spells = refl }
basic_laws (basic_method.Publish exchange routing_key mandatory immediate) = record { remade = refl; spells = refl }
basic_laws (basic_method.Return reply_code reply_text exchange routing_key) = record { remade = refl; spells = refl }
basic_laws (basic_method.Deliver consumer_tag delivery_tag redelivered exchange routing_key) = record { remade = refl; spells = refl }
basic_laws (basic_method.Get queue no_ack) = record { remade = refl; spells = refl }
basic_laws (basic_method.GetOk delivery_tag redelivered exchange routing_key message_count) = record { remade = refl; spells = refl }
basic_laws basic_method.GetEmpty = record { remade = refl; spells = refl }
basic_laws (basic_method.Ack delivery_tag multiple) = record { remade = refl; spells = refl }
basic_laws (basic_method.Reject delivery_tag requeue) = record { remade = refl; spells = refl }
basic_laws (basic_method.RecoverAsync requeue) = record { remade = refl; spells = refl }
basic_laws (basic_method.Recover requeue) = record { remade = refl; spells = refl }
basic_laws basic_method.RecoverOk = record { remade = refl; spells = refl }
basic_laws (basic_method.Nack delivery_tag multiple requeue) = record { remade = refl; spells = refl }

basic_found : (k : BasicKind) (rest : List (List ℕ)) (x : Method × List (List ℕ)) → of_kind (kind.Basic k) rest ≡ Some x → IsMethod (kind.Basic k) rest x
basic_found k rest x e =
    let a = bind_some (basic_at k rest) (λ y. Some (method.Basic y.0, y.1)) x e in
    subst (λ (y : Method × List (List ℕ)). IsMethod (kind.Basic k) rest y) (some_is (method.Basic a.0.0, a.0.1) x a.2) (entry_found basic_table candidate kind.Basic basic_rows basic_laws k rest a.0 a.1)

-- ---- the class confirm

abbrev confirm_table : Table ConfirmKind ConfirmMethod
confirm_table = record { name = confirm_name; fields = confirm_fields; made = confirm_made; parts = confirm_parts; spelled = confirm_tokens; reading = confirm_at }

confirm_rows : (k : ConfirmKind) → RowLaws confirm_table candidate kind.Confirm k
unfolding candidate confirm_at
confirm_rows confirm_kind.Select = record { named = refl; plain = refl; reads = λ _. refl; parted = λ _. refl }
confirm_rows confirm_kind.SelectOk = record { named = refl; plain = refl; reads = λ _. refl; parted = λ _. refl }

confirm_laws : (m : ConfirmMethod) → EntryLaws confirm_table m
confirm_laws (confirm_method.Select nowait) = record { remade = refl; spells = refl }
confirm_laws confirm_method.SelectOk = record { remade = refl; spells = refl }

confirm_found : (k : ConfirmKind) (rest : List (List ℕ)) (x : Method × List (List ℕ)) → of_kind (kind.Confirm k) rest ≡ Some x → IsMethod (kind.Confirm k) rest x
confirm_found k rest x e =
    let a = bind_some (confirm_at k rest) (λ y. Some (method.Confirm y.0, y.1)) x e in
    subst (λ (y : Method × List (List ℕ)). IsMethod (kind.Confirm k) rest y) (some_is (method.Confirm a.0.0, a.0.1) x a.2) (entry_found confirm_table candidate kind.Confirm confirm_rows confirm_laws k rest a.0 a.1)

-- ---- the class tx

abbrev tx_table : Table TxKind TxMethod
tx_table = record { name = tx_name; fields = tx_fields; made = tx_made; parts = tx_parts; spelled = tx_tokens; reading = tx_at }

tx_rows : (k : TxKind) → RowLaws tx_table candidate kind.Tx k
unfolding candidate tx_at
tx_rows tx_kind.Select = record { named = refl; plain = refl; reads = λ _. refl; parted = λ _. refl }
tx_rows tx_kind.SelectOk = record { named = refl; plain = refl; reads = λ _. refl; parted = λ _. refl }
tx_rows tx_kind.Commit = record { named = refl; plain = refl; reads = λ _. refl; parted = λ _. refl }
tx_rows tx_kind.CommitOk = record { named = refl; plain = refl; reads = λ _. refl; parted = λ _. refl }
tx_rows tx_kind.Rollback = record { named = refl; plain = refl; reads = λ _. refl; parted = λ _. refl }
tx_rows tx_kind.RollbackOk = record { named = refl; plain = refl; reads = λ _. refl; parted = λ _. refl }

tx_laws : (m : TxMethod) → EntryLaws tx_table m
tx_laws tx_method.Select = record { remade = refl; spells = refl }
tx_laws tx_method.SelectOk = record { remade = refl; spells = refl }
tx_laws tx_method.Commit = record { remade = refl; spells = refl }
tx_laws tx_method.CommitOk = record { remade = refl; spells = refl }
tx_laws tx_method.Rollback = record { remade = refl; spells = refl }
tx_laws tx_method.RollbackOk = record { remade = refl; spells = refl }

tx_found : (k : TxKind) (rest : List (List ℕ)) (x : Method × List (List ℕ)) → of_kind (kind.Tx k) rest ≡ Some x → IsMethod (kind.Tx k) rest x
tx_found k rest x e =
    let a = bind_some (tx_at k rest) (λ y. Some (method.Tx y.0, y.1)) x e in
    subst (λ (y : Method × List (List ℕ)). IsMethod (kind.Tx k) rest y) (some_is (method.Tx a.0.0, a.0.1) x a.2) (entry_found tx_table candidate kind.Tx tx_rows tx_laws k rest a.0 a.1)

-- ---- a name is the name of one method

-- a method's name leads to it
slotted : (k : MethodKind) → candidate (method_name k) ≡ Some k
slotted (kind.Connection k) = (connection_rows k).named
slotted (kind.Channel k) = (channel_rows k).named
slotted (kind.Access k) = (access_rows k).named
slotted (kind.Exchange k) = (exchange_rows k).named
slotted (kind.Queue k) = (queue_rows k).named
slotted (kind.Basic k) = (basic_rows k).named
slotted (kind.Confirm k) = (confirm_rows k).named
slotted (kind.Tx k) = (tx_rows k).named

either : {X : Type 0} (b : Bool) (y : X) (o : Option X) → is_some o ≡ true → is_some (cond b (Some y) o) ≡ true
either true y o holds = refl
either false y o holds = holds

some_found : {X : Type 0} (p : X → Bool) (xs : List X) (i : ℕ) (x : X) → slice_get xs i ≡ Some x → p x ≡ true → is_some (find p xs) ≡ true
some_found p [] i x at holds = absurd cc
some_found p (y ∷ ys) zero x at holds = rw (ap p (some_is y x at) ∙ holds) refl
some_found p (y ∷ ys) (suc i) x at holds = either (p y) y (find p ys) (some_found p ys i x at holds)

behind : {X : Type 0} (b : Bool) (o : Option X) (x : X) → cond b None o ≡ Some x → o ≡ Some x
behind true o x e = absurd cc
behind false o x e = e

has_kind : (k : MethodKind) → is_some (kind_at (method_name k)) ≡ true
unfolding candidate kind_at
has_kind k =
    let name = method_name k in
    let at = behind (nat_lt (length name) 5 || nat_lt 19 (length name)) (slice_get KINDS (slice_index PLACES (slot name))) k (slotted k) in
    some_found (λ m. bytes_eq (method_name m) name) KINDS (slice_index PLACES (slot name)) k at ((bytes_eq-Decides name name).1 refl)

the_same : (k : MethodKind) (o : Option MethodKind) → kind_at (method_name k) ≡ o → is_some o ≡ true → o ≡ Some k
the_same k None e holds = absurd cc
the_same k (Some j) e holds = sym (slotted j) ∙ ap candidate (sym (kind_found (method_name k) j e)) ∙ slotted k

named : (k : MethodKind) → kind_at (method_name k) ≡ Some k
named k = the_same k (kind_at (method_name k)) refl (has_kind k)

-- the method of a name
pub kind_of : (name : List ℕ) (k : MethodKind) → name ≡ method_name k → Some k ≡ kind_at name
kind_of name k e = sym (named k) ∙ ap kind_at (sym e)

pub kind_is : (name : List ℕ) (k : MethodKind) → bytes_eq (method_name k) name ≡ true → Some k ≡ kind_at name
kind_is name k same = sym (named k) ∙ ap kind_at ((bytes_eq-Decides (method_name k) name).0 same)

none_if : (name : List ℕ) (o : Option MethodKind) → kind_at name ≡ o → ((k : MethodKind) → candidate name ≡ Some k → bytes_eq (method_name k) name ≡ false) → None ≡ o
none_if name None e others = refl
none_if name (Some k) e others =
    let is = kind_found name k e in
    let differs = others k (ap candidate is ∙ slotted k) in
    let same = (bytes_eq-Decides (method_name k) name).1 (sym is) in
    absurd cc

-- where the only method that may have a name has another, none has it
pub no_kind : (name : List ℕ) → ((k : MethodKind) → candidate name ≡ Some k → bytes_eq (method_name k) name ≡ false) → None ≡ kind_at name
no_kind name others = none_if name (kind_at name) refl others

connection_again : (m : ConnectionMethod) (rest : List (List ℕ)) → MethodFits (method.Connection m) → method_at (method_tokens (method.Connection m) ++ rest) ≡ Some (method.Connection m, rest)
unfolding method_at
connection_again m rest h = rw ((connection_laws m).spells, named (kind.Connection (connection_parts m).0), entry_again connection_table candidate kind.Connection connection_rows connection_laws m rest h) refl

channel_again : (m : ChannelMethod) (rest : List (List ℕ)) → MethodFits (method.Channel m) → method_at (method_tokens (method.Channel m) ++ rest) ≡ Some (method.Channel m, rest)
unfolding method_at
channel_again m rest h = rw ((channel_laws m).spells, named (kind.Channel (channel_parts m).0), entry_again channel_table candidate kind.Channel channel_rows channel_laws m rest h) refl

access_again : (m : AccessMethod) (rest : List (List ℕ)) → MethodFits (method.Access m) → method_at (method_tokens (method.Access m) ++ rest) ≡ Some (method.Access m, rest)
unfolding method_at
access_again m rest h = rw ((access_laws m).spells, named (kind.Access (access_parts m).0), entry_again access_table candidate kind.Access access_rows access_laws m rest h) refl

exchange_again : (m : ExchangeMethod) (rest : List (List ℕ)) → MethodFits (method.Exchange m) → method_at (method_tokens (method.Exchange m) ++ rest) ≡ Some (method.Exchange m, rest)
unfolding method_at
exchange_again m rest h = rw ((exchange_laws m).spells, named (kind.Exchange (exchange_parts m).0), entry_again exchange_table candidate kind.Exchange exchange_rows exchange_laws m rest h) refl

queue_again : (m : QueueMethod) (rest : List (List ℕ)) → MethodFits (method.Queue m) → method_at (method_tokens (method.Queue m) ++ rest) ≡ Some (method.Queue m, rest)
unfolding method_at
queue_again m rest h = rw ((queue_laws m).spells, named (kind.Queue (queue_parts m).0), entry_again queue_table candidate kind.Queue queue_rows queue_laws m rest h) refl

basic_again : (m : BasicMethod) (rest : List (List ℕ)) → MethodFits (method.Basic m) → method_at (method_tokens (method.Basic m) ++ rest) ≡ Some (method.Basic m, rest)
unfolding method_at
basic_again m rest h = rw ((basic_laws m).spells, named (kind.Basic (basic_parts m).0), entry_again basic_table candidate kind.Basic basic_rows basic_laws m rest h) refl

confirm_again : (m : ConfirmMethod) (rest : List (List ℕ)) → MethodFits (method.Confirm m) → method_at (method_tokens (method.Confirm m) ++ rest) ≡ Some (method.Confirm m, rest)
unfolding method_at
confirm_again m rest h = rw ((confirm_laws m).spells, named (kind.Confirm (confirm_parts m).0), entry_again confirm_table candidate kind.Confirm confirm_rows confirm_laws m rest h) refl

tx_again : (m : TxMethod) (rest : List (List ℕ)) → MethodFits (method.Tx m) → method_at (method_tokens (method.Tx m) ++ rest) ≡ Some (method.Tx m, rest)
unfolding method_at
tx_again m rest h = rw ((tx_laws m).spells, named (kind.Tx (tx_parts m).0), entry_again tx_table candidate kind.Tx tx_rows tx_laws m rest h) refl

-- ---- all classes

of_kind_found : (k : MethodKind) (rest : List (List ℕ)) (x : Method × List (List ℕ)) → of_kind k rest ≡ Some x → IsMethod k rest x
of_kind_found (kind.Connection k) rest x e = connection_found k rest x e
of_kind_found (kind.Channel k) rest x e = channel_found k rest x e
of_kind_found (kind.Access k) rest x e = access_found k rest x e
of_kind_found (kind.Exchange k) rest x e = exchange_found k rest x e
of_kind_found (kind.Queue k) rest x e = queue_found k rest x e
of_kind_found (kind.Basic k) rest x e = basic_found k rest x e
of_kind_found (kind.Confirm k) rest x e = confirm_found k rest x e
of_kind_found (kind.Tx k) rest x e = tx_found k rest x e

-- what was written is read, whatever follows
pub method_again : (m : Method) (rest : List (List ℕ)) → MethodFits m → method_at (method_tokens m ++ rest) ≡ Some (m, rest)
method_again (method.Connection m) rest h = connection_again m rest h
method_again (method.Channel m) rest h = channel_again m rest h
method_again (method.Access m) rest h = access_again m rest h
method_again (method.Exchange m) rest h = exchange_again m rest h
method_again (method.Queue m) rest h = queue_again m rest h
method_again (method.Basic m) rest h = basic_again m rest h
method_again (method.Confirm m) rest h = confirm_again m rest h
method_again (method.Tx m) rest h = tx_again m rest h

-- no token of a method has a space
pub plain_method : (m : Method) → MethodFits m → AllPlain (method_tokens m)
plain_method (method.Connection m) h = plain_entry connection_table candidate kind.Connection connection_rows connection_laws m h
plain_method (method.Channel m) h = plain_entry channel_table candidate kind.Channel channel_rows channel_laws m h
plain_method (method.Access m) h = plain_entry access_table candidate kind.Access access_rows access_laws m h
plain_method (method.Exchange m) h = plain_entry exchange_table candidate kind.Exchange exchange_rows exchange_laws m h
plain_method (method.Queue m) h = plain_entry queue_table candidate kind.Queue queue_rows queue_laws m h
plain_method (method.Basic m) h = plain_entry basic_table candidate kind.Basic basic_rows basic_laws m h
plain_method (method.Confirm m) h = plain_entry confirm_table candidate kind.Confirm confirm_rows confirm_laws m h
plain_method (method.Tx m) h = plain_entry tx_table candidate kind.Tx tx_rows tx_laws m h

-- what was read is spelled so
pub method_found : (pieces : List (List ℕ)) (x : Method × List (List ℕ)) → method_at pieces ≡ Some x → (pieces ≡ method_tokens x.0 ++ x.1) × MethodFits x.0
unfolding method_at
method_found [] x e = absurd cc
method_found (piece ∷ rest) x e =
    let a = bind_some (kind_at piece) (λ k. of_kind k rest) x e in
    let f = of_kind_found a.0 rest x a.2 in
    (ap (λ (p : List ℕ). p ∷ rest) (kind_found piece a.0 a.1) ∙ f.0, f.1)
