-- Reading a method from left to right: its name, and then the fields of the method with that name.
use Rattle.std.specs.Prelude.{ℕ, List, [], ◌∷◌, Option, Some, None}
use Rattle.std.specs.Str.{bytes_eq}
use Rattle.std.specs.List.{find}
use Rattle.lapin_method_text.specs.declared.kinds.MethodKind.{MethodKind}
use Rattle.lapin_method_text.specs.declared.kinds.MethodKind.TheVariants as kind
use Rattle.lapin_methods.specs.declared.method.Method.{Method}
use Rattle.lapin_methods.specs.declared.method.Method.TheVariants as method
use Rattle.lapin_method_text.specs.declared.kinds.ConnectionKind.{ConnectionKind}
use Rattle.lapin_method_text.specs.declared.kinds.ConnectionKind.TheVariants as connection_kind
use Rattle.lapin_methods.specs.declared.connection.ConnectionMethod.{ConnectionMethod}
use Rattle.lapin_method_text.specs.declared.kinds.ChannelKind.{ChannelKind}
use Rattle.lapin_method_text.specs.declared.kinds.ChannelKind.TheVariants as channel_kind
use Rattle.lapin_methods.specs.declared.channel.ChannelMethod.{ChannelMethod}
use Rattle.lapin_method_text.specs.declared.kinds.AccessKind.{AccessKind}
use Rattle.lapin_method_text.specs.declared.kinds.AccessKind.TheVariants as access_kind
use Rattle.lapin_methods.specs.declared.access.AccessMethod.{AccessMethod}
use Rattle.lapin_method_text.specs.declared.kinds.ExchangeMethodKind.{ExchangeMethodKind}
use Rattle.lapin_method_text.specs.declared.kinds.ExchangeMethodKind.TheVariants as exchange_kind
use Rattle.lapin_methods.specs.declared.exchange.ExchangeMethod.{ExchangeMethod}
use Rattle.lapin_method_text.specs.declared.kinds.QueueKind.{QueueKind}
use Rattle.lapin_method_text.specs.declared.kinds.QueueKind.TheVariants as queue_kind
use Rattle.lapin_methods.specs.declared.queue.QueueMethod.{QueueMethod}
use Rattle.lapin_method_text.specs.declared.kinds.BasicKind.{BasicKind}
use Rattle.lapin_method_text.specs.declared.kinds.BasicKind.TheVariants as basic_kind
use Rattle.lapin_methods.specs.declared.basic.BasicMethod.{BasicMethod}
use Rattle.lapin_method_text.specs.declared.kinds.ConfirmKind.{ConfirmKind}
use Rattle.lapin_method_text.specs.declared.kinds.ConfirmKind.TheVariants as confirm_kind
use Rattle.lapin_methods.specs.declared.confirm.ConfirmMethod.{ConfirmMethod}
use Rattle.lapin_method_text.specs.declared.kinds.TxKind.{TxKind}
use Rattle.lapin_method_text.specs.declared.kinds.TxKind.TheVariants as tx_kind
use Rattle.lapin_methods.specs.declared.tx.TxMethod.{TxMethod}
use Rattle.lapin_method_text.specs.declared.kinds.TheConstants.{KINDS}
use Rattle.lapin_method_text.specs.Methods.{method_name, connection_fields, connection_made, channel_fields, channel_made, access_fields, access_made, exchange_fields, exchange_made, queue_fields, queue_made, basic_fields, basic_made, confirm_fields, confirm_made, tx_fields, tx_made}
use Rattle.lapin_tokens.specs.Reading.{◌>>=◌, fields_at}

-- the method of which that is the name
unfoldable pub kind_at : List ℕ → Option MethodKind
kind_at piece = find (λ k. bytes_eq (method_name k) piece) KINDS

unfoldable pub connection_at : ConnectionKind → List (List ℕ) → Option (ConnectionMethod × List (List ℕ))
connection_at connection_kind.Close pieces = fields_at (connection_fields connection_kind.Close) (connection_made connection_kind.Close) pieces
connection_at connection_kind.CloseOk pieces = fields_at (connection_fields connection_kind.CloseOk) (connection_made connection_kind.CloseOk) pieces

unfoldable pub channel_at : ChannelKind → List (List ℕ) → Option (ChannelMethod × List (List ℕ))
channel_at channel_kind.Open pieces = fields_at (channel_fields channel_kind.Open) (channel_made channel_kind.Open) pieces
channel_at channel_kind.OpenOk pieces = fields_at (channel_fields channel_kind.OpenOk) (channel_made channel_kind.OpenOk) pieces
channel_at channel_kind.Flow pieces = fields_at (channel_fields channel_kind.Flow) (channel_made channel_kind.Flow) pieces
channel_at channel_kind.FlowOk pieces = fields_at (channel_fields channel_kind.FlowOk) (channel_made channel_kind.FlowOk) pieces
channel_at channel_kind.Close pieces = fields_at (channel_fields channel_kind.Close) (channel_made channel_kind.Close) pieces
channel_at channel_kind.CloseOk pieces = fields_at (channel_fields channel_kind.CloseOk) (channel_made channel_kind.CloseOk) pieces

unfoldable pub access_at : AccessKind → List (List ℕ) → Option (AccessMethod × List (List ℕ))
access_at access_kind.Request pieces = fields_at (access_fields access_kind.Request) (access_made access_kind.Request) pieces
access_at access_kind.RequestOk pieces = fields_at (access_fields access_kind.RequestOk) (access_made access_kind.RequestOk) pieces

unfoldable pub exchange_at : ExchangeMethodKind → List (List ℕ) → Option (ExchangeMethod × List (List ℕ))
exchange_at exchange_kind.Declare pieces = fields_at (exchange_fields exchange_kind.Declare) (exchange_made exchange_kind.Declare) pieces
exchange_at exchange_kind.DeclareOk pieces = fields_at (exchange_fields exchange_kind.DeclareOk) (exchange_made exchange_kind.DeclareOk) pieces
exchange_at exchange_kind.Delete pieces = fields_at (exchange_fields exchange_kind.Delete) (exchange_made exchange_kind.Delete) pieces
exchange_at exchange_kind.DeleteOk pieces = fields_at (exchange_fields exchange_kind.DeleteOk) (exchange_made exchange_kind.DeleteOk) pieces
exchange_at exchange_kind.Bind pieces = fields_at (exchange_fields exchange_kind.Bind) (exchange_made exchange_kind.Bind) pieces
exchange_at exchange_kind.BindOk pieces = fields_at (exchange_fields exchange_kind.BindOk) (exchange_made exchange_kind.BindOk) pieces
exchange_at exchange_kind.Unbind pieces = fields_at (exchange_fields exchange_kind.Unbind) (exchange_made exchange_kind.Unbind) pieces
exchange_at exchange_kind.UnbindOk pieces = fields_at (exchange_fields exchange_kind.UnbindOk) (exchange_made exchange_kind.UnbindOk) pieces

unfoldable pub queue_at : QueueKind → List (List ℕ) → Option (QueueMethod × List (List ℕ))
queue_at queue_kind.Declare pieces = fields_at (queue_fields queue_kind.Declare) (queue_made queue_kind.Declare) pieces
queue_at queue_kind.DeclareOk pieces = fields_at (queue_fields queue_kind.DeclareOk) (queue_made queue_kind.DeclareOk) pieces
queue_at queue_kind.Bind pieces = fields_at (queue_fields queue_kind.Bind) (queue_made queue_kind.Bind) pieces
queue_at queue_kind.BindOk pieces = fields_at (queue_fields queue_kind.BindOk) (queue_made queue_kind.BindOk) pieces
queue_at queue_kind.Purge pieces = fields_at (queue_fields queue_kind.Purge) (queue_made queue_kind.Purge) pieces
queue_at queue_kind.PurgeOk pieces = fields_at (queue_fields queue_kind.PurgeOk) (queue_made queue_kind.PurgeOk) pieces
queue_at queue_kind.Delete pieces = fields_at (queue_fields queue_kind.Delete) (queue_made queue_kind.Delete) pieces
queue_at queue_kind.DeleteOk pieces = fields_at (queue_fields queue_kind.DeleteOk) (queue_made queue_kind.DeleteOk) pieces
queue_at queue_kind.Unbind pieces = fields_at (queue_fields queue_kind.Unbind) (queue_made queue_kind.Unbind) pieces
queue_at queue_kind.UnbindOk pieces = fields_at (queue_fields queue_kind.UnbindOk) (queue_made queue_kind.UnbindOk) pieces

unfoldable pub basic_at : BasicKind → List (List ℕ) → Option (BasicMethod × List (List ℕ))
basic_at basic_kind.Qos pieces = fields_at (basic_fields basic_kind.Qos) (basic_made basic_kind.Qos) pieces
basic_at basic_kind.QosOk pieces = fields_at (basic_fields basic_kind.QosOk) (basic_made basic_kind.QosOk) pieces
basic_at basic_kind.Consume pieces = fields_at (basic_fields basic_kind.Consume) (basic_made basic_kind.Consume) pieces
basic_at basic_kind.ConsumeOk pieces = fields_at (basic_fields basic_kind.ConsumeOk) (basic_made basic_kind.ConsumeOk) pieces
basic_at basic_kind.Cancel pieces = fields_at (basic_fields basic_kind.Cancel) (basic_made basic_kind.Cancel) pieces
basic_at basic_kind.CancelOk pieces = fields_at (basic_fields basic_kind.CancelOk) (basic_made basic_kind.CancelOk) pieces
basic_at basic_kind.Publish pieces = fields_at (basic_fields basic_kind.Publish) (basic_made basic_kind.Publish) pieces
basic_at basic_kind.Return pieces = fields_at (basic_fields basic_kind.Return) (basic_made basic_kind.Return) pieces
basic_at basic_kind.Deliver pieces = fields_at (basic_fields basic_kind.Deliver) (basic_made basic_kind.Deliver) pieces
basic_at basic_kind.Get pieces = fields_at (basic_fields basic_kind.Get) (basic_made basic_kind.Get) pieces
basic_at basic_kind.GetOk pieces = fields_at (basic_fields basic_kind.GetOk) (basic_made basic_kind.GetOk) pieces
basic_at basic_kind.GetEmpty pieces = fields_at (basic_fields basic_kind.GetEmpty) (basic_made basic_kind.GetEmpty) pieces
basic_at basic_kind.Ack pieces = fields_at (basic_fields basic_kind.Ack) (basic_made basic_kind.Ack) pieces
basic_at basic_kind.Reject pieces = fields_at (basic_fields basic_kind.Reject) (basic_made basic_kind.Reject) pieces
basic_at basic_kind.RecoverAsync pieces = fields_at (basic_fields basic_kind.RecoverAsync) (basic_made basic_kind.RecoverAsync) pieces
basic_at basic_kind.Recover pieces = fields_at (basic_fields basic_kind.Recover) (basic_made basic_kind.Recover) pieces
basic_at basic_kind.RecoverOk pieces = fields_at (basic_fields basic_kind.RecoverOk) (basic_made basic_kind.RecoverOk) pieces
basic_at basic_kind.Nack pieces = fields_at (basic_fields basic_kind.Nack) (basic_made basic_kind.Nack) pieces

unfoldable pub confirm_at : ConfirmKind → List (List ℕ) → Option (ConfirmMethod × List (List ℕ))
confirm_at confirm_kind.Select pieces = fields_at (confirm_fields confirm_kind.Select) (confirm_made confirm_kind.Select) pieces
confirm_at confirm_kind.SelectOk pieces = fields_at (confirm_fields confirm_kind.SelectOk) (confirm_made confirm_kind.SelectOk) pieces

unfoldable pub tx_at : TxKind → List (List ℕ) → Option (TxMethod × List (List ℕ))
tx_at tx_kind.Select pieces = fields_at (tx_fields tx_kind.Select) (tx_made tx_kind.Select) pieces
tx_at tx_kind.SelectOk pieces = fields_at (tx_fields tx_kind.SelectOk) (tx_made tx_kind.SelectOk) pieces
tx_at tx_kind.Commit pieces = fields_at (tx_fields tx_kind.Commit) (tx_made tx_kind.Commit) pieces
tx_at tx_kind.CommitOk pieces = fields_at (tx_fields tx_kind.CommitOk) (tx_made tx_kind.CommitOk) pieces
tx_at tx_kind.Rollback pieces = fields_at (tx_fields tx_kind.Rollback) (tx_made tx_kind.Rollback) pieces
tx_at tx_kind.RollbackOk pieces = fields_at (tx_fields tx_kind.RollbackOk) (tx_made tx_kind.RollbackOk) pieces

-- a method of a known kind, from its fields
abbrev pub of_kind : MethodKind → List (List ℕ) → Option (Method × List (List ℕ))
of_kind (kind.Connection k) pieces = connection_at k pieces >>= λ x. Some (method.Connection x.0, x.1)
of_kind (kind.Channel k) pieces = channel_at k pieces >>= λ x. Some (method.Channel x.0, x.1)
of_kind (kind.Access k) pieces = access_at k pieces >>= λ x. Some (method.Access x.0, x.1)
of_kind (kind.Exchange k) pieces = exchange_at k pieces >>= λ x. Some (method.Exchange x.0, x.1)
of_kind (kind.Queue k) pieces = queue_at k pieces >>= λ x. Some (method.Queue x.0, x.1)
of_kind (kind.Basic k) pieces = basic_at k pieces >>= λ x. Some (method.Basic x.0, x.1)
of_kind (kind.Confirm k) pieces = confirm_at k pieces >>= λ x. Some (method.Confirm x.0, x.1)
of_kind (kind.Tx k) pieces = tx_at k pieces >>= λ x. Some (method.Tx x.0, x.1)

unfoldable pub method_at : List (List ℕ) → Option (Method × List (List ℕ))
method_at [] = None
method_at (piece ∷ rest) = kind_at piece >>= λ k. of_kind k rest
