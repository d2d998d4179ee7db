-- The derived `==` of the methods of the class queue tells whether two of them are equal.
use Rattle.std.specs.Prelude.{◌≡◌}
use Rattle.std.specs.Bool.{Decides}
use Rattle.std.specs.Cmp.{booleans_Decides}
use Rattle.std.proofs.Common.{rules}
use Rattle.lapin_values.specs.Same.{same_by-Decides}
use Rattle.lapin_values.specs.DataCode.{table_code}
use Rattle.lapin_methods.specs.contracts.queue.QueueMethodPartialEq.TheImpl as it
use Rattle.lapin_methods.specs.declared.queue.QueueMethod.{QueueMethod}
use Rattle.lapin_methods.specs.declared.queue.QueueMethod.TheVariants as queue_
use Rattle.lapin_methods.proofs.Fields.{text_alike, both, through}

pub queue_alike : (x y : QueueMethod) → Decides (it.ghosts.eq x y) (x ≡ y)
queue_alike (queue_.Declare a0 a1 a2 a3 a4 a5 a6) (queue_.Declare b0 b1 b2 b3 b4 b5 b6) =
    through (both (text_alike a0 b0) (both (booleans_Decides a1 b1) (both (booleans_Decides a2 b2) (both (booleans_Decides a3 b3) (both (booleans_Decides a4 b4) (both (booleans_Decides a5 b5) (same_by-Decides table_code a6 b6)))))))
    (λ e i. queue_.Declare (e.0 i) (e.1.0 i) (e.1.1.0 i) (e.1.1.1.0 i) (e.1.1.1.1.0 i) (e.1.1.1.1.1.0 i) (e.1.1.1.1.1.1 i))
    (λ e. (cc, (cc, (cc, (cc, (cc, (cc, cc)))))))
queue_alike (queue_.DeclareOk a0 a1 a2) (queue_.DeclareOk b0 b1 b2) = search rules
queue_alike (queue_.Bind a0 a1 a2 a3 a4) (queue_.Bind b0 b1 b2 b3 b4) =
    through (both (text_alike a0 b0) (both (text_alike a1 b1) (both (text_alike a2 b2) (both (booleans_Decides a3 b3) (same_by-Decides table_code a4 b4)))))
    (λ e i. queue_.Bind (e.0 i) (e.1.0 i) (e.1.1.0 i) (e.1.1.1.0 i) (e.1.1.1.1 i))
    (λ e. (cc, (cc, (cc, (cc, cc)))))
queue_alike queue_.BindOk queue_.BindOk = search rules
queue_alike (queue_.Purge a0 a1) (queue_.Purge b0 b1) = search rules
queue_alike (queue_.PurgeOk a0) (queue_.PurgeOk b0) = search rules
queue_alike (queue_.Delete a0 a1 a2 a3) (queue_.Delete b0 b1 b2 b3) = search rules
queue_alike (queue_.DeleteOk a0) (queue_.DeleteOk b0) = search rules
queue_alike (queue_.Unbind a0 a1 a2 a3) (queue_.Unbind b0 b1 b2 b3) =
    through (both (text_alike a0 b0) (both (text_alike a1 b1) (both (text_alike a2 b2) (same_by-Decides table_code a3 b3))))
    (λ e i. queue_.Unbind (e.0 i) (e.1.0 i) (e.1.1.0 i) (e.1.1.1 i))
    (λ e. (cc, (cc, (cc, cc))))
queue_alike queue_.UnbindOk queue_.UnbindOk = search rules
queue_alike _ _ = (λ e. cc, λ e. cc)
