-- The derived `==` of the methods of the class basic tells whether two of them are equal.
use Rattle.std.specs.Prelude.{◌≡◌}
use Rattle.std.specs.Bool.{Decides}
use Rattle.std.specs.Cmp.{booleans_Decides}
use Rattle.std.proofs.Common.{rules}
use Rattle.lapin_values.specs.Same.{same_by-Decides}
use Rattle.lapin_values.specs.DataCode.{table_code}
use Rattle.lapin_methods.specs.contracts.basic.BasicMethodPartialEq.TheImpl as it
use Rattle.lapin_methods.specs.declared.basic.BasicMethod.{BasicMethod}
use Rattle.lapin_methods.specs.declared.basic.BasicMethod.TheVariants as basic_
use Rattle.lapin_methods.proofs.Fields.{text_alike, both, through}

pub basic_alike : (x y : BasicMethod) → Decides (it.ghosts.eq x y) (x ≡ y)
basic_alike (basic_.Qos a0 a1) (basic_.Qos b0 b1) = search rules
basic_alike basic_.QosOk basic_.QosOk = search rules
basic_alike (basic_.Consume a0 a1 a2 a3 a4 a5 a6) (basic_.Consume b0 b1 b2 b3 b4 b5 b6) =
    through (both (text_alike a0 b0) (both (text_alike a1 b1) (both (booleans_Decides a2 b2) (both (booleans_Decides a3 b3) (both (booleans_Decides a4 b4) (both (booleans_Decides a5 b5) (same_by-Decides table_code a6 b6)))))))
    (λ e i. basic_.Consume (e.0 i) (e.1.0 i) (e.1.1.0 i) (e.1.1.1.0 i) (e.1.1.1.1.0 i) (e.1.1.1.1.1.0 i) (e.1.1.1.1.1.1 i))
    (λ e. (cc, (cc, (cc, (cc, (cc, (cc, cc)))))))
basic_alike (basic_.ConsumeOk a0) (basic_.ConsumeOk b0) = search rules
basic_alike (basic_.Cancel a0 a1) (basic_.Cancel b0 b1) = search rules
basic_alike (basic_.CancelOk a0) (basic_.CancelOk b0) = search rules
basic_alike (basic_.Publish a0 a1 a2 a3) (basic_.Publish b0 b1 b2 b3) = search rules
basic_alike (basic_.Return a0 a1 a2 a3) (basic_.Return b0 b1 b2 b3) = search rules
basic_alike (basic_.Deliver a0 a1 a2 a3 a4) (basic_.Deliver b0 b1 b2 b3 b4) = search rules
basic_alike (basic_.Get a0 a1) (basic_.Get b0 b1) = search rules
basic_alike (basic_.GetOk a0 a1 a2 a3 a4) (basic_.GetOk b0 b1 b2 b3 b4) = search rules
basic_alike basic_.GetEmpty basic_.GetEmpty = search rules
basic_alike (basic_.Ack a0 a1) (basic_.Ack b0 b1) = search rules
basic_alike (basic_.Reject a0 a1) (basic_.Reject b0 b1) = search rules
basic_alike (basic_.RecoverAsync a0) (basic_.RecoverAsync b0) = search rules
basic_alike (basic_.Recover a0) (basic_.Recover b0) = search rules
basic_alike basic_.RecoverOk basic_.RecoverOk = search rules
basic_alike (basic_.Nack a0 a1 a2) (basic_.Nack b0 b1 b2) = search rules
basic_alike _ _ = (λ e. cc, λ e. cc)
