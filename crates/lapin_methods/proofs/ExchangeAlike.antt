-- The derived `==` of the methods of the class exchange tells whether two of them are equal.
use Rattle.std.specs.Prelude.{◌≡◌}
use Rattle.std.specs.Bool.{Decides}
use Rattle.std.specs.Cmp.{booleans_Decides}
use Rattle.std.proofs.Common.{rules}
use Rattle.lapin_values.specs.Same.{same_by-Decides}
use Rattle.lapin_values.specs.DataCode.{table_code}
use Rattle.lapin_methods.specs.contracts.exchange.ExchangeMethodPartialEq.TheImpl as it
use Rattle.lapin_methods.specs.declared.exchange.ExchangeMethod.{ExchangeMethod}
use Rattle.lapin_methods.specs.declared.exchange.ExchangeMethod.TheVariants as exchange_
use Rattle.lapin_methods.proofs.Fields.{text_alike, both, through}

pub exchange_alike : (x y : ExchangeMethod) → Decides (it.ghosts.eq x y) (x ≡ y)
exchange_alike (exchange_.Declare a0 a1 a2 a3 a4 a5 a6 a7) (exchange_.Declare b0 b1 b2 b3 b4 b5 b6 b7) =
    through (both (text_alike a0 b0) (both (text_alike a1 b1) (both (booleans_Decides a2 b2) (both (booleans_Decides a3 b3) (both (booleans_Decides a4 b4) (both (booleans_Decides a5 b5) (both (booleans_Decides a6 b6) (same_by-Decides table_code a7 b7))))))))
    (λ e i. exchange_.Declare (e.0 i) (e.1.0 i) (e.1.1.0 i) (e.1.1.1.0 i) (e.1.1.1.1.0 i) (e.1.1.1.1.1.0 i) (e.1.1.1.1.1.1.0 i) (e.1.1.1.1.1.1.1 i))
    (λ e. (cc, (cc, (cc, (cc, (cc, (cc, (cc, cc))))))))
exchange_alike exchange_.DeclareOk exchange_.DeclareOk = search rules
exchange_alike (exchange_.Delete a0 a1 a2) (exchange_.Delete b0 b1 b2) = search rules
exchange_alike exchange_.DeleteOk exchange_.DeleteOk = search rules
exchange_alike (exchange_.Bind a0 a1 a2 a3 a4) (exchange_.Bind b0 b1 b2 b3 b4) =
    through (both (text_alike a0 b0) (both (text_alike a1 b1) (both (text_alike a2 b2) (both (booleans_Decides a3 b3) (same_by-Decides table_code a4 b4)))))
    (λ e i. exchange_.Bind (e.0 i) (e.1.0 i) (e.1.1.0 i) (e.1.1.1.0 i) (e.1.1.1.1 i))
    (λ e. (cc, (cc, (cc, (cc, cc)))))
exchange_alike exchange_.BindOk exchange_.BindOk = search rules
exchange_alike (exchange_.Unbind a0 a1 a2 a3 a4) (exchange_.Unbind b0 b1 b2 b3 b4) =
    through (both (text_alike a0 b0) (both (text_alike a1 b1) (both (text_alike a2 b2) (both (booleans_Decides a3 b3) (same_by-Decides table_code a4 b4)))))
    (λ e i. exchange_.Unbind (e.0 i) (e.1.0 i) (e.1.1.0 i) (e.1.1.1.0 i) (e.1.1.1.1 i))
    (λ e. (cc, (cc, (cc, (cc, cc)))))
exchange_alike exchange_.UnbindOk exchange_.UnbindOk = search rules
exchange_alike _ _ = (λ e. cc, λ e. cc)
