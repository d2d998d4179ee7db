-- The derived `==` of the methods of the class access tells whether two of them are equal.
use Rattle.std.specs.Prelude.{◌≡◌}
use Rattle.std.specs.Bool.{Decides}
use Rattle.std.specs.Cmp.{booleans_Decides}
use Rattle.std.proofs.Common.{rules}
use Rattle.lapin_methods.specs.contracts.access.AccessMethodPartialEq.TheImpl as it
use Rattle.lapin_methods.specs.declared.access.AccessMethod.{AccessMethod}
use Rattle.lapin_methods.specs.declared.access.AccessMethod.TheVariants as access_
use Rattle.lapin_methods.proofs.Fields.{text_alike, both, through}

pub access_alike : (x y : AccessMethod) → Decides (it.ghosts.eq x y) (x ≡ y)
access_alike (access_.Request a0 a1 a2 a3 a4 a5) (access_.Request b0 b1 b2 b3 b4 b5) =
    through (both (text_alike a0 b0) (both (booleans_Decides a1 b1) (both (booleans_Decides a2 b2) (both (booleans_Decides a3 b3) (both (booleans_Decides a4 b4) (booleans_Decides a5 b5))))))
    (λ e i. access_.Request (e.0 i) (e.1.0 i) (e.1.1.0 i) (e.1.1.1.0 i) (e.1.1.1.1.0 i) (e.1.1.1.1.1 i))
    (λ e. (cc, (cc, (cc, (cc, (cc, cc))))))
access_alike access_.RequestOk access_.RequestOk = search rules
access_alike _ _ = (λ e. cc, λ e. cc)
