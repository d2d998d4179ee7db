use Rattle.std.proofs.Common.{◌≡◌, subst}
use Rattle.std.specs.Bool.{Decides}
use Rattle.lapin_values.specs.Properties.{Properties, no_properties, properties_code}
use Rattle.lapin_values.specs.Same.{same_by-is}
use Rattle.lapin_client.proofs.parcel.is_bare.Goals as goal

pub returns : goal.returns
returns c =
    same_by-is properties_code c.args.properties.now no_properties c.same.result (subst (λ (q : Properties). Decides c.same.result (c.args.properties.now ≡ q)) c.default.ensures c.same.ensures)
