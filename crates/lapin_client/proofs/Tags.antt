-- The tag of a consumer.
use Rattle.std.proofs.Common.{◌≡◌, ℕ, List, [], Option, Some, None, refl, sym, ap}
use Rattle.lapin_client.proofs.Lists.{or_empty}
use Rattle.std.specs.Option.{option_map}
use Rattle.lapin_client.specs.Answers.{tag_or_none}
use Rattle.lapin_consumer.specs.Subscriptions.{Consumer}

pub tag_there : (t : List ℕ) (o : Option Consumer) → Some t ≡ option_map (λ (x : Consumer). x.tag) o → tag_or_none o ≡ t
tag_there t (Some x) is = sym (ap or_empty is)
tag_there t None is = absurd cc

pub no_tag : (o : Option Consumer) → None ≡ option_map (λ (x : Consumer). x.tag) o → tag_or_none o ≡ []
no_tag None is = refl
no_tag (Some x) is = absurd cc
