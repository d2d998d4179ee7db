use Rattle.std.proofs.Common.{rules}
use Rattle.std.proofs.lemmas.Fn.{always_returns_same}
use Rattle.lapin_registry.specs.ByName.{name_cmp}
use Rattle.lapin_registry.proofs.Names.{searched}
use Rattle.lapin_registry.proofs.by_name.place_of.Goals as goal

pub returns-clause-found : goal.returns-clause-found
returns-clause-found g c =
    (searched g.T.Named.name_of c.args.name.now c.args.things.now c.requires c.binary_search_by.result c.binary_search_by.ensures.bound
    (c.binary_search_by.ensures.position (λ x. name_cmp (g.T.Named.name_of x) c.args.name.now) (always_returns_same _ _ _ (λ a r f' called. search rules)))).found

pub returns-clause-absent : goal.returns-clause-absent
returns-clause-absent g c =
    (searched g.T.Named.name_of c.args.name.now c.args.things.now c.requires c.binary_search_by.result c.binary_search_by.ensures.bound
    (c.binary_search_by.ensures.position (λ x. name_cmp (g.T.Named.name_of x) c.args.name.now) (always_returns_same _ _ _ (λ a r f' called. search rules)))).absent
