use Rattle.std.proofs.Common.{rules, ap, ◌∙◌}
use Rattle.std.proofs.lemmas.Fn.{filter_same}
use Rattle.std.specs.List.{filter}
use Rattle.lapin_registry.specs.Topology.{isnt_binding}
use Rattle.lapin_registry.proofs.bindings.Bindings.remove.Goals as goal

pub returns : goal.returns
returns c =
    filter_same _ (isnt_binding c.args.source.now c.args.routing_key.now c.args.arguments.now) _ (λ x b f' k. search rules) _ _ c.retain.ensures.filtered
    ∙ ap (filter (isnt_binding c.args.source.now c.args.routing_key.now c.args.arguments.now)) c.self.view_is
