use Rattle.std.proofs.Common.{ap, ◌∙◌}
use Rattle.lapin_registry.proofs.Edits.{changed_there, changed_nowhere}
use Rattle.lapin_registry.proofs.Rising.{rises_set}
use Rattle.lapin_registry.proofs.by_name.ByName.unbind.Goals as goal

pub invariant_of-self : goal.invariant_of-self
invariant_of-self g c = rises_set g.T.Named.name_of c.self.inside.things.items c.in-Ok.place c.index_mut.result.now c.unbind.new.self c.self.invariant c.index_mut.ensures.value
    (ap g.T.Named.name_of c.unbind.ensures ∙ g.met.T.Named.unbind_keeps c.args.source.now c.args.routing_key.now c.args.arguments.now c.index_mut.result.now)

pub returns-in-Ok : goal.returns-in-Ok
returns-in-Ok g c =
    changed_there g.T.Named.name_of c.args.name.now (g.T.Named.unbound c.args.source.now c.args.routing_key.now c.args.arguments.now) c.deref.result.now c.self.inside.things.items c.args.self.now c.in-Ok.place
    c.index_mut.result.now c.unbind.new.self c.self.invariant c.deref.ensures.value c.self.view_is c.in-Ok.ensures.found c.index_mut.ensures.value c.unbind.ensures

pub returns-in_default : goal.returns-in_default
returns-in_default g c =
    changed_nowhere g.T.Named.name_of c.args.name.now (g.T.Named.unbound c.args.source.now c.args.routing_key.now c.args.arguments.now) c.deref.result.now c.self.inside.things.items c.args.self.now c.in_default.field-0
    c.deref.ensures.value c.self.view_is c.in_default.ensures.absent
