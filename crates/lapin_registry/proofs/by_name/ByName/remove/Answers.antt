use Rattle.std.proofs.Common.{refl, sym, subst, ◌∙◌, ◌≡◌, true}
use Rattle.lapin_registry.specs.ByName.{rises}
use Rattle.lapin_registry.proofs.Edits.{without_there, without_nowhere}
use Rattle.lapin_registry.proofs.Rising.{rises_without}
use Rattle.lapin_registry.proofs.by_name.ByName.remove.Goals as goal

pub invariant_of-self : goal.invariant_of-self
invariant_of-self g c =
    subst (λ l. rises g.T.Named.name_of l ≡ true)
    (sym (c.remove.ensures.items
    ∙ without_there g.T.Named.name_of c.args.name.now c.deref.result.now c.self.inside.things.items c.self.inside.things.items c.in-Ok.place c.self.invariant c.deref.ensures.value refl c.in-Ok.ensures.found))
    (rises_without g.T.Named.name_of c.args.name.now c.self.inside.things.items c.self.invariant)

pub returns-in-Ok : goal.returns-in-Ok
returns-in-Ok g c =
    c.remove.ensures.items
    ∙ without_there g.T.Named.name_of c.args.name.now c.deref.result.now c.self.inside.things.items c.args.self.now c.in-Ok.place c.self.invariant c.deref.ensures.value c.self.view_is c.in-Ok.ensures.found

pub returns-in_default : goal.returns-in_default
returns-in_default g c =
    without_nowhere g.T.Named.name_of c.args.name.now c.deref.result.now c.self.inside.things.items c.args.self.now c.in_default.field-0 c.deref.ensures.value c.self.view_is c.in_default.ensures.absent
