use Rattle.std.proofs.Common.{refl, ◌∙◌}
use Rattle.lapin_registry.proofs.Edits.{amended_there, amended_beside}
use Rattle.lapin_registry.proofs.Rising.{rises_set, rises_as_amended, name_stays, on_ok}
use Rattle.lapin_registry.proofs.by_name.ByName.amend.Goals as goal

-- it is there
pub invariant_of-self : goal.invariant_of-self
invariant_of-self g c =
    rises_set g.T.Named.name_of c.self.inside.things.items c.in-Ok.place c.index_mut.result.now c.edit.new.self c.self.invariant c.index_mut.ensures.value
    (name_stays g.T.Named.name_of c.edit.result c.index_mut.result.now c.edit.new.self (g.T.Named.edited c.args.edit c.index_mut.result.now) c.edit.ensures.ok c.edit.ensures.err
    (g.met.T.Named.edit_keeps c.args.edit c.index_mut.result.now))

pub returns-in-Ok-clause-ok : goal.returns-in-Ok-clause-ok
returns-in-Ok-clause-ok g c =
    on_ok c.edit.result
    (amended_there g.T.Named.name_of c.args.name (g.T.Named.undeclared_of c.args.name) (g.T.Named.edited c.args.edit) c.as_str.result.now c.deref.result.now c.self.inside.things.items
    c.args.self.now c.in-Ok.place c.index_mut.result.now c.edit.new.self c.self.invariant c.as_str.ensures.value c.deref.ensures.value c.self.view_is c.in-Ok.ensures.found c.index_mut.ensures.value)
    c.edit.ensures.ok

-- it is new
pub invariant_of-self-in-Err : goal.invariant_of-self-in-Err
invariant_of-self-in-Err g c =
    rises_as_amended g.T.Named.name_of c.args.name (g.T.Named.undeclared_of c.args.name) (g.T.Named.edited c.args.edit)
    (g.met.T.Named.edit_keeps c.args.edit (g.T.Named.undeclared_of c.args.name) ∙ g.met.T.Named.has_name c.args.name) (g.met.T.Named.edit_keeps c.args.edit) c.self.inside.things.items _ c.self.invariant
    (amended_beside g.T.Named.name_of c.args.name (g.T.Named.undeclared_of c.args.name) (g.T.Named.edited c.args.edit) c.as_str.result.now c.deref.result.now c.self.inside.things.items
    c.self.inside.things.items _ c.in-Err.place c.edit-in-Err.new.self _ c.as_str.ensures.value c.deref.ensures.value refl c.in-Err.ensures.absent c.in_ok-placed-in-Err.ensures
    c.in_ok-edit-in-Err.ensures.ok c.in_ok-insert-in-Err.ensures.items)

pub returns-in_ok-insert-in-Err-clause-ok : goal.returns-in_ok-insert-in-Err-clause-ok
returns-in_ok-insert-in-Err-clause-ok g c =
    amended_beside g.T.Named.name_of c.args.name (g.T.Named.undeclared_of c.args.name) (g.T.Named.edited c.args.edit) c.as_str.result.now c.deref.result.now c.self.inside.things.items
    c.args.self.now _ c.in-Err.place c.edit-in-Err.new.self _ c.as_str.ensures.value c.deref.ensures.value c.self.view_is c.in-Err.ensures.absent c.in_ok-placed-in-Err.ensures
    c.in_ok-edit-in-Err.ensures.ok c.in_ok-insert-in-Err.ensures.items
