use Rattle.std.proofs.Common.{refl}
use Rattle.lapin_machine.proofs.Keeping.{kept_by}
use Rattle.lapin_machine.proofs.Asides.{aside_kept, aside_numbers}
use Rattle.lapin_machine.proofs.session.Session.set_aside.Goals as goal

pub invariant_of-self : goal.invariant_of-self
invariant_of-self c =
    kept_by _ _ _ _ _ _ _ _ refl refl refl refl
    (aside_kept c.set_aside.result c.args.number c.self.inside.link c.self.inside.phases.entries c.self.inside.outstanding.outbox.what.lists.publishes c.self.inside.confirms.what c.set_aside.new.self.what c.set_aside.ensures.ok c.set_aside.ensures.err c.self.invariant.tied)
    c.self.invariant.unpoisoned

pub returns-clause-numbers : goal.returns-clause-numbers
returns-clause-numbers c = aside_numbers c.set_aside.result c.args.number c.self.inside.confirms.what c.set_aside.ensures.answer
