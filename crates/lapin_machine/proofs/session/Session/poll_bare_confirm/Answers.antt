use Rattle.std.proofs.Common.{refl}
use Rattle.lapin_machine.proofs.Keeping.{tied_bare, kept_by}
use Rattle.lapin_machine.proofs.session.Session.poll_bare_confirm.Goals as goal

pub invariant_of-self : goal.invariant_of-self
invariant_of-self c =
    let bare = c.take_bare.ensures in
    kept_by _ _ _ _ _ _ _ _ refl refl refl refl (tied_bare c.args.number c.take_bare.result _ _ _ c.self.inside.confirms.what c.take_bare.new.self.what bare.some bare.taken bare.none c.self.invariant.tied) c.self.invariant.unpoisoned
