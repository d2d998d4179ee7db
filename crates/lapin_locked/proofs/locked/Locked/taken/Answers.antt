use Rattle.std.proofs.Common.{◌≡◌, [], refl, ◌∙◌, ap, arith}
use Rattle.lapin_locked.proofs.locked.Locked.taken.Goals as goal

pub invariant_of-self : goal.invariant_of-self
invariant_of-self g c =
    let empty : c.replace.new.dest.items ≡ [] = ap (λ v. v.items) c.replace.ensures.after ∙ c.new.ensures.items in
    rw empty (record {
      lawful = refl;
      stands = rw (← c.self.view_is) at c.requires.stands;
      counted = omega (arith, c.sub.ensures.total, c.audit.ensures.total, c.self.invariant.counted, c.len-count.ensures);
      steady = rw c.requires.session refl;
    })
