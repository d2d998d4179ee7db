use Rattle.std.proofs.Common.{refl, sym}
use Rattle.lapin_locked.proofs.locked.Locked.new.Goals as goal

pub invariant_of-result : goal.invariant_of-result
invariant_of-result g c = rw c.new-2.ensures.items (record {
  lawful = refl;
  stands = c.in_ok-new.ensures.stands;
  counted = sym c.requires.none;
  steady = rw c.in_ok-new.ensures.value refl;
})
