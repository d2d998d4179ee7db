use Rattle.std.proofs.Common.{arith}
use Rattle.lapin_tables.proofs.Slots.{length_shown, kept-push}
use Rattle.lapin_tables.proofs.numbered.Numbered.push_reserved.Goals as goal

pub invariant_of-self : goal.invariant_of-self
invariant_of-self g c =
    let fits = rw (← c.self.view_is, length_shown) at c.requires.numbers in
    (omega (arith, c.push_back_reserved.ensures.len, fits), rw c.push_back_reserved.ensures.items (kept-push _ _ c.self.invariant.1), c.self.invariant.2, c.self.invariant.3)
