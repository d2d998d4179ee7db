use Rattle.std.proofs.Common.{◌<◌, sym, arith, length, Some}
use Rattle.lapin_tables.proofs.Slots.{within-kept, with-kept, with-set, rises-on, ends-on}
use Rattle.lapin_tables.proofs.numbered.Numbered.set.Goals as goal

pub index_mut-requires : goal.index_mut-requires
index_mut-requires g c =
    let within : c.in-Some.place < length c.self.inside.slots.items = within-kept _ _ _ _ _ c.in-Some.ensures (rw (← c.self.view_is) at c.requires) in
    omega arith

pub returns-clause-slots : goal.returns-clause-slots
returns-clause-slots g c = rw (← c.self.view_is) (sym (with-kept _ _ _ (Some c.args.value) _ _ c.in-Some.ensures))

pub returns-in_default-clause-slots : goal.returns-in_default-clause-slots
returns-in_default-clause-slots g c = rw (← c.self.view_is, c.set_behind.ensures) (sym (with-set _ _ c.args.value _ _ c.in_default.ensures c.self.invariant.2 (rw (← c.self.view_is) at c.requires)))

pub invariant_of-self : goal.invariant_of-self
invariant_of-self g c = rw c.set_behind.ensures (c.self.invariant.0, c.self.invariant.1, rises-on 0 _ _ _ c.self.invariant.2, ends-on _ _ _ _ c.self.invariant.3)
