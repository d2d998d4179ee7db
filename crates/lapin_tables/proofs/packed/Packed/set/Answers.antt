use Rattle.std.proofs.Common.{◌≡◌, ◌*◌, ◌<◌, ℕ, List, Option, Some, None, length, refl, sym, ◌∙◌, ap, subst}
use Rattle.std.specs.Option.{IsSome}
use Rattle.lapin_tables.specs.declared.block.Block.{Block}
use Rattle.lapin_tables.specs.Numbered.{under, with_under}
use Rattle.lapin_tables.specs.Packed.{packed_at, or_slot, shown, IsPacked}
use Rattle.lapin_tables.proofs.Blocks.{behind}
use Rattle.lapin_tables.proofs.Packing.{under-both, packed-set, shown-set}
use Rattle.lapin_tables.proofs.packed.Packed.set.Goals as goal

value-there : {T : Type 0} (o : Option T) → IsSome o → (x : T) × (o ≡ Some x)
value-there None h = cc
value-there (Some x) h = (x, refl)

-- what is there behind all blocks has a slot of its own
own : {T : Type 0} (told : ℕ → ℕ → Option T) (n : ℕ) (bs : List (Option Block)) (xs : List (Option T)) → IsPacked told bs xs → 64 * length bs < n → IsSome (under n (shown (packed_at told bs) 0 xs)) → IsSome (under n xs)
own told n bs xs h past there = subst (λ o. IsSome o) (under-both told n bs xs h ∙ ap (λ o. or_slot o (under n xs)) (behind told n bs past)) there

pub set-requires : goal.set-requires
set-requires g c = own g.T.Marked.told_by c.args.number c.self.inside.blocks.slots c.self.inside.slots.slots c.self.invariant (c.is_new.ensures c.if-is_new.true) (rw (← c.self.view_is) at c.requires.there)

pub invariant_of-self : goal.invariant_of-self
invariant_of-self g c =
    let xs = c.self.inside.slots.slots in
    let bs = c.self.inside.blocks.slots in
    let n = c.args.number in
    let there = value-there (under n xs) (own g.T.Marked.told_by n bs xs c.self.invariant (c.is_new.ensures c.if-is_new.true) (rw (← c.self.view_is) at c.requires.there)) in
    rw c.set.ensures.slots (packed-set g.T.Marked.told_by n there.0 c.args.value bs xs c.self.invariant there.1)

pub returns-then-is_new-clause-slots : goal.returns-then-is_new-clause-slots
returns-then-is_new-clause-slots g c =
    let told = g.T.Marked.told_by in
    let xs = c.self.inside.slots.slots in
    let bs = c.self.inside.blocks.slots in
    let n = c.args.number in
    let there = value-there (under n xs) (own told n bs xs c.self.invariant (c.is_new.ensures c.if-is_new.true) (rw (← c.self.view_is) at c.requires.there)) in
    rw (← c.self.view_is)
    (ap (shown (packed_at told bs) 0) c.set.ensures.slots
    ∙ shown-set told n there.0 c.args.value bs xs c.self.invariant there.1)
