use Rattle.std.proofs.Common.{◌≡◌, None, refl, sym, ◌∙◌, ap}
use Rattle.lapin_tables.specs.Numbered.{under, with_under}
use Rattle.lapin_tables.specs.Packed.{packed_at, or_slot, shown}
use Rattle.lapin_tables.proofs.Blocks.{behind}
use Rattle.lapin_tables.proofs.Packing.{under-both, packed-moved, shown-moved}
use Rattle.lapin_tables.proofs.packed.Packed.take.Goals as goal

pub invariant_of-self : goal.invariant_of-self
invariant_of-self g c =
    rw c.take.ensures.slots
    (packed-moved g.T.Marked.told_by c.args.number c.self.inside.blocks.slots c.self.inside.blocks.slots c.self.inside.slots.slots (λ j other. refl) refl c.self.invariant)

pub returns-then-is_new-clause-value : goal.returns-then-is_new-clause-value
returns-then-is_new-clause-value g c =
    let told = g.T.Marked.told_by in
    let n = c.args.number in
    let bs = c.self.inside.blocks.slots in
    let xs = c.self.inside.slots.slots in
    let none : packed_at told bs n ≡ None = behind told n bs (c.is_new.ensures c.if-is_new.true) in
    rw (← c.self.view_is) (c.take.ensures.value ∙ sym (under-both told n bs xs c.self.invariant ∙ ap (λ o. or_slot o (under n xs)) none))

pub returns-then-is_new-clause-slots : goal.returns-then-is_new-clause-slots
returns-then-is_new-clause-slots g c =
    let told = g.T.Marked.told_by in
    let n = c.args.number in
    let bs = c.self.inside.blocks.slots in
    let xs = c.self.inside.slots.slots in
    let none : packed_at told bs n ≡ None = behind told n bs (c.is_new.ensures c.if-is_new.true) in
    rw (← c.self.view_is)
    (ap (shown (packed_at told bs) 0) c.take.ensures.slots
    ∙ shown-moved told n bs bs xs (λ j other. refl)
    ∙ ap (λ o. with_under n o (shown (packed_at told bs) 0 xs)) none)
