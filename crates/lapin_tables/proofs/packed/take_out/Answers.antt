use Rattle.std.proofs.Common.{◌≡◌, Some, None, sym, ◌∙◌, ap, refl}
use Rattle.lapin_tables.specs.Numbered.{under, with_under}
use Rattle.lapin_tables.specs.Packed.{packed_at, shown}
use Rattle.lapin_tables.proofs.Packing.{free, under-slot, under-block, packed-moved, shown-moved}
use Rattle.lapin_tables.proofs.packed.take_out.Goals as goal

pub returns-in-Some-clause-value : goal.returns-in-Some-clause-value
returns-in-Some-clause-value g c =
    let is : under c.args.number c.args.slots.now.slots ≡ Some c.in-Some.value = sym c.take.ensures.value ∙ c.in-Some.is in
    sym (under-slot g.T.Marked.told_by c.args.number c.in-Some.value c.args.blocks.now.slots c.args.slots.now.slots c.requires is)

pub returns-in-Some-clause-gone : goal.returns-in-Some-clause-gone
returns-in-Some-clause-gone g c =
    let told = g.T.Marked.told_by in
    let n = c.args.number in
    let bs = c.args.blocks.now.slots in
    let xs = c.args.slots.now.slots in
    let is : under n xs ≡ Some c.in-Some.value = sym c.take.ensures.value ∙ c.in-Some.is in
    ap (shown (packed_at told bs) 0) c.take.ensures.slots
    ∙ shown-moved told n bs bs xs (λ j other. refl)
    ∙ ap (λ o. with_under n o (shown (packed_at told bs) 0 xs)) (free told n c.in-Some.value bs xs c.requires is)

pub returns-in-Some-clause-packed : goal.returns-in-Some-clause-packed
returns-in-Some-clause-packed g c = rw c.take.ensures.slots (packed-moved g.T.Marked.told_by c.args.number c.args.blocks.now.slots c.args.blocks.now.slots c.args.slots.now.slots (λ j other. refl) refl c.requires)

pub returns-in-None-clause-value : goal.returns-in-None-clause-value
returns-in-None-clause-value g c =
    let none : under c.args.number c.args.slots.now.slots ≡ None = sym c.take.ensures.value ∙ c.in-None.is in
    c.unpack.ensures.value ∙ sym (under-block g.T.Marked.told_by c.args.number c.args.blocks.now.slots c.args.slots.now.slots c.requires none)

pub returns-in-None-clause-gone : goal.returns-in-None-clause-gone
returns-in-None-clause-gone g c =
    let told = g.T.Marked.told_by in
    let n = c.args.number in
    let bs = c.args.blocks.now.slots in
    let cs = c.unpack.new.blocks.slots in
    let xs = c.args.slots.now.slots in
    ap (shown (packed_at told cs) 0) c.take.ensures.slots
    ∙ shown-moved told n bs cs xs c.unpack.ensures.others
    ∙ ap (λ o. with_under n o (shown (packed_at told bs) 0 xs)) c.unpack.ensures.gone

pub returns-in-None-clause-packed : goal.returns-in-None-clause-packed
returns-in-None-clause-packed g c = rw c.take.ensures.slots (packed-moved g.T.Marked.told_by c.args.number c.args.blocks.now.slots c.unpack.new.blocks.slots c.args.slots.now.slots c.unpack.ensures.others c.unpack.ensures.count c.requires)
