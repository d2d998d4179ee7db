use Rattle.std.proofs.Common.{◌≡◌, Bool, Option, Some, None, true, false, refl, sym, ◌∙◌, ap, subst}
use Rattle.std.specs.Option.{is_some, IsSome, option_copied}
use Rattle.lapin_tables.specs.Numbered.{under, with_under}
use Rattle.lapin_tables.specs.Packed.{packed_at, shown, Replaces}
use Rattle.lapin_tables.proofs.Packing.{under-block, packed-moved, shown-moved, shown-emptied, shown-set}
use Rattle.lapin_tables.proofs.packed.Packed.set_old.Goals as goal

none-there : {T : Type 0} (o : Option T) → is_some o ≡ false → o ≡ None
none-there None h = refl
none-there (Some x) h = cc

some-there : {T : Type 0} (o : Option T) → is_some o ≡ true → (x : T) × (o ≡ Some x)
some-there None h = cc
some-there (Some x) h = (x, refl)

must : {T : Type 0} (r : Bool) (o : Option T) → IsSome o → (r ≡ false → o ≡ None) → r ≡ true
must true o there gone = refl
must {T} false o there gone = let none : IsSome {T = T} None = subst (λ p. IsSome p) (gone refl) there in cc

pub returns-then-is_none-clause-slots : goal.returns-then-is_none-clause-slots
returns-then-is_none-clause-slots g c =
    let told = g.T.Marked.told_by in
    let n = c.args.number in
    let xs = c.self.inside.slots.slots in
    let bs = c.self.inside.blocks.slots in
    let none : under n xs ≡ None = sym c.get.ensures.value ∙ ap option_copied (none-there c.get.result c.if-is_none.ensures) in
    let seen : under n (shown (packed_at told bs) 0 xs) ≡ packed_at told bs n = under-block told n bs xs c.self.invariant none in
    let there : IsSome (packed_at told bs n) = subst (λ o. IsSome o) seen (rw (← c.self.view_is) at c.requires.there) in
    let may : Replaces told g.T.Marked.mark_of c.args.value (packed_at told bs n) = subst (λ o. Replaces told g.T.Marked.mark_of c.args.value o) seen (rw (← c.self.view_is) at c.requires.replaces) in
    let done : c.pack-packed.result ≡ true = must c.pack-packed.result (packed_at told bs n) there (λ left. c.pack-packed.ensures.replaces left may) in
    rw (← c.self.view_is)
    (shown-emptied told n bs c.pack-packed.new.blocks.slots xs c.pack-packed.ensures.others none
    ∙ ap (λ o. with_under n o (shown (packed_at told bs) 0 xs)) (c.pack-packed.ensures.packed done))

pub invariant_of-self-then-packed : goal.invariant_of-self-then-packed
invariant_of-self-then-packed g c =
    rw c.take.ensures.slots
    (packed-moved g.T.Marked.told_by c.args.number c.self.inside.blocks.slots c.pack-packed.new.blocks.slots c.self.inside.slots.slots c.pack-packed.ensures.others c.pack-packed.ensures.count c.self.invariant)

pub returns-then-packed-clause-slots : goal.returns-then-packed-clause-slots
returns-then-packed-clause-slots g c =
    let all = shown (packed_at g.T.Marked.told_by c.self.inside.blocks.slots) 0 c.self.inside.slots.slots in
    rw (← c.self.view_is)
    (ap (shown (packed_at g.T.Marked.told_by c.pack-packed.new.blocks.slots) 0) c.take.ensures.slots
    ∙ shown-moved g.T.Marked.told_by c.args.number c.self.inside.blocks.slots c.pack-packed.new.blocks.slots c.self.inside.slots.slots c.pack-packed.ensures.others
    ∙ ap (λ o. with_under c.args.number o all) (c.pack-packed.ensures.packed c.if-packed.true))

pub returns-else-packed-clause-slots : goal.returns-else-packed-clause-slots
returns-else-packed-clause-slots g c =
    let told = g.T.Marked.told_by in
    let n = c.args.number in
    let xs = c.self.inside.slots.slots in
    let bs = c.self.inside.blocks.slots in
    let found = some-there c.get.result c.if-is_none.ensures in
    let is : under n xs ≡ Some found.0.now = sym c.get.ensures.value ∙ ap option_copied found.1 in
    rw (← c.self.view_is)
    (ap (λ cs. shown (packed_at told cs) 0 c.set.new.self.slots) (c.pack-packed.ensures.same c.if-packed.false)
    ∙ ap (shown (packed_at told bs) 0) c.set.ensures.slots
    ∙ shown-set told n found.0.now c.args.value bs xs c.self.invariant is)
