use Rattle.std.proofs.Common.{◌≡◌, ℕ, suc, ◌+◌, ◌<◌, ◌-◌, ◌/◌, ◌%◌, length, Some, sym, subst, arith}
use Rattle.std.proofs.lemmas.Option.{IfSome_then}
use Rattle.lapin_tables.specs.Numbered.{under}
use Rattle.lapin_ticket.proofs.packed.mark_for.Goals as goal

pub returns : goal.returns
returns c =
    let short : (c.args.number - 1) % 64 < length c.in-Some.block.now.marks = omega (arith, c.has_all_places.ensures) in
    let next : (c.args.number - 1) / 64 + 1 ≡ suc ((c.args.number - 1) / 64) = omega arith in
    let P : ℕ → Type 0 = λ k. under k c.args.blocks.now.slots ≡ Some c.in-Some.block.now in
    IfSome_then c.mark.result c.mark.ensures (λ m reads. (c.in-Some.block.now, (subst P next (sym c.in-Some.ensures.value), (short, reads))))
