use Rattle.std.proofs.Common.{◌≡◌, ◌<◌, ◌+◌, ◌-◌, ◌/◌, Some, sym, ◌∙◌, ap, arith}
use Rattle.lapin_tables.specs.Numbered.{under, with_under}
use Rattle.lapin_tables.specs.Packed.{mark_in, packed_at, marked}
use Rattle.lapin_tables.proofs.Blocks.{index_of, place_at, put-here, put-other, some-mark}
use Rattle.lapin_tables.proofs.packed.pack.Goals as goal

pub returns-clause-packed : goal.returns-clause-packed
returns-clause-packed g c = λ _.
    let told = g.T.Marked.told_by in
    let n = c.args.number in
    let b = c.in-Some.block.now in
    let d = c.put.new.self in
    let bs = c.args.blocks.now.slots in
    let first : 0 < n = omega arith in
    let some : 0 < c.mark-mark.result = omega arith in
    let next : (n - 1) / 64 + 1 ≡ index_of n = omega arith in
    let is : under (index_of n) bs ≡ Some b = ap (λ k. under k bs) (sym next) ∙ sym c.in-Some.ensures.value in
    ap (λ k. packed_at told (with_under k (Some d) bs) n) next
    ∙ put-here told n b d bs first is
    ∙ ap (λ a. marked told a (mark_in (place_at n) d)) c.put.ensures.alike
    ∙ ap (marked told b.alike) c.put.ensures.here
    ∙ some-mark told b.alike c.mark-mark.result some
    ∙ c.mark-mark.ensures.told some

pub returns-clause-others : goal.returns-clause-others
returns-clause-others g c = λ j other.
    let told = g.T.Marked.told_by in
    let n = c.args.number in
    let b = c.in-Some.block.now in
    let d = c.put.new.self in
    let bs = c.args.blocks.now.slots in
    let first : 0 < n = omega arith in
    let next : (n - 1) / 64 + 1 ≡ index_of n = omega arith in
    let is : under (index_of n) bs ≡ Some b = ap (λ k. under k bs) (sym next) ∙ sym c.in-Some.ensures.value in
    ap (λ k. packed_at told (with_under k (Some d) bs) j) next
    ∙ put-other told n b d bs first is c.put.ensures.alike c.put.ensures.others j other
